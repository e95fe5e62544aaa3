-- What a take answers, way by way: each refusal, and an accepted one.
use Prim.Native.Nat.{ℕ, ◌*◌, ◌≤◌, ◌<◌}
use mathlib.Core.Path.{◌≡◌, sym, ap, ◌∙◌}
use mathlib.Core.Bool.{true, false}
use mathlib.Core.List.{List}
use native.Mathlib.Omega.{arith}
use lib.ListN.{length}
use lib.Dec.{eqb}
use borrow.Author.Tests.{ne_eqb, lt-ltb, le-ltb}
use Rattle.book.specs.Sound.{sound, orders_of, book_of, capacity_of}
use Rattle.matching.specs.declared.Taken.{Taken}
use Rattle.matching.specs.declared.TakeRequest.{TakeRequest}
use Rattle.matching.specs.Take.{Outcome}
use Rattle.matching.specs.TakeCall.{request_in_range, outcome_of, written, take_call}
use Rattle.matching.proofs.Taking.{take_sound}
use Rattle.take.specs.Answers.{Answers}
use Rattle.matching.proofs.TakeFair.{take_fair}

module _ (q : TakeRequest) (s x : List ℕ) where
  answers : (r : Taken) (b y : List ℕ) → r ≡ (take_call q s x).taken → b ≡ (take_call q s x).book → y ≡ (take_call q s x).executions → Answers q s x r b y
  answers r b y e f g = (e, (f, (g, (rw (e, f, g) (take_fair q s x), λ z. rw f (take_sound q s x (sym (ap (λ t. t.refusal) e) ∙ z))))))

  abbrev out : Outcome
  out = outcome_of q (orders_of s)

  -- a refused take gives its number alone, and changes no byte
  refused : (r : ℕ) → (r ≡ 0 → ⊥) → (take_call q s x).taken.refusal ≡ r → Answers q s x (record { refusal = r; count = 0; left = 0 }) s x
  unfolding take_call
  refused r h e =
      let n : eqb (take_call q s x).taken.refusal 0 ≡ false = ne_eqb (take_call q s x).taken.refusal 0 (λ z. h (sym e ∙ z)) in
      answers _ s x (rw n (ap (λ k. record { refusal = k; count = 0; left = 0 }) (sym e))) (rw n) (rw n)

  -- refusal 1, a number out of its range
  pub refused_range : request_in_range q ≡ false → Answers q s x (record { refusal = 1; count = 0; left = 0 }) s x
  unfolding take_call
  refused_range e = refused 1 (λ z. absurd (omega arith)) (rw e)

  module _ (e : request_in_range q ≡ true) where
    -- refusal 2, an unsound book
    pub refused_book : {r : ℕ} → r ≡ 2 → sound s ≡ false → Answers q s x (record { refusal = r; count = 0; left = 0 }) s x
    unfolding take_call
    refused_book d f = rw d (refused 2 (λ z. absurd (omega arith)) (rw (e, f)))

    module _ (f : sound s ≡ true) where
      -- refusal 8, too little room for the executions
      pub refused_room : length x < 16 * length out.executions → Answers q s x (record { refusal = 8; count = 0; left = 0 }) s x
      unfolding take_call
      refused_room h = refused 8 (λ z. absurd (omega arith)) (rw (e, f, lt-ltb (length x) (16 * length out.executions) h))

      -- an accepted take
      pub accepted : {count left : ℕ} {b y : List ℕ} → count ≡ length out.executions → left ≡ out.left
          → b ≡ book_of (capacity_of s) out.orders → y ≡ written out.executions x → 16 * count ≤ length x
          → Answers q s x (record { refusal = 0; count = count; left = left }) b y
      unfolding take_call
      accepted c l i j h =
          let n = le-ltb (length x) (16 * length out.executions) (omega arith) in
          answers _ _ _ (rw (e, f, n, c, l)) (rw (e, f, n) i) (rw (e, f, n) j)
