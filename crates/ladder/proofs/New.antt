-- What the call that makes a ladder answers, way by way.
use Prim.Native.Nat.{ℕ}
use mathlib.Core.Path.{◌≡◌, refl}
use mathlib.Core.Bool.{true, false}
use mathlib.Core.List.{List}
use native.Mathlib.Omega.{arith}
use lib.ListN.{length}
use borrow.Author.Tests.{eq-eqb, ne_eqb}
use Rattle.orders.specs.Order.{security_in_range}
use Rattle.book.specs.Sound.{sound}
use Rattle.book.specs.Lookup.{orders_for}
use Rattle.ladder.specs.Ladder.{ladder_bytes, made_of, ladder_call}
use Rattle.ladder.specs.Rows.{rows_of}
use Rattle.ladder.specs.Depth.{Tells}
use Rattle.ladder.proofs.Told.{book_told}

module _ (j : ℕ) (s l : List ℕ) where
  -- what its caller gets
  abbrev pub Answers : ℕ → List ℕ → Type 0
  Answers r m = (r ≡ (ladder_call j s l).refusal) × ((m ≡ (ladder_call j s l).ladder) × (r ≡ 0 → Tells (orders_for j s) m (rows_of (orders_for j s))))

  -- refusal 1, no such security
  pub new_range : security_in_range j ≡ false → Answers 1 l
  unfolding ladder_call
  new_range h = rw h (refl, (refl, λ z. absurd (omega arith)))

  module _ (h : security_in_range j ≡ true) where
    -- refusal 2, an unsound book
    pub new_unsound : sound s ≡ false → {r : ℕ} → r ≡ 2 → Answers r l
    unfolding ladder_call
    new_unsound f e = rw (h, e, f) (refl, (refl, λ z. absurd (omega arith)))

    module _ (f : sound s ≡ true) where
      -- refusal 9, another length
      pub new_length : (length l ≡ ladder_bytes → ⊥) → Answers 9 l
      unfolding ladder_call
      new_length n = rw (h, f, ne_eqb (length l) ladder_bytes n) (refl, (refl, λ z. absurd (omega arith)))

      -- the ladder made
      pub new_made : length l ≡ ladder_bytes → {m : List ℕ} → m ≡ made_of j s → Answers 0 m
      unfolding ladder_call
      new_made n e = rw (h, f, eq-eqb (length l) ladder_bytes n) (refl, (e, λ z. rw e (book_told j s f)))
