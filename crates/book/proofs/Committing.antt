-- What a call that is decided first comes to: it is refused, writes one record, or takes one out; and what its caller gets.
use Prim.Native.Nat.{ℕ, ◌+◌, ◌≤◌}
use mathlib.Core.Path.{◌≡◌, refl, sym, ◌∙◌}
use mathlib.Core.Bool.{Bool, true, false, not}
use mathlib.Core.List.{List, [], ◌∷◌}
use native.Mathlib.Omega.{arith}
use lib.ListN.{length}
use Rattle.orders.specs.declared.order.Order.{Order}
use Rattle.record.specs.Codec.{replaced}
use Rattle.record.specs.Record.{encode_order}
use Rattle.record.proofs.Numbers.{AreBytes}
use Rattle.book.specs.declared.refusal as reason
use Rattle.book.specs.declared.refusal.Refusal.TheVariants.{OutOfRange, UnsoundBook, UnknownNumber, StaleNumber, CouldTrade, BookFull, TooManyShares, SmallBuffer, LadderLength, OtherLadder, NoOldForm, UnfitTarget}
use Rattle.book.specs.Answer.{number_of}
use Rattle.book.specs.Sound.{form, sound}
use Rattle.book.specs.Change.{without_record}
use Rattle.book.specs.Refusal.{Refusal, refuse, refusal_of, Changed, changed_unless}
use Rattle.book.proofs.Refusing.{book_refused}

module _ (call : Changed) (s : List ℕ) where
  -- it is refused with this number
  pub record Refuses (r : ℕ) : Type 0 where
    pub refusal : r ≡ call.refusal
    pub book : s ≡ call.book
    pub refused : r ≡ 0 → ⊥

  -- it is accepted, and the order's record goes to this place
  pub record Writes (at : ℕ) (o : Order) : Type 0 where
    pub refusal : call.refusal ≡ 0
    pub inside : at + 40 ≤ length s
    pub book : AreBytes s → replaced at (encode_order form o) s ≡ call.book

  -- it is accepted, and the record at this place leaves
  pub record Removes (at : ℕ) : Type 0 where
    pub refusal : call.refusal ≡ 0
    pub inside : at + 40 ≤ length s
    pub book : AreBytes s → without_record at s ≡ call.book

-- a refused call changes no byte
pub refuses : (r : ℕ) (before after : List ℕ) → (r ≡ 0 → ⊥) → Refuses (changed_unless r before after) before r
refuses r before after h = record { refusal = refl; book = sym (book_refused r before after h); refused = h }

-- The refusals that come before all others, of a call whose numbers are in range where this test says so.
module _ (in_range : Bool) (of_book : List Refusal) (s after : List ℕ) where
  abbrev call : Changed
  call = changed_unless (refusal_of (record { of_call = refuse 1 (not in_range) ∷ []; of_book = of_book }) (sound s)) s after

  -- refusal 1, a number out of its range
  pub refuses_range : in_range ≡ false → Refuses call s 1
  refuses_range e = rw e (refuses 1 s after (λ z. omega arith))

  -- refusal 2, a book that isn't sound
  pub refuses_book : in_range ≡ true → sound s ≡ false → Refuses call s 2
  refuses_book e b = rw (e, b) (refuses 2 s after (λ z. omega arith))

-- every refusal has a number above 0
pub above : (r : reason.Refusal.Refusal) → number_of r ≡ 0 → ⊥
above OutOfRange e = omega arith
above UnsoundBook e = omega arith
above UnknownNumber e = omega arith
above StaleNumber e = omega arith
above CouldTrade e = omega arith
above BookFull e = omega arith
above TooManyShares e = omega arith
above SmallBuffer e = omega arith
above LadderLength e = omega arith
above OtherLadder e = omega arith
above NoOldForm e = omega arith
above UnfitTarget e = omega arith

-- Where an accepted call leaves a sound book.
module _ (call : Changed) (s : List ℕ) (keeps : call.refusal ≡ 0 → sound call.book ≡ true) where
  -- what a caller gets: the refusal, the bytes, and a sound book where nothing is refused
  abbrev pub Answers : ℕ → List ℕ → Type 0
  Answers r x = (r ≡ call.refusal) × ((x ≡ call.book) × (r ≡ 0 → sound x ≡ true))

  accepted_answer : (x : List ℕ) → call.refusal ≡ 0 → x ≡ call.book → Answers 0 x
  accepted_answer x e b = (sym e, (b, λ z. rw b (keeps e)))

  -- a refusal answers so, with the bytes as they were
  pub refusal_answer : (r : ℕ) → Refuses call s r → Answers r s
  refusal_answer r f = (f.refusal, (f.book, λ z. absurd (f.refused z)))

  module _ (b : AreBytes s) (x : List ℕ) (at : ℕ) where
    -- so does a record that is written
    pub written_answer : (o : Order) → Writes call s at o → x ≡ replaced at (encode_order form o) s → Answers 0 x
    written_answer o w e = accepted_answer x w.refusal (e ∙ w.book b)

    -- and one that is taken out
    pub removed_answer : Removes call s at → x ≡ without_record at s → Answers 0 x
    removed_answer w e = accepted_answer x w.refusal (e ∙ w.book b)
