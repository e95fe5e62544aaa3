-- The records of one security in a book that two share, and what it means that calls for one security keep to it.
use Rattle.std.specs.Prelude.{ℕ, ◌≡◌, Bool, true, List, ◌⊎◌, get_or, eqb}
use Rattle.units.specs.Lists.{filter}
use Rattle.record.proofs.Numbers.{AreBytes}
use Rattle.book.specs.Sound.{form, sound, occupied, records_in}

-- byte 21 of a record is its security
abbrev pub is_record_of : ℕ → List ℕ → Bool
is_record_of k r = eqb (get_or r 21 0) k

-- the records of a security, read in the order of the book
abbrev pub records_for : ℕ → List ℕ → List (List ℕ)
records_for k s = filter (is_record_of k) (occupied (records_in form s))

-- What a call gives: its refusal, the other numbers that it returns with the other buffers that it was lent, and the book afterwards.
pub record Result (A : Type 0) : Type 0 where
  pub refusal : ℕ
  pub others : A
  pub book : List ℕ

-- refusals 4 and 6 look at the numbers and the room of the whole book
abbrev pub of_whole_book : ℕ → Type 0
of_whole_book r = (r ≡ 4) ⊎ (r ≡ 6)

-- Two calls for a security gave the same, and left the same records of it.
pub record Same {A : Type 0} (k : ℕ) (a b : Result A) : Type 0 where
  pub refusal : a.refusal ≡ b.refusal
  pub others : a.others ≡ b.others
  pub records : records_for k a.book ≡ records_for k b.book

-- On sound books, of any lengths, with equal records of the security a call gives the same and leaves the same records of it, unless one of
-- the two is refused 4 or 6. All else that the call is given and lent is the same.
abbrev pub NonInterfering : {A : Type 0} → ℕ → (List ℕ → Result A) → Type 0
NonInterfering k call =
    (s t : List ℕ) → sound s ≡ true → sound t ≡ true → records_for k s ≡ records_for k t
    → ¬ of_whole_book (call s).refusal → ¬ of_whole_book (call t).refusal → Same k (call s) (call t)

-- A call for the security, on a book of bytes, leaves the records of every other as they were, in order.
abbrev pub LeavesOthers : {A : Type 0} → ℕ → (List ℕ → Result A) → Type 0
LeavesOthers k call = (s : List ℕ) → AreBytes s → (j : ℕ) → ¬ (j ≡ k) → records_for j (call s).book ≡ records_for j s
