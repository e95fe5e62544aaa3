-- Refusals: their numbers with their conditions, checked in order. A call that none holds for is accepted, and its refusal number is 0.
use Rattle.std.specs.Prelude.{ℕ, Bool, cond, not, List, [], ◌∷◌, ◌++◌, eqb}

pub record Refusal : Type 0 where
  pub number : ℕ
  pub holds : Bool

abbrev pub refuse : ℕ → Bool → Refusal
refuse n b = record { number = n; holds = b }

-- the number of the first that holds
abbrev pub first_refusal : List Refusal → ℕ
first_refusal [] = 0
first_refusal (r ∷ rs) = cond r.holds r.number (first_refusal rs)

-- A call's refusals: those of the numbers that it is given, and those that look at the book.
pub record Refusals : Type 0 where
  pub of_call : List Refusal
  pub of_book : List Refusal

-- between them, refusal 2: the book isn't sound, its length included. Which book, and in which form, is the call's own condition.
abbrev pub refusal_of : Refusals → Bool → ℕ
refusal_of rs is_sound = first_refusal (rs.of_call ++ (refuse 2 (not is_sound) ∷ rs.of_book))

abbrev pub is_accepted : ℕ → Bool
is_accepted n = eqb n 0

-- what a call that changes the book gives: its refusal number and the book afterwards
pub record Changed : Type 0 where
  pub refusal : ℕ
  pub book : List ℕ

-- a refused call changes no byte
abbrev pub changed_unless : ℕ → List ℕ → List ℕ → Changed
changed_unless r before after = record { refusal = r; book = cond (is_accepted r) after before }
