-- What the calls answer in the code, as the numbers that the scope and the change requests give.
use Rattle.std.specs.Prelude.{ℕ, Result}
use Rattle.std.specs.Prelude.{Ok, Err}
use Rattle.book.specs.declared.refusal.Refusal.{Refusal}
use Rattle.book.specs.declared.refusal.Refusal.TheVariants.{OutOfRange, UnsoundBook, UnknownNumber, StaleNumber, CouldTrade, BookFull, TooManyShares, SmallBuffer, LadderLength, OtherLadder, NoOldForm, UnfitTarget}
use Rattle.book.specs.declared.Checked.{Checked}
use Rattle.book.specs.declared.Found.{Found}
use Rattle.book.specs.Sound.{record_bytes}

-- the number of a refusal
abbrev pub number_of : Refusal → ℕ
number_of OutOfRange = 1
number_of UnsoundBook = 2
number_of UnknownNumber = 3
number_of StaleNumber = 4
number_of CouldTrade = 5
number_of BookFull = 6
number_of TooManyShares = 7
number_of SmallBuffer = 8
number_of LadderLength = 9
number_of OtherLadder = 10
number_of NoOldForm = 11
number_of UnfitTarget = 12

module _ {A : Type 0} where
  -- the refusal number of an answer: 0 where the call is accepted
  abbrev pub number_in : Result A Refusal → ℕ
  number_in (Ok x) = 0
  number_in (Err r) = number_of r

  -- an answer with the number in the refusal's place
  abbrev pub numbered : Result A Refusal → Result A ℕ
  numbered (Ok x) = Ok x
  numbered (Err r) = Err (number_of r)

-- check answers with the number of orders
abbrev pub checked : Result ℕ Refusal → Checked
checked (Ok n) = record { refusal = 0; orders = n }
checked (Err r) = record { refusal = number_of r; orders = 0 }

-- find answers with the first byte of the order's record
abbrev pub found : Result ℕ Refusal → Found
found (Ok start) = record { refusal = 0; start = start; length = record_bytes }
found (Err r) = record { refusal = number_of r; start = 0; length = 0 }
