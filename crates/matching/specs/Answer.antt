-- What take answers in the code, as the numbers that C is told.
use Rattle.std.specs.Prelude.{Result, Ok, Err}
use Rattle.book.specs.declared.refusal.Refusal.{Refusal}
use Rattle.book.specs.Answer.{number_of}
use Rattle.matching.specs.declared.Filled.{Filled}
use Rattle.matching.specs.declared.Taken.{Taken}

-- an accepted take has the refusal number 0, and a refused one no other number
abbrev pub taken : Result Filled Refusal → Taken
taken (Ok f) = record { refusal = 0; count = f.count; left = f.left.0 }
taken (Err r) = record { refusal = number_of r; count = 0; left = 0 }
