-- `script::field::digits_in` meets its contract: what the digits passed and those to come stand for is what all of them do.
use Rattle.std.proofs.Common.{◌≡◌, ◌≤◌, drop}
use Rattle.script.specs.Field.{digits_from, largest}
use Rattle.script.proofs.field.digits_in.Given as goal

abbrev pub invariant-loop-b : goal.invariant-loop-b
invariant-loop-b l = (l.n ≤ largest) × (digits_from l.n (drop l.b-index l.field) ≡ digits_from 0 l.field)
