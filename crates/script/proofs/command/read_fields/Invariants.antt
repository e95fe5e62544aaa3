-- What the places to come answer of the fields to come is what the whole form answers of all.
use Rattle.std.proofs.Common.{◌≡◌, ◌++◌, length, take, drop}
use Rattle.script.specs.Text.{fields_of}
use Rattle.script.specs.Command.{fits, values_of}
use Rattle.script.proofs.Splitting.{fields_left}
use Rattle.script.proofs.command.read_fields.Given as goal

abbrev pub invariant-loop-i : goal.invariant-loop-i
invariant-loop-i l =
    (length l.values ≡ length l.form)
    × (fits (drop l.i l.form) (fields_left l.fields) ≡ fits l.form (fields_of l.line))
    × (take l.i l.values ++ values_of (drop l.i l.form) (fields_left l.fields) ≡ values_of l.form (fields_of l.line))
