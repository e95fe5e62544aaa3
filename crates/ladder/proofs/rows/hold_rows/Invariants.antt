-- `ladder::rows::hold_rows` meets its contract: the rows of the levels passed were compared.
use Prim.Native.Nat.{◌-◌, ◌≤◌}
use lib.ListN.{length, drop}
use Rattle.ladder.specs.Along.{along_keys}
use Rattle.ladder.proofs.Walking.{Passed, Begins}
use Rattle.ladder.proofs.rows.hold_rows.Given as goal

abbrev pub invariant-loop-i : goal.invariant-loop-i
invariant-loop-i l =
    (l.rows ≤ l.i) × (l.i ≤ length l.keys) × Passed (Begins l.ladder l.same) (along_keys l.book l.keys) l.rows (along_keys l.book (drop l.i l.keys))

abbrev pub decreases-loop-i : goal.decreases-loop-i
decreases-loop-i l = length l.keys - l.i
