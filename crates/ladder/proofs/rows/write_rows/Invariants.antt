-- `ladder::rows::write_rows` meets its contract: the rows of the levels passed are written.
use Prim.Native.Nat.{◌-◌, ◌≤◌}
use lib.ListN.{length, drop}
use Rattle.ladder.specs.Along.{along_keys}
use Rattle.ladder.proofs.Walking.{Passed, Written}
use Rattle.ladder.proofs.rows.write_rows.Given as goal

abbrev pub invariant-loop-i : goal.invariant-loop-i
invariant-loop-i l =
    (l.count ≤ l.i) × (l.i ≤ length l.keys) × Passed (Written l.initial.ladder l.ladder) (along_keys l.book l.keys) l.count (along_keys l.book (drop l.i l.keys))

abbrev pub decreases-loop-i : goal.decreases-loop-i
decreases-loop-i l = length l.keys - l.i
