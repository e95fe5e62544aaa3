-- `settlement::settling::close_gaps` meets its contract: the first i orders have lost their shares, and one of them has left.
use Prim.Native.Nat.{◌<◌}
use Rattle.settlement.proofs.Passing.{Passed}
use Rattle.settlement.proofs.settling.close_gaps.Given as goal

abbrev pub invariant-loop-i : goal.invariant-loop-i
invariant-loop-i l = Passed l.initial.part l.n l.shown l.hidden l.part l.i l.kept l.kept × (l.kept < l.i)
