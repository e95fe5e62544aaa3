-- `settlement::settling::settle` meets its contract: the first i orders have lost their shares where they stand, and all of them still rest.
use Rattle.settlement.proofs.Passing.{Passed}
use Rattle.settlement.proofs.settling.settle.Given as goal

abbrev pub invariant-loop-i : goal.invariant-loop-i
invariant-loop-i l = Passed l.initial.book l.n l.shown l.hidden l.book l.i l.i 0
