-- `settlement::executions::write` meets its contract: the executions of the first fills are written.
use Rattle.book.specs.Sound.{order_at}
use Rattle.parts.specs.Execution.{execution_of}
use Rattle.settlement.proofs.Writing.{Writing}
use Rattle.settlement.proofs.executions.write.Given as goal

abbrev pub invariant-loop-k : goal.invariant-loop-k
invariant-loop-k l = Writing (execution_of (order_at l.book)) l.fills l.initial.executions l.executions l.k
