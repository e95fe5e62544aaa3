-- `settlement::executions::write` meets its contract: the executions of the first fills are written.
use mathlib.Core.Path.{ap, ◌∙◌}
use native.Mathlib.Omega.{arith}
use Rattle.record.specs.Execution.{encode_execution}
use Rattle.book.specs.Sound.{order_at}
use Rattle.parts.specs.Execution.{execution_of}
use Rattle.settlement.proofs.Writing.{writing_more}
use Rattle.settlement.proofs.executions.write.Goals as goal

pub loop-k-preserved : goal.loop-k-preserved
loop-k-preserved c =
    rw c.put.ensures
    (writing_more (execution_of (order_at c.args.book.now)) c.args.fills.now c.loop-k.invariant (omega arith) c.requires.2
    (c.bytes_of-bytes.ensures ∙ ap encode_execution c.execution_of.ensures))
