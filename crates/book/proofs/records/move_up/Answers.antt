-- `book::records::move_up` meets its contract: the first i bytes behind the record have moved.
use Rattle.std.proofs.Common.{arith}
use Rattle.record.proofs.Pasting.{move_more}
use Rattle.book.proofs.records.move_up.Goals as goal

pub loop-i-preserved : goal.loop-i-preserved
loop-i-preserved c = move_more _ _ _ c.requires _ _ (omega arith) c.loop-i.invariant (omega arith)
