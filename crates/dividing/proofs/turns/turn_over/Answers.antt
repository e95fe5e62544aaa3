-- `dividing::turns::turn_over` meets its contract: a number that is still to come stands as it stood.
use Rattle.units.proofs.Columns.{put_at}
use Rattle.dividing.proofs.turns.turn_over.Goals as goal

pub overflow_sub-x : goal.overflow_sub-x
overflow_sub-x c = rw (put_at c.loop-x.invariant) (c.requires c.loop-x.x-index)
