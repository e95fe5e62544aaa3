-- `dividing::turns::by_time` meets its contract: the column is written from the front.
use mathlib.Core.Path.{◌∙◌}
use native.Mathlib.Omega.{arith}
use lib.ListN.{drop}
use Rattle.dividing.specs.Columns.{may_take}
use Rattle.units.proofs.Columns.{put_more, put_done}
use Rattle.dividing.proofs.Walking.{order_more, order_done}
use Rattle.dividing.proofs.Turning.{time_alone}
use Rattle.dividing.proofs.turns.by_time.Goals as goal

pub loop-j-preserved : goal.loop-j-preserved
loop-j-preserved c =
    rw c.difference-remains.ensures
    (put_more c.loop-j.invariant (omega arith)
    (order_more may_take c.loop-j.remains.0 c.args.minimums.now c.args.sizes.now c.loop-j.j (omega arith) (omega arith) ∙ rw c.taking-part.ensures))

pub returns : goal.returns
returns c =
    λ k ps g.
    time_alone k ps c.args.left.0 g
    (put_done c.loop-j.invariant (omega arith) (order_done may_take c.loop-j.remains.0 c.args.minimums.now (drop c.loop-j.j c.args.sizes.now) c.loop-j.j (omega arith)))
