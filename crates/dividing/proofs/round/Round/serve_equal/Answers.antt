-- `dividing::round::Round::serve_equal` meets its contract: the column is written from the front, at those of key t.
use mathlib.Core.Path.{◌∙◌}
use native.Mathlib.Omega.{arith}
use native.Mathlib.Nat.{add-zero, sub-zero}
use borrow.Author.Tests.{eq-eqb, ne_eqb}
use lib.ListN.{get_or}
use Rattle.dividing.specs.Columns.{takes_at}
use Rattle.units.proofs.Columns.{put_at, put_more, put_skip}
use Rattle.dividing.proofs.Walking.{added_more, order_more}
use Rattle.dividing.proofs.round.Round.serve_equal.Goals as goal
use Rattle.dividing.proofs.round.Round.serve_equal.Goals.{then-x-t, else-x-t}

pub loop-j-preserved : goal.loop-j-preserved
loop-j-preserved c =
    let g = put_at c.loop-j.invariant in
    let more = added_more c.args.gets.now c.loop-j.j (omega arith)
    (order_more (takes_at c.args.t c.args.minimum.0) c.loop-j.left.0 c.args.self.keys.now c.args.self.wants.now c.loop-j.j (omega arith) (omega arith)) in
    elim c.if-x-t.branch [
      | then-x-t w ↦ rw (w.gets-is, w.left-is, w.difference-left.ensures)
          (put_more c.loop-j.invariant (omega arith)
          (more ∙ rw (g, eq-eqb (get_or c.args.self.keys.now c.loop-j.j 0) c.args.t w.if-x-t.true, w.taking-part.ensures)))
      | else-x-t w ↦ rw (w.gets-is, w.left-is)
          (put_skip c.loop-j.invariant (omega arith)
          (more ∙ rw (ne_eqb (get_or c.args.self.keys.now c.loop-j.j 0) c.args.t w.if-x-t.false, add-zero, sub-zero)))
    ]
