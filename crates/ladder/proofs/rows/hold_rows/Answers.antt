-- `ladder::rows::hold_rows` meets its contract: the rows of the levels passed were compared.
use native.Mathlib.Omega.{arith}
use Rattle.ladder.proofs.Walking.{passed_more, begins_more}
use Rattle.ladder.proofs.rows.hold_rows.Goals as goal

pub loop-i-preserved : goal.loop-i-preserved
loop-i-preserved c = (
  omega (arith, c.loop-i.invariant.0, c.level_at-level.ensures.0),
  c.level_at-level.ensures.1,
  passed_more c.loop-i.invariant.2 c.level_at-level.ensures.2
      (begins_more c.args.ladder.now c.loop-i.invariant.2.front _ c.loop-i.invariant.2.counted (omega (arith, c.loop-i.invariant.0, c.loop-i-test.true, c.requires.1)) c.loop-i.invariant.2.holds c.has_row-same.ensures),
)
