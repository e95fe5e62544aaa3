-- `ladder::rows::write_rows` meets its contract: the rows of the levels passed are written.
use mathlib.Core.Path.{refl, sym, ap}
use native.Mathlib.Omega.{arith}
use lib.ListN.{drop_of_length-le}
use Rattle.ladder.specs.Along.{along_keys}
use Rattle.ladder.proofs.Walking.{passed_more, passed_done, written_more, written_done}
use Rattle.ladder.proofs.rows.write_rows.Goals as goal

pub loop-i-preserved : goal.loop-i-preserved
loop-i-preserved c = (
  omega (arith, c.loop-i.invariant.0, c.level_at-level.ensures.0),
  c.level_at-level.ensures.1,
  rw c.write_row.ensures
      (passed_more c.loop-i.invariant.2 c.level_at-level.ensures.2
      (written_more c.loop-i.invariant.2.front _ c.loop-i.invariant.2.counted (omega (arith, c.loop-i.invariant.0, c.loop-i-test.true, c.requires.1)) c.loop-i.invariant.2.holds)),
)

pub returns : goal.returns
returns c =
    let z = drop_of_length-le c.args.keys.now {i = c.loop-i.i} (omega arith) in
    let d = passed_done c.loop-i.invariant.2 (ap (along_keys c.args.book.now) z) in
    rw (d, sym c.loop-i.invariant.2.counted) (refl, written_done c.loop-i.invariant.2.front c.loop-i.invariant.2.holds)
