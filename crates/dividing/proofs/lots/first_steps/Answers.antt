-- `dividing::lots::first_steps` meets its contract: what was added up, with what is left, is the sum.
use mathlib.Core.Path.{ap}
use native.Mathlib.Omega.{arith}
use Rattle.units.specs.Lists.{sum}
use Rattle.dividing.specs.Columns.{first_of}
use Rattle.dividing.proofs.Walking.{map_more}
use Rattle.dividing.proofs.LotSteps.{first_within, sum_within}
use Rattle.dividing.proofs.lots.first_steps.Goals as goal

pub sum-sum-requires : goal.sum-sum-requires
sum-sum-requires c =
    let f = first_of c.args.amounts.lot.0 c.args.amounts.left.0 c.args.amounts.total.0 in
    omega (
      arith,
      c.first_step-part.ensures,
      ap sum (map_more f c.args.sizes.now c.loop-j.j (omega arith)),
      sum_within f (first_within c.args.amounts.lot.0 c.args.amounts.left.0 c.args.amounts.total.0 (omega arith)) c.args.sizes.now,
    )
