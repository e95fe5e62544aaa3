-- `dividing::lots::first_step` meets its contract: one division by s * lot rounds down to whole lots.
use mathlib.Core.Path.{◌∙◌}
use native.Mathlib.Omega.{arith}
use Rattle.dividing.proofs.LotSteps.{step_is}
use Rattle.dividing.proofs.lots.first_step.Goals as goal

-- so many lots are the whole lots of the exact share, and no more than the size
pub shares_of-requires : goal.shares_of-requires
shares_of-requires c =
    let step = step_is c.args.amounts.lot.0 c.args.size.0 c.args.amounts.left.0 c.args.amounts.total.0 c.quotient.result c.requires.0 c.requires.1 c.quotient.ensures c.from.ensures
    c.requires.2 c.requires.3 in
    omega arith

pub returns : goal.returns
returns c =
    let step = step_is c.args.amounts.lot.0 c.args.size.0 c.args.amounts.left.0 c.args.amounts.total.0 c.quotient.result c.requires.0 c.requires.1 c.quotient.ensures c.from.ensures
    c.requires.2 c.requires.3 in
    c.shares_of.ensures ∙ step.0
