-- `dividing::lots::Fraction::quotient` meets its contract: the estimate is the quotient or one less.
use native.Mathlib.Omega.{arith}
use Rattle.dividing.proofs.Reciprocal.{estimate_low, estimate_more, estimate_same}
use Rattle.dividing.proofs.lots.Fraction.quotient.Goals as goal

pub overflow_sub-x : goal.overflow_sub-x
overflow_sub-x c =
    estimate_low c.args.x c.args.self.part c.args.self.whole c.args.self.scaled (omega arith, c.args.self.narrow, c.args.self.proper, c.args.self.some, c.args.self.is_scaled)

pub returns-then-self-x : goal.returns-then-self-x
returns-then-self-x c =
    estimate_more c.args.x c.args.self.part c.args.self.whole c.args.self.scaled (omega arith, c.args.self.narrow, c.args.self.proper, c.args.self.some, c.args.self.is_scaled)
    (omega arith)

pub returns-else-self-x : goal.returns-else-self-x
returns-else-self-x c =
    estimate_same c.args.x c.args.self.part c.args.self.whole c.args.self.scaled (omega arith, c.args.self.narrow, c.args.self.proper, c.args.self.some, c.args.self.is_scaled)
    (omega arith)
