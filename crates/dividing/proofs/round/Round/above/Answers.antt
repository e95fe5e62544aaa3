-- `dividing::round::Round::above` meets its contract: what was added up, with what is left, is the total.
use native.Mathlib.Omega.{arith}
use Rattle.dividing.proofs.Places.{above_more}
use Rattle.dividing.proofs.round.Round.above.Goals as goal

pub sum-sum-requires : goal.sum-sum-requires
sum-sum-requires c =
    omega (arith, above_more c.args.t c.args.self.keys.now c.args.self.wants.now c.loop-j.j (omega arith) (omega arith) c.from.ensures c.loop-j.sum.0 c.loop-j.invariant)
