-- `dividing::round::Round::ahead` meets its contract: what was added up, with what is left, is the total.
use native.Mathlib.Omega.{arith}
use lib.ListN.{get_or}
use Rattle.dividing.proofs.Places.{ahead_more}
use Rattle.dividing.proofs.round.Round.ahead.Goals as goal

pub sum-sum-requires : goal.sum-sum-requires
sum-sum-requires c =
    let x = get_or c.args.self.keys.now c.args.place 0 in
    omega (arith, ahead_more x c.args.place c.args.self.keys.now c.args.self.wants.now c.loop-j.j (omega arith) (omega arith) c.from.ensures c.loop-j.sum.0 c.loop-j.invariant)

pub loop-j-preserved : goal.loop-j-preserved
loop-j-preserved c =
    let x = get_or c.args.self.keys.now c.args.place 0 in
    omega (arith, ahead_more x c.args.place c.args.self.keys.now c.args.self.wants.now c.loop-j.j (omega arith) (omega arith) c.from.ensures c.loop-j.sum.0 c.loop-j.invariant)
