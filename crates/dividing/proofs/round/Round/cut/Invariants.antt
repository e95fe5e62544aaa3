-- `dividing::round::Round::cut` meets its contract: the threshold lies between lo and hi, which come together.
use Prim.Native.Nat.{◌-◌}
use Rattle.dividing.proofs.Serving.{Halving}
use Rattle.dividing.proofs.round.Round.cut.Given as goal

abbrev pub invariant-loop-lo : goal.invariant-loop-lo
invariant-loop-lo l = Halving l.self.keys.now l.self.wants.now l.top l.rest.0 l.lo l.hi

abbrev pub decreases-loop-lo : goal.decreases-loop-lo
decreases-loop-lo l = l.hi - l.lo
