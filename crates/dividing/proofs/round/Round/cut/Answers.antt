-- `dividing::round::Round::cut` meets its contract: the threshold lies between lo and hi, which come together.
use Prim.Native.Nat.{◌+◌, ◌-◌, ◌/◌}
use native.Mathlib.Omega.{arith}
use Rattle.dividing.proofs.Serving.{halve_high}
use Rattle.dividing.proofs.round.Round.cut.Goals as goal

pub loop-lo-preserved : goal.loop-lo-preserved
loop-lo-preserved c =
    halve_high c.loop-lo.invariant (c.loop-lo.lo + (c.loop-lo.hi - c.loop-lo.lo) / 2) (omega arith) (omega arith)
