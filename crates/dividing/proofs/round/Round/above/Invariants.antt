-- `dividing::round::Round::above` meets its contract: what was added up, with what is left, is the total.
use Prim.Native.Nat.{◌+◌}
use mathlib.Core.Path.{◌≡◌}
use lib.ListN.{drop}
use Rattle.dividing.specs.Columns.{above}
use Rattle.dividing.proofs.round.Round.above.Given as goal

abbrev pub invariant-loop-j : goal.invariant-loop-j
invariant-loop-j l = l.sum.0 + above l.t (drop l.j l.self.keys.now) (drop l.j l.self.wants.now) ≡ above l.t l.self.keys.now l.self.wants.now
