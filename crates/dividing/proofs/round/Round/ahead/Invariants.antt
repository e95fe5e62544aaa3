-- `dividing::round::Round::ahead` meets its contract: what was added up, with what is left, is the total.
use Prim.Native.Nat.{◌+◌, ◌-◌}
use mathlib.Core.Path.{◌≡◌}
use lib.ListN.{drop}
use Rattle.dividing.specs.Columns.{ahead_at}
use Rattle.dividing.proofs.round.Round.ahead.Given as goal

abbrev pub invariant-loop-j : goal.invariant-loop-j
invariant-loop-j l = l.sum.0 + ahead_at l.key (l.place - l.j) (drop l.j l.self.keys.now) (drop l.j l.self.wants.now) ≡ ahead_at l.key l.place l.self.keys.now l.self.wants.now
