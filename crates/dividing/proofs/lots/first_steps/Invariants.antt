-- `dividing::lots::first_steps` meets its contract: the column is written from the front, and what was added up, with what is left, is the sum.
use Prim.Native.Nat.{◌+◌}
use mathlib.Core.Path.{◌≡◌}
use mathlib.Core.List.{map}
use lib.ListN.{drop}
use Rattle.units.specs.Lists.{sum}
use Rattle.dividing.specs.Columns.{first_of}
use Rattle.units.proofs.Columns.{Put}
use Rattle.dividing.proofs.lots.first_steps.Given as goal

abbrev pub invariant-loop-j : goal.invariant-loop-j
invariant-loop-j l =
    Put l.initial.gets (map (first_of l.amounts.lot.0 l.amounts.left.0 l.amounts.total.0) l.sizes) l.gets l.j (map (first_of l.amounts.lot.0 l.amounts.left.0 l.amounts.total.0) (drop l.j l.sizes))
    × (l.sum.0 + sum (map (first_of l.amounts.lot.0 l.amounts.left.0 l.amounts.total.0) (drop l.j l.sizes)) ≡ sum (map (first_of l.amounts.lot.0 l.amounts.left.0 l.amounts.total.0) l.sizes))
