-- `allocation::share::sizes_of` meets its contract: the column is written from the front, and what was added up, with what is left, is the total.
use Prim.Native.Nat.{◌+◌}
use mathlib.Core.Path.{◌≡◌}
use mathlib.Core.List.{map}
use lib.ListN.{drop}
use Rattle.units.specs.Lists.{total}
use Rattle.parts.specs.Key.{shares_in}
use Rattle.units.proofs.Columns.{Put}
use Rattle.allocation.proofs.share.sizes_of.Given as goal

abbrev pub invariant-loop-k : goal.invariant-loop-k
invariant-loop-k l =
    Put l.initial.sizes (map shares_in l.keys) l.sizes l.k (map shares_in (drop l.k l.keys)) × (l.total.0 + total shares_in (drop l.k l.keys) ≡ total shares_in l.keys)
