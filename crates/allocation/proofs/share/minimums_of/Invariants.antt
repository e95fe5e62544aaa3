-- `allocation::share::minimums_of` meets its contract: the column is written from the front.
use mathlib.Core.List.{map}
use lib.ListN.{drop}
use Rattle.units.proofs.Columns.{Put}
use Rattle.allocation.specs.Sharing.{minimum_in}
use Rattle.allocation.proofs.share.minimums_of.Given as goal

abbrev pub invariant-loop-k : goal.invariant-loop-k
invariant-loop-k l =
    Put l.initial.minimums (map (minimum_in l.book) l.keys) l.minimums l.k (map (minimum_in l.book) (drop l.k l.keys))
