-- `parts::best::keep` meets its contract: the keys kept so far, and those of the rank among the keys that are left, are those of the rank.
use Prim.Native.Nat.{◌≤◌}
use mathlib.Core.Path.{◌≡◌}
use mathlib.Core.List.{◌++◌}
use lib.ListN.{length, take, drop}
use Rattle.units.specs.Lists.{filter}
use Rattle.parts.specs.Narrowed.{of_rank}
use Rattle.parts.proofs.best.keep.Given as goal

abbrev pub invariant-loop-k : goal.invariant-loop-k
invariant-loop-k l =
    (length l.keys ≡ length l.initial.keys)
    × (l.k ≤ length l.keys)
    × (l.count ≤ l.k)
    × (take l.count l.keys ++ filter (of_rank l.rank) (drop l.k l.keys) ≡ filter (of_rank l.rank) l.initial.keys)
