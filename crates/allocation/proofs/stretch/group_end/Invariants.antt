-- `allocation::stretch::group_end` meets its contract: the keys passed are of the group.
use Prim.Native.Nat.{ℕ, ◌≤◌, ◌<◌}
use mathlib.Core.Path.{◌≡◌}
use lib.ListN.{length}
use Rattle.allocation.specs.Stretch.{group_at}
use Rattle.allocation.proofs.stretch.group_end.Given as goal

abbrev pub invariant-loop-k : goal.invariant-loop-k
invariant-loop-k l = (l.from < l.k) × (l.k ≤ length l.keys) × ((j : ℕ) → j < l.k → l.from ≤ j → group_at l.keys j ≡ group_at l.keys l.from)
