-- `allocation::stretch::group_start` meets its contract: the keys passed, up to the place, are of its group.
use Prim.Native.Nat.{ℕ, ◌≤◌, ◌<◌}
use mathlib.Core.Path.{◌≡◌}
use Rattle.allocation.specs.Stretch.{group_at}
use Rattle.allocation.proofs.stretch.group_start.Given as goal

abbrev pub invariant-loop-j : goal.invariant-loop-j
invariant-loop-j l = (l.j ≤ l.place) × ((j : ℕ) → l.j ≤ j → j < l.place → group_at l.keys j ≡ group_at l.keys l.place)
