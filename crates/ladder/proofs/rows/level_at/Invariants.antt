-- `ladder::rows::level_at` meets its contract: the rows read so far are joined.
use Prim.Native.Nat.{◌-◌, ◌≤◌, ◌<◌}
use mathlib.Core.List.{map}
use lib.ListN.{length, drop}
use Rattle.ladder.proofs.Walking.{row_of_key, Joining}
use Rattle.ladder.proofs.rows.level_at.Given as goal

abbrev pub invariant-loop-i : goal.invariant-loop-i
invariant-loop-i l =
    (l.from < l.i) × (l.i ≤ length l.keys) × Joining (map (row_of_key l.book) (drop l.from l.keys)) l.row (l.i - l.from) (map (row_of_key l.book) (drop l.i l.keys))
