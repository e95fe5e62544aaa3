-- `allocation::allocate` meets its contract: whole groups are filled, then one is shared, while shares are left.
use Prim.Native.Nat.{◌-◌}
use mathlib.Core.Path.{◌≡◌}
use lib.ListN.{length}
use Rattle.allocation.specs.Credit.{ledger}
use Rattle.allocation.proofs.Way.{Way}
use Rattle.allocation.proofs.allocate.Given as goal

abbrev pub invariant-loop-at : goal.invariant-loop-at
invariant-loop-at l =
    (length l.sizes ≡ length l.initial.sizes) × (length l.minimums ≡ length l.initial.minimums) × (length l.gets ≡ length l.initial.gets)
    × Way l.book l.keys l.lot.0 l.algorithm l.initial.reached.incoming.taker (ledger l.initial.reached l.initial.fills l.initial.shown l.initial.hidden) l.at (ledger l.reached l.fills l.shown l.hidden)

abbrev pub decreases-loop-at : goal.decreases-loop-at
decreases-loop-at l = length l.keys - l.at
