-- `allocation::stretch::filled` meets its contract: what is left of the shares and the parts before are the shares at the start.
use Prim.Native.Nat.{◌+◌, ◌≤◌}
use mathlib.Core.Path.{◌≡◌}
use lib.ListN.{length, take}
use Rattle.units.specs.Lists.{total}
use Rattle.parts.specs.Key.{shares_in}
use Rattle.allocation.proofs.stretch.filled.Given as goal

abbrev pub invariant-loop-k : goal.invariant-loop-k
invariant-loop-k l = (l.k ≤ length l.keys) × (l.rest.0 + total shares_in (take l.k l.keys) ≡ l.initial.rest.0)
