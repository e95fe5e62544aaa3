-- `ladder::rows::write_keys` meets its contract: the keys kept so far, and those of the orders that are left, are the keys of all.
use Prim.Native.Nat.{◌≤◌}
use mathlib.Core.Path.{◌≡◌}
use mathlib.Core.List.{◌++◌}
use lib.ListN.{length, take, drop}
use Rattle.book.specs.Sound.{orders_of}
use Rattle.ladder.specs.Key.{keys_from}
use Rattle.ladder.proofs.rows.write_keys.Given as goal

abbrev pub invariant-loop-i : goal.invariant-loop-i
invariant-loop-i l =
    (length l.keys ≡ length l.initial.keys)
    × (l.i ≤ l.n)
    × (l.count ≤ l.i)
    × (take l.count l.keys ++ keys_from l.security l.i (drop l.i (orders_of l.book)) ≡ keys_from l.security 0 (orders_of l.book))
