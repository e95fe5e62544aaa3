-- `parts::collect` meets its contract: the parts written so far, and those of the orders that are left, are the parts of all.
use Prim.Native.Nat.{◌*◌, ◌≤◌}
use mathlib.Core.Path.{◌≡◌}
use mathlib.Core.List.{◌++◌}
use lib.ListN.{length, take, drop}
use Rattle.book.specs.Sound.{orders_of}
use Rattle.parts.specs.Parts.{keys_from}
use Rattle.parts.proofs.collect.Given as goal

abbrev pub invariant-loop-i : goal.invariant-loop-i
invariant-loop-i l =
    (length l.keys ≡ length l.initial.keys)
    × (l.count ≤ 2 * l.i)
    × (take l.count l.keys ++ keys_from l.fn.lot.0 l.fn.algorithm l.incoming l.i (drop l.i (orders_of l.book))
    ≡ keys_from l.fn.lot.0 l.fn.algorithm l.incoming 0 (orders_of l.book))
