-- `allocation::share::sizes_of` meets its contract: the column is written from the front, and what was added up, with what is left, is the total.
use Prim.Native.Nat.{ℕ, ◌+◌, ◌<◌}
use mathlib.Core.Path.{◌≡◌}
use mathlib.Core.List.{List}
use native.Mathlib.Omega.{arith}
use native.Mathlib.Numerals.{add-one}
use lib.ListN.{length, get_or, drop}
use lib.Seq.{drop-cons}
use Rattle.units.specs.Lists.{total}
use Rattle.parts.specs.Key.{shares_in}
use Rattle.allocation.proofs.Gets.{shares_most}
use Rattle.allocation.proofs.share.sizes_of.Goals as goal

-- one key more
more : (keys : List ℕ) (k : ℕ) → k < length keys → total shares_in (drop k keys) ≡ shares_in (get_or keys k 0) + total shares_in (drop (k + 1) keys)
more keys k h = rw (add-one, drop-cons keys k 0)

pub sum-total-requires : goal.sum-total-requires
sum-total-requires c =
    let e = more c.args.keys.now c.loop-k.k (omega arith) in
    omega (arith, c.shares-shares.ensures, c.loop-k.invariant.1, shares_most c.args.keys.now)
