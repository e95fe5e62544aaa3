-- Every paragraph, under every algorithm, gives no more than the shares left and no part more than its size, and leaves shares over only
-- where every part is filled or has a minimum above them.
use Prim.Native.Nat.{ℕ, ◌≤◌, ◌<◌}
use mathlib.Core.Path.{◌≡◌}
use mathlib.Core.Bool.{true}
use mathlib.Core.List.{List}
use Rattle.sharing.proofs.Filled.{Filled}
use Rattle.sharing.proofs.Methods.{by_filled}
use Rattle.orders.specs.declared.order.Order.{Order}
use Rattle.orders.specs.declared.order.Taker.{Taker}
use Rattle.book.specs.Sound.{rising, setters_sound}
use Rattle.matching.specs.declared.Algorithm.{Algorithm}
use Rattle.matching.specs.declared.Paragraph.{Paragraph}
use Rattle.matching.specs.Paragraph.{group_of, method_of}
use Rattle.matching.specs.Take.{used, allocation_at}
use Rattle.matching.proofs.Parts.{parts_rising, parts_at}
use Rattle.matching.proofs.Groups.{one_setter, lots_no_minimum, no_minimum}

-- what an allocation leaves
pub allotment_filled : (lot : ℕ) → 0 < lot → (t : Taker) (os : List Order) → rising 0 os ≡ true → setters_sound os ≡ true → (price left : ℕ)
    → (alg : Algorithm) (g : Paragraph) → Filled left (parts_at lot alg t os price g) (allocation_at lot alg t os price g left).allotment
unfolding allocation_at
allotment_filled lot hl t os rise setters price left alg g =
    let group = group_of lot alg g in
    by_filled 0 (parts_at lot alg t os price g) (parts_rising t price group 0 os rise) (method_of alg g)
    (λ e. no_minimum lot alg g (lots_no_minimum alg g e) t price os) lot hl (one_setter t price group os setters) left

-- a paragraph uses no more than the shares left
pub used_within : (lot : ℕ) → 0 < lot → (alg : Algorithm) (t : Taker) (os : List Order) → rising 0 os ≡ true → setters_sound os ≡ true
    → (price : ℕ) (g : Paragraph) (left : ℕ) → used (allocation_at lot alg t os price g left) ≤ left
used_within lot hl alg t os rise setters price g left = (allotment_filled lot hl t os rise setters price left alg g).within
