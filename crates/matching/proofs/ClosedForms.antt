-- What every paragraph gives, without a sort: each part meets what those with an earlier turn may take. Only orders with minimums in time
-- order, price/time's third paragraph, have no such form, and stay sequential.
use Prim.Native.Nat.{ℕ}
use mathlib.Core.Path.{◌≡◌}
use mathlib.Core.Bool.{true}
use mathlib.Core.List.{List}
use Rattle.sharing.proofs.Methods.{closed_by, by_closed}
use Rattle.orders.specs.declared.order.Order.{Order}
use Rattle.orders.specs.declared.order.Taker.{Taker}
use Rattle.book.specs.Sound.{rising}
use Rattle.matching.specs.declared.Algorithm.{Algorithm}
use Rattle.matching.specs.declared.Paragraph.{Paragraph}
use Rattle.matching.specs.Paragraph.{group_of, method_of, allot}
use Rattle.matching.proofs.Parts.{parts_rising, parts_at}
use Rattle.matching.proofs.Groups.{has_no_minimum, lots_no_minimum, no_minimum}

-- a paragraph's sequential and closed forms are equal
pub allot_closed : (lot : ℕ) (t : Taker) (os : List Order) → rising 0 os ≡ true → (price left : ℕ) (alg : Algorithm) (g : Paragraph)
    → allot lot alg g left (parts_at lot alg t os price g) ≡ closed_by (has_no_minimum alg g) (method_of alg g) lot left (parts_at lot alg t os price g)
allot_closed lot t os rise price left alg g =
    by_closed 0 (parts_at lot alg t os price g) (parts_rising t price (group_of lot alg g) 0 os rise) (has_no_minimum alg g)
    (λ e. no_minimum lot alg g e t price os) (method_of alg g) (lots_no_minimum alg g) lot left
