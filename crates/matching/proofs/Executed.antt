-- Every execution of a take is of an order of the book, at its price, and names the paragraph in whose group the order is.
use Prim.Native.Nat.{ℕ, ◌≤◌, ◌<◌}
use mathlib.Core.Path.{◌≡◌, refl, sym}
use mathlib.Core.Bool.{Bool, true, false}
use mathlib.Core.List.{List, [], ◌∷◌, map, Memᴰ}
use native.Mathlib.Omega.{arith}
use lib.Dec.{ltb}
use Rattle.units.specs.Lists.{cons_if}
use Rattle.units.proofs.Tests.{true_back}
use Rattle.units.proofs.Totals.{total_member}
use Rattle.units.proofs.Members.{Every, every_member, member_every, every_flat}
use Rattle.sharing.specs.Rank.{Part}
use Rattle.orders.specs.declared.order.Order.{Order}
use Rattle.orders.specs.declared.order.Taker.{Taker}
use Rattle.orders.specs.Order.{price_of}
use Rattle.record.specs.declared.execution.Execution.{Execution}
use Rattle.record.proofs.Orders.{OrderSound, order_facts}
use Rattle.record.proofs.Executions.{ExecutionFits}
use Rattle.book.specs.Sound.{rising}
use Rattle.book.proofs.Soundness.{OrdersSound}
use Rattle.matching.specs.declared.Algorithm.{Algorithm}
use Rattle.matching.specs.declared.Paragraph.{Paragraph}
use Rattle.matching.specs.declared.incoming.Incoming.{Incoming}
use Rattle.matching.specs.Levels.{price_levels}
use Rattle.matching.specs.Paragraph.{group_of, in_group, part_of, paragraph_number}
use Rattle.matching.specs.Take.{Allocation, allocation_at, allocations, executions_by, executions_of, outcome}
use Rattle.matching.specs.Fairness.{executed_shares}
use Rattle.matching.proofs.Parts.{stands, allot_share, parts_at, allotted, share_none, every_over}
use Rattle.matching.proofs.Groups.{stands_means}
use Rattle.matching.proofs.Places.{number_numbered}
use Rattle.matching.proofs.Unmet.{left_over_lem}

-- an execution of one of these orders
pub record Placed (lot : ℕ) (alg : Algorithm) (os : List Order) (e : Execution) : Type 0 where
  pub order : Order
  pub member : Memᴰ order os
  pub number : e.number ≡ order.number
  pub price : e.price.0 ≡ price_of order
  pub paragraph : Paragraph
  pub inside : in_group (group_of lot alg paragraph) order ≡ true
  pub names : e.paragraph ≡ paragraph_number paragraph

-- what holds of an execution of each order that is given shares holds of all executions
every_by : (P : Execution → Type 0) (g price : ℕ) (f : Part → ℕ) (part : Order → Part) (os : List Order)
    → Every (λ o. ltb 0 (f (part o)) ≡ true → P (record { number = o.number; price = record { 0 = price }; shares = record { 0 = f (part o) }; paragraph = g })) os
    → Every P (executions_by g price os (map f (map part os)))
every_by P g price f part [] h = tt
every_by P g price f part (o ∷ os) h = go (ltb 0 (f (part o))) h.0 (every_by P g price f part os h.1)
  where
    one : Execution
    one = record { number = o.number; price = record { 0 = price }; shares = record { 0 = f (part o) }; paragraph = g }

    go : (b : Bool) → (b ≡ true → P one) → Every P (executions_by g price os (map f (map part os)))
        → Every P (cons_if b one (executions_by g price os (map f (map part os))))
    go true k i = (k refl, i)
    go false k i = i

module _ (lot : ℕ) (alg : Algorithm) (t : Taker) (os : List Order) (rise : rising 0 os ≡ true) where
  -- the executions of an allocation
  abbrev made : Allocation → List Execution
  made a = executions_by (paragraph_number a.paragraph) a.price os a.allotment

  -- who is given shares stands in the paragraph's group at the price
  placed_at : (price : ℕ) (g : Paragraph) (left : ℕ) → Every (Placed lot alg os) (made (allocation_at lot alg t os price g left))
  unfolding allocation_at
  placed_at price g left =
      let group = group_of lot alg g in
      let f = allot_share lot alg g left (parts_at lot alg t os price g) in
      rw (allotted lot alg t os price g left)
      (every_by (Placed lot alg os) (paragraph_number g) price f (part_of t price group) os
      (member_every (λ o. ltb 0 (f (part_of t price group o)) ≡ true → Placed lot alg os
      (record { number = o.number; price = record { 0 = price }; shares = record { 0 = f (part_of t price group o) }; paragraph = paragraph_number g })) os
      (λ o m e.
      let s = stands_means t price group o (true_back (stands t price group o) (share_none lot alg t os rise price g left o m) e) in
      record { order = o; member = m; number = refl; price = sym s.1; paragraph = g; inside = s.2; names = refl })))

-- the executions of a take are placed
pub executions_placed : (lot : ℕ) (alg : Algorithm) (i : Incoming) (os : List Order) → rising 0 os ≡ true → Every (Placed lot alg os) (outcome lot alg i os).executions
unfolding outcome executions_of allocations
executions_placed lot alg i os rise =
    let t = i.taker in
    every_flat (Placed lot alg os) (made lot alg t os rise) (allocations lot alg i os)
    (every_over lot alg t os (λ a. Every (Placed lot alg os) (made lot alg t os rise a)) (placed_at lot alg t os rise) (price_levels t os) i.size.0)

-- the executions of a sound book and an incoming order in range fit their bytes
pub executions_fit : (lot : ℕ) → 0 < lot → (alg : Algorithm) (i : Incoming) (os : List Order) → OrdersSound os → i.size.0 ≤ 999999
    → Every ExecutionFits (outcome lot alg i os).executions
executions_fit lot hl alg i os h s =
    let es = (outcome lot alg i os).executions in
    member_every ExecutionFits es (λ e m.
    let p = every_member (Placed lot alg os) es (executions_placed lot alg i os h.rise) e m in
    let o = order_facts p.order (every_member OrderSound os h.each p.order p.member) in
    record {
      number = omega (arith, p.number, o.number_most);
      price = omega (arith, p.price, o.price_most);
      shares = omega (arith, left_over_lem lot hl alg i os h, total_member executed_shares es e m);
      paragraph = omega (arith, p.names, (number_numbered p.paragraph).most);
    })
