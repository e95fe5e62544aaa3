-- The last two clauses of the fairness demand: what is left over, and that it is left over only before minimums above it.
use Prim.Native.Nat.{ℕ, ◌+◌, ◌-◌, ◌≤◌, ◌<◌}
use mathlib.Core.Path.{◌≡◌, refl, sym, ap, ◌∙◌}
use mathlib.Core.Bool.{Bool, true, false, false≢true}
use mathlib.Core.List.{List, Memᴰ}
use native.Mathlib.Omega.{arith}
use lib.Dec.{T, ltb}
use borrow.Author.Tests.{ltb-true, ltb-false}
use Rattle.units.specs.Lists.{total, zip_with}
use Rattle.units.proofs.Tests.{and_true, T_true, true_T}
use Rattle.units.proofs.Members.{filter_member}
use Rattle.sharing.proofs.Filled.{Met, full, unmet}
use Rattle.orders.specs.declared.order.Kind.{Kind}
use Rattle.orders.specs.declared.order.Kind.TheVariants.{Displayed, NonDisplayed, MinimumQuantity, Reserve}
use Rattle.orders.specs.declared.order.Order.{Order}
use Rattle.orders.specs.Order.{Visibility, shown, hidden, Interest, all_shares, less, shares_of, interest_by, interest_of, size_from, settled, is_resting}
use Rattle.orders.specs.Order.{is_minimum_quantity, is_reserve, minimum_of, price_of, size_of}
use Rattle.orders.specs.Trading.{is_opposite_of, within_limit, is_tradable}
use Rattle.orders.proofs.Interests.{all_settled}
use Rattle.record.proofs.Settling.{settled_security, settled_side, settled_price, settled_size, settled_minimum, settled_minimum_quantity}
use Rattle.book.proofs.Soundness.{OrdersSound, order_shares}
use Rattle.matching.specs.declared.Algorithm.{Algorithm}
use Rattle.matching.specs.declared.incoming.Incoming.{Incoming}
use Rattle.matching.specs.Levels.{price_levels}
use Rattle.matching.specs.Take.{Allocation, used, allocations, allocations_over, losses_of, outcome}
use Rattle.matching.specs.Fairness.{executed_shares}
use Rattle.matching.proofs.Levels.{levels_sorted, levels_have}
use Rattle.matching.proofs.Entries.{executed_all}
use Rattle.matching.proofs.Parts.{whole_part, aligned_over}
use Rattle.matching.proofs.Allotting.{allotment_filled}
use Rattle.matching.proofs.Leftover.{all_within, all_met}
use Rattle.matching.proofs.Losses.{zip_beside, beside_member, loss_shares}

-- a loss that leaves shares leaves some of a visibility
some_left : (i l : Interest) → 0 < all_shares (less i l) → (v : Visibility) × (shares_of v l < shares_of v i)
some_left i l h = go (ltb l.displayed i.displayed) refl
  where
    go : (b : Bool) → ltb l.displayed i.displayed ≡ b → (v : Visibility) × (shares_of v l < shares_of v i)
    go true e = (shown, ltb-true l.displayed i.displayed e)
    go false e = (hidden, omega (arith, ltb-false l.displayed i.displayed e))

-- only a minimum quantity order has a minimum above a number
has_minimum : (k : Kind) (n : ℕ) → n < minimum_of k → is_minimum_quantity k ≡ true
has_minimum Displayed n h = absurd (omega arith)
has_minimum NonDisplayed n h = absurd (omega arith)
has_minimum (MinimumQuantity m) n h = refl
has_minimum (Reserve b r) n h = absurd (omega arith)

-- its size is of the visibility of which it has shares, and so is what it loses
whole_loss : (k : Kind) (size : ℕ) (v : Visibility) (l : Interest) → is_minimum_quantity k ≡ true → 0 < shares_of v (interest_by k size)
    → (is_reserve k ≡ false) × (size_from k l ≡ shares_of v l)
whole_loss Displayed size v l e h = absurd (false≢true e)
whole_loss NonDisplayed size v l e h = absurd (false≢true e)
whole_loss (MinimumQuantity m) size shown l e h = absurd (omega arith)
whole_loss (MinimumQuantity m) size hidden l e h = (refl, refl)
whole_loss (Reserve b r) size v l e h = absurd (false≢true e)

-- an order that still has shares of a visibility after these were filled or passed over was passed over, and keeps its minimum
rests_unmet : (o : Order) (l : Interest) (r : ℕ) → minimum_of o.kind ≤ size_of o → (v : Visibility) → shares_of v l < shares_of v (interest_of o)
    → Met r (whole_part v o) (shares_of v l) → T (is_minimum_quantity (settled l o).kind) × (r < minimum_of (settled l o).kind)
rests_unmet o l r h v k (full e) = absurd (omega arith)
rests_unmet o l r h v k (unmet e u) =
    let m = has_minimum o.kind r u in
    let w = whole_loss o.kind (size_of o) v l m (omega arith) in (
      true_T (is_minimum_quantity (settled l o).kind) (settled_minimum_quantity l o ∙ m),
      omega (arith, settled_minimum l o, settled_size l o w.0, w.1),
    )

module _ (lot : ℕ) (hl : 0 < lot) (alg : Algorithm) (i : Incoming) (os : List Order) (sound : OrdersSound os) where
  abbrev rows : List Allocation
  rows = allocations_over lot alg i.taker os (price_levels i.taker os) i.size.0

  -- no more than the incoming size is used
  within : total used rows ≤ i.size.0
  within = all_within lot alg i.taker os sound.rise (λ price g left. allotment_filled lot hl i.taker os sound.rise sound.setters price left alg g)
      (price_levels i.taker os) i.size.0

  pub left_over_lem : (outcome lot alg i os).left + total executed_shares (outcome lot alg i os).executions ≡ i.size.0
  unfolding outcome allocations
  left_over_lem = omega (arith, within, executed_all os rows (aligned_over lot alg i.taker os (price_levels i.taker os) i.size.0))

  pub left_unmet : 0 < (outcome lot alg i os).left → (o : Order) → Memᴰ o (outcome lot alg i os).orders → T (is_tradable i.taker o)
      → T (is_minimum_quantity o.kind) × ((outcome lot alg i os).left < minimum_of o.kind)
  unfolding outcome allocations
  left_unmet h y m t =
      let f = filter_member is_resting (zip_with settled (losses_of os rows) os) y m in
      let z = zip_beside settled (losses_of os rows) os y f.0 in
      let o = z.0 in
      let l = z.1 in
      let k = beside_member z.2 in
      let e : is_tradable i.taker o ≡ true = sym (same o l) ∙ (ap (is_tradable i.taker) (sym z.3) ∙ T_true (is_tradable i.taker y) t) in
      let u = and_true (is_opposite_of i.taker o) (within_limit i.taker.side i.taker.limit.0 (price_of o)) e in
      let p = some_left (interest_of o) l (omega (arith, all_settled l o, ltb-true 0 (all_shares (interest_of (settled l o))) (ap is_resting (sym z.3) ∙ f.1))) in
      let v = p.0 in
      let n = all_met lot alg i.taker os sound.rise
      (λ price g left. allotment_filled lot hl i.taker os sound.rise sound.setters price left alg g) v o k u.0 (omega (arith, p.1))
      (price_levels i.taker os) (levels_sorted i.taker os) (levels_have i.taker os o k e) i.size.0 (omega arith) in
      let b : Met (i.size.0 - total used rows) (whole_part v o) (shares_of v l) = rw (loss_shares os sound.rise rows z.2 v) n in
      rw z.3 (rests_unmet o l (i.size.0 - total used rows) (order_shares os sound o k).0 v p.1 b)
    where
      same : (o : Order) (l : Interest) → is_tradable i.taker (settled l o) ≡ is_tradable i.taker o
      same o l = rw (settled_security l o, settled_side l o, settled_price l o)
