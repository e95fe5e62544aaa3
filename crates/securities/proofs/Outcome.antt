-- The outcome of a take on a book is that on the orders of its security, and leaves all others as they were.
use Prim.Native.Nat.{ℕ, ◌+◌, ◌-◌}
use mathlib.Core.Path.{◌≡◌, refl, sym, ap, ap₂, ◌∙◌, subst}
use mathlib.Core.Bool.{Bool, true, false}
use mathlib.Core.List.Memᴰ
use mathlib.Core.List.{List, [], ◌∷◌, ◌++◌, map, map-map}
use Rattle.units.specs.Lists.{filter, total, zip_with}
use Rattle.units.proofs.Members.{Every, every_member}
use Rattle.sharing.proofs.Zeros.{Nothing}
use Rattle.sharing.proofs.Methods.{by_zeros}
use Rattle.orders.specs.declared.order.Order.{Order}
use Rattle.orders.specs.declared.order.Taker.{Taker}
use Rattle.orders.specs.Order.{Visibility, shown, hidden, no_interest, only_of, together, settled, is_resting}
use Rattle.orders.specs.Trading.{of_security, is_tradable}
use Rattle.record.proofs.Orders.{OrderSound}
use Rattle.record.proofs.Settling.{settled_security, settled_nothing}
use Rattle.book.specs.Sound.{rising}
use Rattle.matching.specs.declared.Algorithm.{Algorithm}
use Rattle.matching.specs.declared.Paragraph.{Paragraph}
use Rattle.matching.specs.declared.incoming.Incoming.{Incoming}
use Rattle.matching.specs.Levels.{price_levels}
use Rattle.matching.specs.Paragraph.{paragraphs, paragraph_number, Group, group_of, part_of, method_of}
use Rattle.matching.specs.Take.{Allocation, used, allocation_at, allocations_at, allocations_over, allocations, executions_of, losses_of, outcome}
use Rattle.matching.proofs.Parts.{part_out, parts_rising}
use Rattle.securities.proofs.Filters.{filter_kept}
use Rattle.securities.proofs.Settling.{other_security, settled_for, settled_others}
use Rattle.securities.proofs.Beside.{Beside, zip_both, zip_self, thin_kept, same_sum, same_executions}

-- allocations beside all orders and beside those that are kept
data Rows (kept : Order → Bool) (os : List Order) : List Allocation → List Allocation → Type 0 where
  no_rows : Rows kept os [] []
  row : {price : ℕ} {g : Paragraph} {v : Visibility} {ns ks : List ℕ} {rs ss : List Allocation} → Beside 0 kept os ns ks → Rows kept os rs ss
      → Rows kept os (record { price = price; paragraph = g; visibility = v; allotment = ns } ∷ rs)
      (record { price = price; paragraph = g; visibility = v; allotment = ks } ∷ ss)

only_none : (v : Visibility) (n : ℕ) → n ≡ 0 → only_of v n ≡ no_interest
only_none shown n e = rw e
only_none hidden n e = rw e

module _ {kept : Order → Bool} {os : List Order} where
  rows_append : {rs ss xs ys : List Allocation} → Rows kept os rs ss → Rows kept os xs ys → Rows kept os (rs ++ xs) (ss ++ ys)
  rows_append no_rows t = t
  rows_append (row b r) t = row b (rows_append r t)

  -- they use up the same shares
  rows_used : {rs ss : List Allocation} → Rows kept os rs ss → total used rs ≡ total used ss
  rows_used no_rows = refl
  rows_used (row b r) = ap₂ ◌+◌ (same_sum b) (rows_used r)

  -- they give the same executions
  rows_executions : {rs ss : List Allocation} → Rows kept os rs ss → executions_of os rs ≡ executions_of (filter kept os) ss
  unfolding executions_of
  rows_executions no_rows = refl
  rows_executions (row {price = price} {g = g} b r) = ap₂ ◌++◌ (same_executions b (paragraph_number g) price) (rows_executions r)

  -- they take the same from those that are kept, and nothing from the others
  rows_losses : {rs ss : List Allocation} → Rows kept os rs ss → Beside no_interest kept os (losses_of os rs) (losses_of (filter kept os) ss)
  unfolding losses_of
  rows_losses no_rows = record { entry = λ o. no_interest; of_all = refl; of_kept = refl; of_others = λ o m e. refl }
  rows_losses (row {v = v} b r) =
      let l = rows_losses r in
      record {
        entry = λ o. together (only_of v (b.entry o)) (l.entry o);
        of_all = rw (b.of_all, l.of_all, map-map (only_of v) b.entry os) (zip_both together (λ o. only_of v (b.entry o)) l.entry os);
        of_kept = rw (b.of_kept, l.of_kept, map-map (only_of v) b.entry (filter kept os)) (zip_both together (λ o. only_of v (b.entry o)) l.entry (filter kept os));
        of_others = λ o m e. rw (only_none v (b.entry o) (b.of_others o m e), l.of_others o m e);
      }

-- Orders in rising number.
module _ (lot : ℕ) (alg : Algorithm) (t : Taker) (os : List Order) (rise : rising 0 os ≡ true) where
  -- the taker's security
  abbrev kept : Order → Bool
  kept = of_security t.security

  -- an order of another has no part
  part_nothing : (price : ℕ) (g : Group) (o : Order) → kept o ≡ false → Nothing (part_of t price g o)
  part_nothing price g o e = rw (part_out t price g o (rw e)) (refl, refl)

  allotment_beside : (price : ℕ) (g : Paragraph) (left : ℕ)
      → Beside 0 kept os (allocation_at lot alg t os price g left).allotment (allocation_at lot alg t (filter kept os) price g left).allotment
  unfolding allocation_at
  allotment_beside price g left =
      let part = part_of t price (group_of lot alg g) in
      let none = part_nothing price (group_of lot alg g) in
      let same = by_zeros 0 (map part os) (parts_rising t price (group_of lot alg g) 0 os rise) (thin_kept {kept = kept} part none os) (method_of alg g) lot left in
      record {
        entry = λ o. same.share (part o);
        of_all = same.whole ∙ map-map same.share part os;
        of_kept = same.kept ∙ map-map same.share part (filter kept os);
        of_others = λ o m e. same.zero (part o) (Memᴰ.map part m) (none o e).0;
      }

  rows_at : (price : ℕ) (gs : List Paragraph) (left : ℕ) → Rows kept os (allocations_at lot alg t os price gs left) (allocations_at lot alg t (filter kept os) price gs left)
  unfolding allocations_at allocation_at
  rows_at price [] left = no_rows
  rows_at price (g ∷ gs) left =
      let b = allotment_beside price g left in
      let x = left - used (allocation_at lot alg t os price g left) in
      row b (subst (λ (n : ℕ). Rows kept os (allocations_at lot alg t os price gs x) (allocations_at lot alg t (filter kept os) price gs (left - n)))
      (same_sum b) (rows_at price gs x))

  rows_over : (prices : List ℕ) (left : ℕ) → Rows kept os (allocations_over lot alg t os prices left) (allocations_over lot alg t (filter kept os) prices left)
  unfolding allocations_over
  rows_over [] left = no_rows
  rows_over (price ∷ prices) left =
      let r = rows_at price paragraphs left in
      let x = left - total used (allocations_at lot alg t os price paragraphs left) in
      rows_append r
      (subst (λ (n : ℕ). Rows kept os (allocations_over lot alg t os prices x) (allocations_over lot alg t (filter kept os) prices (left - n)))
      (rows_used r) (rows_over prices x))

  -- the price levels are those of the security's orders
  levels_kept : price_levels t os ≡ price_levels t (filter kept os)
  unfolding price_levels
  levels_kept = rw (sym (filter_kept kept (is_tradable t) (λ o e. rw e) os))

-- What a take gives the orders of its security, and leaves the others.
module _ (lot : ℕ) (alg : Algorithm) (i : Incoming) (os : List Order) (rise : rising 0 os ≡ true) where
  -- the orders of its security
  abbrev own : List Order → List Order
  own = filter (of_security i.taker.security)

  rows : Rows (of_security i.taker.security) os (allocations lot alg i os) (allocations lot alg i (own os))
  unfolding allocations
  rows = rw (sym (levels_kept lot alg i.taker os rise)) (rows_over lot alg i.taker os rise (price_levels i.taker os) i.size.0)

  -- what is left of an order
  after : Order → Order
  after o = settled ((rows_losses rows).entry o) o

  left : filter is_resting (zip_with settled (losses_of os (allocations lot alg i os)) os) ≡ filter is_resting (map after os)
  unfolding after
  left = rw (rows_losses rows).of_all (ap (filter is_resting) (zip_self settled (rows_losses rows).entry os))

  -- the executions are those of the take on the orders of its security
  pub outcome_executions : (outcome lot alg i os).executions ≡ (outcome lot alg i (own os)).executions
  unfolding outcome
  outcome_executions = rows_executions rows

  -- so are the shares left
  pub outcome_left : (outcome lot alg i os).left ≡ (outcome lot alg i (own os)).left
  unfolding outcome
  outcome_left = ap (λ n. i.size.0 - n) (rows_used rows)

  -- and so are the orders of the security afterwards
  pub outcome_orders : own (outcome lot alg i os).orders ≡ (outcome lot alg i (own os)).orders
  unfolding outcome after
  outcome_orders =
      ap own left ∙ settled_for after (λ o. settled_security ((rows_losses rows).entry o) o) i.taker.security os
      ∙ rw (rows_losses rows).of_kept (ap (filter is_resting) (sym (zip_self settled (rows_losses rows).entry (own os))))

  -- the orders of every other stay as they are
  pub outcome_others : Every OrderSound os → (j : ℕ) → ¬ (j ≡ i.taker.security) → filter (of_security j) (outcome lot alg i os).orders ≡ filter (of_security j) os
  unfolding outcome after
  outcome_others h j n =
      ap (filter (of_security j)) left
      ∙ settled_others after (λ o. settled_security ((rows_losses rows).entry o) o) j os h
      (λ o m e. rw ((rows_losses rows).of_others o m (other_security j i.taker.security n o e)) (settled_nothing o (every_member OrderSound os h o m)))
