-- A reduce never refreshes, and an accepted one leaves a sound book with the named order reduced.
use Prim.Native.Nat.{ℕ, zero, suc, ◌-◌, ◌≤◌, ◌<◌, min}
use mathlib.Core.Path.{◌≡◌, refl, sym, ap, ap₂, subst⁻¹, ◌∙◌}
use mathlib.Core.Bool.{Bool, true, false, cond}
use mathlib.Core.List.{List, [], ◌∷◌, map}
use native.Mathlib.Omega.{arith}
use lib.ListN.{length}
use Rattle.units.specs.Lists.{filter, zip_with}
use Rattle.units.proofs.Members.{Every}
use Rattle.orders.specs.declared.order.Kind.{Kind}
use Rattle.orders.specs.declared.order.Kind.TheVariants.{Displayed, NonDisplayed, MinimumQuantity, Reserve}
use Rattle.orders.specs.declared.order.Order.{Order}
use Rattle.orders.specs.Order.{Interest, interest, no_interest, less, interest_by, interest_of, size_of, refreshed, size_from, kind_from, with_interest, settled, is_resting}
use Rattle.orders.proofs.Interests.{refreshed_some}
use Rattle.record.proofs.Orders.{OrderSound, order_facts}
use Rattle.record.proofs.Settling.{settled_nothing}
use Rattle.book.specs.Sound.{sound, orders_of, capacity_of}
use Rattle.book.specs.Lookup.{is_named}
use Rattle.book.proofs.Soundness.{OrdersSound, orders_sound, orders_fit}
use Rattle.book.proofs.Settlement.{settle_sound, settle_fewer}
use Rattle.book.proofs.Refusing.{Accepted, accepted}
use Rattle.book.proofs.Changing.{changed_orders, changed_sound}
use Rattle.entry.specs.Reduce.{reduce_refusals, reduction, reduced_if, reduced, reduce_call}

-- nothing is shown anew where something is shown or nothing is hidden
not_refreshed : (r s h : ℕ) → (s ≡ 0 → h ≡ 0) → refreshed r (interest s h) ≡ interest s h
not_refreshed r zero h k = let e = k refl in ap₂ interest (omega arith) (omega arith)
not_refreshed r (suc s) h k = sym (refreshed_some r (suc s) h (λ e. omega arith))

reduced_by : (shares : ℕ) (k : Kind) (size : ℕ) → 1 ≤ size
    → let i = less (interest_by k size) (reduction shares (interest_by k size)) in
    interest_by (kind_from k i) (size_from k i) ≡ i
reduced_by shares Displayed size l = ap₂ interest refl (omega arith)
reduced_by shares NonDisplayed size l = ap₂ interest (omega arith) refl
reduced_by shares (MinimumQuantity m) size l = ap₂ interest (omega arith) refl
reduced_by shares (Reserve h r) size l = not_refreshed r.0 (size - (shares - min shares h.0)) (h.0 - min shares h.0) (λ e. omega arith)

module _ (shares : ℕ) (o : Order) (e : OrderSound o) where
  -- A reduce never refreshes: a sound order is left with what it showed and what it hid, each less what it loses.
  pub reduce_leaves : interest_of (settled (reduction shares (interest_of o)) o) ≡ less (interest_of o) (reduction shares (interest_of o))
  unfolding settled with_interest
  reduce_leaves = reduced_by shares o.kind (size_of o) (order_facts o e).size_least

  -- it shows fewer shares than before only where it hides none
  pub reduce_hides_none : (interest_of (settled (reduction shares (interest_of o)) o)).displayed < (interest_of o).displayed
      → (interest_of (settled (reduction shares (interest_of o)) o)).non_displayed ≡ 0
  reduce_hides_none = rw reduce_leaves (λ l. omega arith)

module _ (k n shares : ℕ) where
  -- what each order loses: only the named one loses shares
  abbrev pub reduction_of : Order → Interest
  reduction_of o = cond (is_named k n o) (reduction shares (interest_of o)) no_interest

  reduced_if_lem : (b : Bool) (o : Order) → OrderSound o → reduced_if b shares o ≡ settled (cond b (reduction shares (interest_of o)) no_interest) o
  reduced_if_lem true o h = refl
  reduced_if_lem false o h = sym (settled_nothing o h)

  each_reduced : (os : List Order) → Every OrderSound os → map (λ o. reduced_if (is_named k n o) shares o) os ≡ zip_with settled (map reduction_of os) os
  each_reduced [] h = refl
  each_reduced (o ∷ os) h = ap₂ (λ p ps. p ∷ ps) (reduced_if_lem (is_named k n o) o h.0) (each_reduced os h.1)

  -- to reduce an order is to settle the orders with what it loses
  pub reduced_settled : (os : List Order) → Every OrderSound os → reduced k n shares os ≡ filter is_resting (zip_with settled (map reduction_of os) os)
  unfolding reduced
  reduced_settled os h = ap (filter is_resting) (each_reduced os h)

  -- An accepted reduce.
  module _ (s : List ℕ) (e : (reduce_call k n shares s).refusal ≡ 0) where
    -- its book is sound, and none of its refusals holds
    pub reduce_accepted : Accepted (reduce_refusals k n shares (orders_of s)) (sound s)
    unfolding reduce_call
    reduce_accepted = accepted (reduce_refusals k n shares (orders_of s)) (sound s) refl e

    settling : reduced k n shares (orders_of s) ≡ filter is_resting (zip_with settled (map reduction_of (orders_of s)) (orders_of s))
    settling = reduced_settled (orders_of s) (orders_sound s reduce_accepted.book).each

    -- the orders that it leaves are sound
    pub reduce_orders_sound : OrdersSound (reduced k n shares (orders_of s))
    reduce_orders_sound =
        subst⁻¹ OrdersSound settling (settle_sound (map reduction_of (orders_of s)) (orders_of s) (orders_sound s reduce_accepted.book))

    room : length (reduced k n shares (orders_of s)) ≤ capacity_of s
    room = omega (arith, ap length settling, settle_fewer (map reduction_of (orders_of s)) (orders_of s), orders_fit s)

    -- the book has them
    pub reduce_orders : orders_of (reduce_call k n shares s).book ≡ filter is_resting (zip_with settled (map reduction_of (orders_of s)) (orders_of s))
    unfolding reduce_call
    reduce_orders =
        changed_orders (reduce_call k n shares s).refusal s (reduced k n shares (orders_of s)) e reduce_accepted.book reduce_orders_sound room ∙ settling

    -- the book is sound
    pub reduce_sound : sound (reduce_call k n shares s).book ≡ true
    unfolding reduce_call
    reduce_sound =
        changed_sound (reduce_call k n shares s).refusal s (reduced k n shares (orders_of s)) e reduce_accepted.book reduce_orders_sound room
