-- Reduce keeps to its security.
use Prim.Native.Nat.{ℕ, ◌≤◌}
use mathlib.Core.Path.{◌≡◌, refl, ap}
use mathlib.Core.Bool.{Bool, true, false}
use mathlib.Core.List.{List, map}
use native.Mathlib.Omega.{arith}
use lib.ListN.{length}
use Rattle.units.specs.Lists.{any, filter}
use Rattle.units.proofs.Members.{Every}
use Rattle.orders.specs.declared.order.Order.{Order}
use Rattle.orders.specs.Order.{interest_of}
use Rattle.orders.specs.Trading.{of_security}
use Rattle.record.proofs.Orders.{OrderSound}
use Rattle.record.proofs.Settling.{settled_security}
use Rattle.book.specs.Sound.{orders_of, capacity_of}
use Rattle.book.specs.Lookup.{is_named, is_unknown}
use Rattle.book.specs.Securities.{NonInterfering, LeavesOthers}
use Rattle.book.proofs.Soundness.{orders_sound, orders_fit}
use Rattle.book.proofs.Settlement.{settle_fewer}
use Rattle.entry.specs.Reduce.{asks_too_much, reduce_refusals, reduction, reduced_if, reduced, reduce_call}
use Rattle.entry.proofs.Reducing.{reduction_of, reduced_settled, reduce_accepted, reduce_orders_sound}
use Rattle.securities.specs.Calls.{reduce_on}
use Rattle.securities.proofs.Filters.{any_kept}
use Rattle.securities.proofs.Refusing.{alike}
use Rattle.securities.proofs.Keeping.{Keeping, Changing, same_of, keeps, same_records, leaves}
use Rattle.securities.proofs.Looking.{unknown_for}
use Rattle.securities.proofs.Settling.{other_security, settled_for, settled_others}

module _ (k n shares : ℕ) where
  -- the orders of its security
  abbrev own : List Order → List Order
  own = filter (of_security k)

  -- what is left of an order
  abbrev after : Order → Order
  after o = reduced_if (is_named k n o) shares o

  same_security_lem : (o : Order) → (after o).security ≡ o.security
  same_security_lem o = go (is_named k n o)
    where
      go : (b : Bool) → (reduced_if b shares o).security ≡ o.security
      go true = settled_security (reduction shares (interest_of o)) o
      go false = refl

  -- the order that is named is reduced among those of its security
  pub reduced_for : (os : List Order) → own (reduced k n shares os) ≡ reduced k n shares (own os)
  unfolding reduced
  reduced_for os = settled_for after same_security_lem k os

  -- and no others are
  reduced_others : (os : List Order) → Every OrderSound os → (j : ℕ) → ¬ (j ≡ k) → filter (of_security j) (reduced k n shares os) ≡ filter (of_security j) os
  unfolding reduced
  reduced_others os h j m = settled_others after same_security_lem j os h (λ o i e. rw (other_security j k m o e))

  -- the shares asked for are looked at there
  abbrev asks : List Order → Bool
  asks = any (asks_too_much k n shares)

  asks_for : (os : List Order) → asks os ≡ asks (own os)
  asks_for os = any_kept (of_security k) (asks_too_much k n shares) (λ o e. rw e) os

  room : (s : List ℕ) → Every OrderSound (orders_of s) → length (reduced k n shares (orders_of s)) ≤ capacity_of s
  room s h =
      omega (arith, ap length (reduced_settled k n shares (orders_of s) h), settle_fewer (map (reduction_of k n shares) (orders_of s)) (orders_of s), orders_fit s)

  -- reduce changes the orders of its security alone
  pub reduce_changing : Changing k (reduce_on k n shares)
  unfolding reduce_call
  reduce_changing = record {
    orders = λ s. reduced k n shares (orders_of s);
    book = λ s. refl;
    roomy = λ s e.
        let b = (reduce_accepted k n shares s e).book in
        record { is_sound = b; fit = room s (orders_sound s b).each; each = (reduce_orders_sound k n shares s e).each };
    own = λ s t b. same_of (λ os. own (reduced k n shares os)) (reduced k n shares) (λ os h. reduced_for os) b;
    others = λ s e. reduced_others (orders_of s) (orders_sound s e).each;
  }

  -- and looks at these alone
  pub reduce_keeping : Keeping k (λ s. reduce_refusals k n shares (orders_of s)) (reduce_on k n shares)
  unfolding reduce_call
  reduce_keeping = record {
    refusal = λ s. refl;
    alike = λ s t b. record {
      of_call = (alike refl, tt);
      of_book = (alike (same_of (is_unknown k n) (is_unknown k n) (λ os h. unknown_for k n os) b), (alike (same_of asks asks (λ os h. asks_for os) b), tt));
    };
    records = same_records reduce_changing;
    others = λ s t b r i. refl;
  }

  -- reduce on two sound books with equal records of the security gives the same and leaves the same records of it
  pub reduce_keeps : NonInterfering k (reduce_on k n shares)
  reduce_keeps = keeps reduce_keeping

  -- and leaves every other security's records as they were
  pub reduce_others : LeavesOthers k (reduce_on k n shares)
  reduce_others = leaves reduce_changing
