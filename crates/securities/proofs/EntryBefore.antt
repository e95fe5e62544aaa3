-- Reduce and add in a book of which every order is of security 0: as before there were securities.
use Prim.Native.Nat.{ℕ}
use mathlib.Core.Path.{◌≡◌, sym, ap, ◌∙◌, subst}
use mathlib.Core.Bool.{true, false, and-true, ◌&&◌}
use mathlib.Core.List.{List, Memᴰ}
use lib.Dec.{leb}
use Rattle.units.specs.Lists.{any, filter}
use Rattle.units.specs.Lots.{round_lot}
use Rattle.units.proofs.Totals.{map_same}
use Rattle.units.proofs.Members.{member_every, filter_member, filter_all}
use Rattle.orders.specs.declared.order.Order.{Order}
use Rattle.orders.specs.Order.{is_displayed, interest_of, is_resting}
use Rattle.orders.specs.declared.order.Taker.{Taker}
use Rattle.orders.specs.Trading.{of_security, is_tradable}
use Rattle.book.specs.Sound.{orders_of, capacity_of}
use Rattle.entry.specs.declared.admission.AddRequest.{AddRequest}
use Rattle.entry.specs.Add.{request_in_range, requested, sets_price, could_trade, add_refusals, added, add_call}
use Rattle.entry.specs.Reduce.{asks_too_much, reduce_refusals, reduced_if, reduced, reduce_call}
use Rattle.securities.specs.EntryBefore.{asks_too_much_before, reduce_refusals_before, reduced_before, reduce_before, is_tradable_before, add_in_range_before}
use Rattle.securities.specs.EntryBefore.{sets_price_before, could_trade_before, add_refusals_before, added_before, add_before}
use Rattle.securities.proofs.Same.{any_same, all_same}
use Rattle.securities.proofs.BookBefore.{Only, book_before_lem, sound_before_lem, named_before, unknown_before}
use Rattle.securities.proofs.Adding.{added_for}
use Rattle.securities.proofs.Reducing.{reduced_for}

-- orders made of those of one security, where the security's are made of the security's, are of that security
only_made : (k : ℕ) (f : List Order → List Order) (os : List Order) → filter (of_security k) (f os) ≡ f (filter (of_security k) os) → Only k os → Only k (f os)
only_made k f os e h o m =
    let a = filter_all (of_security k) os (member_every (λ p. of_security k p ≡ true) os h) in
    (filter_member (of_security k) (f os) o (subst (λ (l : List Order). Memᴰ o l) (sym (e ∙ ap f a)) m)).1

-- Reduce.
module _ (n shares : ℕ) where
  asks_before : (k : ℕ) (os : List Order) → Only k os → any (asks_too_much k n shares) os ≡ any (asks_too_much_before n shares) os
  asks_before k os h = any_same os (λ o m. rw (h o m))

  reduced_before_lem : (k : ℕ) (os : List Order) → Only k os → reduced k n shares os ≡ reduced_before n shares os
  unfolding reduced reduced_before
  reduced_before_lem k os h = ap (filter is_resting) (map_same os (λ o m. ap (λ b. reduced_if b shares o) (named_before k n os h o m)))

  -- its refusals are what they were
  pub reduce_refusals_before_lem : (os : List Order) → Only 0 os → reduce_refusals 0 n shares os ≡ reduce_refusals_before n shares os
  reduce_refusals_before_lem os h = rw (unknown_before 0 n os h, asks_before 0 os h)

  -- it answers as before, and leaves the same book
  pub reduce_before_lem : (s : List ℕ) → Only 0 (orders_of s) → reduce_call 0 n shares s ≡ reduce_before n shares s
  unfolding reduce_call reduce_before
  reduce_before_lem s h =
      let os = orders_of s in
      rw (
        sound_before_lem s h,
        unknown_before 0 n os h,
        asks_before 0 os h,
        book_before_lem (capacity_of s) (reduced 0 n shares os) (only_made 0 (reduced 0 n shares) os (reduced_for 0 n shares os) h),
        reduced_before_lem 0 os h,
      )

-- a resting order of the taker's security is traded with as it was
pub tradable_before : (t : Taker) (o : Order) → of_security t.security o ≡ true → is_tradable t o ≡ is_tradable_before t o
tradable_before t o e = rw e

-- Add.
module _ (q : AddRequest) where
  range_before : q.security ≡ 0 → request_in_range q ≡ add_in_range_before q
  range_before e = rw e (and-true (add_in_range_before q))

  trades_before : (os : List Order) → Only q.security os → any (could_trade (requested q false)) os ≡ any (could_trade_before (requested q false)) os
  unfolding requested
  trades_before os h = any_same os (λ o m. rw (h o m))

  sets_before : (lot : ℕ) (os : List Order) → Only q.security os → sets_price lot (requested q false) os ≡ sets_price_before lot (requested q false) os
  unfolding sets_price sets_price_before requested
  sets_before lot os h =
      let new = requested q false in
      ap (λ b. is_displayed new.kind && leb lot (interest_of new).displayed && b) (all_same os (λ o m. rw (h o m)))

  added_before_lem : (lot : ℕ) (os : List Order) → Only q.security os → added lot q os ≡ added_before lot q os
  unfolding added added_before
  added_before_lem lot os h = rw (sets_before lot os h)

  -- its refusals are what they were
  pub add_refusals_before_lem : (capacity : ℕ) (os : List Order) → q.security ≡ 0 → Only q.security os → add_refusals q capacity os ≡ add_refusals_before q capacity os
  add_refusals_before_lem capacity os e h = rw (range_before e, trades_before os h)

  -- the orders with the new one are of security 0
  pub add_only : (os : List Order) → q.security ≡ 0 → Only 0 os → Only 0 (added round_lot q os)
  add_only os e h =
      let own : Only q.security os = rw e h in
      subst (λ (k : ℕ). Only k (added round_lot q os)) e (only_made q.security (added round_lot q) os (added_for q round_lot os) own)

  -- add answers as before, and leaves the same book
  pub add_before_lem : (s : List ℕ) → q.security ≡ 0 → Only 0 (orders_of s) → add_call q s ≡ add_before q s
  unfolding add_call add_before
  add_before_lem s e h =
      let os = orders_of s in
      let own : Only q.security os = rw e h in
      rw (
        sound_before_lem s h,
        range_before e,
        trades_before os own,
        book_before_lem (capacity_of s) (added round_lot q os) (add_only os e h),
        added_before_lem round_lot os own,
      )
