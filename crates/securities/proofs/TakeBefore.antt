-- Take in a book of which every order is of security 0: as before there were securities.
use Prim.Native.Nat.{ℕ}
use mathlib.Core.Path.{◌≡◌, ap, ◌∙◌}
use mathlib.Core.Bool.{and-true}
use mathlib.Core.List.{List, Memᴰ}
use lib.Dec.{eqb}
use Rattle.units.specs.Lists.{filter, zip_with}
use Rattle.units.specs.Lots.{round_lot}
use Rattle.units.proofs.Members.{filter_member}
use Rattle.orders.specs.declared.order.Order.{Order}
use Rattle.orders.specs.declared.order.Taker.{Taker}
use Rattle.orders.specs.Order.{Interest, settled, is_resting}
use Rattle.orders.specs.Trading.{of_security, is_tradable}
use Rattle.record.proofs.Settling.{settled_security}
use Rattle.book.specs.Sound.{orders_of, capacity_of}
use Rattle.matching.specs.declared.Algorithm.{Algorithm}
use Rattle.matching.specs.declared.TakeRequest.{TakeRequest}
use Rattle.matching.specs.declared.incoming.Incoming.{Incoming}
use Rattle.matching.specs.Levels.{price_levels}
use Rattle.matching.specs.Paragraph.{algorithm_of, Group, part_of}
use Rattle.matching.specs.Take.{allocations, losses_of, outcome}
use Rattle.matching.specs.TakeCall.{request_in_range, incoming_of, outcome_of, take_refusals, take_call}
use Rattle.matching.proofs.Losses.{zip_beside, beside_member}
use Rattle.securities.specs.TakeBefore.{price_levels_before, part_before, outcome_before, take_in_range_before, take_refusals_before, take_before}
use Rattle.matching.proofs.WayBy.{levels_by_lem}
use Rattle.securities.proofs.Same.{filter_same}
use Rattle.securities.proofs.BookBefore.{Only, book_before_lem, sound_before_lem}
use Rattle.securities.proofs.EntryBefore.{tradable_before}

-- orders that lose shares keep their security
pub only_settled : (k : ℕ) (ls : List Interest) (os : List Order) → Only k os → Only k (filter is_resting (zip_with settled ls os))
only_settled k ls os h p m =
    let z = zip_beside settled ls os p (filter_member is_resting (zip_with settled ls os) p m).0 in
    ap (of_security k) z.3 ∙ ap (λ n. eqb n k) (settled_security z.1 z.0) ∙ h z.0 (beside_member z.2)

-- Orders of the taker's security.
module _ (t : Taker) (os : List Order) (h : Only t.security os) where
  -- have the parts that they had
  part_before_lem : (price : ℕ) (g : Group) (o : Order) → Memᴰ o os → part_before t price g o ≡ part_of t price g o
  unfolding part_of part_before
  part_before_lem price g o m = rw (h o m)

  -- and the price levels
  prices_before : price_levels t os ≡ price_levels_before t os
  unfolding price_levels price_levels_before
  prices_before = rw (filter_same {p = is_tradable t} os (λ o m. tradable_before t o (h o m)))

-- the outcome is what it was
pub outcome_before_lem : (lot : ℕ) (alg : Algorithm) (i : Incoming) (os : List Order) → Only i.taker.security os
    → outcome lot alg i os ≡ outcome_before lot alg i os
unfolding outcome outcome_before allocations
outcome_before_lem lot alg i os h =
    let t = i.taker in
    rw (prices_before t os h, levels_by_lem lot alg t (part_before t) os (part_before_lem t os h) (price_levels_before t os) i.size.0)

-- Take.
module _ (q : TakeRequest) where
  range_before : q.security ≡ 0 → request_in_range q ≡ take_in_range_before q
  range_before e = rw e (and-true (take_in_range_before q))

  pub orders_before : (os : List Order) → Only 0 os → Only 0 (outcome round_lot (algorithm_of q.algorithm) (incoming_of q) os).orders
  unfolding outcome
  orders_before os h = only_settled 0 (losses_of os (allocations round_lot (algorithm_of q.algorithm) (incoming_of q) os)) os h

  -- its refusals are what they were
  pub take_refusals_before_lem : (os : List Order) (x : List ℕ) → q.security ≡ 0 → Only q.security os
      → take_refusals q (outcome_of q os).executions x
      ≡ take_refusals_before q (outcome_before round_lot (algorithm_of q.algorithm) (incoming_of q) os).executions x
  unfolding outcome_of
  take_refusals_before_lem os x e h = rw (range_before e, outcome_before_lem round_lot (algorithm_of q.algorithm) (incoming_of q) os h)

  -- take answers as before, and leaves the same buffers
  pub take_before_lem : (s x : List ℕ) → q.security ≡ 0 → Only 0 (orders_of s) → take_call q s x ≡ take_before q s x
  unfolding take_call take_before outcome_of
  take_before_lem s x e h =
      let os = orders_of s in
      let alg = algorithm_of q.algorithm in
      let own : Only q.security os = rw e h in
      rw (
        sound_before_lem s h,
        range_before e,
        book_before_lem (capacity_of s) (outcome round_lot alg (incoming_of q) os).orders (orders_before os h),
        outcome_before_lem round_lot alg (incoming_of q) os own,
      )
