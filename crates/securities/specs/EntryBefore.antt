-- Reduce and add as they were before there were securities: an order was named by its number alone, and a new one looked at all orders.
use Rattle.std.specs.Prelude.{ℕ, Bool, false, not, ◌&&◌, ◌||◌, List, [], ◌∷◌, ◌++◌, map, length, leb, ltb, eqb}
use Rattle.units.specs.Lists.{all, any, filter, in_range}
use Rattle.units.specs.Lots.{round_lot}
use Rattle.orders.specs.declared.order.Order.{Order}
use Rattle.orders.specs.declared.order.Taker.{Taker}
use Rattle.orders.specs.Order.{minimum_of, is_displayed, price_of}
use Rattle.orders.specs.Order.{interest_of, all_shares, is_resting}
use Rattle.orders.specs.Order.{number_in_range, price_in_range, shares_in_range, minimum_in_range, reserve_in_range}
use Rattle.orders.specs.Trading.{is_opposite, within_limit, is_priced_better, as_taker}
use Rattle.book.specs.Sound.{orders_of, capacity_of}
use Rattle.book.specs.Refusal.{Refusals, refuse, refusal_of, Changed, changed_unless}
use Rattle.entry.specs.declared.admission.AddRequest.{AddRequest}
use Rattle.entry.specs.Add.{requested, is_stale}
use Rattle.entry.specs.Reduce.{reduced_if}
use Rattle.securities.specs.BookBefore.{sound_before, book_before, is_named_before, is_unknown_before}

-- refusal 7: more shares than the order has
abbrev pub asks_too_much_before : ℕ → ℕ → Order → Bool
asks_too_much_before n shares o = is_named_before n o && ltb (all_shares (interest_of o)) shares

-- reduce was refused 1, 2, 3, 7
abbrev pub reduce_refusals_before : ℕ → ℕ → List Order → Refusals
reduce_refusals_before n shares os = record {
  of_call = refuse 1 (not (number_in_range n && shares_in_range shares)) ∷ [];
  of_book = refuse 3 (is_unknown_before n os) ∷ refuse 7 (any (asks_too_much_before n shares) os) ∷ [];
}

-- the orders with the one of this number reduced
unfoldable pub reduced_before : ℕ → ℕ → List Order → List Order
reduced_before n shares os = filter is_resting (map (λ o. reduced_if (is_named_before n o) shares o) os)

-- what reduce answered, and the book afterwards
unfoldable pub reduce_before : ℕ → ℕ → List ℕ → Changed
reduce_before n shares s =
    let os = orders_of s in
    changed_unless (refusal_of (reduce_refusals_before n shares os) (sound_before s)) s (book_before (capacity_of s) (reduced_before n shares os))

-- a resting order that the taker may trade with
abbrev pub is_tradable_before : Taker → Order → Bool
is_tradable_before t o = is_opposite t.side o.side && within_limit t.side t.limit.0 (price_of o)

-- the numbers that add was given are in their ranges
abbrev pub add_in_range_before : AddRequest → Bool
add_in_range_before q =
    in_range 1 2 q.side && in_range 1 4 q.kind && number_in_range q.number && price_in_range q.price
    && shares_in_range q.size && minimum_in_range q.kind q.size q.minimum && reserve_in_range q.kind q.hidden q.refresh
    && (not (eqb q.kind 4) || eqb q.refresh q.size)

-- o is no displayed order on the new order's side, or the new order is priced strictly better
abbrev pub beats_before : Order → Order → Bool
beats_before new o = is_opposite new.side o.side || not (is_displayed o.kind) || is_priced_better new.side (price_of new) (price_of o)

-- an order set the price when it was displayed, showed a round lot or more, and was priced strictly better than every displayed order on its side
unfoldable pub sets_price_before : ℕ → Order → List Order → Bool
sets_price_before lot new os = is_displayed new.kind && leb lot (interest_of new).displayed && all (beats_before new) os

-- the new order could trade with o
abbrev pub could_trade_before : Order → Order → Bool
could_trade_before new o = is_tradable_before (as_taker new) o && leb (minimum_of o.kind) (all_shares (interest_of new))

-- add was refused 1, 2, 4, 5, 6
abbrev pub add_refusals_before : AddRequest → ℕ → List Order → Refusals
add_refusals_before q capacity os = record {
  of_call = refuse 1 (not (add_in_range_before q)) ∷ [];
  of_book =
      refuse 4 (is_stale q.number os) ∷
      refuse 5 (any (could_trade_before (requested q false)) os) ∷
      refuse 6 (leb capacity (length os)) ∷ [];
}

-- the orders with the new one last
unfoldable pub added_before : ℕ → AddRequest → List Order → List Order
added_before lot q os = os ++ (requested q (sets_price_before lot (requested q false) os) ∷ [])

-- what add answered, and the book afterwards
unfoldable pub add_before : AddRequest → List ℕ → Changed
add_before q s =
    let os = orders_of s in
    changed_unless (refusal_of (add_refusals_before q (capacity_of s) os) (sound_before s)) s (book_before (capacity_of s) (added_before round_lot q os))
