-- The call add: an order is put last in the book.
use Rattle.std.specs.Prelude.{ℕ, Bool, false, not, ◌&&◌, ◌||◌, List, [], ◌∷◌, ◌++◌, length, leb, eqb}
use Rattle.units.specs.Lists.{all, any, in_range}
use Rattle.units.specs.Lots.{round_lot}
use Rattle.orders.specs.declared.order.Order.{Order}
use Rattle.orders.specs.Order.{side_of, kind_of, minimum_of, is_displayed, price_of, interest_of, all_shares}
use Rattle.orders.specs.Order.{number_in_range, price_in_range, shares_in_range, security_in_range, minimum_in_range, reserve_in_range}
use Rattle.orders.specs.Trading.{is_opposite, is_priced_better, of_security, is_tradable, as_taker}
use Rattle.entry.specs.declared.admission.AddRequest.{AddRequest}
use Rattle.book.specs.Sound.{sound, orders_of, book_of, capacity_of}
use Rattle.book.specs.Refusal.{Refusals, refuse, refusal_of, Changed, changed_unless}

-- the numbers that add is given are in their ranges, minimum, hidden shares and refresh size by the kind; add wants shown equal to refresh of a reserve order
abbrev pub request_in_range : AddRequest → Bool
request_in_range q =
    in_range 1 2 q.side && in_range 1 4 q.kind && number_in_range q.number && price_in_range q.price
    && shares_in_range q.size && minimum_in_range q.kind q.size q.minimum && reserve_in_range q.kind q.hidden q.refresh
    && (not (eqb q.kind 4) || eqb q.refresh q.size) && security_in_range q.security

-- the order that is asked for, with or without the setter mark
unfoldable pub requested : AddRequest → Bool → Order
requested q setter = record {
  side = side_of q.side;
  kind = kind_of q.kind q.minimum q.hidden q.refresh;
  number = q.number;
  price = record { 0 = q.price };
  size = record { 0 = q.size };
  setter = setter;
  security = q.security;
}

-- o is of the other security, or no displayed order on the new order's side, a reserve order counted as one, or the new order is priced
-- strictly better
abbrev pub beats : Order → Order → Bool
beats new o =
    not (of_security new.security o) || is_opposite new.side o.side || not (is_displayed o.kind) || is_priced_better new.side (price_of new) (price_of o)

-- An order sets the price when it is displayed, shows a round lot or more, and is priced strictly better than every displayed order of its
-- security on its side; so it does where there is none. Shares that a reserve order hides don't count.
unfoldable pub sets_price : ℕ → Order → List Order → Bool
sets_price lot new os = is_displayed new.kind && leb lot (interest_of new).displayed && all (beats new) os

-- the new order could trade with o: o is of its security, on the other side within its price, and o's minimum, if it has one, isn't above the
-- new order's shares, shown and hidden
abbrev pub could_trade : Order → Order → Bool
could_trade new o = is_tradable (as_taker new) o && leb (minimum_of o.kind) (all_shares (interest_of new))

-- refusal 4: the number isn't above every number in the book, of both securities
abbrev pub is_stale : ℕ → List Order → Bool
is_stale n os = any (λ o. leb n o.number) os

-- add is refused 1, 2, 4, 5, 6, the last where there is no free record in the book
abbrev pub add_refusals : AddRequest → ℕ → List Order → Refusals
add_refusals q capacity os = record {
  of_call = refuse 1 (not (request_in_range q)) ∷ [];
  of_book =
      refuse 4 (is_stale q.number os) ∷
      refuse 5 (any (could_trade (requested q false)) os) ∷
      refuse 6 (leb capacity (length os)) ∷ [];
}

-- the orders with the new one last, marked where it sets the price
unfoldable pub added : ℕ → AddRequest → List Order → List Order
added lot q os = os ++ (requested q (sets_price lot (requested q false) os) ∷ [])

-- what add answers, and the book afterwards
unfoldable pub add_call : AddRequest → List ℕ → Changed
add_call q s =
    let os = orders_of s in
    changed_unless (refusal_of (add_refusals q (capacity_of s) os) (sound s)) s (book_of (capacity_of s) (added round_lot q os))
