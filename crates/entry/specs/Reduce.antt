-- The call reduce: an order loses shares, and leaves when it has none.
use Rattle.std.specs.Prelude.{ℕ, ◌-◌, min, Bool, cond, not, ◌&&◌, List, [], ◌∷◌, map, ltb}
use Rattle.units.specs.Lists.{any, filter}
use Rattle.orders.specs.declared.order.Order.{Order}
use Rattle.orders.specs.Order.{Interest, interest, interest_of, all_shares, settled, is_resting, number_in_range, shares_in_range, security_in_range}
use Rattle.book.specs.Sound.{sound, orders_of, book_of, capacity_of}
use Rattle.book.specs.Refusal.{Refusals, refuse, refusal_of, Changed, changed_unless}
use Rattle.book.specs.Lookup.{is_named, is_unknown}

-- refusal 7: more shares than the order has, shown and hidden
abbrev pub asks_too_much : ℕ → ℕ → ℕ → Order → Bool
asks_too_much k n shares o = is_named k n o && ltb (all_shares (interest_of o)) shares

-- reduce is refused 1, 2, 3, 7
abbrev pub reduce_refusals : ℕ → ℕ → ℕ → List Order → Refusals
reduce_refusals k n shares os = record {
  of_call = refuse 1 (not (security_in_range k && number_in_range n && shares_in_range shares)) ∷ [];
  of_book = refuse 3 (is_unknown k n os) ∷ refuse 7 (any (asks_too_much k n shares) os) ∷ [];
}

-- what an order loses of each kind of interest: the non-displayed first
abbrev pub reduction : ℕ → Interest → Interest
reduction shares i = let n = min shares i.non_displayed in interest (shares - n) n

-- the order reduced, where it is the one named
abbrev pub reduced_if : Bool → ℕ → Order → Order
reduced_if b shares o = cond b (settled (reduction shares (interest_of o)) o) o

-- the orders with the named one, of its security, reduced; an order without shares leaves, and later ones move up
unfoldable pub reduced : ℕ → ℕ → ℕ → List Order → List Order
reduced k n shares os = filter is_resting (map (λ o. reduced_if (is_named k n o) shares o) os)

-- what reduce answers, and the book afterwards
unfoldable pub reduce_call : ℕ → ℕ → ℕ → List ℕ → Changed
reduce_call k n shares s =
    let os = orders_of s in
    changed_unless (refusal_of (reduce_refusals k n shares os) (sound s)) s (book_of (capacity_of s) (reduced k n shares os))
