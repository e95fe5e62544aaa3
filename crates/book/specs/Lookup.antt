-- The calls that only read: check and find.
use Rattle.std.specs.Prelude.{ℕ, suc, ◌*◌, Bool, cond, not, ◌&&◌, List, [], ◌∷◌, length, take, drop, eqb}
use Rattle.units.specs.Lists.{any, filter, or_zero}
use Rattle.orders.specs.declared.order.Order.{Order}
use Rattle.orders.specs.Order.{number_in_range, security_in_range}
use Rattle.orders.specs.Trading.{of_security}
use Rattle.book.specs.declared.Checked.{Checked}
use Rattle.book.specs.declared.Found.{Found}
use Rattle.book.specs.Sound.{record_bytes, sound, orders_of}
use Rattle.book.specs.Refusal.{Refusals, refuse, refusal_of, is_accepted}

-- the orders of a security, in the order of the book
abbrev pub orders_for : ℕ → List ℕ → List Order
orders_for k s = filter (of_security k) (orders_of s)

-- check is refused 1, 2
abbrev pub check_refusals : ℕ → Refusals
check_refusals k = record { of_call = refuse 1 (not (security_in_range k)) ∷ []; of_book = [] }

-- check gives the number of the security's orders
unfoldable pub check_call : ℕ → List ℕ → Checked
check_call k s =
    let r = refusal_of (check_refusals k) (sound s) in
    record { refusal = r; orders = or_zero (is_accepted r) (length (orders_for k s)) }

-- the order of the security that has the number
abbrev pub is_named : ℕ → ℕ → Order → Bool
is_named k n o = of_security k o && eqb o.number n

-- refusal 3: no order of the security has the number
abbrev pub is_unknown : ℕ → ℕ → List Order → Bool
is_unknown k n os = not (any (is_named k n) os)

-- how many orders, of both securities, stand before the one that is named
abbrev pub place_of : ℕ → ℕ → List Order → ℕ
place_of k n [] = 0
place_of k n (o ∷ os) = cond (is_named k n o) 0 (suc (place_of k n os))

-- find is refused 1, 2, 3
abbrev pub find_refusals : ℕ → ℕ → List Order → Refusals
find_refusals k n os = record {
  of_call = refuse 1 (not (security_in_range k && number_in_range n)) ∷ [];
  of_book = refuse 3 (is_unknown k n os) ∷ [];
}

-- find answers with the place of the order's own record in the book
unfoldable pub find_call : ℕ → ℕ → List ℕ → Found
find_call k n s =
    let r = refusal_of (find_refusals k n (orders_of s)) (sound s) in
    record {
      refusal = r;
      start = or_zero (is_accepted r) (record_bytes * place_of k n (orders_of s));
      length = or_zero (is_accepted r) record_bytes;
    }

-- The part of the book that find answers with. A refused find's is empty; where an empty part lies the scope leaves free, and here it is
-- the book's start.
abbrev pub found_part : Found → List ℕ → List ℕ
found_part f s = take f.length (drop f.start s)
