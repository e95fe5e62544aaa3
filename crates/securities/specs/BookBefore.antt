-- Books, check and find as they were before there were securities: byte 21 of a record was zero, and no test looked at it.
use Rattle.std.specs.Prelude.{ℕ, suc, ◌-◌, ◌*◌, ◌%◌, Bool, true, cond, not, ◌&&◌, List, [], ◌∷◌, ◌++◌, length, get_or, replicate, leb, eqb}
use Rattle.units.specs.Lists.{all, any, flat_map, in_range, or_zero, is_zero}
use Rattle.orders.specs.declared.order.Order.{Order}
use Rattle.orders.specs.Order.{side_number, kind_number, minimum_of, hidden_of, refresh_of, price_of, size_of}
use Rattle.orders.specs.Order.{number_in_range, reserve_in_range}
use Rattle.record.specs.Codec.{encode}
use Rattle.record.specs.Record.{OrderForm, record_sound}
use Rattle.book.specs.declared.Checked.{Checked}
use Rattle.book.specs.declared.Found.{Found}
use Rattle.book.specs.Sound.{most_orders, form, record_bytes, occupied, behind, records_in, rising, orders_of}
use Rattle.book.specs.Refusal.{Refusals, refuse, refusal_of, is_accepted}

-- a record told kinds 1 to 4 as it does now; bytes 21 to 23 were zero
unfoldable pub tells_before : List ℕ → Bool
tells_before ns =
    in_range 1 4 (get_or ns 1 0)
    && is_zero (get_or ns 7 0)
    && is_zero (get_or ns 8 0)
    && reserve_in_range (get_or ns 1 0) (get_or ns 10 0) (get_or ns 11 0)

-- records were laid out as they are
abbrev pub form_before : OrderForm
form_before = record { layout = form.layout; tells = tells_before }

-- both have the setter mark, at one side and price
abbrev pub same_setter_before : Order → Order → Bool
same_setter_before a b = a.setter && b.setter && eqb (side_number a.side) (side_number b.side) && eqb (price_of a) (price_of b)

-- at most one order per side and price had it
abbrev pub setters_before : List Order → Bool
setters_before [] = true
setters_before (o ∷ os) = not (any (same_setter_before o) os) && setters_before os

-- a book was sound as it is now, but for byte 21 and the setter marks
unfoldable pub sound_before : List ℕ → Bool
sound_before s =
    leb (length s) (most_orders * record_bytes)
    && is_zero (length s % record_bytes)
    && all (record_sound form_before) (occupied (records_in form s))
    && all (all is_zero) (behind (records_in form s))
    && rising 0 (orders_of s)
    && setters_before (orders_of s)

-- an order's record, byte 21 zero
unfoldable pub encode_before : Order → List ℕ
encode_before o =
    encode form.layout
    (side_number o.side ∷ kind_number o.kind ∷ o.number ∷ price_of o ∷ size_of o ∷ minimum_of o.kind ∷ or_zero o.setter 1 ∷
    0 ∷ 0 ∷ 0 ∷ hidden_of o.kind ∷ refresh_of o.kind ∷ [])

-- the book of orders, zeros behind them
unfoldable pub book_before : ℕ → List Order → List ℕ
book_before capacity os = flat_map encode_before os ++ replicate (record_bytes * (capacity - length os)) 0

-- check was given no number, and gave the number of orders
unfoldable pub check_before : List ℕ → Checked
check_before s =
    let r = refusal_of (record { of_call = []; of_book = [] }) (sound_before s) in
    record { refusal = r; orders = or_zero (is_accepted r) (length (orders_of s)) }

-- an order was named by its number
abbrev pub is_named_before : ℕ → Order → Bool
is_named_before n o = eqb o.number n

-- refusal 3: no order has the number
abbrev pub is_unknown_before : ℕ → List Order → Bool
is_unknown_before n os = not (any (is_named_before n) os)

-- how many orders stand before the one of this number
abbrev pub place_before : ℕ → List Order → ℕ
place_before n [] = 0
place_before n (o ∷ os) = cond (is_named_before n o) 0 (suc (place_before n os))

-- find was refused 1, 2, 3
abbrev pub find_refusals_before : ℕ → List Order → Refusals
find_refusals_before n os = record {
  of_call = refuse 1 (not (number_in_range n)) ∷ [];
  of_book = refuse 3 (is_unknown_before n os) ∷ [];
}

-- and answered with the place of the order's record
unfoldable pub find_before : ℕ → List ℕ → Found
find_before n s =
    let r = refusal_of (find_refusals_before n (orders_of s)) (sound_before s) in
    record {
      refusal = r;
      start = or_zero (is_accepted r) (record_bytes * place_before n (orders_of s));
      length = or_zero (is_accepted r) record_bytes;
    }
