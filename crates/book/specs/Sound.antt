-- A book's bytes: its records, what makes them sound, the orders that they hold, and the bytes of a list of orders.
use Rattle.std.specs.Prelude.{ℕ, ◌-◌, ◌*◌, ◌/◌, ◌%◌, Bool, true, cond, not, ◌&&◌, List, [], ◌∷◌, ◌++◌, map, length, get_or, take, drop, replicate, leb, ltb, eqb}
use Rattle.units.specs.Lists.{all, any, flat_map, is_zero}
use Rattle.orders.specs.declared.order.Order.{Order}
use Rattle.orders.specs.Order.{side_number, price_of}
use Rattle.record.specs.Codec.{records_of}
use Rattle.record.specs.Record.{OrderForm, new_form, order_bytes, encode_order, decode_order, record_sound}

-- a book has room for at most 256 orders
abbrev pub most_orders : ℕ
most_orders = 256

-- in strictly rising order number, above m
abbrev pub rising : ℕ → List Order → Bool
rising m [] = true
rising m (o ∷ os) = ltb m o.number && rising o.number os

-- both have the setter mark, in one security at one side and price
abbrev pub same_setter : Order → Order → Bool
same_setter a b =
    a.setter && b.setter && eqb a.security b.security && eqb (side_number a.side) (side_number b.side) && eqb (price_of a) (price_of b)

-- at most one order per security, side and price has the setter mark
abbrev pub setters_sound : List Order → Bool
setters_sound [] = true
setters_sound (o ∷ os) = not (any (same_setter o) os) && setters_sound os

-- orders fill the front: a record whose first byte is zero ends them
abbrev pub is_unused : List ℕ → Bool
is_unused r = is_zero (get_or r 0 0)

-- the records before it, those of the orders
abbrev pub occupied : List (List ℕ) → List (List ℕ)
occupied [] = []
occupied (r ∷ rs) = cond (is_unused r) [] (r ∷ occupied rs)

-- that record and all behind it
abbrev pub behind : List (List ℕ) → List (List ℕ)
behind [] = []
behind (r ∷ rs) = cond (is_unused r) (r ∷ rs) (behind rs)

-- Books of any form of record.
module _ (f : OrderForm) where
  -- the first n records of a buffer
  abbrev pub first_records : ℕ → List ℕ → List (List ℕ)
  first_records n s = records_of f.layout n s

  -- how many records a buffer has room for
  abbrev pub capacity_in : List ℕ → ℕ
  capacity_in s = length s / order_bytes f

  -- all its records
  abbrev pub records_in : List ℕ → List (List ℕ)
  records_in s = first_records (capacity_in s) s

  -- the orders of a book, in the order of their records
  abbrev pub orders_in : List ℕ → List Order
  orders_in s = map (decode_order f) (occupied (records_in s))

  -- A book is a whole number of records, at most 256 of them. Its orders' records are sound, every byte behind them is zero, their
  -- numbers rise over both securities, and setter marks are one per security, side and price. Buys and sells may overlap in price.
  abbrev pub sound_in : List ℕ → Bool
  sound_in s =
      leb (length s) (most_orders * order_bytes f)
      && is_zero (length s % order_bytes f)
      && all (record_sound f) (occupied (records_in s))
      && all (all is_zero) (behind (records_in s))
      && rising 0 (orders_in s)
      && setters_sound (orders_in s)

  -- a book with room for `capacity` orders that has these, zeros behind them
  abbrev pub book_in : ℕ → List Order → List ℕ
  book_in capacity os = flat_map (encode_order f) os ++ replicate (order_bytes f * (capacity - length os)) 0

  -- the orders of the first n records
  abbrev pub first_orders_in : ℕ → List ℕ → List Order
  first_orders_in n s = map (decode_order f) (first_records n s)

-- the form of a book's records: 40 bytes, so a book is 0 to 10,240 bytes
abbrev pub form : OrderForm
form = new_form

abbrev pub record_bytes : ℕ
record_bytes = order_bytes form

unfoldable pub sound : List ℕ → Bool
sound s = sound_in form s

unfoldable pub orders_of : List ℕ → List Order
orders_of s = orders_in form s

unfoldable pub book_of : ℕ → List Order → List ℕ
book_of capacity os = book_in form capacity os

abbrev pub capacity_of : List ℕ → ℕ
capacity_of s = capacity_in form s

abbrev pub first_orders : ℕ → List ℕ → List Order
first_orders n s = first_orders_in form n s

-- the order of record i, counted from 0
abbrev pub order_at : List ℕ → ℕ → Order
order_at s i = decode_order form (take record_bytes (drop (record_bytes * i) s))
