-- A book turned into another form of record, in another buffer, and the two calls that do it.
use Rattle.std.specs.Prelude.{ℕ, ◌-◌, ◌*◌, ◌/◌, ◌%◌, Bool, not, ◌&&◌, ◌||◌, List, [], ◌∷◌, ◌++◌, length, take, drop, replicate, leb, ltb}
use Rattle.units.specs.Lists.{all, flat_map, is_zero}
use Rattle.orders.specs.declared.order.Order.{Order}
use Rattle.record.specs.Record.{OrderForm, new_form, old_form, order_bytes, can_tell}
use Rattle.book.specs.Sound.{most_orders, occupied, records_in, orders_in, sound_in}
use Rattle.book.specs.Refusal.{Refusals, refuse, refusal_of, Changed, changed_unless}

-- a record keeps bytes 2 to 31, behind the mark of the other form; the bytes that this form has more are zero
abbrev pub turned : OrderForm → List ℕ → List ℕ
turned to r = to.layout.mark ++ (take 30 (drop 2 r) ++ replicate (order_bytes to - 32) 0)

-- so many bytes with records so turned, and zeros behind them
abbrev pub turned_book : OrderForm → ℕ → List (List ℕ) → List ℕ
turned_book to n rs = flat_map (turned to) rs ++ replicate (n - order_bytes to * length rs) 0

-- refusal 11: an order that the target's form can't tell
abbrev pub is_untold : OrderForm → List Order → Bool
is_untold to os = not (all (can_tell to) os)

-- a target is a whole number of its records, at most 256
abbrev pub is_whole : OrderForm → ℕ → Bool
is_whole to n = leb n (most_orders * order_bytes to) && is_zero (n % order_bytes to)

-- refusal 12: it isn't, or it has fewer than there are orders
abbrev pub is_unfit : OrderForm → ℕ → ℕ → Bool
is_unfit to n orders = not (is_whole to n) || ltb (n / order_bytes to) orders

-- a conversion is refused 2, 11, 12: it is given no number
abbrev pub conversion_refusals : OrderForm → List Order → ℕ → Refusals
conversion_refusals to os n = record {
  of_call = [];
  of_book = refuse 11 (is_untold to os) ∷ refuse 12 (is_unfit to n (length os)) ∷ [];
}

-- from one form to another: the book that is read, and the target
unfoldable pub convert_call : OrderForm → OrderForm → List ℕ → List ℕ → Changed
convert_call from to s target =
    changed_unless (refusal_of (conversion_refusals to (orders_in from s) (length target)) (sound_in from s)) target
    (turned_book to (length target) (occupied (records_in from s)))

-- an old book into the new form: the new form tells every order of it, so this call is never refused 11
abbrev pub to_new_call : List ℕ → List ℕ → Changed
to_new_call = convert_call old_form new_form

-- and back
abbrev pub to_old_call : List ℕ → List ℕ → Changed
to_old_call = convert_call new_form old_form
