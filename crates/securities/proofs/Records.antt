-- The records of a security and its orders.
use Prim.Native.Nat.{ℕ, ◌≤◌}
use mathlib.Core.Path.{◌≡◌, sym, ap, ◌∙◌}
use mathlib.Core.Bool.{true}
use mathlib.Core.List.{List, map}
use lib.ListN.{length, get_or}
use lib.Dec.{eqb}
use Rattle.units.specs.Lists.{filter}
use Rattle.units.proofs.Members.{Every, every_member}
use Rattle.orders.specs.declared.order.Order.{Order}
use Rattle.orders.specs.Trading.{of_security}
use Rattle.record.specs.Record.{encode_order, decode_order, order_of, can_tell}
use Rattle.record.proofs.Numbers.{AreBytes}
use Rattle.record.proofs.Reading.{from_one, decode_at}
use Rattle.record.proofs.Orders.{OrderSound}
use Rattle.record.proofs.Records.{new_laws, decode_order_lem}
use Rattle.book.specs.Sound.{form, occupied, records_in, sound, orders_of, book_of}
use Rattle.book.specs.Lookup.{orders_for}
use Rattle.book.specs.Securities.{is_record_of, records_for}
use Rattle.book.proofs.Books.{occupied_book, sound_told}
use Rattle.book.proofs.Restoring.{records_orders_in}
use Rattle.book.proofs.Soundness.{orders_sound}
use Rattle.securities.proofs.Filters.{filter_map}

-- byte 21 of a record is the security of its order
security_read : (r : List ℕ) → (decode_order form r).security ≡ get_or r 21 0
unfolding order_of
security_read r = rw (decode_at form.layout r) (from_one 21 r)

-- a record of a security is that of an order of the security
pub record_of : (k : ℕ) (r : List ℕ) → is_record_of k r ≡ of_security k (decode_order form r)
record_of k r = ap (λ n. eqb n k) (sym (security_read r))

-- the orders of a security are those of its records
pub orders_for_lem : (k : ℕ) (s : List ℕ) → orders_for k s ≡ map (decode_order form) (records_for k s)
unfolding orders_of
orders_for_lem k s =
    filter_map (of_security k) (is_record_of k) (decode_order form) (occupied (records_in form s)) (λ r m. sym (record_of k r))

-- equal records of a security are of equal orders
pub same_orders : (k : ℕ) (s t : List ℕ) → records_for k s ≡ records_for k t → orders_for k s ≡ orders_for k t
same_orders k s t e = orders_for_lem k s ∙ ap (map (decode_order form)) e ∙ sym (orders_for_lem k t)

-- the records of a security among those of sound orders
filter_records : (k : ℕ) (os : List Order) → Every OrderSound os → filter (is_record_of k) (map (encode_order form) os) ≡ map (encode_order form) (filter (of_security k) os)
filter_records k os h =
    filter_map (is_record_of k) (of_security k) (encode_order form) os
    (λ o m. record_of k (encode_order form o) ∙ ap (of_security k) (decode_order_lem form new_laws o (every_member OrderSound os h o m)
    (every_member (λ p. can_tell form p ≡ true) os (sound_told os h) o m)))

-- the records of a security in the book of sound orders are those of its orders
pub records_book : (k capacity : ℕ) (os : List Order) → length os ≤ capacity → Every OrderSound os
    → records_for k (book_of capacity os) ≡ map (encode_order form) (filter (of_security k) os)
unfolding book_of
records_book k capacity os fit h =
    ap (filter (is_record_of k)) (occupied_book form new_laws capacity os fit) ∙ filter_records k os h

-- and so they are in a sound book
pub records_sound : (k : ℕ) (s : List ℕ) → sound s ≡ true → AreBytes s → records_for k s ≡ map (encode_order form) (orders_for k s)
unfolding sound orders_of
records_sound k s e b =
    ap (filter (is_record_of k)) (records_orders_in form new_laws s e b) ∙ filter_records k (orders_of s) (orders_sound s e).each
