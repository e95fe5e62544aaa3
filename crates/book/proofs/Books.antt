-- The book of sound orders: its length, its room, its orders, and that it is sound; in any form of record, and in the new one.
use Prim.Native.Nat.{ℕ, zero, suc, ◌+◌, ◌-◌, ◌*◌, ◌/◌, ◌%◌, ◌≤◌}
use mathlib.Core.Path.{◌≡◌, refl, sym, ap, ap₂, ◌∙◌}
use mathlib.Core.Bool.{true}
use mathlib.Core.List.{List, [], ◌∷◌, ◌++◌, map, append_assoc}
use native.Mathlib.Omega.{arith}
use native.Mathlib.Nat.{mul_comm, mul-add, mul-le-mul_left, mul-div_right, mul-mod_right}
use lib.ListN.{length, replicate, length-append, length-replicate}
use lib.Seq.{take_at, drop_at}
use Rattle.units.specs.Lists.{all, flat_map, is_zero}
use Rattle.units.proofs.Tests.{and_true, true_and}
use Rattle.units.proofs.Totals.{length_flat}
use Rattle.units.proofs.Members.{Every}
use Rattle.orders.specs.declared.order.Order.{Order}
use Rattle.record.specs.Record.{OrderForm, order_bytes, numbers_of, numbers_sound, encode_order, decode_order, can_tell, record_sound}
use Rattle.record.proofs.Orders.{OrderSound}
use Rattle.record.proofs.Records.{FormLaws, new_laws, order_begins, decode_order_lem, record_sound_lem, length_order as length-order-in}
use Rattle.book.specs.Sound.{most_orders, form, record_bytes, rising, setters_sound, occupied, behind}
use Rattle.book.specs.Sound.{first_records, records_in, capacity_in, orders_in, sound_in, book_in, sound, orders_of, book_of}
use Rattle.book.proofs.Soundness.{OrdersSound, OrdersTold, facts_book}
use Rattle.book.proofs.Zeros.{zeros, first_zeros, occupied_zeros, behind_zeros, zeros_zero}

-- Books of any form of record.
module _ (f : OrderForm) (laws : FormLaws f) where
  -- the records of orders have the bytes of the form each
  pub length_orders_in : (os : List Order) → length (flat_map (encode_order f) os) ≡ order_bytes f * length os
  length_orders_in = length_flat (encode_order f) (order_bytes f) (length-order-in f laws)

  -- the records of a book: one for each order, then zeros
  first_orders_lem : (c n : ℕ) (os : List Order) → c ≡ length os + n
      → first_records f c (flat_map (encode_order f) os ++ zeros (order_bytes f * n)) ≡ map (encode_order f) os ++ replicate n (zeros (order_bytes f))
  first_orders_lem c n [] e =
      let q : c ≡ n = omega arith in
      ap (λ k. first_records f k (zeros (order_bytes f * n))) q ∙ first_zeros f n
  first_orders_lem zero n (o ∷ os) e = absurd (omega arith)
  first_orders_lem (suc c) n (o ∷ os) e =
      let t = flat_map (encode_order f) os ++ zeros (order_bytes f * n) in
      let l = length-order-in f laws o in
      rw (append_assoc, take_at (encode_order f o) t (order_bytes f) l, drop_at (encode_order f o) t (order_bytes f) l, first_orders_lem c n os (omega arith))

  -- they are occupied as far as there are orders, and zero behind
  occupied_orders : (n : ℕ) (os : List Order)
      → occupied (map (encode_order f) os ++ replicate n (zeros (order_bytes f))) ≡ map (encode_order f) os
  occupied_orders n [] = occupied_zeros f n
  occupied_orders n (o ∷ os) = rw (order_begins f laws o, occupied_orders n os)

  behind_orders : (n : ℕ) (os : List Order)
      → behind (map (encode_order f) os ++ replicate n (zeros (order_bytes f))) ≡ replicate n (zeros (order_bytes f))
  behind_orders n [] = behind_zeros f n
  behind_orders n (o ∷ os) = rw (order_begins f laws o, behind_orders n os)

  decode_orders : (os : List Order) → Every OrderSound os → OrdersTold f os → map (decode_order f) (map (encode_order f) os) ≡ os
  decode_orders [] h t = refl
  decode_orders (o ∷ os) h t = rw (decode_order_lem f laws o h.0 t.0, decode_orders os h.1 t.1)

  records_sound : (os : List Order) → Every OrderSound os → OrdersTold f os → all (record_sound f) (map (encode_order f) os) ≡ true
  records_sound [] h t = refl
  records_sound (o ∷ os) h t = true_and (record_sound_lem f laws o h.0 t.0) (records_sound os h.1 t.1)

  -- The book of orders with room for `capacity`.
  module _ (capacity : ℕ) (os : List Order) (fit : length os ≤ capacity) where
    -- it has the bytes that it has room for
    pub length_book_in : length (book_in f capacity os) ≡ order_bytes f * capacity
    length_book_in =
        let n = order_bytes f * (capacity - length os) in
        let q : capacity ≡ length os + (capacity - length os) = omega arith in
        length-append (flat_map (encode_order f) os) (zeros n)
        ∙ ap₂ ◌+◌ (length_orders_in os) (length-replicate {A = ℕ} n 0)
        ∙ sym (mul-add (order_bytes f) (length os) (capacity - length os))
        ∙ ap (λ k. order_bytes f * k) (sym q)

    -- and the room
    pub capacity_book_in : capacity_in f (book_in f capacity os) ≡ capacity
    capacity_book_in = ap (λ n. n / order_bytes f) length_book_in ∙ mul-div_right capacity laws.some

    records_book : records_in f (book_in f capacity os) ≡ map (encode_order f) os ++ replicate (capacity - length os) (zeros (order_bytes f))
    records_book =
        ap (λ c. first_records f c (book_in f capacity os)) capacity_book_in ∙ first_orders_lem capacity (capacity - length os) os (omega arith)

    -- its occupied records are those of the orders
    pub occupied_book : occupied (records_in f (book_in f capacity os)) ≡ map (encode_order f) os
    occupied_book = ap occupied records_book ∙ occupied_orders (capacity - length os) os

    -- Of sound orders that the form tells.
    module _ (h : OrdersSound os) (t : OrdersTold f os) where
      -- its orders are these
      pub orders_book_in : orders_in f (book_in f capacity os) ≡ os
      orders_book_in = ap (map (decode_order f)) occupied_book ∙ decode_orders os h.each t

      -- it is sound
      pub sound_book_in : capacity ≤ most_orders → sound_in f (book_in f capacity os) ≡ true
      sound_book_in m =
          let n = capacity - length os in
          let l = length_book_in in
          facts_book f (book_in f capacity os) record {
            most = omega (arith, mul_comm most_orders (order_bytes f), mul-le-mul_left (order_bytes f) m);
            whole = ap (λ k. k % order_bytes f) l ∙ mul-mod_right (order_bytes f) capacity;
            records = ap (all (record_sound f)) occupied_book ∙ records_sound os h.each t;
            unused = ap (λ rs. all (all is_zero) (behind rs)) records_book ∙ ap (all (all is_zero)) (behind_orders n os) ∙ zeros_zero f n;
            rise = ap (rising 0) orders_book_in ∙ h.rise;
            setters = ap setters_sound orders_book_in ∙ h.setters;
          }

-- an order's record in the new form has 40 bytes
pub length_order : (o : Order) → length (encode_order form o) ≡ record_bytes
length_order = length-order-in form new_laws

-- and so has each of several
pub length_orders : (os : List Order) → length (flat_map (encode_order form) os) ≡ record_bytes * length os
length_orders = length_orders_in form new_laws

-- sound orders are such as the new form tells
pub sound_told : (os : List Order) → Every OrderSound os → OrdersTold form os
sound_told [] h = tt
sound_told (o ∷ os) h = ((and_true (numbers_sound (numbers_of o)) (can_tell form o) h.0).1, sound_told os h.1)

-- The book of sound orders with room for `capacity`, in the new form.
module _ (capacity : ℕ) (os : List Order) (fit : length os ≤ capacity) (h : OrdersSound os) where
  -- its orders are these
  pub orders_book : orders_of (book_of capacity os) ≡ os
  unfolding orders_of book_of
  orders_book = orders_book_in form new_laws capacity os fit h (sound_told os h.each)

  -- it is sound
  pub sound_book : capacity ≤ most_orders → sound (book_of capacity os) ≡ true
  unfolding sound book_of
  sound_book m = sound_book_in form new_laws capacity os fit h (sound_told os h.each) m
