-- A sound book is the book of its orders, in any form of record, and in the new one.
use Prim.Native.Nat.{ℕ, zero, suc, ◌-◌, ◌*◌}
use mathlib.Core.Path.{◌≡◌, sym, ap, ◌∙◌}
use mathlib.Core.Bool.{Bool, true, false, cond}
use mathlib.Core.List.{List, [], ◌∷◌, map, append_assoc}
use native.Mathlib.Omega.{arith}
use native.Mathlib.Nat.{sub-zero, mul-zero, mul-suc}
use lib.ListN.{length, take, drop, length-drop, take-append-drop}
use lib.Seq.{length-take-le}
use Rattle.units.specs.Lists.{all, flat_map, is_zero}
use Rattle.units.proofs.Tests.{and_true}
use Rattle.orders.specs.declared.order.Order.{Order}
use Rattle.record.specs.Record.{OrderForm, order_bytes, encode_order, decode_order, record_sound}
use Rattle.record.proofs.Numbers.{AreBytes, bytes_take, bytes_drop}
use Rattle.record.proofs.Records.{FormLaws, new_laws, encode_order_lem}
use Rattle.book.specs.Sound.{form, is_unused, occupied, behind}
use Rattle.book.specs.Sound.{first_records, records_in, capacity_in, orders_in, sound_in, book_in, sound, orders_of, book_of, capacity_of}
use Rattle.book.proofs.Soundness.{book_facts, orders_fit_in, capacity_bytes_in}
use Rattle.book.proofs.Books.{occupied_book}
use Rattle.book.proofs.Zeros.{zeros, records_zeros}

-- Books of any form of record.
module _ (f : OrderForm) (laws : FormLaws f) where
  -- the records of a buffer, written back: those that orders have and the zeros behind
  write_back : (n : ℕ) (s : List ℕ) → AreBytes s → length s ≡ order_bytes f * n → all (record_sound f) (occupied (first_records f n s)) ≡ true
      → all (all is_zero) (behind (first_records f n s)) ≡ true → book_in f n (map (decode_order f) (occupied (first_records f n s))) ≡ s
  write_back zero [] b l e z = rw (mul-zero (order_bytes f))
  write_back zero (x ∷ s) b l e z = absurd (omega (arith, mul-zero (order_bytes f)))
  write_back (suc n) s b l e z =
      go (is_unused r) e z
      (λ k y. write_back n t (bytes_drop (order_bytes f) s b) (length-drop (order_bytes f) s ∙ omega (arith, mul-suc (order_bytes f) n)) k y)
    where
      r : List ℕ
      r = take (order_bytes f) s

      t : List ℕ
      t = drop (order_bytes f) s

      rs : List (List ℕ)
      rs = first_records f n t

      os : List Order
      os = map (decode_order f) (occupied rs)

      go : (u : Bool) → all (record_sound f) (cond u [] (r ∷ occupied rs)) ≡ true → all (all is_zero) (cond u (r ∷ rs) (behind rs)) ≡ true
          → (all (record_sound f) (occupied rs) ≡ true → all (all is_zero) (behind rs) ≡ true → book_in f n os ≡ t)
          → book_in f (suc n) (map (decode_order f) (cond u [] (r ∷ occupied rs))) ≡ s
      go true e z ih = ap (λ k. zeros (order_bytes f * k)) (sub-zero (suc n)) ∙ sym (records_zeros f (suc n) s l z)
      go false e z ih =
          let a = and_true (record_sound f r) (all (record_sound f) (occupied rs)) e in
          let k : suc n - suc (length os) ≡ n - length os = omega arith in
          let m : length r ≡ order_bytes f = length-take-le (order_bytes f) s (omega (arith, mul-suc (order_bytes f) n)) in
          let o = encode_order_lem f laws r a.0 (bytes_take (order_bytes f) s b) m in
          rw (k, o, append_assoc r (flat_map (encode_order f) os) (zeros (order_bytes f * (n - length os))), ih a.1 z)
          (take-append-drop (order_bytes f) s)

  module _ (s : List ℕ) (e : sound_in f s ≡ true) (b : AreBytes s) where
    -- a sound book is that of its orders
    pub book_orders_in : book_in f (capacity_in f s) (orders_in f s) ≡ s
    book_orders_in =
        let h = book_facts f s e in
        write_back (capacity_in f s) s b (sym (capacity_bytes_in f s e)) h.records h.unused

    -- its occupied records are theirs
    pub records_orders_in : occupied (records_in f s) ≡ map (encode_order f) (orders_in f s)
    records_orders_in =
        ap (λ x. occupied (records_in f x)) (sym book_orders_in) ∙ occupied_book f laws (capacity_in f s) (orders_in f s) (orders_fit_in f s)

-- a sound book of the new form is that of its orders
pub book_orders : (s : List ℕ) → sound s ≡ true → AreBytes s → book_of (capacity_of s) (orders_of s) ≡ s
unfolding sound book_of orders_of
book_orders s e b = book_orders_in form new_laws s e b
