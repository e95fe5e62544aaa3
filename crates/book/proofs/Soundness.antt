-- What a sound book has: its length, its records, and orders that are sound together.
use Prim.Native.Nat.{ℕ, zero, suc, ◌*◌, ◌%◌, ◌≤◌, ◌<◌}
use mathlib.Core.Path.{◌≡◌, refl, ap}
use mathlib.Core.Bool.{Bool, true, false, cond}
use mathlib.Core.List.{List, [], ◌∷◌, map, Memᴰ}
use native.Mathlib.Omega.{arith}
use native.Mathlib.Nat.{mul_comm, div-add-mod, div-le_of_le-mul}
use lib.ListN.{length, drop, length-map}
use lib.Dec.{leb}
use borrow.Author.Tests.{leb-true, le-leb, eqb-true, eq-eqb}
use Rattle.units.specs.Lists.{all, is_zero}
use Rattle.units.proofs.Tests.{and_true}
use Rattle.units.proofs.Members.{Every, every_member}
use Rattle.units.proofs.Facts.{chain_true, true_chain}
use Rattle.orders.specs.declared.order.Order.{Order}
use Rattle.orders.specs.Order.{minimum_of, size_of}
use Rattle.record.specs.Record.{OrderForm, order_bytes, decode_order, can_tell, record_sound}
use Rattle.record.proofs.Orders.{OrderSound, order_facts}
use Rattle.record.proofs.Records.{FormLaws, new_laws, order_sound, order_told}
use Rattle.book.specs.Sound.{most_orders, form, record_bytes, rising, setters_sound, is_unused, occupied, behind}
use Rattle.book.specs.Sound.{first_records, records_in, capacity_in, orders_in, sound_in, sound, orders_of, capacity_of}

-- orders that are sound together: each is sound, their numbers rise, and setter marks are one per side and price
pub record OrdersSound (os : List Order) : Type 0 where
  pub each : Every OrderSound os
  pub rise : rising 0 os ≡ true
  pub setters : setters_sound os ≡ true

-- a minimum is within the size, and every order has shares
pub order_shares : (os : List Order) → OrdersSound os → (o : Order) → Memᴰ o os → (minimum_of o.kind ≤ size_of o) × (0 < size_of o)
order_shares os h o m = let f = order_facts o (every_member OrderSound os h.each o m) in (f.minimum_most, f.size_least)

-- the form tells each of the orders
abbrev pub OrdersTold : OrderForm → List Order → Type 0
OrdersTold f = Every (λ o. can_tell f o ≡ true)

-- what a sound book has, and all that it takes
pub record BookFacts (f : OrderForm) (s : List ℕ) : Type 0 where
  pub most : length s ≤ most_orders * order_bytes f
  pub whole : length s % order_bytes f ≡ 0
  pub records : all (record_sound f) (occupied (records_in f s)) ≡ true
  pub unused : all (all is_zero) (behind (records_in f s)) ≡ true
  pub rise : rising 0 (orders_in f s) ≡ true
  pub setters : setters_sound (orders_in f s) ≡ true

length_occupied : (rs : List (List ℕ)) → length (occupied rs) ≤ length rs
length_occupied [] = omega arith
length_occupied (r ∷ rs) = go (is_unused r) (length_occupied rs)
  where
    go : (b : Bool) → length (occupied rs) ≤ length rs → length (cond b [] (r ∷ occupied rs)) ≤ length (r ∷ rs)
    go true h = omega arith
    go false h = omega arith

-- Books of any form of record.
module _ (f : OrderForm) where
  -- the first n records are so many
  pub length_records : (n : ℕ) (s : List ℕ) → length (first_records f n s) ≡ n
  length_records zero s = refl
  length_records (suc n) s = ap suc (length_records n (drop (order_bytes f) s))

  module _ (s : List ℕ) where
    abbrev tests : List Bool
    tests =
        is_zero (length s % order_bytes f) ∷
        all (record_sound f) (occupied (records_in f s)) ∷
        all (all is_zero) (behind (records_in f s)) ∷
        rising 0 (orders_in f s) ∷
        setters_sound (orders_in f s) ∷ []

    -- a sound book has each of the facts
    pub book_facts : sound_in f s ≡ true → BookFacts f s
    book_facts e =
        let t = chain_true (leb (length s) (most_orders * order_bytes f)) tests e in
        record {
          most = leb-true (length s) (most_orders * order_bytes f) t.0;
          whole = eqb-true (length s % order_bytes f) 0 t.1.0;
          records = t.1.1.0;
          unused = t.1.1.1.0;
          rise = t.1.1.1.1.0;
          setters = t.1.1.1.1.1.0;
        }

    -- a book with each of the facts is sound
    pub facts_book : BookFacts f s → sound_in f s ≡ true
    facts_book h =
        true_chain (leb (length s) (most_orders * order_bytes f)) tests
        (le-leb (length s) (most_orders * order_bytes f) h.most)
        (eq-eqb (length s % order_bytes f) 0 h.whole)
        h.records
        h.unused
        h.rise
        h.setters

    -- a book has room for its orders
    pub orders_fit_in : length (orders_in f s) ≤ capacity_in f s
    orders_fit_in =
        let rs = records_in f s in
        omega (arith, length-map (occupied rs) (decode_order f), length_occupied rs, length_records (capacity_in f s) s)

    module _ (e : sound_in f s ≡ true) where
      -- a sound book has room for at most 256 orders
      pub capacity_most_in : capacity_in f s ≤ most_orders
      capacity_most_in = div-le_of_le-mul (order_bytes f) (omega (arith, (book_facts e).most, mul_comm (order_bytes f) most_orders))

      -- a sound book is a whole number of records
      pub capacity_bytes_in : order_bytes f * capacity_in f s ≡ length s
      capacity_bytes_in = omega (arith, div-add-mod (length s) (order_bytes f), (book_facts e).whole)

  module _ (laws : FormLaws f) where
    records_orders : (rs : List (List ℕ)) → all (record_sound f) rs ≡ true
        → Every OrderSound (map (decode_order f) rs) × OrdersTold f (map (decode_order f) rs)
    records_orders [] e = (tt, tt)
    records_orders (r ∷ rs) e =
        let a = and_true (record_sound f r) (all (record_sound f) rs) e in
        let h = records_orders rs a.1 in
        ((order_sound f laws r a.0, h.0), (order_told f laws r a.0, h.1))

    -- the orders of a sound book are sound
    pub orders_sound_in : (s : List ℕ) → sound_in f s ≡ true → OrdersSound (orders_in f s)
    orders_sound_in s e =
        let b = book_facts s e in
        record { each = (records_orders (occupied (records_in f s)) b.records).0; rise = b.rise; setters = b.setters }

    -- and such as its form tells
    pub orders_told_in : (s : List ℕ) → sound_in f s ≡ true → OrdersTold f (orders_in f s)
    orders_told_in s e = (records_orders (occupied (records_in f s)) (book_facts s e).records).1

-- Books of the new form.
module _ (s : List ℕ) where
  -- a book has room for its orders
  pub orders_fit : length (orders_of s) ≤ capacity_of s
  unfolding orders_of
  orders_fit = orders_fit_in form s

  module _ (e : sound s ≡ true) where
    -- the orders of a sound book are sound
    pub orders_sound : OrdersSound (orders_of s)
    unfolding sound orders_of
    orders_sound = orders_sound_in form new_laws s e

    -- a sound book has room for at most 256 orders
    pub capacity_most : capacity_of s ≤ most_orders
    unfolding sound
    capacity_most = capacity_most_in form s e

    -- a sound book is a whole number of records
    pub capacity_bytes : record_bytes * capacity_of s ≡ length s
    unfolding sound
    capacity_bytes = capacity_bytes_in form s e
