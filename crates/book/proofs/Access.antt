-- Reading a book's records in any order: the order of record i, and its numbers.
use Prim.Native.Nat.{ℕ, zero, suc, ◌+◌, ◌-◌, ◌*◌, ◌≤◌, ◌<◌}
use mathlib.Core.Path.{◌≡◌, refl, sym, ap, ◌∙◌}
use mathlib.Core.Bool.{true}
use mathlib.Core.List.Memᴰ
use mathlib.Core.List.{List, [], ◌∷◌, map, Memᴰ}
use native.Mathlib.Omega.{arith}
use lib.ListN.{length, get_or, take, drop, take-append-drop}
use lib.Seq.{drop-drop, drop-cons}
use Rattle.units.specs.Lists.{all}
use Rattle.units.proofs.Tests.{and_true}
use Rattle.units.proofs.Members.{every_member, all_append}
use Rattle.orders.specs.declared.order.Order.{Order}
use Rattle.record.specs.Codec.{decode}
use Rattle.record.specs.Record.{numbers_of, decode_order, record_sound}
use Rattle.record.proofs.Records.{new_numbers}
use Rattle.record.proofs.Orders.{OrderSound}
use Rattle.book.specs.Sound.{form, first_records, sound, orders_of, first_orders, order_at}
use Rattle.book.proofs.Soundness.{book_facts, orders_sound}
use Rattle.book.proofs.Checking.{occupied_first, orders_count, orders_first}

-- record i behind the first record is the next
next_record : (s : List ℕ) (i : ℕ) → take 40 (drop (40 * i) (drop 40 s)) ≡ take 40 (drop (40 * suc i) s)
next_record s i =
    let e : 40 + 40 * i ≡ 40 * suc i = omega arith in
    ap (take 40) (drop-drop (40 * i) 40 s ∙ ap (λ k. drop k s) e)

-- the first orders are so many
pub first_count : (n : ℕ) (s : List ℕ) → length (first_orders n s) ≡ n
first_count zero s = refl
first_count (suc n) s = ap suc (first_count n (drop 40 s))

-- behind the first k records lie the others
records_behind : (k n : ℕ) (s : List ℕ) → k ≤ n → drop k (first_records form n s) ≡ first_records form (n - k) (drop (40 * k) s)
records_behind zero n s h = let e : n - 0 ≡ n = omega arith in rw e
records_behind (suc k) zero s h = absurd (omega arith)
records_behind (suc k) (suc n) s h =
    let e : 40 + 40 * k ≡ 40 * suc k = omega arith in
    let m : suc n - suc k ≡ n - k = omega arith in
    rw m (records_behind k n (drop 40 s) (omega arith) ∙ ap (first_records form (n - k)) (drop-drop (40 * k) 40 s ∙ ap (λ j. drop j s) e))

drop_map : {A B : Type 0} (f : A → B) (k : ℕ) (xs : List A) → drop k (map f xs) ≡ map f (drop k xs)
drop_map f zero xs = refl
drop_map f (suc k) [] = refl
drop_map f (suc k) (x ∷ xs) = drop_map f k xs

-- and behind the first k orders
pub first_behind : (k n : ℕ) (s : List ℕ) → k ≤ n → drop k (first_orders n s) ≡ first_orders (n - k) (drop (40 * k) s)
first_behind k n s h = drop_map (decode_order form) k (first_records form n s) ∙ ap (map (decode_order form)) (records_behind k n s h)

-- the order of record i stands at place i of the first orders
pub first_get : (n : ℕ) (s : List ℕ) (i : ℕ) (d : Order) → i < n → get_or (first_orders n s) i d ≡ order_at s i
first_get zero s i d h = absurd (omega arith)
first_get (suc n) s zero d h = refl
first_get (suc n) s (suc i) d h = first_get n (drop 40 s) i d (omega arith) ∙ ap (decode_order form) (next_record s i)

-- record i is sound where all of the first records are
pub first_sound : (n : ℕ) (s : List ℕ) (i : ℕ) → i < n → all (record_sound form) (first_records form n s) ≡ true
    → record_sound form (take 40 (drop (40 * i) s)) ≡ true
first_sound zero s i h e = absurd (omega arith)
first_sound (suc n) s zero h e = (and_true _ (all (record_sound form) (first_records form n (drop 40 s))) e).0
first_sound (suc n) s (suc i) h e =
    ap (record_sound form) (sym (next_record s i)) ∙ first_sound n (drop 40 s) i (omega arith) (and_true (record_sound form (take 40 s)) _ e).1

-- and so are those behind the first k
pub behind_sound : (k n : ℕ) (s : List ℕ) → k ≤ n → all (record_sound form) (first_records form n s) ≡ true
    → all (record_sound form) (first_records form (n - k) (drop (40 * k) s)) ≡ true
behind_sound k n s h e =
    let rs = first_records form n s in
    let w = sym (all_append (record_sound form) (take k rs) (drop k rs)) ∙ ap (all (record_sound form)) (take-append-drop k rs) ∙ e in
    rw (records_behind k n s h) at (and_true (all (record_sound form) (take k rs)) (all (record_sound form) (drop k rs)) w).1

-- what stands at a place of a list is a member of it
get_member : {A : Type 0} (xs : List A) (i : ℕ) (d : A) → i < length xs → Memᴰ (get_or xs i d) xs
get_member [] i d h = absurd (omega arith)
get_member (x ∷ xs) zero d h = Memᴰ.head refl
get_member (x ∷ xs) (suc i) d h = Memᴰ.tail (get_member xs i d (omega arith))

-- the records of a sound book's orders are sound
pub records_sound : (s : List ℕ) → sound s ≡ true → all (record_sound form) (first_records form (length (orders_of s)) s) ≡ true
unfolding sound
records_sound s e =
    ap (λ k. all (record_sound form) (first_records form k s)) (orders_count s)
    ∙ ap (all (record_sound form)) (sym (occupied_first form s))
    ∙ (book_facts form s e).records

module _ (s : List ℕ) (i : ℕ) where
  -- the order of record i stands at place i of the orders
  order_get : (d : Order) → i < length (orders_of s) → get_or (orders_of s) i d ≡ order_at s i
  order_get d h = ap (λ os. get_or os i d) (orders_first s) ∙ first_get (length (orders_of s)) s i d h

  -- it is the first of the orders from there on
  pub order_here : i < length (orders_of s) → drop i (orders_of s) ≡ order_at s i ∷ drop (suc i) (orders_of s)
  order_here h =
      let d = order_at s i in
      drop-cons (orders_of s) i d h ∙ ap (λ o. o ∷ drop (suc i) (orders_of s)) (order_get d h)

  -- it is one of the orders
  order_member : i < length (orders_of s) → Memᴰ (order_at s i) (orders_of s)
  order_member h =
      let d = order_at s i in
      Memᴰ.cast (sym (order_get d h)) (get_member (orders_of s) i d h)

  -- In a sound book.
  module _ (e : sound s ≡ true) (h : i < length (orders_of s)) where
    -- it is sound
    pub order_at_sound : OrderSound (order_at s i)
    order_at_sound = every_member OrderSound (orders_of s) (orders_sound s e).each (order_at s i) (order_member h)

    -- the numbers of record i are its numbers
    pub numbers_here : decode form.layout (take 40 (drop (40 * i) s)) ≡ numbers_of (order_at s i)
    numbers_here =
        new_numbers (take 40 (drop (40 * i) s)) (first_sound (length (orders_of s)) s i h (records_sound s e))
