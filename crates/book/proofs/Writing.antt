-- Records that are written into a book and taken out of it: what is left is the book of the orders so changed.
use Prim.Native.Nat.{ℕ, suc, ◌+◌, ◌-◌, ◌*◌, ◌≤◌, ◌<◌}
use mathlib.Core.Path.{◌≡◌, refl, sym, ap, ◌∙◌}
use mathlib.Core.Bool.{true}
use mathlib.Core.List.{List, [], ◌∷◌, ◌++◌, append-nil, append_assoc}
use native.Mathlib.Omega.{arith}
use lib.ListN.{length, take, drop, replicate, length-append, length-drop, replicate-append-replicate}
use lib.Seq.{take_at, drop_at, drop-drop, length-take-le}
use Rattle.units.specs.Lists.{flat_map}
use Rattle.units.proofs.Totals.{flat_append}
use Rattle.orders.specs.declared.order.Order.{Order}
use Rattle.record.specs.Codec.{replaced}
use Rattle.record.specs.Record.{encode_order}
use Rattle.record.proofs.Numbers.{AreBytes}
use Rattle.book.specs.Sound.{form, sound, orders_of, book_of, capacity_of}
use Rattle.book.specs.Change.{without_record}
use Rattle.book.proofs.Soundness.{orders_fit}
use Rattle.book.proofs.Zeros.{zeros}
use Rattle.book.proofs.Books.{length_order, length_orders}
use Rattle.book.proofs.Restoring.{book_orders}

-- A part of a list of bytes, with what stands before and behind it.
module _ (a b c : List ℕ) (at n : ℕ) (before : length a ≡ at) (part : length b ≡ n) where
  behind_part : drop (at + n) (a ++ (b ++ c)) ≡ c
  behind_part = sym (drop-drop n at (a ++ (b ++ c))) ∙ ap (drop n) (drop_at a (b ++ c) at before) ∙ drop_at b c n part

  -- as many bytes take its place
  replaced_part : (new : List ℕ) → length new ≡ n → replaced at new (a ++ (b ++ c)) ≡ a ++ (new ++ c)
  replaced_part new e = rw (e, take_at a (b ++ c) at before, behind_part)

-- the records of orders, one behind another
abbrev records : List Order → List ℕ
records = flat_map (encode_order form)

-- the zeros behind so many records
abbrev free : ℕ → ℕ → List ℕ
free capacity n = zeros (40 * (capacity - n))

-- 40 zeros more are those behind one record less
module _ (capacity n m : ℕ) (less : m ≡ suc n) (fit : n < capacity) where
  free_before : zeros 40 ++ free capacity m ≡ free capacity n
  free_before =
      let e : 40 + 40 * (capacity - m) ≡ 40 * (capacity - n) = omega arith in
      replicate-append-replicate 40 (40 * (capacity - m)) 0 ∙ ap zeros e

  free_behind : free capacity m ++ zeros 40 ≡ free capacity n
  free_behind =
      let e : 40 * (capacity - m) + 40 ≡ 40 * (capacity - n) = omega arith in
      replicate-append-replicate (40 * (capacity - m)) 40 0 ∙ ap zeros e

-- A record of a book, with the orders before and behind it.
module _ (capacity : ℕ) (pre post : List Order) where
  -- what is behind it
  abbrev rest : List ℕ
  rest = records post ++ free capacity (length pre + suc (length post))

  -- the bytes of the book
  book_at : (o : Order) → book_of capacity (pre ++ (o ∷ post)) ≡ records pre ++ (encode_order form o ++ rest)
  unfolding book_of
  book_at o = rw (flat_append (encode_order form) pre (o ∷ post), length-append pre (o ∷ post)) (simp append_assoc)

  -- another order is written
  written : (o new : Order)
      → replaced (40 * length pre) (encode_order form new) (book_of capacity (pre ++ (o ∷ post))) ≡ book_of capacity (pre ++ (new ∷ post))
  written o new =
      let r = encode_order form new in
      ap (replaced (40 * length pre) r) (book_at o)
      ∙ replaced_part (records pre) (encode_order form o) rest (40 * length pre) 40 (length_orders pre) (length_order o) r (length_order new)
      ∙ sym (book_at new)

  -- the order leaves
  removed : (o : Order) → length pre + length post < capacity
      → without_record (40 * length pre) (book_of capacity (pre ++ (o ∷ post))) ≡ book_of capacity (pre ++ post)
  unfolding book_of
  removed o fit =
      let b = encode_order form o in
      rw (
        book_at o,
        take_at (records pre) (b ++ rest) (40 * length pre) (length_orders pre),
        behind_part (records pre) b rest (40 * length pre) 40 (length_orders pre) (length_order o),
        flat_append (encode_order form) pre post,
        length-append pre post,
        append_assoc (records post) (free capacity (length pre + suc (length post))) (zeros 40),
        free_behind capacity (length pre + length post) (length pre + suc (length post)) (omega arith) fit,
      ) (sym (append_assoc (records pre) (records post) (free capacity (length pre + length post))))

-- an order is written behind the others
written_last : (capacity : ℕ) (os : List Order) (new : Order) → length os < capacity
    → replaced (40 * length os) (encode_order form new) (book_of capacity os) ≡ book_of capacity (os ++ (new ∷ []))
unfolding book_of
written_last capacity os new h =
    let r = encode_order form new in
    let z = free capacity (length os + 1) in
    ap (λ t. replaced (40 * length os) r (records os ++ t)) (sym (free_before capacity (length os) (length os + 1) (omega arith) h))
    ∙ replaced_part (records os) (zeros 40) z (40 * length os) 40 (length_orders os) refl r (length_order new)
    ∙ sym (book_at capacity os [] new)

-- Records written into a sound book and taken out of it.
module _ (s : List ℕ) (e : sound s ≡ true) (b : AreBytes s) where
  module _ (pre post : List Order) (o : Order) (split : orders_of s ≡ pre ++ (o ∷ post)) where
    book : book_of (capacity_of s) (pre ++ (o ∷ post)) ≡ s
    book = ap (book_of (capacity_of s)) (sym split) ∙ book_orders s e b

    -- a record is written where an order's was
    pub write_at : (new : Order) → replaced (40 * length pre) (encode_order form new) s ≡ book_of (capacity_of s) (pre ++ (new ∷ post))
    write_at new = ap (replaced (40 * length pre) (encode_order form new)) (sym book) ∙ written (capacity_of s) pre post o new

    -- an order's record is taken out
    pub remove_at : without_record (40 * length pre) s ≡ book_of (capacity_of s) (pre ++ post)
    remove_at =
        let l = ap length split ∙ length-append pre (o ∷ post) in
        ap (without_record (40 * length pre)) (sym book) ∙ removed (capacity_of s) pre post o (omega (arith, orders_fit s))

  -- a record is written behind those of the orders
  pub write_last : (new : Order) → length (orders_of s) < capacity_of s
      → replaced (40 * length (orders_of s)) (encode_order form new) s ≡ book_of (capacity_of s) (orders_of s ++ (new ∷ []))
  write_last new h =
      ap (replaced (40 * length (orders_of s)) (encode_order form new)) (sym (book_orders s e b)) ∙ written_last (capacity_of s) (orders_of s) new h

-- The bytes behind a record move up over it, and zeros take the place of the last 40.
module _ (at : ℕ) (s x : List ℕ) (fit : at + 40 ≤ length s) (e : x ≡ replaced at (drop (at + 40) s) s) where
  -- all but the last 40
  abbrev front : List ℕ
  front = take at s ++ drop (at + 40) s

  -- the last 40
  abbrev last : List ℕ
  last = drop (at + length (drop (at + 40) s)) s

  length_front : length front ≡ length s - 40
  length_front = length-append (take at s) (drop (at + 40) s) ∙ omega (arith, length-take-le at s (omega arith), length-drop (at + 40) s)

  length_last : length last ≡ 40
  length_last = length-drop (at + length (drop (at + 40) s)) s ∙ omega (arith, length-drop (at + 40) s)

  parts : x ≡ front ++ (last ++ [])
  parts = e ∙ simp (append_assoc, append-nil)

  -- the length stays
  length_moved : length x ≡ length s
  length_moved = ap length parts ∙ simp (length-append front, append-nil) (omega (arith, length_front, length_last))

  -- the record is out
  pub put_zeros : replaced (length x - 40) (replicate 40 0) x ≡ without_record at s
  put_zeros =
      let l : length front ≡ length x - 40 = length_front ∙ ap (λ n. n - 40) (sym length_moved) in
      ap (replaced (length x - 40) (zeros 40)) parts
      ∙ replaced_part front last [] (length x - 40) 40 l length_last (zeros 40) refl
      ∙ append_assoc (take at s) (drop (at + 40) s) (zeros 40)
