-- Orders before the first that leaves have lost their shares where they stand, and the records from there on are closed up: the whole book.
use Prim.Native.Nat.{ℕ, zero, suc, ◌+◌, ◌-◌, ◌*◌, ◌≤◌, ◌<◌}
use mathlib.Core.Path.{◌≡◌, sym, ap, ap₂, ◌∙◌}
use mathlib.Core.Bool.{true}
use mathlib.Core.List.{List, [], ◌∷◌, ◌++◌, append_assoc}
use native.Mathlib.Omega.{arith}
use lib.ListN.{length, get_or, take, drop, replicate, length-append, length-drop, take-append-drop, replicate-append-replicate}
use lib.Seq.{drop_at, drop-drop, get_or-drop}
use Rattle.units.specs.Lists.{filter, flat_map, zip_with}
use Rattle.units.proofs.Totals.{flat_append, filter_append}
use Rattle.orders.specs.declared.order.Order.{Order}
use Rattle.orders.specs.Order.{settled, is_resting}
use Rattle.orders.specs.Losses.{losses_in}
use Rattle.record.specs.Record.{encode_order}
use Rattle.record.proofs.Numbers.{AreBytes}
use Rattle.book.specs.Sound.{form, sound, first_orders, orders_of, book_of, capacity_of}
use Rattle.book.proofs.Soundness.{orders_fit}
use Rattle.book.proofs.Zeros.{zeros}
use Rattle.book.proofs.Books.{length_orders}
use Rattle.book.proofs.Checking.{sound_fits, orders_first}
use Rattle.book.proofs.Restoring.{book_orders}
use Rattle.book.proofs.Settlement.{settle_fewer}
use Rattle.book.proofs.Access.{first_count, first_behind, behind_sound, records_sound}
use Rattle.settlement.specs.Moves.{moves_of, displaced}
use Rattle.settlement.specs.Losing.{Records, left_at, left_in, closed_up}
use Rattle.settlement.proofs.Moving.{moves_front}
use Rattle.settlement.proofs.Places.{moves_places}
use Rattle.settlement.proofs.Passing.{left_to, lefts, rests, Passed, front_long, passed_done}

-- orders as they are left: the first k, and those behind them
left_split : (k n : ℕ) (shown hidden : List ℕ) (os : List Order) → k ≤ n → k ≤ length shown → k ≤ length hidden → k ≤ length os
    → zip_with settled (losses_in n shown hidden) os
    ≡ left_to shown hidden os k ++ zip_with settled (losses_in (n - k) (drop k shown) (drop k hidden)) (drop k os)
left_split zero n shown hidden os h a b c = let m : n - 0 ≡ n = omega arith in rw m
left_split (suc k) zero shown hidden os h a b c = absurd (omega arith)
left_split (suc k) (suc n) [] hidden os h a b c = absurd (omega arith)
left_split (suc k) (suc n) (x ∷ shown) [] os h a b c = absurd (omega arith)
left_split (suc k) (suc n) (x ∷ shown) (y ∷ hidden) [] h a b c = absurd (omega arith)
left_split (suc k) (suc n) (x ∷ shown) (y ∷ hidden) (o ∷ os) h a b c =
    let m : suc n - suc k ≡ n - k = omega arith in
    rw (m, left_split k n shown hidden os (omega arith) (omega arith) (omega arith) (omega arith))

-- The first i orders have lost their shares, and all of them still rest.
module _ {s shown hidden b : List ℕ} {n i moves : ℕ} (p : Passed s n shown hidden b i i moves) where
  -- behind them lie the other records
  module _ (h : i < n) where
    pub records_behind : Records (drop (40 * i) b) (n - i) (drop i shown) (drop i hidden)
    records_behind =
        let g = p.begun in
        record {
          room = omega (arith, length-drop (40 * i) b, g.room, p.bytes.long);
          each = rw p.bytes.same (behind_sound i n s p.within g.each);
          shown_each = omega (arith, length-drop i shown, g.shown_each);
          hidden_each = omega (arith, length-drop i hidden, g.hidden_each);
        }

    -- the next order is the first of them
    pub first_behind_left : left_at (drop (40 * i) b) 0 (get_or (drop i shown) 0 0) (get_or (drop i hidden) 0 0) ≡ left_at b (40 * i) (get_or shown i 0) (get_or hidden i 0)
    first_behind_left = let e : i + 0 ≡ i = omega arith in rw (get_or-drop i shown 0 0, get_or-drop i hidden 0 0, e)

    -- all orders as they are left: those, and the ones behind
    left_both : left_in n shown hidden s ≡ lefts s n shown hidden i ++ left_in (n - i) (drop i shown) (drop i hidden) (drop (40 * i) b)
    left_both =
        let g = p.begun in
        let os = first_orders n s in
        left_split i n shown hidden os p.within (omega (arith, g.shown_each)) (omega (arith, g.hidden_each)) (omega (arith, first_count n s))
        ∙ ap (λ ps. lefts s n shown hidden i ++ zip_with settled (losses_in (n - i) (drop i shown) (drop i hidden)) ps)
        (first_behind i n s p.within ∙ ap (first_orders (n - i)) (sym p.bytes.same))

    -- as many move as move behind
    pub moves_behind_all : moves_of (left_in (n - i) (drop i shown) (drop i hidden) (drop (40 * i) b)) ≡ moves_of (left_in n shown hidden s)
    moves_behind_all =
        let l : length (lefts s n shown hidden i) ≤ length (rests s n shown hidden i) = omega (arith, p.many, p.count) in
        sym (ap moves_of left_both ∙ moves_front (lefts s n shown hidden i) (left_in (n - i) (drop i shown) (drop i hidden) (drop (40 * i) b)) l)

    -- what stands before them, and the records behind closed up, are all of them closed up
    pub closed_both : take (40 * i) b
        ++ closed_up (n - i) (filter is_resting (left_in (n - i) (drop i shown) (drop i hidden) (drop (40 * i) b))) (drop (40 * i) b)
        ≡ closed_up n (filter is_resting (left_in n shown hidden s)) s
    closed_both =
        let enc = encode_order form in
        let ps = rests s n shown hidden i in
        let xs = filter is_resting (left_in (n - i) (drop i shown) (drop i hidden) (drop (40 * i) b)) in
        let free = replicate {A = ℕ} (40 * (n - i - length xs)) 0 in
        let all : ps ++ xs ≡ filter is_resting (left_in n shown hidden s) =
        sym (ap (filter is_resting) left_both
        ∙ filter_append is_resting (lefts s n shown hidden i) (left_in (n - i) (drop i shown) (drop i hidden) (drop (40 * i) b))) in
        let front : take (40 * i) b ≡ flat_map enc ps = ap (λ k. take k b) (front_long p) ∙ p.bytes.begins in
        let k : 40 * (n - i - length xs) ≡ 40 * (n - length (ps ++ xs)) = omega (arith, length-append ps xs, p.count) in
        let m : 40 * i + 40 * (n - i) ≡ 40 * n = omega arith in
        let rest : drop (40 * (n - i)) (drop (40 * i) b) ≡ drop (40 * n) s =
        ap (drop (40 * (n - i))) p.bytes.same ∙ drop-drop (40 * (n - i)) (40 * i) s ∙ ap (λ j. drop j s) m in
        ap₂ (λ x y. x ++ (flat_map enc xs ++ (free ++ y))) front rest
        ∙ sym (append_assoc (flat_map enc ps) (flat_map enc xs) (free ++ drop (40 * n) s))
        ∙ ap₂ (λ x j. x ++ (replicate {A = ℕ} j 0 ++ drop (40 * n) s)) (sym (flat_append enc ps xs)) k
        ∙ ap (λ os. closed_up n os s) all

  -- where they are all there are, nothing is to be closed
  pub closed_none : i ≡ n → b ≡ closed_up n (filter is_resting (left_in n shown hidden s)) s
  closed_none e =
      let m : 40 * (n - i) ≡ 0 = omega arith in
      let k : 40 * i + 0 ≡ 40 * i = omega arith in
      sym (take-append-drop (40 * i) b) ∙ ap (λ j. take (40 * i) b ++ drop j b) (sym k) ∙ rw m at (passed_done p e)

-- A sound book of n orders.
module _ (s : List ℕ) (a : sound s ≡ true) (n : ℕ) (h : n ≡ length (orders_of s)) where
  -- its records are there, with a loss for each
  pub book_records : {shown hidden : List ℕ} → n ≤ length shown → n ≤ length hidden → Records s n shown hidden
  book_records x y = record { room = omega (arith, (sound_fits s a).0); each = rw h (records_sound s a); shown_each = x; hidden_each = y }

  -- the bytes behind the orders are zero
  unused : AreBytes s → drop (40 * n) s ≡ zeros (40 * (capacity_of s - n))
  unfolding book_of
  unused z =
      let rs = flat_map (encode_order form) (orders_of s) in
      rw h (ap (drop (40 * length (orders_of s))) (sym (book_orders s a z))
      ∙ drop_at rs (zeros (40 * (capacity_of s - length (orders_of s)))) (40 * length (orders_of s)) (length_orders (orders_of s)))

  -- with zeros in front of them they are those behind fewer
  closed_free : AreBytes s → (os : List Order) → length os ≤ n → closed_up n os s ≡ book_of (capacity_of s) os
  unfolding book_of
  closed_free z os l =
      let e : 40 * (n - length os) + 40 * (capacity_of s - n) ≡ 40 * (capacity_of s - length os) = omega (arith, orders_fit s) in
      ap (λ t. flat_map (encode_order form) os ++ t)
      (ap (λ t. zeros (40 * (n - length os)) ++ t) (unused z)
      ∙ replicate-append-replicate (40 * (n - length os)) (40 * (capacity_of s - n)) 0
      ∙ ap zeros e)

  -- closed up it is the book of the orders that still rest, and what stands in other places than before has moved
  pub closed_book : AreBytes s → (shown hidden : List ℕ) {b : List ℕ} {m : ℕ} → b ≡ closed_up n (filter is_resting (left_in n shown hidden s)) s
      → m ≡ moves_of (left_in n shown hidden s)
      → (b ≡ book_of (capacity_of s) (filter is_resting (zip_with settled (losses_in n shown hidden) (orders_of s))))
      × ((m ≡ moves_of (zip_with settled (losses_in n shown hidden) (orders_of s))) × (m ≡ displaced (orders_of s) (orders_of b)))
  closed_book z shown hidden {b} {m} e f =
      let ls = losses_in n shown hidden in
      let xs = filter is_resting (zip_with settled ls (orders_of s)) in
      let l : left_in n shown hidden s ≡ zip_with settled ls (orders_of s) = ap (zip_with settled ls) (ap (λ k. first_orders k s) h ∙ sym (orders_first s)) in
      let q : b ≡ book_of (capacity_of s) xs = e ∙ ap (λ os. closed_up n (filter is_resting os) s) l ∙ closed_free z xs (omega (arith, settle_fewer ls (orders_of s))) in
      let g = f ∙ ap moves_of l in
      (q, (g, g ∙ moves_places s ls a q))
