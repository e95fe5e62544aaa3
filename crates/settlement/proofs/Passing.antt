-- The orders of records lose their shares in one pass: what holds when the first i have lost theirs, and one turn.
use Prim.Native.Nat.{ℕ, zero, suc, ◌+◌, ◌-◌, ◌*◌, ◌≤◌, ◌<◌}
use mathlib.Core.Path.{◌≡◌, refl, sym, ap, ◌∙◌}
use mathlib.Core.Bool.{true, false}
use mathlib.Core.List.{List, [], ◌∷◌, ◌++◌, append-nil, append_assoc}
use native.Mathlib.Omega.{arith}
use native.Mathlib.Numerals.{add-one}
use lib.ListN.{length, get_or, take, drop, replicate, length-append, length-replicate}
use lib.Seq.{take_all}
use Rattle.units.specs.Lists.{filter, flat_map, zip_with}
use Rattle.units.proofs.Totals.{flat_last, filter_append}
use Rattle.orders.specs.declared.order.Order.{Order}
use Rattle.orders.specs.Order.{interest, settled, is_resting}
use Rattle.orders.specs.Losses.{losses_in}
use Rattle.record.specs.Codec.{replaced}
use Rattle.record.specs.Record.{encode_order, decode_order, record_sound}
use Rattle.record.proofs.Filling.{Filled, filled_none, filled_same, filled_more, filled_done}
use Rattle.book.specs.Sound.{form, first_orders, order_at}
use Rattle.book.proofs.Books.{length_order, length_orders}
use Rattle.book.proofs.Access.{first_count, first_get, first_sound}
use Rattle.settlement.specs.Moves.{moves_of}
use Rattle.settlement.specs.Losing.{RecordAt, Records, left_at, left_in, closed_up}
use Rattle.settlement.proofs.Moving.{moves_gone, moves_front, moves_more}

-- the first i orders as they are left, those without shares among them
abbrev pub left_to : List ℕ → List ℕ → List Order → ℕ → List Order
left_to shown hidden os i = zip_with settled (losses_in i shown hidden) (take i os)

-- one order more
left_suc : (i : ℕ) (shown hidden : List ℕ) (os : List Order) (d e : ℕ) (z : Order)
    → i < length shown → i < length hidden → i < length os
    → left_to shown hidden os (suc i) ≡ left_to shown hidden os i ++ (settled (interest (get_or shown i d) (get_or hidden i e)) (get_or os i z) ∷ [])
left_suc i [] hidden os d e z h k l = absurd (omega arith)
left_suc i (s ∷ shown) [] os d e z h k l = absurd (omega arith)
left_suc i (s ∷ shown) (t ∷ hidden) [] d e z h k l = absurd (omega arith)
left_suc zero (s ∷ shown) (t ∷ hidden) (o ∷ os) d e z h k l = refl
left_suc (suc i) (s ∷ shown) (t ∷ hidden) (o ∷ os) d e z h k l =
    ap (λ r. settled (interest s t) o ∷ r) (left_suc i shown hidden os d e z (omega arith) (omega arith) (omega arith))

-- Bytes s that begin with n records, and what their orders lose.
module _ (s : List ℕ) (n : ℕ) (shown hidden : List ℕ) where
  -- the first i orders as they are left
  abbrev pub lefts : ℕ → List Order
  lefts = left_to shown hidden (first_orders n s)

  -- those of them that still rest
  abbrev pub rests : ℕ → List Order
  rests i = filter is_resting (lefts i)

  -- The first i orders have lost their shares, `kept` of them still rest, and as many records have moved as `moves` says: bytes b begin with
  -- the records of those that rest, and are as they were from the next order on.
  pub record Passed (b : List ℕ) (i kept moves : ℕ) : Type 0 where
    pub begun : Records s n shown hidden
    pub few : kept ≤ i
    pub within : i ≤ n
    pub many : i ≡ length (lefts i)
    pub count : kept ≡ length (rests i)
    pub moved : moves ≡ moves_of (lefts i)
    pub bytes : Filled (flat_map (encode_order form) (rests i)) (40 * i) s b

-- before the first order nothing has changed
pub passed_none : {s shown hidden : List ℕ} {n : ℕ} → Records s n shown hidden → Passed s n shown hidden s 0 0 0
passed_none {s} g = record {
  begun = g;
  few = omega arith;
  within = omega arith;
  many = refl;
  count = refl;
  moved = refl;
  bytes = filled_none s;
}

module _ {s shown hidden b : List ℕ} {n i kept moves : ℕ} (p : Passed s n shown hidden b i kept moves) where
  -- the records of the orders that still rest
  pub front_long : 40 * kept ≡ length (flat_map (encode_order form) (rests s n shown hidden i))
  front_long = ap (λ n. 40 * n) p.count ∙ sym (length_orders (rests s n shown hidden i))

  -- The next order, and what it loses.
  module _ (h : i < n) (d e : ℕ) where
    -- its record lies there
    pub record_next : RecordAt b (40 * i)
    record_next = (
      omega (arith, p.begun.room, p.bytes.long),
      ap (λ t. record_sound form (take 40 t)) p.bytes.same ∙ first_sound n s i h p.begun.each,
    )

    -- what the loss leaves of it
    abbrev left : Order
    left = left_at b (40 * i) (get_or shown i d) (get_or hidden i e)

    -- it comes behind the others
    next : lefts s n shown hidden (i + 1) ≡ lefts s n shown hidden i ++ (left ∷ [])
    next =
        let o = order_at b i in
        let here : get_or (first_orders n s) i o ≡ o = first_get n s i o h ∙ ap (λ t. decode_order form (take 40 t)) (sym p.bytes.same) in
        let g = p.begun in
        rw add-one
        (rw here at (left_suc i shown hidden (first_orders n s) d e o (omega (arith, g.shown_each)) (omega (arith, g.hidden_each)) (omega (arith, first_count n s))))

    many_next : i + 1 ≡ length (lefts s n shown hidden (i + 1))
    many_next = ap (λ k. k + 1) p.many ∙ sym (ap length next ∙ length-append (lefts s n shown hidden i) (left ∷ []))

    rests_next : rests s n shown hidden (i + 1) ≡ rests s n shown hidden i ++ filter is_resting (left ∷ [])
    rests_next = ap (filter is_resting) next ∙ filter_append is_resting (lefts s n shown hidden i) (left ∷ [])

    -- it has no shares left, and leaves
    pub passed_gone : is_resting left ≡ false → Passed s n shown hidden b (i + 1) kept moves
    passed_gone q =
        let t : rests s n shown hidden (i + 1) ≡ rests s n shown hidden i = rests_next ∙ rw (q, append-nil) in
        record {
          begun = p.begun;
          few = omega (arith, p.few);
          within = omega arith;
          many = many_next;
          count = p.count ∙ ap length (sym t);
          moved = p.moved ∙ sym (ap moves_of next ∙ moves_gone left (lefts s n shown hidden i) q);
          bytes = rw t (filled_same p.bytes (40 * (i + 1)) (omega arith));
        }

    -- It still rests.
    module _ (q : is_resting left ≡ true) where
      -- its record is written behind those of the others, and with it so many have moved
      passed_kept : {a : List ℕ} → a ≡ replaced (40 * kept) (encode_order form left) b → {m : ℕ}
          → m ≡ moves_of (lefts s n shown hidden i ++ (left ∷ [])) → Passed s n shown hidden a (i + 1) (kept + 1) m
      passed_kept w m =
          let t : rests s n shown hidden (i + 1) ≡ rests s n shown hidden i ++ (left ∷ []) = rests_next ∙ rw q in
          let r = rests s n shown hidden i in
          record {
            begun = p.begun;
            few = omega (arith, p.few);
            within = omega arith;
            many = many_next;
            count = ap (λ k. k + 1) p.count ∙ sym (ap length t ∙ length-append r (left ∷ []));
            moved = m ∙ ap moves_of (sym next);
            bytes = rw (w, t, flat_last (encode_order form) r left)
                (filled_more p.bytes (encode_order form left) (40 * (i + 1)) (omega (arith, length_order left, front_long, p.few)) (omega arith)
                (omega (arith, p.begun.room)) front_long);
          }

      -- each before it rests too: it loses its shares where it stands
      pub passed_same : i ≤ kept → {a : List ℕ} → a ≡ replaced (40 * i) (encode_order form left) b → Passed s n shown hidden a (i + 1) (kept + 1) moves
      passed_same k w =
          let e : i ≡ kept = omega (arith, p.few) in
          let l : length (lefts s n shown hidden i) ≤ length (rests s n shown hidden i) = omega (arith, p.many, p.count) in
          let os = lefts s n shown hidden i in
          passed_kept (w ∙ ap (λ j. replaced (40 * j) (encode_order form left) b) e)
          (p.moved ∙ ap moves_of (sym (append-nil os)) ∙ moves_front os [] l ∙ sym (moves_front os (left ∷ []) l ∙ rw q))

      -- one before it left: it moves up, and loses its shares on the way
      pub passed_moved : kept < i → {a : List ℕ} → a ≡ replaced (40 * kept) (encode_order form left) b
          → Passed s n shown hidden a (i + 1) (kept + 1) (moves + 1)
      passed_moved k w =
          passed_kept w (ap (λ m. m + 1) p.moved ∙ sym (moves_more left (lefts s n shown hidden i) q (omega (arith, p.count, p.many))))

  -- Every one of the n orders has lost its shares.
  module _ (e : i ≡ n) where
    -- all of them as they are left
    left_all : lefts s n shown hidden i ≡ left_in n shown hidden s
    left_all = rw (e, take_all n (first_orders n s) (omega (arith, first_count n s)))

    -- as many have moved as they say
    pub moved_done : moves ≡ moves_of (left_in n shown hidden s)
    moved_done = p.moved ∙ ap moves_of left_all

    -- zeros come in behind those that still rest
    pub passed_done : replaced (40 * kept) (replicate (40 * (n - kept)) 0) b ≡ closed_up n (filter is_resting (left_in n shown hidden s)) s
    passed_done =
        let rs = flat_map (encode_order form) (rests s n shown hidden i) in
        let new = replicate {A = ℕ} (40 * (n - kept)) 0 in
        let m : length new ≡ 40 * (n - kept) = length-replicate (40 * (n - kept)) 0 in
        let f = filled_more p.bytes new (40 * n) (omega (arith, front_long, p.few)) (omega arith) (omega (arith, p.begun.room)) front_long in
        let l : length (rs ++ new) ≡ 40 * n = length-append rs new ∙ omega (arith, front_long, p.few) in
        filled_done f l
        ∙ append_assoc rs new (drop (40 * n) s)
        ∙ ap (λ k. rs ++ (replicate {A = ℕ} (40 * (n - k)) 0 ++ drop (40 * n) s)) p.count
        ∙ ap (λ os. closed_up n (filter is_resting os) s) left_all
