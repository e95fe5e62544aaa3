-- An incoming order on its way through the keys: what holds between two groups, one step, and where the way ends.
use Prim.Native.Nat.{ℕ, suc, ◌+◌, ◌-◌, ◌≤◌, ◌<◌}
use mathlib.Core.Path.{◌≡◌, refl, sym, ap, ◌∙◌}
use mathlib.Core.List.{List, [], ◌∷◌, ◌++◌, map, append_assoc, append-nil}
use native.Mathlib.Omega.{arith}
use native.Mathlib.Nat.{sub-zero}
use native.Mathlib.Decide.{dec_lt}
use lib.ListN.{length, get_or, take, drop, length-append, length-map, length-drop, take-append-drop, drop_of_length-le}
use lib.Seq.{length-take-le, get_or-take, get_or-drop, take-add, drop-drop, drop-cons, take_all}
use Rattle.units.specs.Lists.{sum, total}
use Rattle.units.proofs.Totals.{total_append, total_map}
use Rattle.units.proofs.Members.{Every, every_split, every_weaken}
use Rattle.ordering.specs.Sorted.{Rising}
use Rattle.orders.specs.declared.order.Taker.{Taker}
use Rattle.matching.specs.declared.Algorithm.{Algorithm}
use Rattle.matching.specs.declared.incoming.Incoming.{Incoming}
use Rattle.book.specs.Sound.{orders_of, order_at}
use Rattle.book.proofs.Soundness.{OrdersSound, orders_sound}
use Rattle.book.proofs.Checking.{sound_fits}
use Rattle.parts.specs.Key.{group_in, place_in, shares_in}
use Rattle.allocation.specs.Walk.{Walks, shared_by}
use Rattle.allocation.specs.Stretch.{group_at, Parted, Whole, Ends}
use Rattle.allocation.specs.Credit.{Ledger, left_in, logged, Room, Credited}
use Rattle.allocation.specs.Ready.{Ascending, Stands, Ready}
use Rattle.allocation.specs.Sharing.{Book, Shared, Walked}
use Rattle.allocation.proofs.Gets.{fills_none, executions_none, got_within, sum_none}
use Rattle.allocation.proofs.Crediting.{credited_none, credited_append, room_after}
use Rattle.allocation.proofs.Stretches.{key_size, stretch_few}
use Rattle.allocation.proofs.Enough.{ready_split}
use Rattle.allocation.proofs.Dividing.{book_beside, shared_within, shared_length}
use Rattle.allocation.proofs.Passing.{fill_walks}

-- what holds at every place holds of every key
index_every : (P : ℕ → Type 0) (xs : List ℕ) → ((i : ℕ) → i < length xs → P (get_or xs i 0)) → Every P xs
index_every P [] h = tt
index_every P (x ∷ xs) h = (h 0 (omega arith), index_every P xs (λ i l. h (suc i) (omega arith)))

-- keys that ascend rise
ascending_from : (m : ℕ) (keys : List ℕ) → Every (λ k. m < k) keys → Ascending keys → Rising m keys
ascending_from m [] h a = tt
ascending_from m (k ∷ keys) h a = (omega (arith, h.0), ascending_from k keys a.0 a.1)

ascending_rising : (keys : List ℕ) → Ascending keys → Rising 0 keys
ascending_rising [] a = tt
ascending_rising (k ∷ keys) a = (omega arith, ascending_from k keys a.0 a.1)

-- no group lies on both sides of a place
parted_every : (keys : List ℕ) (k : ℕ) → k ≤ length keys → Parted keys k → Every (λ x. Every (λ y. group_in x < group_in y) (drop k keys)) (take k keys)
parted_every keys k l p =
    index_every _ (take k keys) (λ i h.
    let a : i < k = omega (arith, length-take-le k keys l) in
    rw (get_or-take k keys i 0 a)
    (index_every _ (drop k keys) (λ j m.
    rw (get_or-drop k keys j 0) (p i (k + j) a (omega arith) (omega (arith, length-drop k keys))))))

-- Keys of a book, the ledger at the start, and how far it has come before the key at a place.
module _ (s keys : List ℕ) (lot : ℕ) (alg : Algorithm) (t : Taker) (start : Ledger) where
  pub record Way (at : ℕ) (now : Ledger) : Type 0 where
    pub got : List ℕ
    pub many : length got ≡ at
    pub within : at ≤ length keys
    pub credited : Credited alg (take at keys) got start now
    pub room : Room (drop at keys) now
    pub parted : Parted keys at
    pub comes : (more : List ℕ) → Walks (order_at s) lot alg (drop at keys) (left_in now) more → Walks (order_at s) lot alg keys (left_in start) (got ++ more)

  -- before the first
  pub way_none : Room keys start → Way 0 start
  way_none r = record {
    got = [];
    many = refl;
    within = omega arith;
    credited = credited_none start;
    room = r;
    parted = λ i j h k l. absurd (omega arith);
    comes = λ more w. w;
  }

  module _ (bk : Book s lot alg t keys) where
    ready_from : (k : ℕ) → Ready (order_at s) (length (orders_of s)) lot alg t (drop k keys)
    ready_from k = (ready_split (take k keys) (drop k keys) (rw (sym (take-append-drop k keys)) at bk.ready)).1

    ready_slice : (k n : ℕ) → Ready (order_at s) (length (orders_of s)) lot alg t (take n (drop k keys))
    ready_slice k n = (ready_split (take n (drop k keys)) (drop n (drop k keys)) (rw (sym (take-append-drop n (drop k keys))) at (ready_from k))).0

    -- some keys more, which get these shares
    module _ {at : ℕ} {now : Ledger} (w : Way at now) (n : ℕ) (l : n ≤ length (drop at keys)) (gets : List ℕ) (many : length gets ≡ n)
        (fits : sum gets ≤ left_in now) (parts : Parted keys (at + n)) {then : Ledger} (c : Credited alg (take n (drop at keys)) gets now then)
        (walks : (more : List ℕ) → Walks (order_at s) lot alg (drop n (drop at keys)) (left_in now - sum gets) more
        → Walks (order_at s) lot alg (drop at keys) (left_in now) (gets ++ more)) where
      way_more : Way (at + n) then
      way_more = record {
        got = w.got ++ gets;
        many = omega (arith, length-append w.got gets, w.many);
        within = omega (arith, length-drop at keys, w.within);
        credited =
            rw (take-add at n keys)
            (credited_append w.credited c (omega (arith, w.many, length-take-le at keys w.within)));
        room = rw (sym (drop-drop n at keys)) (room_after {keys = take n (drop at keys)} (rw (take-append-drop n (drop at keys)) w.room) c fits);
        parted = parts;
        comes = λ more v.
            let e : left_in then ≡ left_in now - sum gets = ap (λ (i : Incoming). i.size.0) c.left in
            rw (append_assoc w.got gets more) (w.comes (gets ++ more) (walks more (rw (sym (drop-drop n at keys), e) at v)));
      }

    os : OrdersSound (orders_of s)
    os = orders_sound s bk.is_sound

    -- whole groups are filled
    module _ {at : ℕ} {now : Ledger} (w : Way at now) {n : ℕ} (h : Whole (drop at keys) (left_in now) n) where
      -- no group lies on both sides of where they end
      whole_parted : Parted keys (at + n)
      whole_parted i j a b c = go (dec_lt i at)
        where
          go : Dec (i < at) → group_at keys i < group_at keys j
          go (yes d) = w.parted i j d (omega arith) c
          go (no d) =
              let e : at + (i - at) ≡ i = omega arith in
              let f : at + (j - at) ≡ j = omega arith in
              let x = h.parted (i - at) (j - at) (omega arith) (omega arith) (omega (arith, length-drop at keys)) in
              rw (get_or-drop at keys (i - at) 0, get_or-drop at keys (j - at) 0, e, f) at x

      front_total : sum (map shares_in (take n (drop at keys))) ≡ total shares_in (take n (drop at keys))
      front_total = total_map (λ x. x) shares_in (take n (drop at keys))

      pub way_fill : {then : Ledger} → Credited alg (take n (drop at keys)) (map shares_in (take n (drop at keys))) now then → Way (at + n) then
      way_fill c =
          let xs = take n (drop at keys) in
          let ys = drop n (drop at keys) in
          way_more w n h.within (map shares_in xs) (length-map xs shares_in ∙ length-take-le n (drop at keys) h.within)
          (omega (arith, front_total, h.fits)) whole_parted c
          (λ more v.
          rw (take-append-drop n (drop at keys)) at
          (fill_walks lot bk.has_lot alg t (order_at s) (orders_of s) os (sound_fits s bk.is_sound).1 (book_beside s) xs ys more (ready_slice at n)
          (parted_every (drop at keys) n h.within h.parted) (left_in now) h.fits (rw front_total at v)))

    -- the keys of a group that doesn't fit
    module _ {at end : ℕ} (e : Ends keys at end) where
      abbrev slice : List ℕ
      slice = take (end - at) (drop at keys)

      abbrev first : ℕ
      first = get_or keys at 0

      abbrev others : List ℕ
      others = take (end - at - 1) (drop (suc at) keys)

      slice_are : slice ≡ first ∷ others
      slice_are =
          let n : end - at ≡ suc (end - at - 1) = omega (arith, e.some) in
          ap (λ k. take k (drop at keys)) n ∙ ap (take (suc (end - at - 1))) (drop-cons keys at 0 (omega (arith, e.some, e.within)))

      slice_long : end - at ≤ length (drop at keys)
      slice_long = omega (arith, e.within, length-drop at keys)

      others_long : end - at - 1 ≤ length (drop (suc at) keys)
      others_long = omega (arith, e.within, e.some, length-drop (suc at) keys)

      others_same : Every (λ k. group_in k ≡ group_in first) others
      others_same =
          index_every _ others (λ i h.
          let a : i < end - at - 1 = omega (arith, length-take-le (end - at - 1) (drop (suc at) keys) others_long) in
          rw (get_or-take (end - at - 1) (drop (suc at) keys) i 0 a, get_or-drop (suc at) keys i 0) (e.same (suc at + i) (omega arith) (omega arith)))

      pub slice_shared : {left : ℕ} → 0 < left → left < total shares_in slice → Shared slice left
      slice_shared p m = record { first = first; others = others; are = slice_are; same = others_same; some = p; more = m }

      pub slice_book : Book s lot alg t slice
      slice_book = record {
        is_sound = bk.is_sound;
        has_lot = bk.has_lot;
        ready = ready_slice at (end - at);
        few = omega (arith, length-take-le (end - at) (drop at keys) slice_long, length-drop at keys, bk.few);
      }

      -- it has no more keys than the book has orders
      pub group_few : end - at ≤ length (orders_of s)
      group_few =
          let r = rw slice_are at (ready_slice at (end - at)) in
          let f = stretch_few lot alg t (order_at s) (orders_of s) os (sound_fits s bk.is_sound).1 (book_beside s) first others r others_same in
          omega (arith, f, sym (length-take-le (end - at) (drop at keys) slice_long), ap length slice_are)

      -- it gets what its paragraph gives it
      pub way_share : {now : Ledger} → Way at now → Shared slice (left_in now) → {then : Ledger}
          → Credited alg slice (shared_by (order_at s) lot alg (group_in (get_or slice 0 0)) slice (left_in now)) now then → Way end then
      way_share {now} w sh {then} c =
          let n : at + (end - at) ≡ end = omega (arith, e.some) in
          let shares = shared_by (order_at s) lot alg (group_in (get_or slice 0 0)) slice (left_in now) in
          let l = shared_length t slice_book sh in
          rw n at
          (way_more w (end - at) slice_long shares (l ∙ length-take-le (end - at) (drop at keys) slice_long) (shared_within t slice_book sh)
          (rw n e.parted) c
          (λ more v. rw (take-append-drop (end - at) (drop at keys)) at (go slice slice_are more v)))
        where
          later : List ℕ
          later = drop (end - at) (drop at keys)

          behind : Every (λ q. group_in first < group_in q) later
          behind =
              index_every _ later (λ j m.
              let f : at + (end - at + j) ≡ end + j = omega (arith, e.some) in
              rw (get_or-drop (end - at) (drop at keys) j 0, get_or-drop at keys (end - at + j) 0, f)
              (e.parted at (end + j) e.some (omega arith) (omega (arith, length-drop (end - at) (drop at keys), length-drop at keys, e.some))))

          shared : List ℕ → List ℕ
          shared xs = shared_by (order_at s) lot alg (group_in (get_or xs 0 0)) xs (left_in now)

          go : (xs : List ℕ) → xs ≡ first ∷ others → (more : List ℕ) → Walks (order_at s) lot alg later (left_in now - sum (shared xs)) more
              → Walks (order_at s) lot alg (xs ++ later) (left_in now) (shared xs ++ more)
          go xs q more v = rw q (Walks.next (left_in now) first others later more others_same behind (rw q at v))

    -- the group behind whole ones has more than they leave
    pub next_more : {at : ℕ} {now : Ledger} → Way at now → {n : ℕ} (h : Whole (drop at keys) (left_in now) n) {then : Ledger}
        → Credited alg (take n (drop at keys)) (map shares_in (take n (drop at keys))) now then → {end : ℕ} (e : Ends keys (at + n) end)
        → left_in then < total shares_in (take (end - (at + n)) (drop (at + n) keys))
    next_more {at} {now} w {n} h {then} c {end} e =
        let rest = drop at keys in
        let k = end - at in
        let l : n < length rest = omega (arith, e.some, e.within, length-drop at keys) in
        let most = h.most k l (λ j a q. inside j a q) in
        let parts = ap (λ m. total shares_in (take m rest)) cut ∙ ap (total shares_in) (take-add n (end - (at + n)) rest)
        ∙ total_append shares_in (take n rest) (take (end - (at + n)) (drop n rest)) in
        let left : left_in then ≡ left_in now - sum (map shares_in (take n rest)) = ap (λ (i : Incoming). i.size.0) c.left in
        rw (sym (drop-drop n at keys)) (omega (arith, front_total w h, h.fits))
      where
        cut : end - at ≡ n + (end - (at + n))
        cut = omega (arith, e.some)

        inside : (j : ℕ) → j < length (drop at keys) → group_at (drop at keys) j ≡ group_at (drop at keys) n → j < end - at
        inside j a q = go (dec_lt j (end - at))
          where
            go : Dec (j < end - at) → j < end - at
            go (yes d) = d
            go (no d) =
                let x = e.parted (at + n) (at + j) e.some (omega (arith, e.some)) (omega (arith, length-drop at keys)) in
                let y = rw (get_or-drop at keys j 0, get_or-drop at keys n 0) at q in
                absurd (omega arith)

    -- keys in front of others have room where all have
    room_front : (xs ys : List ℕ) {l : Ledger} → Room (xs ++ ys) l → Room xs l
    room_front xs ys {l} r = record {
      fills = omega (arith, r.fills, length-append xs ys);
      places = λ v. (every_split (λ k. place_in k < length (l.allotment v)) xs ys (r.places v)).0;
      bounded = r.bounded;
    }

    room_slice : {at : ℕ} {now : Ledger} → Way at now → (n : ℕ) → Room (take n (drop at keys)) now
    room_slice {at} w n = room_front (take n (drop at keys)) (drop n (drop at keys)) (rw (take-append-drop n (drop at keys)) w.room)

    -- every key has shares
    some_shares : (ks : List ℕ) → Every (Stands (order_at s) (length (orders_of s)) lot alg t) ks → Every (λ k. 0 < shares_in k) ks
    some_shares ks a =
        every_weaken (λ k x.
        let f = (sound_fits s bk.is_sound).1 in
        omega (
          arith,
          key_size lot alg t (order_at s) (orders_of s) os f (book_beside s) k x,
          x.some,
        ))
        ks a

    pub keys_rising : Rising 0 keys
    keys_rising = ascending_rising keys bk.ready.ascend

    pub rest_rising : (at : ℕ) → Rising 0 (take (length keys - at) (drop at keys))
    rest_rising at = rw (take_all (length keys - at) (drop at keys) (omega (arith, length-drop at keys))) (ascending_rising (drop at keys) (ready_from at).ascend)

    -- One turn: whole groups, and the one behind them.
    module _ {at : ℕ} {now : Ledger} (w : Way at now) {n : ℕ} (h : Whole (take (length keys - at) (drop at keys)) (left_in now) n) where
      whole_is : Whole (drop at keys) (left_in now) n
      whole_is = rw (take_all (length keys - at) (drop at keys) (omega (arith, length-drop at keys))) at h

      front : at + n - at ≡ n
      front = omega arith

      pub turn_within : at + n ≤ length keys
      turn_within = omega (arith, whole_is.within, length-drop at keys, w.within)

      pub fill_ready : Room (take (at + n - at) (drop at keys)) now × (total shares_in (take (at + n - at) (drop at keys)) ≤ left_in now)
          × Every (λ k. 0 < shares_in k) (take (at + n - at) (drop at keys))
      fill_ready = rw front (room_slice w n, whole_is.fits, some_shares (take n (drop at keys)) (ready_slice at n).each)

      module _ {then : Ledger} (c : Credited alg (take (at + n - at) (drop at keys)) (map shares_in (take (at + n - at) (drop at keys))) now then) where
        pub turn_filled : Way (at + n) then
        turn_filled = way_fill w whole_is (rw front at c)

        module _ {end : ℕ} (e : Ends keys (at + n) end) (some : 0 < left_in then) where
          pub turn_shared : Shared (take (end - (at + n)) (drop (at + n) keys)) (left_in then)
          turn_shared = slice_shared e some (next_more w whole_is (rw front at c) e)

          pub turn_room : Room (take (end - (at + n)) (drop (at + n) keys)) then
          turn_room = room_slice turn_filled (end - (at + n))

  -- no shares are left: the others get nothing
  pub way_ended : {at : ℕ} {now : Ledger} → Way at now → left_in now ≡ 0 → Walked s keys lot alg start now
  way_ended {at} {now} w z =
      let zeros : List ℕ = map (λ k. 0) (drop at keys) in
      record {
        gets = w.got ++ zeros;
        walks = w.comes zeros (rw z (Walks.ended (drop at keys)));
        credited = rw (take-append-drop at keys) at (credited_append w.credited (nothing (drop at keys)) (w.many ∙ sym (length-take-le at keys w.within)));
      }
    where
      nothing : (xs : List ℕ) → Credited alg xs (map (λ k. 0) xs) now now
      nothing xs =
          let n = sum_none xs in
          record {
            left = rw (n, sub-zero (left_in now));
            count = rw (fills_none xs (map (λ k. 0) xs) n) (omega arith);
            fills = rw (fills_none xs (map (λ k. 0) xs) n) (sym (append-nil (take now.progress.count now.fills)));
            executions = λ at. rw (executions_none at xs (map (λ k. 0) xs) n) (sym (append-nil (logged at now)));
            allotment = λ v i. omega (arith, got_within alg v i xs (map (λ k. 0) xs));
            room = refl;
            records = λ v. refl;
          }

  -- no key is left
  pub way_done : {at : ℕ} {now : Ledger} → Way at now → length keys ≤ at → Walked s keys lot alg start now
  way_done {at} {now} w h = record {
    gets = w.got;
    walks = rw (append-nil w.got) at (w.comes [] (rw (drop_of_length-le keys {i = at} h) (Walks.none (left_in now))));
    credited = rw (take_all at keys h) at w.credited;
  }
