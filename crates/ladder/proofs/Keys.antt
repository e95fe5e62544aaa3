-- The keys of a security's orders in a book, put in order: their orders' rows are in the ladder's order, and come to the rows of these orders.
use Prim.Native.Nat.{ℕ, zero, suc, ◌+◌, ◌≤◌, ◌<◌}
use mathlib.Core.Path.{◌≡◌, refl, sym, ap, ap₂, ◌∙◌}
use mathlib.Core.Bool.{Bool, true, false}
use mathlib.Core.List.{List, [], ◌∷◌, map}
use native.Mathlib.Omega.{arith}
use native.Mathlib.Numerals.{add-one}
use lib.ListN.{length, drop, drop_of_length-le}
use mir.Val.{bool_byte}
use Rattle.units.specs.Lists.{cons_if, filter, or_zero}
use Rattle.units.proofs.Members.{Every}
use Rattle.ordering.specs.Sorted.{sorted, Rising}
use Rattle.ordering.proofs.Order.{sorted_rising, sorted_perm, sorted_every}
use Rattle.ordering.proofs.Same.{same_map}
use Rattle.ordering.proofs.Ranks.{rank_rises}
use Rattle.orders.specs.declared.order.Order.{Order}
use Rattle.orders.specs.Order.{price_of}
use Rattle.orders.specs.Trading.{of_security}
use Rattle.record.proofs.Orders.{order_facts}
use Rattle.book.specs.Sound.{sound, orders_of, order_at}
use Rattle.book.specs.Lookup.{orders_for}
use Rattle.book.proofs.Checking.{sound_fits}
use Rattle.book.proofs.Access.{order_here, order_at_sound}
use Rattle.ladder.specs.declared.row.Row.{Row}
use Rattle.ladder.specs.Rows.{row_of, gathered, rows_of}
use Rattle.ladder.specs.Along.{along_keys}
use Rattle.ladder.specs.Key.{rank_of, key_of, rank_in, place_in, keys_from}
use Rattle.ladder.proofs.Ranks.{Priced, rank}
use Rattle.ladder.proofs.Inserting.{gathered_same}
use Rattle.ladder.proofs.Stretches.{InRank, along_gathered}

-- a test as a number
pub counted : (b : Bool) → bool_byte b ≡ or_zero b 1
counted true = refl
counted false = refl

-- what a key holds can be read back from it
key_rank : (place : ℕ) (o : Order) → place < 256 → rank_in (key_of place o) ≡ rank_of o.side (price_of o)
key_rank place o h = omega arith

key_place : (place : ℕ) (o : Order) → place < 256 → place_in (key_of place o) ≡ place
key_place place o h = omega arith

-- one order more
pub keys_more : (j : ℕ) (s : List ℕ) (i : ℕ) → i < length (orders_of s)
    → keys_from j i (drop i (orders_of s)) ≡ cons_if (of_security j (order_at s i)) (key_of i (order_at s i)) (keys_from j (i + 1) (drop (i + 1) (orders_of s)))
unfolding keys_from
keys_more j s i h = rw (add-one, order_here s i h)

pub keys_done : (j : ℕ) (s : List ℕ) (i : ℕ) → length (orders_of s) ≤ i → keys_from j i (drop i (orders_of s)) ≡ []
unfolding keys_from
keys_done j s i h = rw (drop_of_length-le (orders_of s) h)

-- there are at most as many keys as orders
pub keys_few : (j i : ℕ) (os : List Order) → length (keys_from j i os) ≤ length os
unfolding keys_from
keys_few j i [] = omega arith
keys_few j i (o ∷ os) = go (of_security j o) (keys_few j (suc i) os)
  where
    go : (b : Bool) → length (keys_from j (suc i) os) ≤ length os → length (cons_if b (key_of i o) (keys_from j (suc i) os)) ≤ suc (length os)
    go true h = omega arith
    go false h = omega arith

-- a key of an order of the book: it has the order's place and rank
pub record KeyIn (s : List ℕ) (key : ℕ) : Type 0 where
  pub within : place_in key < length (orders_of s)
  pub ranked : rank_in key ≡ rank_of (order_at s (place_in key)).side (price_of (order_at s (place_in key)))

-- A sound book.
module _ (s : List ℕ) (f : sound s ≡ true) where
  -- the row of a key's order alone
  abbrev pub row_at : ℕ → Row
  row_at k = row_of (order_at s (place_in k))

  priced : (k : ℕ) → place_in k < length (orders_of s) → Priced (row_at k)
  unfolding row_of
  priced k h = (order_facts (order_at s (place_in k)) (order_at_sound s (place_in k) f h)).price_most

  row_rank : (k : ℕ) → KeyIn s k → rank (row_at k) ≡ rank_in k
  unfolding row_of
  row_rank k h = sym h.ranked

  -- The keys of a security's orders from a place on, and their rows.
  module _ (j : ℕ) where
    in_if : (b : Bool) (x : ℕ) (ks : List ℕ) → KeyIn s x → Every (KeyIn s) ks → Every (KeyIn s) (cons_if b x ks)
    in_if true x ks h a = (h, a)
    in_if false x ks h a = a

    keys_in : (i m : ℕ) → i + m ≡ length (orders_of s) → Every (KeyIn s) (keys_from j i (drop i (orders_of s)))
    keys_in i zero e = rw (keys_done j s i (omega arith)) tt
    keys_in i (suc m) e =
        let h : i < length (orders_of s) = omega arith in
        let l : i < 256 = omega (arith, sound_fits s f) in
        let p = key_place i (order_at s i) l in
        rw (keys_more j s i h)
        (in_if (of_security j (order_at s i)) _ _ (record { within = omega arith; ranked = rw p (key_rank i (order_at s i) l) }) (rw add-one (keys_in (suc i) m (omega arith))))

    rows_if : (b : Bool) (i : ℕ) (o : Order) (ks : List ℕ) (os : List Order) → row_at (key_of i o) ≡ row_of o → map row_at ks ≡ map row_of os
        → map row_at (cons_if b (key_of i o) ks) ≡ map row_of (cons_if b o os)
    rows_if true i o ks os h e = ap₂ (λ r rs. r ∷ rs) h e
    rows_if false i o ks os h e = e

    keys_rows : (i m : ℕ) → i + m ≡ length (orders_of s) → map row_at (keys_from j i (drop i (orders_of s))) ≡ map row_of (filter (of_security j) (drop i (orders_of s)))
    keys_rows i zero e = rw (keys_done j s i (omega arith), drop_of_length-le (orders_of s) {i = i} (omega arith))
    keys_rows i (suc m) e =
        let h : i < length (orders_of s) = omega arith in
        let p = key_place i (order_at s i) (omega (arith, sound_fits s f)) in
        rw (keys_more j s i h, order_here s i h)
        (rows_if (of_security j (order_at s i)) i (order_at s i) _ _ (ap (λ k. row_of (order_at s k)) p) (rw add-one (keys_rows (suc i) m (omega arith))))

    abbrev keys : List ℕ
    keys = keys_from j 0 (orders_of s)

    -- in order they are still keys of the book's orders
    pub sorted_in : Every (KeyIn s) (sorted keys)
    sorted_in = sorted_every (KeyIn s) keys (keys_in 0 (length (orders_of s)) (omega arith))

  -- the rows of keys that rise are in the ladder's order
  rows_rise : (m : ℕ) (ks : List ℕ) → Every (KeyIn s) ks → Rising m ks → InRank (rank_in m) (map row_at ks)
  rows_rise m [] a r = tt
  rows_rise m (k ∷ ks) a r =
      let e = row_rank k a.0 in
      (omega (arith, rank_rises 256 m k r.0), rw e (rows_rise k ks a.1 r.1))

  every_priced : (ks : List ℕ) → Every (KeyIn s) ks → Every Priced (map row_at ks)
  every_priced [] a = tt
  every_priced (k ∷ ks) a = (priced k a.0.within, every_priced ks a.1)

  -- the rows that are made by going along the keys in order are those of the security's orders
  pub along_rows : (j : ℕ) → along_keys s (sorted (keys j)) ≡ rows_of (orders_for j s)
  unfolding rows_of
  along_rows j =
      let ks = sorted (keys j) in
      along_gathered (rank_in 0) (map row_at ks) (every_priced ks (sorted_in j)) (rows_rise 0 ks (sorted_in j) (sorted_rising (keys j)))
      ∙ gathered_same (same_map row_at (sorted_perm (keys j))) (every_priced ks (sorted_in j))
      ∙ ap gathered (keys_rows j 0 (length (orders_of s)) (omega arith))
