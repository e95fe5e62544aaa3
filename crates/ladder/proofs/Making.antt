-- A ladder made: the rows of the keys in order, and zeros behind them.
use Prim.Native.Nat.{ℕ, zero, suc, ◌+◌, ◌-◌, ◌*◌, ◌≤◌}
use mathlib.Core.Path.{◌≡◌, refl, sym, ap, ap₂, ◌∙◌}
use mathlib.Core.Bool.{Bool, true, false, ◌&&◌}
use mathlib.Core.List.{List, ◌∷◌, ◌++◌, map}
use native.Mathlib.Omega.{arith}
use lib.ListN.{length, take, drop, replicate, length-append, length-replicate, length-map}
use native.Mathlib.Nat.{zero-add, suc-add}
use lib.Seq.{take_at, drop_at, drop-drop, drop-append-add}
use Rattle.std.proofs.Common.{Some, None}
use Rattle.std.specs.Bool.{then_some}
use Rattle.ladder.specs.declared.row.Row.{Row}
use Rattle.units.specs.Lists.{all, flat_map, is_zero, same_numbers}
use Rattle.units.proofs.Totals.{length_flat}
use Rattle.units.proofs.Members.{every_weaken}
use Rattle.ordering.specs.Sorted.{sorted}
use Rattle.ordering.proofs.Order.{sorted_length}
use Rattle.orders.specs.declared.order.Order.{Order}
use Rattle.record.specs.Codec.{replaced}
use Rattle.book.specs.Sound.{most_orders, sound, orders_of}
use Rattle.book.specs.Lookup.{orders_for}
use Rattle.book.proofs.Checking.{sound_fits}
use Rattle.ladder.specs.Row.{row_bytes, encode_row}
use Rattle.ladder.specs.Rows.{row_of, rows_of}
use Rattle.ladder.specs.Along.{along_keys, Keyed}
use Rattle.ladder.specs.Key.{keys_from}
use Rattle.ladder.specs.Ladder.{ladder_bytes, ladder_of}
use Rattle.ladder.proofs.Bytes.{length_row}
use Rattle.ladder.proofs.Walking.{same_all}
use Rattle.ladder.proofs.Telling.{gathered_few}
use Rattle.ladder.proofs.Keys.{keys_few, sorted_in, along_rows}

-- orders have at most as many rows
pub rows_few : (os : List Order) → length (rows_of os) ≤ length os
unfolding rows_of
rows_few os = omega (arith, gathered_few (map row_of os), length-map os row_of)

-- the ladder of at most 256 orders has 6,144 bytes
pub ladder_long : (os : List Order) → length os ≤ 256 → length (ladder_of os) ≡ ladder_bytes
unfolding ladder_of
ladder_long os h =
    let rs = rows_of os in
    omega (
      arith,
      length-append (flat_map encode_row rs) (replicate (row_bytes * (most_orders - length rs)) 0),
      length_flat encode_row row_bytes length_row rs,
      length-replicate {A = ℕ} (row_bytes * (most_orders - length rs)) 0,
      rows_few os,
    )

-- the keys of a security's orders in a sound book, in order, are of its orders, and going along them gives the rows of these
pub keys_keyed : (j : ℕ) (s : List ℕ) → sound s ≡ true → {ks : List ℕ} → ks ≡ sorted (keys_from j 0 (orders_of s)) → Keyed s ks
keys_keyed j s f {ks} k = record {
  is_sound = f;
  places = rw k (every_weaken (λ x h. h.within) (sorted (keys_from j 0 (orders_of s))) (sorted_in s f j));
  few = omega (arith, ap length k, sorted_length (keys_from j 0 (orders_of s)), keys_few j 0 (orders_of s), (sound_fits s f).1);
}

pub keys_rows : (j : ℕ) (s : List ℕ) → sound s ≡ true → {ks : List ℕ} → ks ≡ sorted (keys_from j 0 (orders_of s)) → along_keys s ks ≡ rows_of (orders_for j s)
keys_rows j s f k = ap (along_keys s) k ∙ along_rows s f j

-- zeros from a place on, and fewer from a later place on
zeros_later : (l : List ℕ) (at k n : ℕ) → drop at l ≡ replicate (k + n) 0 → drop (at + k) l ≡ replicate n 0
zeros_later l at k n e = sym (drop-drop k at l) ∙ ap (drop k) e ∙ drop_replicate k n
  where
    drop_replicate : (k n : ℕ) → drop {A = ℕ} k (replicate (k + n) 0) ≡ replicate n 0
    drop_replicate zero n = ap (λ m. replicate {A = ℕ} m 0) (zero-add n)
    drop_replicate (suc k) n = rw (suc-add k n) (drop_replicate k n)

zeros_both : (m n : ℕ) → replicate {A = ℕ} m 0 ++ replicate n 0 ≡ replicate (m + n) 0
zeros_both zero n = ap (λ m. replicate {A = ℕ} m 0) (sym (zero-add n))
zeros_both (suc m) n = rw (suc-add m n) (ap (λ l. 0 ∷ l) (zeros_both m n))

-- at most 256 orders have at most 256 rows
pub rows_most : (os : List Order) → length os ≤ 256 → {r : ℕ} → r ≡ length (rows_of os) → r ≤ 256
rows_most os most e = omega (arith, e, rows_few os)

-- The rows of at most 256 orders at the front of a ladder that had zeros behind so many rows.
module _ (os : List Order) (most : length os ≤ 256) {r old : ℕ} (e : r ≡ length (rows_of os)) (h : old ≤ 256) (l₀ : List ℕ)
    (z : drop (24 * old) l₀ ≡ replicate (24 * (256 - old)) 0)
    {l₁ : List ℕ} (g : l₁ ≡ flat_map encode_row (rows_of os) ++ drop (24 * r) l₀) where
  rows : List ℕ
  rows = flat_map encode_row (rows_of os)

  rows_long : length rows ≡ 24 * r
  unfolding rows
  rows_long = length_flat encode_row 24 length_row (rows_of os) ∙ ap (λ m. 24 * m) (sym e)

  zeros_count : 24 * (256 - r) ≡ row_bytes * (most_orders - length (rows_of os))
  zeros_count = ap (λ m. 24 * (256 - m)) e

  -- where there are as many rows or more, zeros stand behind them already
  pub made_more : old ≤ r → l₁ ≡ ladder_of os
  unfolding ladder_of
  made_more k =
      let n : 24 * (r - old) + 24 * (256 - r) ≡ 24 * (256 - old) = omega (arith, rows_most os most e) in
      let a : 24 * old + 24 * (r - old) ≡ 24 * r = omega arith in
      g ∙ ap (λ t. flat_map encode_row (rows_of os) ++ t)
      (ap (λ m. drop m l₀) (sym a) ∙ zeros_later l₀ (24 * old) (24 * (r - old)) (24 * (256 - r)) (z ∙ ap (λ m. replicate m 0) (sym n))
      ∙ ap (λ m. replicate m 0) zeros_count)

  -- and else they are put behind them
  pub made_fewer : r ≤ old → replaced (24 * r) (replicate (24 * (old - r)) 0) l₁ ≡ ladder_of os
  unfolding ladder_of rows
  made_fewer k =
      let c : length (replicate {A = ℕ} (24 * (old - r)) 0) ≡ 24 * (old - r) = length-replicate {A = ℕ} (24 * (old - r)) 0 in
      let a : 24 * r + 24 * (old - r) ≡ 24 * old = omega arith in
      let front : take (24 * r) l₁ ≡ flat_map encode_row (rows_of os) =
      ap (take (24 * r)) g ∙ take_at (flat_map encode_row (rows_of os)) (drop (24 * r) l₀) (24 * r) rows_long in
      let behind : drop (24 * old) l₁ ≡ replicate (24 * (256 - old)) 0 =
      ap₂ drop (sym a ∙ ap (λ m. m + 24 * (old - r)) (sym rows_long)) g
      ∙ drop-append-add (flat_map encode_row (rows_of os)) (drop (24 * r) l₀) (24 * (old - r))
      ∙ drop-drop (24 * (old - r)) (24 * r) l₀ ∙ ap (λ m. drop m l₀) a ∙ z in
      let n : 24 * (old - r) + 24 * (256 - old) ≡ 24 * (256 - r) = omega arith in
      rw (front, c, a, behind)
      (ap (λ t. flat_map encode_row (rows_of os) ++ t)
      (zeros_both (24 * (old - r)) (24 * (256 - old)) ∙ ap (λ m. replicate m 0) (n ∙ zeros_count)))

-- behind the rows of a ladder stand zeros
pub ladder_behind : (os : List Order) → drop (24 * length (rows_of os)) (ladder_of os) ≡ replicate (24 * (256 - length (rows_of os))) 0
unfolding ladder_of
ladder_behind os =
    drop_at (flat_map encode_row (rows_of os)) (replicate (row_bytes * (most_orders - length (rows_of os))) 0) (24 * length (rows_of os))
    (length_flat encode_row 24 length_row (rows_of os))

-- a ladder that begins with the rows and has zeros behind is the orders'
pub held : (os : List Order) → length os ≤ 256 → (l : List ℕ) → length l ≡ ladder_bytes
    → (same_numbers (take (24 * length (rows_of os)) l) (flat_map encode_row (rows_of os)) && all is_zero (drop (24 * length (rows_of os)) l)) ≡ same_numbers l (ladder_of os)
unfolding ladder_of
held os most l e = same_all (rows_of os) l (row_bytes * (most_orders - length (rows_of os))) (e ∙ omega (arith, rows_few os))

-- a value is there where a test passed
pub some_if : (b : Bool) {m n : ℕ} → Some n ≡ then_some b m → (b ≡ true) × (n ≡ m)
some_if true e = (refl, cc)
some_if false e = absurd (cc)

pub none_if : (b : Bool) (m : ℕ) → None ≡ then_some b m → b ≡ false
none_if true m e = absurd (cc)
none_if false m e = refl

-- The number of the rows, where a ladder has them at its front.
module _ (os : List Order) (most : length os ≤ 256) (l : List ℕ) (e : length l ≡ ladder_bytes) where
  abbrev rs : List Row
  rs = rows_of os

  abbrev begins : Bool
  begins = same_numbers (take (24 * length rs) l) (flat_map encode_row rs)

  -- where it hasn't, it is not the orders'
  pub held_not : None ≡ then_some begins (length rs) → None ≡ then_some (same_numbers l (ladder_of os)) (length rs)
  held_not n =
      let x : same_numbers l (ladder_of os) ≡ false =
      sym (held os most l e) ∙ ap (λ b. b && all is_zero (drop (24 * length rs) l)) (none_if begins _ n) in
      rw x

  -- where it has, it is if it has zeros behind
  pub held_front : {n : ℕ} → Some n ≡ then_some begins (length rs)
      → (n ≤ 256) × (then_some (all is_zero (drop (24 * n) l)) n ≡ then_some (same_numbers l (ladder_of os)) (length rs))
  held_front {n} s =
      let h = some_if begins s in
      let x : all is_zero (drop (24 * n) l) ≡ same_numbers l (ladder_of os) =
      ap (λ m. all is_zero (drop (24 * m) l)) h.1 ∙ sym (ap (λ b. b && all is_zero (drop (24 * length rs) l)) h.0) ∙ held os most l e in
      (rows_most os most h.1, ap₂ then_some x h.1)
