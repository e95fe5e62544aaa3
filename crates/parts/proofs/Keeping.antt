-- Keys that are kept or not: each is written behind those kept so far, and stays there if it passes a test.
use Prim.Native.Nat.{ℕ, suc, ◌+◌, ◌≤◌, ◌<◌}
use mathlib.Core.Path.{◌≡◌, refl, ◌∙◌}
use mathlib.Core.Bool.{Bool, true, false}
use Rattle.std.specs.Int.{from_bool}
use mathlib.Core.List.{List, [], ◌++◌}
use native.Mathlib.Omega.{arith}
use native.Mathlib.Numerals.{add-one}
use lib.ListN.{length, get_or, take, drop, set, length-set, drop_of_length-le}
use lib.Seq.{drop-set-lt, drop-cons}
use Rattle.units.specs.Lists.{cons_if, filter, or_zero}
use Rattle.units.proofs.Tests.{pick_least}
use Rattle.units.proofs.Columns.{kept_more}
use Rattle.matching.specs.declared.Algorithm.{Algorithm}
use Rattle.matching.specs.declared.incoming.Incoming.{Incoming}
use Rattle.book.specs.Sound.{orders_of, order_at}
use Rattle.book.proofs.Access.{order_here}
use Rattle.parts.specs.Parts.{keys_of, keys_from}

-- a test as a number
pub as_one : (b : Bool) → from_bool b ≡ or_zero b 1
as_one true = refl
as_one false = refl

pub one_most : (b : Bool) {n : ℕ} → n ≡ from_bool b → n ≤ 1
one_most true e = omega arith
one_most false e = omega arith

-- the kept keys, with two more if they pass, and what is to come
pub kept_two : (b : Bool) (keys : List ℕ) (count x y : ℕ) (rest : List ℕ) → count + 1 < length keys
    → take (count + or_zero b 1 + or_zero b 1) (set (set keys count x) (count + or_zero b 1) y) ++ rest ≡ take count keys ++ cons_if b x (cons_if b y rest)
kept_two b keys count x y rest h =
    kept_more b (set keys count x) (count + or_zero b 1) y rest (omega (arith, pick_least b 1, length-set keys count x))
    ∙ kept_more b keys count x (cons_if b y rest) (omega arith)

-- where the keys themselves are written over: those behind stay as they were
pub filter_more : (p : ℕ → Bool) (keys : List ℕ) (count k : ℕ) → count ≤ k → k < length keys
    → take (count + or_zero (p (get_or keys k 0)) 1) (set keys count (get_or keys k 0)) ++ filter p (drop (k + 1) (set keys count (get_or keys k 0)))
    ≡ take count keys ++ filter p (drop k keys)
filter_more p keys count k h l =
    let x = get_or keys k 0 in
    rw (drop-set-lt (k + 1) keys count x (omega arith), add-one k, drop-cons keys k 0 l)
    (kept_more (p x) keys count x (filter p (drop (suc k) keys)) (omega arith))

-- The parts of a book's orders, from record i on.
module _ (lot : ℕ) (alg : Algorithm) (incoming : Incoming) (s : List ℕ) (i : ℕ) where
  -- one record more is read: its parts stand in front of those of the others
  pub parts_more : i < length (orders_of s)
      → keys_from lot alg incoming i (drop i (orders_of s)) ≡ keys_of lot alg incoming i (order_at s i) (keys_from lot alg incoming (i + 1) (drop (i + 1) (orders_of s)))
  unfolding keys_from
  parts_more h = rw (add-one i, order_here s i h)

  -- every record was read
  pub parts_done : length (orders_of s) ≤ i → keys_from lot alg incoming i (drop i (orders_of s)) ≡ []
  unfolding keys_from
  parts_done h = rw (drop_of_length-le (orders_of s) h)
