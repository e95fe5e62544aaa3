-- The steps of lot sharing on columns.
use Prim.Native.Nat.{ℕ, zero, suc, ◌+◌, ◌-◌, ◌*◌, ◌/◌, ◌≤◌, ◌<◌}
use mathlib.Core.Path.{◌≡◌, sym, ap, ◌∙◌}
use mathlib.Core.List.{List, [], ◌∷◌, map, map-map}
use native.Mathlib.Omega.{arith}
use native.Mathlib.Nat.{mul-le-mul_left, div-mul-le_self, div-le_of_le-mul, div-div-eq-div-mul, mul_comm, mul-one}
use lib.ListN.{length, get_or, length-map}
use Rattle.units.specs.Lists.{sum, total, zip_with}
use Rattle.units.proofs.Totals.{total_map, zip_map}
use Rattle.sharing.specs.Rank.{Part, part_size}
use Rattle.sharing.specs.Lots.{divided, first_step, second_step, lot_sharing}
use Rattle.dividing.specs.Columns.{Sizes, first_of, second_of, turn_at, Served, Stepped}
use Rattle.dividing.proofs.Places.{turn_least}
use Rattle.dividing.proofs.Turning.{size_round}

-- a number is no more than its product with one that isn't 0
pub times_least : (n m : ℕ) → 0 < m → n ≤ n * m
times_least n m h = omega (arith, mul-le-mul_left {m = 1} {n = m} n h, mul-one n)

-- a first step is no more than the size
pub first_within : (lot q s : ℕ) → q ≤ s → (x : ℕ) → first_of lot q s x ≤ x
first_within lot q s h x =
    let a : x * q / s ≤ x = div-le_of_le-mul s (omega (arith, mul-le-mul_left x h, mul_comm s x)) in
    omega (arith, div-mul-le_self (x * q / s) lot)

-- whole lots of an exact share, by one division
pub step_is : (lot size q s k : ℕ) {x y d : ℕ} → q ≤ s → 0 < lot → k ≡ x * y / d → x ≡ size → y ≡ q → d ≡ s * lot
    → (k * lot ≡ first_of lot q s size) × (k * lot ≤ size) × (k ≤ size)
step_is lot size q s k h l a b c d =
    let e : k * lot ≡ first_of lot q s size = ap (λ n. n * lot) (a ∙ rw (b, c, d) (sym (div-div-eq-div-mul (size * q) s lot))) in
    let f = first_within lot q s h size in
    (e, omega arith, omega (arith, times_least k lot l))

-- the sum of a column of no larger numbers
pub sum_within : (f : ℕ → ℕ) → ((x : ℕ) → f x ≤ x) → (xs : List ℕ) → sum (map f xs) ≤ sum xs
sum_within f h [] = omega arith
sum_within f h (x ∷ xs) = omega (arith, h x, sum_within f h xs)

-- the two steps are together no more than the sizes
steps_at : (lot : ℕ) (f : ℕ → ℕ) → ((x : ℕ) → f x ≤ x) → (xs : List ℕ) (i : ℕ)
    → get_or (map f xs) i 0 + get_or (zip_with (second_of lot) xs (map f xs)) i 0 ≤ get_or xs i 0
steps_at lot f h [] i = omega arith
steps_at lot f h (x ∷ xs) zero = omega (arith, h x)
steps_at lot f h (x ∷ xs) (suc i) = steps_at lot f h xs i

second_sum : (lot : ℕ) (xs gs : List ℕ) → sum (zip_with (second_of lot) xs gs) ≤ sum xs
second_sum lot [] gs = omega arith
second_sum lot (x ∷ xs) [] = omega arith
second_sum lot (x ∷ xs) (g ∷ gs) = omega (arith, second_sum lot xs gs)

-- no more than the total is divided whole
pub divided_left : {xs : List ℕ} (ps : List Part) → xs ≡ map part_size ps → (left : ℕ) {s : ℕ} → s ≡ sum xs → left ≤ s → divided left ps ≡ left
divided_left ps e left t h = omega (arith, ap sum e, total_map (λ n. n) part_size ps)

module _ {lot q s : ℕ} {xs wants gets : List ℕ} {rest : ℕ} (d : Stepped lot q s xs wants gets rest) where
  -- no more is wanted than the sizes, at any place and together
  pub wanted : sum wants ≤ sum xs
  wanted = rw d.may (second_sum lot xs gets)

  pub room : q ≤ s → (i : ℕ) → get_or gets i 0 + get_or wants i 0 ≤ get_or xs i 0
  room h i = rw (d.may, d.has) (steps_at lot (first_of lot q s) (first_within lot q s h) xs i)

  pub turn_room : q ≤ s → (i : ℕ) {n : ℕ} → n ≡ turn_at 0 rest xs wants i → get_or gets i 0 + n ≤ get_or xs i 0
  turn_room h i e = omega (arith, room h i, turn_least 0 rest xs wants i)

  module _ (t : s ≡ sum xs) (ps : List Part) (c : Sizes xs ps) where
    size_total : s ≡ total part_size ps
    size_total = t ∙ ap sum c.same ∙ total_map (λ n. n) part_size ps

    -- the columns are the parts' steps, and the rest is theirs
    pub firsts_are : gets ≡ map (first_step lot q (total part_size ps)) ps
    firsts_are = d.has ∙ rw (size_total, c.same) (map-map (first_of lot q (total part_size ps)) part_size ps)

    pub wants_are : wants ≡ map (second_step lot q (total part_size ps)) ps
    wants_are = d.may ∙ rw (firsts_are, c.same) (zip_map (second_of lot) part_size (first_step lot q (total part_size ps)) ps)

    pub rest_is : rest ≡ q - total (first_step lot q (total part_size ps)) ps
    rest_is = d.leaves ∙ rw (firsts_are, total_map (λ n. n) (first_step lot q (total part_size ps)) ps)

    -- the rest goes round on top of the first steps
    pub put_together : {ns : List ℕ} → Served 0 rest xs wants gets ns → ns ≡ lot_sharing lot q ps
    unfolding lot_sharing
    put_together served =
        size_round (second_step lot q (total part_size ps)) ps rest c wants_are (ap length d.has ∙ length-map xs (first_of lot q s)) served
        ∙ rw (rest_is, firsts_are)
