-- Totals over what stands before a place of a list.
use Prim.Native.Nat.{ℕ, zero, suc, ◌+◌, ◌≤◌, ◌<◌}
use mathlib.Core.Path.{◌≡◌, ap, ◌∙◌}
use mathlib.Core.List.{List, [], ◌∷◌}
use native.Mathlib.Omega.{arith}
use native.Mathlib.Numerals.{add-one}
use lib.ListN.{length, get_or, take}
use Rattle.units.specs.Lists.{sum, total}

-- one element more
pub total_next : (f : ℕ → ℕ) (xs : List ℕ) (k : ℕ) → k < length xs → total f (take (k + 1) xs) ≡ total f (take k xs) + f (get_or xs k 0)
total_next f xs k h = ap (λ n. total f (take n xs)) (add-one k) ∙ go xs k h
  where
    go : (xs : List ℕ) (k : ℕ) → k < length xs → total f (take (suc k) xs) ≡ total f (take k xs) + f (get_or xs k 0)
    go [] k h = absurd (omega arith)
    go (x ∷ xs) zero h = omega arith
    go (x ∷ xs) (suc k) h = omega (arith, go xs k (omega arith))

-- more elements have no less
pub total_front : (f : ℕ → ℕ) (xs : List ℕ) (k n : ℕ) → k ≤ n → total f (take k xs) ≤ total f (take n xs)
total_front f xs zero n h = omega arith
total_front f xs (suc k) zero h = absurd (omega arith)
total_front f [] (suc k) (suc n) h = omega arith
total_front f (x ∷ xs) (suc k) (suc n) h = omega (arith, total_front f xs k n (omega arith))

-- nor do all
pub take_within : (k : ℕ) (xs : List ℕ) → sum (take k xs) ≤ sum xs
take_within zero xs = omega arith
take_within (suc k) [] = omega arith
take_within (suc k) (x ∷ xs) = omega (arith, take_within k xs)
