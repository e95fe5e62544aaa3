-- Columns that a loop walks from the front: what is left of them, and bounds of the places passed.
use Prim.Native.Nat.{ℕ, zero, suc, ◌+◌, ◌-◌, ◌*◌, ◌≤◌, ◌<◌}
use mathlib.Core.Path.{◌≡◌, refl, ap}
use mathlib.Core.Bool.{Bool, true, false}
use mathlib.Core.List.{List, [], ◌∷◌, map}
use native.Mathlib.Omega.{arith}
use native.Mathlib.Nat.{zero-mul, one-mul}
use native.Mathlib.Numerals.{add-one}
use lib.ListN.{length, get_or, drop, replicate, drop_of_length-le, get_or-eq_default}
use lib.Seq.{drop-cons}
use lib.Dec.{ltb}
use borrow.Author.Tests.{ltb-true, ltb-false}
use Rattle.std.specs.Int.{from_bool}
use Rattle.std.specs.Option.{MatchOption, unwrap_or}
use Rattle.std.proofs.Common.{Option, Some, None}
use Rattle.units.specs.Lists.{or_zero, zip_with}
use Rattle.units.proofs.Tests.{pick_least}
use Rattle.dividing.specs.Columns.{in_order}

-- a number or nothing, by a product
pub picked : (b : Bool) (w : ℕ) {n : ℕ} → n ≡ from_bool b → n * w ≡ or_zero b w
picked true w e = rw e (one-mul w)
picked false w e = rw e (zero-mul w)

pub never : {k : ℕ} → k < 0 → ⊥
never h = omega arith

-- a column made from another, one place more
pub map_more : (f : ℕ → ℕ) (xs : List ℕ) (j : ℕ) → j < length xs → map f (drop j xs) ≡ f (get_or xs j 0) ∷ map f (drop (j + 1) xs)
map_more f xs j h = rw (add-one, drop-cons xs j 0)

-- one made from two
pub zip_more : (f : ℕ → ℕ → ℕ) (xs ys : List ℕ) (j : ℕ) → j < length xs → j < length ys
    → zip_with f (drop j xs) (drop j ys) ≡ f (get_or xs j 0) (get_or ys j 0) ∷ zip_with f (drop (j + 1) xs) (drop (j + 1) ys)
zip_more f xs ys j h k = rw (add-one, drop-cons xs j 0, drop-cons ys j 0)

pub zip_done : (f : ℕ → ℕ → ℕ) (xs ys : List ℕ) (j : ℕ) → length xs ≤ j → zip_with f (drop j xs) ys ≡ []
zip_done f xs ys j h = rw (drop_of_length-le xs h)

-- one in which each takes in its turn
pub order_more : (takes : ℕ → ℕ → ℕ → ℕ) (left : ℕ) (xs ws : List ℕ) (j : ℕ) → j < length xs → j < length ws
    → in_order takes left (drop j xs) (drop j ws)
    ≡ takes (get_or xs j 0) (get_or ws j 0) left ∷ in_order takes (left - takes (get_or xs j 0) (get_or ws j 0) left) (drop (j + 1) xs) (drop (j + 1) ws)
unfolding in_order
order_more takes left xs ws j h k = rw (add-one, drop-cons xs j 0, drop-cons ws j 0)

pub order_done : (takes : ℕ → ℕ → ℕ → ℕ) (left : ℕ) (xs ws : List ℕ) (j : ℕ) → length xs ≤ j → in_order takes left (drop j xs) ws ≡ []
unfolding in_order
order_done takes left xs ws j h = rw (drop_of_length-le xs h)

-- and one that is added to another
pub added_more : (gs : List ℕ) (j : ℕ) → j < length gs → {n : ℕ} {ns ms : List ℕ} → ns ≡ n ∷ ms
    → zip_with ◌+◌ (drop j gs) ns ≡ (get_or gs j 0 + n) ∷ zip_with ◌+◌ (drop (j + 1) gs) ms
added_more gs j h e = rw (add-one, drop-cons gs j 0, e)

-- a bound of all places
pub bound_done : (xs : List ℕ) (j top : ℕ) → ((k : ℕ) → k < j → get_or xs k 0 ≤ top) → length xs ≤ j → (i : ℕ) → get_or xs i 0 ≤ top
bound_done xs j top h l i = go (ltb i j) refl
  where
    go : (b : Bool) → ltb i j ≡ b → get_or xs i 0 ≤ top
    go true e = h i (ltb-true i j e)
    go false e = let k = ltb-false i j e in omega (arith, get_or-eq_default xs 0 {n = i} (omega arith))

-- a largest number, or 0 where there is none
pub largest_done : (xs : List ℕ) (r : Option ℕ) → MatchOption r (length xs ≡ 0) (λ m. (k : ℕ) → k < length xs → get_or xs k 0 ≤ m)
    → (i : ℕ) → get_or xs i 0 ≤ unwrap_or r 0
largest_done xs None h i = omega (arith, get_or-eq_default xs 0 {n = i} (omega arith))
largest_done xs (Some m) h i = bound_done xs (length xs) m h (omega arith) i

-- in a column of nothing there is nothing
pub nothing_at : (n i : ℕ) → get_or {A = ℕ} (replicate n 0) i 0 ≡ 0
nothing_at zero i = refl
nothing_at (suc n) zero = refl
nothing_at (suc n) (suc i) = nothing_at n i

-- a number of a column made from two
pub zip_at : (f : ℕ → ℕ → ℕ) (xs ys : List ℕ) (i : ℕ) → i < length xs → i < length ys → get_or (zip_with f xs ys) i 0 ≡ f (get_or xs i 0) (get_or ys i 0)
zip_at f [] ys i h k = absurd (never h)
zip_at f (x ∷ xs) [] i h k = absurd (never k)
zip_at f (x ∷ xs) (y ∷ ys) zero h k = refl
zip_at f (x ∷ xs) (y ∷ ys) (suc i) h k = zip_at f xs ys i (omega arith) (omega arith)

pub zip_long : (f : ℕ → ℕ → ℕ) (xs ys : List ℕ) → length ys ≡ length xs → length (zip_with f xs ys) ≡ length xs
zip_long f [] ys e = refl
zip_long f (x ∷ xs) [] e = absurd (never {k = length xs} (omega arith))
zip_long f (x ∷ xs) (y ∷ ys) e = ap suc (zip_long f xs ys (omega arith))
