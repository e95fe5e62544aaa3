-- Lists that are read from the front: the part from a place to the end, and loops that keep whether all that was read, or any of it, passed a test,
-- or whether two lists had the same numbers.
use Prim.Native.Nat.{ℕ, ◌+◌, ◌-◌, ◌≤◌, ◌<◌}
use mathlib.Core.Path.{◌≡◌, refl, ap}
use mathlib.Core.Bool.{Bool, true, false, ◌&&◌, ◌||◌, and-true, or-false, and_assoc, or_assoc}
use mathlib.Core.List.{List}
use native.Mathlib.Omega.{arith}
use native.Mathlib.Numerals.{add-one}
use lib.ListN.{length, get_or, take, drop, length-drop, drop_of_length-le}
use lib.Seq.{take_all, drop-cons}
use lib.Dec.{eqb}
use Rattle.units.specs.Lists.{all, any, same_numbers}
use Rattle.units.proofs.Facts.{numbers_same}

-- the part from a place to the end is what stands behind the place
pub take_rest : (k : ℕ) (s : List ℕ) → take (length s - k) (drop k s) ≡ drop k s
take_rest k s = take_all (length s - k) (drop k s) (omega (arith, length-drop k s))

module _ (p : ℕ → Bool) (s : List ℕ) (i : ℕ) (x : Bool) where
  -- one number more is read, of which all have to pass
  pub all_more : i < length s → ((x && p (get_or s i 0)) && all p (drop (i + 1) s)) ≡ (x && all p (drop i s))
  all_more h = rw (add-one, drop-cons s i 0, and_assoc)

  -- one number more is read, of which any may pass
  pub any_more : i < length s → ((x || p (get_or s i 0)) || any p (drop (i + 1) s)) ≡ (x || any p (drop i s))
  any_more h = rw (add-one, drop-cons s i 0, or_assoc)

  -- every number was read, and all had to pass
  pub all_done : length s ≤ i → (x && all p (drop i s)) ≡ x
  all_done h = rw (drop_of_length-le s h) (and-true x)

  -- every number was read, and any could pass
  pub any_done : length s ≤ i → (x || any p (drop i s)) ≡ x
  any_done h = rw (drop_of_length-le s h) (or-false x)

-- Two lists of one length.
module _ (s t : List ℕ) (e : length s ≡ length t) (i : ℕ) (x : Bool) where
  -- one number more of each is read
  pub same_more : i < length s → ((x && eqb (get_or s i 0) (get_or t i 0)) && same_numbers (drop (i + 1) s) (drop (i + 1) t)) ≡ (x && same_numbers (drop i s) (drop i t))
  same_more h = rw (add-one, drop-cons s i 0, drop-cons t i 0 (omega arith), and_assoc)

  -- every number was read
  pub same_done : length s ≤ i → (x && same_numbers (drop i s) (drop i t)) ≡ x
  same_done h = rw (drop_of_length-le s h, drop_of_length-le t {i = i} (omega arith)) (and-true x)

-- lists of two lengths don't have the same numbers
pub other_length : (s t : List ℕ) → (length s ≡ length t → ⊥) → same_numbers s t ≡ false
other_length s t h = go (same_numbers s t) refl
  where
    go : (b : Bool) → same_numbers s t ≡ b → b ≡ false
    go true f = absurd (h (ap length (numbers_same s t f)))
    go false f = refl
