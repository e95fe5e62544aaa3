-- Decimal digits read from the front, one at a time.
use Prim.Native.Nat.{ℕ, ◌+◌, ◌-◌, ◌*◌, ◌≤◌, ◌<◌}
use mathlib.Core.Path.{◌≡◌, ◌∙◌}
use mathlib.Core.Bool.{true, false}
use mathlib.Core.List.{List, [], ◌∷◌}
use native.Mathlib.Omega.{arith}
use native.Mathlib.Numerals.{add-one}
use lib.ListN.{length, get_or, drop, drop_of_length-le}
use lib.Seq.{drop-cons}
use borrow.Author.Tests.{lt-leb, le-leb}
use Rattle.units.specs.Lists.{all}
use Rattle.units.proofs.Tests.{and_false}
use Rattle.std.specs.Prelude.{Some, None}
use Rattle.script.specs.Field.{is_digit, decimal_from, digits_from, largest}

-- more digits never make a number smaller
decimal_grows : (n : ℕ) (ds : List ℕ) → n ≤ decimal_from n ds
unfolding decimal_from
decimal_grows n [] = omega arith
decimal_grows n (d ∷ ds) = omega (arith, decimal_grows (10 * n + (d - 48)) ds)

-- a number that is too large already stays so
pub past : (n : ℕ) (ds : List ℕ) → largest < n → digits_from n ds ≡ None
unfolding digits_from
past n ds h = rw (and_false (all is_digit ds) (lt-leb (decimal_from n ds) largest (omega (arith, decimal_grows n ds))))

-- From place i of s on, behind digits of n.
module _ (s : List ℕ) (n i : ℕ) where
  from_here : i < length s → digits_from n (drop i s) ≡ digits_from n (get_or s i 0 ∷ drop (i + 1) s)
  from_here h = rw (add-one, drop-cons s i 0)

  -- a digit is the number's next
  pub more : i < length s → is_digit (get_or s i 0) ≡ true → digits_from n (drop i s) ≡ digits_from (10 * n + (get_or s i 0 - 48)) (drop (i + 1) s)
  unfolding digits_from decimal_from
  more h e = from_here h ∙ rw e

  -- any other byte is of no number
  pub stop : i < length s → is_digit (get_or s i 0) ≡ false → digits_from n (drop i s) ≡ None
  unfolding digits_from
  stop h e = from_here h ∙ rw e

  -- behind the last digit the number is whole
  pub done : length s ≤ i → n ≤ largest → digits_from n (drop i s) ≡ Some n
  unfolding digits_from decimal_from
  done h k = rw (drop_of_length-le s h, le-leb n largest k)
