-- What a field stands for: a letter of a few, or a number.
use Rattle.std.specs.Prelude.{ℕ, ◌+◌, ◌-◌, ◌*◌, Bool, true, false, cond, not, ◌&&◌, ◌||◌, leb, eqb}
use Rattle.std.specs.Prelude.{List, [], ◌∷◌, length, get_or, Option, Some, None}
use Prim.Native.Char.{code}
use Rattle.units.specs.Lists.{all, in_range}
use Rattle.units.specs.Text.{digit_zero}
use Rattle.script.specs.declared.field.Field.{Field}
use Rattle.script.specs.declared.field.Field.TheVariants.{Letter, Side, Kind, Number}

abbrev pub is_read : Option ℕ → Bool
is_read (Some n) = true
is_read None = false

-- the number, and 0 where there is none
abbrev pub value_or0 : Option ℕ → ℕ
value_or0 (Some n) = n
value_or0 None = 0

-- 0 to 9 in ASCII
abbrev pub is_digit : ℕ → Bool
is_digit = in_range digit_zero (digit_zero + 9)

-- the number in decimal digits that follow those of n
unfoldable pub decimal_from : ℕ → List ℕ → ℕ
decimal_from n [] = n
decimal_from n (d ∷ ds) = decimal_from (10 * n + (d - digit_zero)) ds

-- the largest number that a call can be given: one above it is outside every range, however many digits it has
abbrev pub largest : ℕ
largest = 4294967295

-- digits alone, of a number that a call can be given
unfoldable pub digits_from : ℕ → List ℕ → Option ℕ
digits_from n ds = cond (all is_digit ds && leb (decimal_from n ds) largest) (Some (decimal_from n ds)) None

-- a leading zero, save 0 itself
abbrev pub leading_zero : List ℕ → Bool
leading_zero ds = not (eqb (length ds) 1) && eqb (get_or ds 0 0) digit_zero

-- the number that a field is: one digit at least, and no leading zero
unfoldable pub number_in : List ℕ → Option ℕ
number_in ds = cond (eqb (length ds) 0 || leading_zero ds) None (digits_from 0 ds)

-- a field that is this one letter stands for n, any other for what is given
unfoldable pub letter_or : ℕ → ℕ → Option ℕ → List ℕ → Option ℕ
letter_or letter n other f = cond (eqb (length f) 1 && eqb (get_or f 0 0) letter) (Some n) other

-- B is side 1, S side 2; D is kind 1, H kind 2, M kind 3; a command's own letter counts as 1
unfoldable pub meaning : Field → List ℕ → Option ℕ
meaning (Letter l) f = letter_or l 1 None f
meaning Side f = letter_or (code "B") 1 (letter_or (code "S") 2 None f) f
meaning Kind f = letter_or (code "D") 1 (letter_or (code "H") 2 (letter_or (code "M") 3 None f) f) f
meaning Number f = number_in f
