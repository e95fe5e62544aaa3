-- Values that the checker computes: the lines of a text, the fields of a line, numbers, and lines that are commands or none.
use Rattle.std.specs.Prelude.{ℕ, ◌≡◌, refl, List, [], ◌∷◌, map, Option, Some, None}
use Prim.Native.String.{String}
use Rattle.units.specs.Text.{ascii}
use Rattle.script.specs.declared.command.Command.{Command}
use Rattle.script.specs.declared.command.Command.TheVariants.{Choose, Add, Reduce, Take}
use Rattle.script.specs.Text.{lines_of, fields_of, cut_at}
use Rattle.script.specs.Field.{number_in, digits_from, decimal_from, letter_or, meaning}
use Rattle.script.specs.Command.{command_of}

-- a text, and what it should be
record Example (A : Type 0) : Type 0 where
  text : String
  due : A

infix 4 ◌⇒◌
abbrev ◌⇒◌ : {A : Type 0} → String → A → Example A
s ⇒ a = record { text = s; due = a }

-- each of the examples comes out
abbrev Computed : {A : Type 0} → (List ℕ → A) → List (Example A) → Type 0
Computed f es = map (λ e. f (ascii e.text)) es ≡ map (λ e. e.due) es

abbrev texts : List (Example (List (List ℕ)))
texts =
    ("" ⇒ []) ∷
    -- the last line may lack its line feed, and none begins behind the last
    ("A\nB" ⇒ (ascii "A" ∷ ascii "B" ∷ [])) ∷
    ("A\nB\n" ⇒ (ascii "A" ∷ ascii "B" ∷ [])) ∷
    -- empty lines are lines
    ("\n\nA" ⇒ ([] ∷ [] ∷ ascii "A" ∷ [])) ∷ []

lines : Computed lines_of texts
unfolding cut_at
lines = refl

-- a second space, and one at the end, bound empty fields
fields : Computed fields_of (("A  3 " ⇒ (ascii "A" ∷ [] ∷ ascii "3" ∷ [] ∷ [])) ∷ ("" ⇒ ([] ∷ [])) ∷ [])
unfolding cut_at
fields = refl

abbrev numerals : List (Example (Option ℕ))
numerals =
    -- the digits are 0 to 9
    ("9" ⇒ Some 9) ∷
    (":" ⇒ None) ∷
    ("/" ⇒ None) ∷
    ("0" ⇒ Some 0) ∷
    ("100100" ⇒ Some 100100) ∷
    ("4294967295" ⇒ Some 4294967295) ∷
    -- one more than the largest; no digit; a leading zero; a sign; a carriage return behind a digit
    ("4294967296" ⇒ None) ∷
    ("" ⇒ None) ∷
    ("01" ⇒ None) ∷
    ("+1" ⇒ None) ∷
    ("1\r" ⇒ None) ∷ []

numbers : Computed number_in numerals
unfolding number_in digits_from decimal_from
numbers = refl

abbrev sheet : List (Example (Option Command))
sheet =
    -- algorithms 1 to 3, and no others
    ("A 1" ⇒ Some (Choose 1)) ∷
    ("A 2" ⇒ Some (Choose 2)) ∷
    ("A 3" ⇒ Some (Choose 3)) ∷
    ("A 4" ⇒ None) ∷
    ("A 0" ⇒ None) ∷
    -- S is side 2 and B side 1; D, H and M are kinds 1, 2 and 3
    ("S 7 M 5 9 2" ⇒ Some (Add 2 3 7 5 9 2)) ∷
    ("B 7 H 5 9 0" ⇒ Some (Add 1 2 7 5 9 0)) ∷
    ("S 7 D 5 9 0" ⇒ Some (Add 2 1 7 5 9 0)) ∷
    ("X 7 9" ⇒ Some (Reduce 7 9)) ∷
    ("T B 5 9" ⇒ Some (Take 1 5 9)) ∷
    -- an empty line; a space at the end; a field too many; one too few; a small letter
    ("" ⇒ None) ∷
    ("A 3 " ⇒ None) ∷
    ("A 3 1" ⇒ None) ∷
    ("T B 5" ⇒ None) ∷
    ("a 3" ⇒ None) ∷ []

commands : Computed command_of sheet
unfolding command_of cut_at meaning letter_or number_in digits_from decimal_from
commands = refl
