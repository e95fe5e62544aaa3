-- Text: its lines, and the fields of a line. A byte is a number below 256.
use Rattle.std.specs.Prelude.{ℕ, suc, ◌+◌, ◌-◌, ◌≤◌, ◌≡◌, cond, List, [], ◌∷◌, eqb, length, take, drop}
use Rattle.units.specs.Text.{line_feed, space}
use Rattle.script.specs.declared.text.Lines.{Lines}

-- a byte in front of the first part; a part of its own where there is none
abbrev pub prepend : ℕ → List (List ℕ) → List (List ℕ)
prepend x [] = (x ∷ []) ∷ []
prepend x (p ∷ ps) = (x ∷ p) ∷ ps

-- a text cut at each byte b, which stands in no part; an empty text has the parts that are given
unfoldable pub cut_at : ℕ → List (List ℕ) → List ℕ → List (List ℕ)
cut_at b end [] = end
cut_at b end (x ∷ xs) = cond (eqb x b) ([] ∷ cut_at b end xs) (prepend x (cut_at b end xs))

-- A line ends at a line feed; the last may lack it, and the text's end right after one starts no line. An empty text has none.
abbrev pub lines_of : List ℕ → List (List ℕ)
lines_of = cut_at line_feed []

-- the lines that are still to come
abbrev pub lines_left : Lines → List (List ℕ)
lines_left s = lines_of s.rest.now

-- from a place of a text on, the first line ends here, and the others are those behind its line feed
pub record FirstLine (text : List ℕ) (at end : ℕ) : Type 0 where
  pub behind : at ≤ end
  pub within : end ≤ length text
  pub first : lines_of (drop at text) ≡ take (end - at) (drop at text) ∷ lines_of (drop (end + 1) text)

-- Fields have one space between them, so that a second one, or one at an end of the line, bounds an empty field. An empty line has one
-- field, an empty one.
abbrev pub fields_of : List ℕ → List (List ℕ)
fields_of = cut_at space ([] ∷ [])

-- how many bytes of a text come before its first byte b
unfoldable pub span : ℕ → List ℕ → ℕ
span b [] = 0
span b (x ∷ xs) = cond (eqb x b) 0 (suc (span b xs))
