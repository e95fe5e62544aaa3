-- Numbers in bytes, of any width; and a form of record: a mark, and numbers of given widths behind it.
use Rattle.std.specs.Prelude.{ℕ, zero, suc, ◌+◌, ◌*◌, ◌/◌, ◌%◌, Bool, List, [], ◌∷◌, ◌++◌, length, take, drop}
use Rattle.units.specs.Lists.{sum, same_numbers}

-- a stored number is unsigned, its least significant byte first
abbrev pub to_bytes : ℕ → ℕ → List ℕ
to_bytes zero n = []
to_bytes (suc width) n = n % 256 ∷ to_bytes width (n / 256)

-- and read back
abbrev pub from_bytes : List ℕ → ℕ
from_bytes [] = 0
from_bytes (b ∷ bs) = b + 256 * from_bytes bs

-- numbers one behind the other, each in its width
abbrev pub join : List ℕ → List ℕ → List ℕ
join [] ns = []
join (w ∷ ws) [] = []
join (w ∷ ws) (n ∷ ns) = to_bytes w n ++ join ws ns

-- bytes cut by the widths, and read
abbrev pub split : List ℕ → List ℕ → List ℕ
split [] s = []
split (w ∷ ws) s = from_bytes (take w s) ∷ split ws (drop w s)

-- bytes put in the place of others, from a place on
abbrev pub replaced : ℕ → List ℕ → List ℕ → List ℕ
replaced at new s = take at s ++ (new ++ drop (at + length new) s)

-- a form of record
pub record Form : Type 0 where
  pub mark : List ℕ
  pub widths : List ℕ

-- how many bytes a record of the form has
abbrev pub form_bytes : Form → ℕ
form_bytes f = length f.mark + sum f.widths

-- the record of a row of numbers
unfoldable pub encode : Form → List ℕ → List ℕ
encode f ns = f.mark ++ join f.widths ns

-- the numbers of a record, its mark left aside
unfoldable pub decode : Form → List ℕ → List ℕ
decode f s = split f.widths (drop (length f.mark) s)

-- a record begins with the mark of its form
abbrev pub has_mark : Form → List ℕ → Bool
has_mark f s = same_numbers (take (length f.mark) s) f.mark

-- the first n records of a buffer
abbrev pub records_of : Form → ℕ → List ℕ → List (List ℕ)
records_of f zero s = []
records_of f (suc n) s = take (form_bytes f) s ∷ records_of f n (drop (form_bytes f) s)
