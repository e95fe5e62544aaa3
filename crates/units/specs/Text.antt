-- Texts as bytes.
use Rattle.std.specs.Prelude.{ℕ, List, [], ◌∷◌}
use Prim.Native.Char.{code}
use Prim.Native.String.{String, [] as none, ◌∷◌ as ◌then◌}

-- the bytes of a text of ASCII characters, one for each
abbrev pub ascii : String → List ℕ
ascii none = []
ascii (c then text) = code c ∷ ascii text

-- the digit 0; the others follow it
abbrev pub digit_zero : ℕ
digit_zero = code "0"

-- the byte 0A hex, at which a line ends
abbrev pub line_feed : ℕ
line_feed = 0x0a

-- the byte between two fields of a line
abbrev pub space : ℕ
space = code " "
