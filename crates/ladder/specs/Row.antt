-- A row of the ladder as 24 bytes, both ways.
use Rattle.std.specs.Prelude.{ℕ, List, [], ◌∷◌, map, get_or}
use Rattle.orders.specs.Order.{side_number, side_of}
use Rattle.record.specs.Codec.{Form, form_bytes, encode, decode, records_of}
use Rattle.ladder.specs.declared.row.Row.{Row}

-- mark 4C 44 hex, side, a zero byte, price, displayed shares, other shares, order count, six zero bytes
abbrev pub row_form : Form
row_form = record { mark = 0x4c ∷ 0x44 ∷ []; widths = 1 ∷ 1 ∷ 4 ∷ 4 ∷ 4 ∷ 2 ∷ 6 ∷ [] }

abbrev pub row_bytes : ℕ
row_bytes = form_bytes row_form

-- a row's numbers, in the places of the form
abbrev pub numbers_of : Row → List ℕ
numbers_of r = side_number r.side ∷ 0 ∷ r.price.0 ∷ r.displayed.0 ∷ r.other.0 ∷ r.orders ∷ 0 ∷ []

-- its bytes
abbrev pub encode_row : Row → List ℕ
encode_row r = encode row_form (numbers_of r)

-- the row that its numbers say
unfoldable pub row_from : List ℕ → Row
row_from ns = record {
  side = side_of (get_or ns 0 0);
  price = record { 0 = get_or ns 2 0 };
  displayed = record { 0 = get_or ns 3 0 };
  other = record { 0 = get_or ns 4 0 };
  orders = get_or ns 5 0;
}

abbrev pub decode_row : List ℕ → Row
decode_row s = row_from (decode row_form s)

-- the first n rows of a ladder
abbrev pub rows_in : ℕ → List ℕ → List Row
rows_in n l = map decode_row (records_of row_form n l)
