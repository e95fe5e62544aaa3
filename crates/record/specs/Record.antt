-- The record of an order in each of its forms, both ways, and what makes one sound.
use Rattle.std.specs.Prelude.{ℕ, Bool, ◌&&◌, ◌||◌, List, [], ◌∷◌, ◌++◌, get_or, eqb}
use Rattle.units.specs.Lists.{in_range, or_zero, is_zero}
use Rattle.orders.specs.declared.order.Order.{Order}
use Rattle.record.specs.Codec.{Form, form_bytes, encode, decode, has_mark}
use Rattle.orders.specs.Order.{side_number, side_of, kind_number, kind_of, minimum_of, hidden_of, refresh_of, price_of, size_of}
use Rattle.orders.specs.Order.{number_in_range, price_in_range, shares_in_range, security_in_range, minimum_in_range, reserve_in_range}

-- A form of an order's record: its mark and widths, and what such a record can tell beside that which every form tells.
pub record OrderForm : Type 0 where
  pub layout : Form
  pub tells : List ℕ → Bool

-- what every form has behind its mark: side, kind, order number, price, size, minimum, setter mark; byte 21, bytes 22 and 23, bytes 24 to 31
abbrev pub common_widths : List ℕ
common_widths = 1 ∷ 1 ∷ 4 ∷ 4 ∷ 4 ∷ 4 ∷ 1 ∷ 1 ∷ 2 ∷ 8 ∷ []

-- a new record tells kinds 1 to 4, with hidden shares and a refresh size for kind 4 alone, and in byte 21 the security; bytes 22 and 23 are
-- zero
unfoldable pub new_tells : List ℕ → Bool
new_tells ns =
    in_range 1 4 (get_or ns 1 0)
    && security_in_range (get_or ns 7 0)
    && is_zero (get_or ns 8 0)
    && reserve_in_range (get_or ns 1 0) (get_or ns 10 0) (get_or ns 11 0)

-- an old one kinds 1 to 3; bytes 21 to 23 are zero
unfoldable pub old_tells : List ℕ → Bool
old_tells ns = in_range 1 3 (get_or ns 1 0) && is_zero (get_or ns 7 0) && is_zero (get_or ns 8 0)

-- the new form, 40 bytes: mark 4F 43 hex, and behind what every form has the hidden shares and the refresh size
abbrev pub new_form : OrderForm
new_form = record { layout = record { mark = 0x4f ∷ 0x43 ∷ []; widths = common_widths ++ (4 ∷ 4 ∷ []) }; tells = new_tells }

-- the form of older books, 32 bytes: mark 4F 42 hex, and what every form has
abbrev pub old_form : OrderForm
old_form = record { layout = record { mark = 0x4f ∷ 0x42 ∷ []; widths = common_widths }; tells = old_tells }

-- an order's numbers, in the places of the new form; an old record has the first ten of them
unfoldable pub numbers_of : Order → List ℕ
numbers_of o =
    side_number o.side ∷ kind_number o.kind ∷ o.number ∷ price_of o ∷ size_of o ∷ minimum_of o.kind ∷ or_zero o.setter 1 ∷
    o.security ∷ 0 ∷ 0 ∷ hidden_of o.kind ∷ refresh_of o.kind ∷ []

-- the order that a record's numbers say; one that the record hasn't is zero
unfoldable pub order_of : List ℕ → Order
order_of ns = record {
  side = side_of (get_or ns 0 0);
  kind = kind_of (get_or ns 1 0) (get_or ns 5 0) (get_or ns 10 0) (get_or ns 11 0);
  number = get_or ns 2 0;
  price = record { 0 = get_or ns 3 0 };
  size = record { 0 = get_or ns 4 0 };
  setter = eqb (get_or ns 6 0) 1;
  security = get_or ns 7 0;
}

-- in every form each of these numbers is in its range, a setter mark is 0 or 1 and 1 only for kinds 1 and 4, and bytes 24 to 31 are zero
unfoldable pub numbers_sound : List ℕ → Bool
numbers_sound ns =
    in_range 1 2 (get_or ns 0 0)
    && number_in_range (get_or ns 2 0)
    && price_in_range (get_or ns 3 0)
    && shares_in_range (get_or ns 4 0)
    && minimum_in_range (get_or ns 1 0) (get_or ns 4 0) (get_or ns 5 0)
    && (is_zero (get_or ns 6 0) || (eqb (get_or ns 6 0) 1 && (eqb (get_or ns 1 0) 1 || eqb (get_or ns 1 0) 4)))
    && is_zero (get_or ns 9 0)

-- how many bytes a record of the form has
abbrev pub order_bytes : OrderForm → ℕ
order_bytes f = form_bytes f.layout

-- an order's record
abbrev pub encode_order : OrderForm → Order → List ℕ
encode_order f o = encode f.layout (numbers_of o)

-- a record's order
abbrev pub decode_order : OrderForm → List ℕ → Order
decode_order f s = order_of (decode f.layout s)

-- the form can tell an order
abbrev pub can_tell : OrderForm → Order → Bool
can_tell f o = f.tells (numbers_of o)

-- sound numbers are those that every form wants so, and such as the form tells
abbrev pub row_sound : OrderForm → List ℕ → Bool
row_sound f ns = numbers_sound ns && f.tells ns

-- a sound record has the mark, and sound numbers
abbrev pub record_sound : OrderForm → List ℕ → Bool
record_sound f s = has_mark f.layout s && row_sound f (decode f.layout s)
