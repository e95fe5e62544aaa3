-- Orders and their records, both ways, for any form of record.
use Prim.Native.Nat.{ℕ, ◌≤◌}
use mathlib.Core.Path.{◌≡◌, refl, sym, ap, ◌∙◌}
use mathlib.Core.Bool.{true, false, false≢true}
use mathlib.Core.List.{List, [], ◌∷◌, ◌++◌}
use native.Mathlib.Omega.{arith}
use lib.ListN.{length, get_or, take, get_or-eq_default}
use borrow.Author.Tests.{ne_eqb, eqb-true}
use Rattle.units.specs.Lists.{in_range, is_zero}
use Rattle.units.proofs.Members.{Every}
use Rattle.units.proofs.Tests.{and_true, true_and}
use Rattle.units.proofs.Facts.{chain_true, range_true, true_range}
use Rattle.orders.specs.declared.order.Kind.{Kind}
use Rattle.orders.specs.declared.order.Kind.TheVariants.{Displayed, NonDisplayed, MinimumQuantity, Reserve}
use Rattle.orders.specs.declared.order.Order.{Order}
use Rattle.orders.specs.Order.{kind_number, kind_of, minimum_of, reserve_in_range}
use Rattle.record.specs.Codec.{encode, decode, has_mark}
use Rattle.record.specs.Record.{OrderForm, common_widths, new_form, old_form, new_tells, old_tells, numbers_of, order_of, numbers_sound}
use Rattle.record.specs.Record.{order_bytes, encode_order, decode_order, can_tell, row_sound, record_sound}
use Rattle.record.proofs.Numbers.{Fits, AreBytes, fits_first}
use Rattle.record.proofs.Rows.{cells, cells_row, numbers_order, all_told, order_numbers, side_of_lem, setter_of}
use Rattle.record.proofs.Orders.{OrderSound, row_sound_lem, order_fits}
use Rattle.record.proofs.Forms.{length_decode, length_first, mark_encode, decode_first, encode_first, encode_decode}

-- What the laws want of a form, and each form has.
pub record FormLaws (f : OrderForm) : Type 0 where
  -- a record has bytes, and its first isn't zero
  pub some : 1 ≤ order_bytes f
  pub begins : (s : List ℕ) → is_zero (get_or (f.layout.mark ++ s) 0 0) ≡ false
  -- it has at most the numbers that an order has, which fit it
  pub few : length f.layout.widths ≤ 12
  pub fits : (o : Order) → OrderSound o → Fits f.layout.widths (take (length f.layout.widths) (numbers_of o))
  -- what it tells the new form tells too
  pub new : (ns : List ℕ) → length ns ≡ length f.layout.widths → f.tells ns ≡ true → new_tells ns ≡ true
  -- it asks of no number that an order hasn't, and of none that its records haven't
  pub asks : (ns : List ℕ) → f.tells (cells ns 0 12) ≡ f.tells ns
  pub asks_own : (o : Order) → row_sound f (take (length f.layout.widths) (numbers_of o)) ≡ row_sound f (numbers_of o)
  -- an order that it tells is what these say
  pub says : (o : Order) → can_tell f o ≡ true → order_of (take (length f.layout.widths) (numbers_of o)) ≡ o

new_asks : (ns : List ℕ) → new_tells (cells ns 0 12) ≡ new_tells ns
unfolding new_tells
new_asks ns = refl

-- the new form has them
pub new_laws : FormLaws new_form
unfolding numbers_of
new_laws = record {
  some = omega arith;
  begins = λ s. refl;
  few = omega arith;
  fits = order_fits;
  new = λ ns l e. e;
  asks = new_asks;
  asks_own = λ o. refl;
  says = λ o e. order_numbers o;
}

-- kinds 1 to 3 have neither hidden shares nor a refresh size
old_kind : (k : Kind) → in_range 1 3 (kind_number k) ≡ true → kind_of (kind_number k) (minimum_of k) 0 0 ≡ k
old_kind Displayed e = refl
old_kind NonDisplayed e = refl
old_kind (MinimumQuantity m) e = refl
old_kind (Reserve h r) e = absurd (false≢true e)

no_reserve : (k : ℕ) → in_range 1 3 k ≡ true → reserve_in_range k 0 0 ≡ true
no_reserve k e = let r = range_true 1 3 k e in rw (ne_eqb k 4 (λ z. omega arith))

-- what an old record tells
old_told : (ns : List ℕ) → old_tells ns ≡ true → Every (λ b. b ≡ true) (in_range 1 3 (get_or ns 1 0) ∷ is_zero (get_or ns 7 0) ∷ is_zero (get_or ns 8 0) ∷ [])
unfolding old_tells
old_told ns e = chain_true (in_range 1 3 (get_or ns 1 0)) (is_zero (get_or ns 7 0) ∷ is_zero (get_or ns 8 0) ∷ []) e

old_new : (ns : List ℕ) → length ns ≡ 10 → old_tells ns ≡ true → new_tells ns ≡ true
old_new ns l e =
    let t = old_told ns e in
    let r = range_true 1 3 (get_or ns 1 0) t.0 in
    let h : get_or ns 10 0 ≡ 0 = get_or-eq_default ns 0 (omega arith) in
    let f : get_or ns 11 0 ≡ 0 = get_or-eq_default ns 0 (omega arith) in
    let k = eqb-true (get_or ns 7 0) 0 t.1.0 in
    all_told ns (true_range 1 4 (get_or ns 1 0) r.0 (omega arith)) (true_range 0 1 (get_or ns 7 0) (omega arith) (omega arith)) t.1.1.0 (rw (h, f) (no_reserve (get_or ns 1 0) t.0))

old_asks : (ns : List ℕ) → old_tells (cells ns 0 12) ≡ old_tells ns
unfolding old_tells
old_asks ns = refl

old_asks_own : (o : Order) → row_sound old_form (take 10 (numbers_of o)) ≡ row_sound old_form (numbers_of o)
unfolding numbers_of numbers_sound old_tells
old_asks_own o = refl

old_says : (o : Order) → can_tell old_form o ≡ true → order_of (take 10 (numbers_of o)) ≡ o
unfolding numbers_of order_of
old_says o e = rw (side_of_lem o.side, old_kind o.kind (old_told (numbers_of o) e).0, setter_of o.setter)

-- the old form has them
pub old_laws : FormLaws old_form
old_laws = record {
  some = omega arith;
  begins = λ s. refl;
  few = omega arith;
  fits = λ o e. fits_first common_widths (4 ∷ 4 ∷ []) (numbers_of o) (order_fits o e);
  new = old_new;
  asks = old_asks;
  asks_own = old_asks_own;
  says = old_says;
}

-- For a form that has them.
module _ (f : OrderForm) (laws : FormLaws f) where
  -- how many numbers a record has
  abbrev count : ℕ
  count = length f.layout.widths

  -- an order's record has the bytes of the form
  pub length_order : (o : Order) → length (encode_order f o) ≡ order_bytes f
  unfolding numbers_of
  length_order o = length_first f.layout (numbers_of o) laws.few

  -- its first byte isn't zero
  pub order_begins : (o : Order) → is_zero (get_or (encode_order f o) 0 0) ≡ false
  unfolding encode
  order_begins o = laws.begins _

  -- A sound order that the form tells.
  module _ (o : Order) (e : OrderSound o) (t : can_tell f o ≡ true) where
    numbers_back : decode f.layout (encode_order f o) ≡ take count (numbers_of o)
    numbers_back = decode_first f.layout (numbers_of o) (laws.fits o e)

    -- it is read back from its record
    pub decode_order_lem : decode_order f (encode_order f o) ≡ o
    decode_order_lem = ap order_of numbers_back ∙ laws.says o t

    -- which is sound
    pub record_sound_lem : record_sound f (encode_order f o) ≡ true
    record_sound_lem =
        true_and (mark_encode f.layout (numbers_of o))
        (ap (row_sound f) numbers_back ∙ laws.asks_own o ∙ true_and (and_true (numbers_sound (numbers_of o)) (new_tells (numbers_of o)) e).0 t)

  -- A sound record.
  module _ (r : List ℕ) (e : record_sound f r ≡ true) where
    abbrev row : List ℕ
    row = decode f.layout r

    marked : has_mark f.layout r ≡ true
    marked = (and_true (has_mark f.layout r) (row_sound f row) e).0

    told : (numbers_sound row ≡ true) × (f.tells row ≡ true)
    told = and_true (numbers_sound row) (f.tells row) (and_true (has_mark f.layout r) (row_sound f row) e).1

    -- its numbers are such as the new form has
    pub row_new : row_sound new_form row ≡ true
    row_new = true_and told.0 (laws.new row (length_decode f.layout r) told.1)

    -- and its order's
    pub numbers_read : numbers_of (decode_order f r) ≡ cells row 0 12
    numbers_read = numbers_order row row_new

    -- its order is sound
    pub order_sound : OrderSound (decode_order f r)
    order_sound = row_sound_lem row row_new

    -- and one that the form tells
    pub order_told : can_tell f (decode_order f r) ≡ true
    order_told = ap f.tells numbers_read ∙ laws.asks row ∙ told.1

    -- it is the record of its order
    pub encode_order_lem : AreBytes r → length r ≡ order_bytes f → encode_order f (decode_order f r) ≡ r
    encode_order_lem b l =
        let n = length_decode f.layout r in
        let c : take count (cells row 0 12) ≡ row = ap (λ k. take k (cells row 0 12)) (sym n) ∙ cells_row row 12 (omega (arith, laws.few)) in
        ap (encode f.layout) numbers_read
        ∙ sym (encode_first f.layout (cells row 0 12))
        ∙ ap (encode f.layout) c
        ∙ encode_decode f.layout r marked b l

-- the numbers of a sound record of the new form are its order's
pub new_numbers : (r : List ℕ) → record_sound new_form r ≡ true → decode new_form.layout r ≡ numbers_of (decode_order new_form r)
new_numbers r e =
    let ns = decode new_form.layout r in
    let l = length_decode new_form.layout r in
    sym (numbers_read new_form new_laws r e ∙ rw l at (cells_row ns 12 (omega arith)))
