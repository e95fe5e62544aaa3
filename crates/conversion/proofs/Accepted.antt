-- What an accepted conversion leaves: the book of the same orders in the other form, which is sound.
use Prim.Native.Nat.{ℕ, ◌-◌, ◌*◌, ◌/◌, ◌%◌, ◌≤◌}
use mathlib.Core.Path.{◌≡◌, refl, sym, ap, ap₂, ◌∙◌}
use mathlib.Core.Bool.{true, false, not, false≢true}
use mathlib.Core.List.{List, [], ◌∷◌, ◌++◌, map}
use native.Mathlib.Omega.{arith}
use native.Mathlib.Nat.{mul_comm, mul-sub, div-add-mod, div-le_of_le-mul}
use lib.ListN.{length, replicate, length-map}
use lib.Dec.{leb, ltb}
use borrow.Author.Tests.{leb-true, ltb-false, eqb-true, not-false}
use Rattle.units.specs.Lists.{all, flat_map, in_range, is_zero}
use Rattle.units.proofs.Tests.{and_true, or_false}
use Rattle.units.proofs.Facts.{chain_true}
use Rattle.orders.specs.declared.order.Kind.{Kind}
use Rattle.orders.specs.declared.order.Kind.TheVariants.{Displayed, NonDisplayed, MinimumQuantity, Reserve}
use Rattle.orders.specs.declared.order.Order.{Order}
use Rattle.orders.specs.Order.{kind_number, hidden_of, refresh_of}
use Rattle.record.specs.declared.form.RecordForm.{RecordForm}
use Rattle.record.specs.declared.form.RecordForm.TheVariants.{Old, New}
use Rattle.record.specs.Codec.{encode}
use Rattle.record.specs.Record.{OrderForm, new_form, old_form, old_tells, order_bytes, numbers_of, encode_order, can_tell}
use Rattle.record.specs.Names.{form_of}
use Rattle.book.specs.Sound.{most_orders, occupied, records_in, orders_in, sound_in, book_in}
use Rattle.record.proofs.Numbers.{AreBytes}
use Rattle.record.proofs.Records.{old_laws}
use Rattle.book.proofs.Soundness.{OrdersTold, orders_sound_in, orders_told_in}
use Rattle.book.proofs.Books.{orders_book_in, sound_book_in, sound_told}
use Rattle.book.proofs.Restoring.{records_orders_in}
use Rattle.conversion.specs.Conversion.{turned, turned_book, is_untold, is_whole, is_unfit, convert_call}
use Rattle.conversion.proofs.Widths.{form_laws}
use Rattle.conversion.proofs.Refused.{conversion_accepted, accepts}

-- kinds 1 to 3 have neither hidden shares nor a refresh size
hides_none : (k : Kind) → in_range 1 3 (kind_number k) ≡ true → (hidden_of k ≡ 0) × (refresh_of k ≡ 0)
hides_none Displayed e = (refl, refl)
hides_none NonDisplayed e = (refl, refl)
hides_none (MinimumQuantity m) e = (refl, refl)
hides_none (Reserve h r) e = absurd (false≢true e)

-- the record of an order that the old form tells, turned into another form, is its record in that form
turned_order : (from to : RecordForm) (o : Order) → can_tell old_form o ≡ true → turned (form_of to) (encode_order (form_of from) o) ≡ encode_order (form_of to) o
unfolding encode numbers_of old_tells
turned_order from to o e =
    let t = chain_true (in_range 1 3 (kind_number o.kind)) (is_zero o.security ∷ is_zero 0 ∷ []) e in
    let h = hides_none o.kind t.0 in
    go from to h.0 h.1
  where
    go : (from to : RecordForm) → hidden_of o.kind ≡ 0 → refresh_of o.kind ≡ 0 → turned (form_of to) (encode_order (form_of from) o) ≡ encode_order (form_of to) o
    go Old Old h r = refl
    go New Old h r = refl
    go Old New h r = rw (h, r)
    go New New h r = rw (h, r)

-- and so are the records of several
flat_turned : (from to : RecordForm) (os : List Order) → OrdersTold old_form os
    → flat_map (turned (form_of to)) (map (encode_order (form_of from)) os) ≡ flat_map (encode_order (form_of to)) os
flat_turned from to [] h = refl
flat_turned from to (o ∷ os) h = ap₂ (λ x y. x ++ y) (turned_order from to o h.0) (flat_turned from to os h.1)

-- a target that holds so many orders: a whole number of records, at most 256, and at least as many
pub target_holds : (f : OrderForm) (n k : ℕ) → is_unfit f n k ≡ false
    → (order_bytes f * (n / order_bytes f) ≡ n) × (n / order_bytes f ≤ most_orders) × (k ≤ n / order_bytes f)
target_holds f n k e =
    let u = or_false (not (is_whole f n)) (ltb (n / order_bytes f) k) e in
    let w = and_true (leb n (most_orders * order_bytes f)) (is_zero (n % order_bytes f)) (not-false (is_whole f n) u.0) in
    let m = leb-true n (most_orders * order_bytes f) w.0 in
    let z = eqb-true (n % order_bytes f) 0 w.1 in (
      omega (arith, div-add-mod n (order_bytes f)),
      div-le_of_le-mul (order_bytes f) (omega (arith, mul_comm (order_bytes f) most_orders)),
      omega (arith, ltb-false (n / order_bytes f) k u.1),
    )

-- A sound book s of one form with orders that the old form tells, and a target of n bytes of another form that holds them; the book's records
-- are those of its orders.
module _ (from to : RecordForm) (s : List ℕ) (e : sound_in (form_of from) s ≡ true) (plain : OrdersTold old_form (orders_in (form_of from) s)) where
  abbrev os : List Order
  os = orders_in (form_of from) s

  -- every form tells them
  pub told_by : (f : RecordForm) → OrdersTold (form_of f) os
  told_by Old = plain
  told_by New = sound_told os (orders_sound_in (form_of from) (form_laws from) s e).each

  module _ (n : ℕ) (f : is_unfit (form_of to) n (length os) ≡ false) (r : occupied (records_in (form_of from) s) ≡ map (encode_order (form_of from)) os) where
    abbrev capacity : ℕ
    capacity = n / order_bytes (form_of to)

    -- the records turned into the target's form are the book of the orders
    pub turned_book_lem : turned_book (form_of to) n (occupied (records_in (form_of from) s)) ≡ book_in (form_of to) capacity os
    turned_book_lem =
        let w = order_bytes (form_of to) in
        let h = target_holds (form_of to) n (length os) f in
        let l : length (occupied (records_in (form_of from) s)) ≡ length os = ap length r ∙ length-map os (encode_order (form_of from)) in
        let z : n - w * length (occupied (records_in (form_of from) s)) ≡ w * (capacity - length os)
        = ap₂ (λ x y. x - w * y) (sym h.0) l ∙ sym (mul-sub w capacity (length os)) in
        ap₂ (λ x y. x ++ replicate y 0) (ap (flat_map (turned (form_of to))) r ∙ flat_turned from to os plain) z

    -- which has these orders
    pub turned_orders : orders_in (form_of to) (turned_book (form_of to) n (occupied (records_in (form_of from) s))) ≡ os
    turned_orders =
        ap (orders_in (form_of to)) turned_book_lem
        ∙ orders_book_in (form_of to) (form_laws to) capacity os (target_holds (form_of to) n (length os) f).2
        (orders_sound_in (form_of from) (form_laws from) s e) (told_by to)

    -- and is sound
    pub turned_sound : sound_in (form_of to) (turned_book (form_of to) n (occupied (records_in (form_of from) s))) ≡ true
    turned_sound =
        let h = target_holds (form_of to) n (length os) f in
        ap (sound_in (form_of to)) turned_book_lem
        ∙ sound_book_in (form_of to) (form_laws to) capacity os h.2 (orders_sound_in (form_of from) (form_laws from) s e) (told_by to) h.1

all_told : (os : List Order) → all (can_tell old_form) os ≡ true → OrdersTold old_form os
all_told [] e = tt
all_told (o ∷ os) e = let a = and_true (can_tell old_form o) (all (can_tell old_form) os) e in (a.0, all_told os a.1)

-- the form that a book is turned from into another
abbrev pub other : RecordForm → RecordForm
other Old = New
other New = Old

-- the old form tells the orders of every old book, and those of a new one that isn't refused 11
pub plain_orders : (to : RecordForm) (s : List ℕ) → sound_in (form_of (other to)) s ≡ true → is_untold (form_of to) (orders_in (form_of (other to)) s) ≡ false
    → OrdersTold old_form (orders_in (form_of (other to)) s)
plain_orders Old s e u = all_told (orders_in new_form s) (not-false (all (can_tell old_form) (orders_in new_form s)) u)
plain_orders New s e u = orders_told_in old_form old_laws s e

-- An accepted conversion.
module _ (to : RecordForm) (s target : List ℕ) (b : AreBytes s) (e : (convert_call (form_of (other to)) (form_of to) s target).refusal ≡ 0) where
  abbrev made : List ℕ
  made = (convert_call (form_of (other to)) (form_of to) s target).book

  facts : (sound_in (form_of (other to)) s ≡ true) × (is_untold (form_of to) (orders_in (form_of (other to)) s) ≡ false)
      × (is_unfit (form_of to) (length target) (length (orders_in (form_of (other to)) s)) ≡ false)
  facts = conversion_accepted (form_of (other to)) (form_of to) s target e

  made_turned : made ≡ turned_book (form_of to) (length target) (occupied (records_in (form_of (other to)) s))
  made_turned = (accepts (form_of (other to)) (form_of to) s target facts.0 facts.1 facts.2).1

  -- it leaves the same orders
  pub conversion_orders : orders_in (form_of to) made ≡ orders_in (form_of (other to)) s
  conversion_orders =
      ap (orders_in (form_of to)) made_turned
      ∙ turned_orders (other to) to s facts.0 (plain_orders to s facts.0 facts.1) (length target) facts.2
      (records_orders_in (form_of (other to)) (form_laws (other to)) s facts.0 b)

  -- in a sound book
  pub conversion_sound : sound_in (form_of to) made ≡ true
  conversion_sound =
      ap (sound_in (form_of to)) made_turned
      ∙ turned_sound (other to) to s facts.0 (plain_orders to s facts.0 facts.1) (length target) facts.2
      (records_orders_in (form_of (other to)) (form_laws (other to)) s facts.0 b)
