-- What a conversion's caller gets, refused or not.
use Prim.Native.Nat.{ℕ}
use mathlib.Core.Path.{◌≡◌, refl, sym, ap, ap₂, ◌∙◌}
use mathlib.Core.Bool.{Bool, true, false, not, ◌&&◌}
use mathlib.Core.List.{List, [], ◌∷◌, map}
use lib.ListN.{length, length-map}
use Rattle.units.specs.Lists.{all}
use Rattle.units.proofs.Tests.{and_true, true_and}
use Rattle.orders.specs.declared.order.Order.{Order}
use Rattle.record.specs.declared.form.RecordForm.{RecordForm}
use Rattle.record.specs.Codec.{decode, has_mark}
use Rattle.record.specs.Record.{OrderForm, new_form, old_form, decode_order, can_tell, row_sound, record_sound}
use Rattle.record.specs.Names.{form_of}
use Rattle.record.proofs.Numbers.{AreBytes}
use Rattle.record.proofs.Records.{old_laws, new_numbers}
use Rattle.book.specs.Sound.{occupied, first_records, records_in, orders_in, sound_in}
use Rattle.book.proofs.Soundness.{OrdersTold, book_facts, orders_sound_in}
use Rattle.book.proofs.Books.{sound_told}
use Rattle.book.proofs.Checking.{occupied_first}
use Rattle.book.proofs.Committing.{Refuses}
use Rattle.conversion.specs.Conversion.{turned_book, is_untold, is_unfit, convert_call}
use Rattle.conversion.specs.Plain.{is_plain}
use Rattle.conversion.proofs.Refused.{accepts}
use Rattle.conversion.proofs.Accepted.{other, conversion_sound, conversion_orders}

-- a form that tells each of the orders tells all
pub all_told : (f : OrderForm) (os : List Order) → OrdersTold f os → all (can_tell f) os ≡ true
all_told f [] h = refl
all_told f (o ∷ os) h = true_and h.0 (all_told f os h.1)

-- the new form tells the orders of every old book: none is refused 11
pub old_told : (s : List ℕ) → sound_in old_form s ≡ true → is_untold new_form (orders_in old_form s) ≡ false
old_told s e =
    let os = orders_in old_form s in
    ap not (all_told new_form os (sound_told os (orders_sound_in old_form old_laws s e).each))

-- of sound records of the new form those are plain whose orders the old form tells
plain_records : (rs : List (List ℕ)) → all (record_sound new_form) rs ≡ true
    → all (is_plain new_form) rs ≡ all (can_tell old_form) (map (decode_order new_form) rs)
plain_records [] e = refl
plain_records (r ∷ rs) e =
    let a = and_true (record_sound new_form r) (all (record_sound new_form) rs) e in
    let m = (and_true (has_mark new_form.layout r) (row_sound new_form (decode new_form.layout r)) a.0).0 in
    let p : is_plain new_form r ≡ can_tell old_form (decode_order new_form r) = rw m (ap old_form.tells (new_numbers r a.0)) in
    ap₂ ◌&&◌ p (plain_records rs a.1)

-- so a book of the new form is refused 11 where not all of its records are plain
pub untold_plain : (s : List ℕ) → sound_in new_form s ≡ true → (n : ℕ) → n ≡ length (occupied (records_in new_form s))
    → {b : Bool} → b ≡ all (is_plain new_form) (first_records new_form n s) → is_untold old_form (orders_in new_form s) ≡ not b
untold_plain s e n c q =
    let k : first_records new_form n s ≡ occupied (records_in new_form s) = ap (λ i. first_records new_form i s) c ∙ sym (occupied_first new_form s) in
    ap not (sym (q ∙ ap (all (is_plain new_form)) k ∙ plain_records (occupied (records_in new_form s)) (book_facts new_form s e).records))

module _ (to : RecordForm) (s target : List ℕ) where
  -- the refusal, the bytes, and where nothing is refused a sound book with the same orders
  abbrev pub Answers : ℕ → List ℕ → Type 0
  Answers r x =
      (r ≡ (convert_call (form_of (other to)) (form_of to) s target).refusal)
      × ((x ≡ (convert_call (form_of (other to)) (form_of to) s target).book)
      × ((r ≡ 0 → sound_in (form_of to) x ≡ true) × (r ≡ 0 → orders_in (form_of to) x ≡ orders_in (form_of (other to)) s)))

  -- a refusal answers so, with the target as it was
  pub refusal_answer : (r : ℕ) → Refuses (convert_call (form_of (other to)) (form_of to) s target) target r → Answers r target
  refusal_answer r f = (f.refusal, (f.book, ((λ z. absurd (f.refused z)), λ z. absurd (f.refused z))))

  -- A book with n orders, as they are counted.
  module _ (n : ℕ) (c : n ≡ length (occupied (records_in (form_of (other to)) s))) where
    pub count_orders : n ≡ length (orders_in (form_of (other to)) s)
    count_orders = c ∙ sym (length-map (occupied (records_in (form_of (other to)) s)) (decode_order (form_of (other to))))

    -- so does the target with its records in the other form
    pub filled_answer : AreBytes s → sound_in (form_of (other to)) s ≡ true → is_untold (form_of to) (orders_in (form_of (other to)) s) ≡ false
        → is_unfit (form_of to) (length target) n ≡ false → {x : List ℕ}
        → x ≡ turned_book (form_of to) (length target) (first_records (form_of (other to)) n s) → Answers 0 x
    filled_answer b e u f {x} q =
        let g = rw count_orders at f in
        let a = accepts (form_of (other to)) (form_of to) s target e u g in
        let k : first_records (form_of (other to)) n s ≡ occupied (records_in (form_of (other to)) s)
        = ap (λ i. first_records (form_of (other to)) i s) c ∙ sym (occupied_first (form_of (other to)) s) in
        let m = q ∙ ap (turned_book (form_of to) (length target)) k ∙ sym a.1 in
        let h = ap (sound_in (form_of to)) m ∙ conversion_sound to s target b a.0 in
        let o = ap (orders_in (form_of to)) m ∙ conversion_orders to s target b a.0 in
        (sym a.0, (m, ((λ z. h), λ z. o)))
