-- An old book is sound where its records are of the old form and are sound when they are turned into the new one.
use Prim.Native.Nat.{ℕ, ◌*◌, ◌/◌, ◌%◌, ◌≤◌}
use mathlib.Core.Path.{◌≡◌, refl, sym, ap, ap₂, ◌∙◌}
use mathlib.Core.Bool.{Bool, true, false, ◌&&◌}
use mathlib.Core.Bool as bool
use mathlib.Core.List.{List, [], ◌∷◌, ◌++◌, map}
use native.Mathlib.Omega.{arith}
use lib.ListN.{length, get_or, take, drop, length-map, length-drop, take-append-drop, drop_of_length-le, get_or-eq_default}
use lib.Seq.{take_all, take_at, drop_at}
use lib.Dec.{leb}
use borrow.Author.Tests.{leb-true, le-leb, eq-eqb}
use Rattle.units.specs.Lists.{all, flat_map, is_zero}
use Rattle.units.proofs.Tests.{and_true, true_and, and_false}
use Rattle.units.proofs.Members.{Every}
use Rattle.orders.specs.declared.order.Order.{Order}
use Rattle.record.specs.declared.form.RecordForm.TheVariants.{Old, New}
use Rattle.record.specs.Codec.{split, decode, has_mark}
use Rattle.record.specs.Record.{common_widths, new_form, old_form, new_tells, old_tells, order_of, numbers_sound, decode_order, record_sound}
use Rattle.record.proofs.Numbers.{split_append}
use Rattle.record.proofs.Forms.{length_decode}
use Rattle.record.proofs.Rows.{cells, cells_row}
use Rattle.record.proofs.Records.{old_laws}
use Rattle.book.specs.Sound.{rising, setters_sound, occupied, first_records, records_in, sound_in, first_orders_in}
use Rattle.book.proofs.Soundness.{length_records}
use Rattle.book.proofs.Checking.{sound_parts_in}
use Rattle.conversion.specs.Conversion.{turned, is_whole}
use Rattle.conversion.specs.Plain.{is_plain}
use Rattle.conversion.proofs.Turned.{length_turned, records_common, length_all_turned}

-- a row of ten numbers, with two zeros behind it
row_more : (ns : List ℕ) → length ns ≡ 10 → ns ++ (0 ∷ 0 ∷ []) ≡ cells ns 0 12
row_more ns l =
    let h : get_or ns 10 0 ≡ 0 = get_or-eq_default ns 0 (omega arith) in
    let r : get_or ns 11 0 ≡ 0 = get_or-eq_default ns 0 (omega arith) in
    let f : take 10 (cells ns 0 12) ≡ ns = rw l at (cells_row ns 12 (omega arith)) in
    sym (sym (take-append-drop 10 (cells ns 0 12)) ∙ ap₂ (λ x y. x ++ y) f (ap₂ (λ a b. a ∷ b ∷ []) h r))

-- what every form wants, told by the old form, in another order
regroup : (m n o w : Bool) → (o ≡ true → w ≡ true) → (m && (n && o)) ≡ ((m && o) && (n && w))
regroup false n o w h = refl
regroup true n true w h = rw (h refl)
regroup true n false w h = and_false n refl

-- A record of the old form.
module _ (r : List ℕ) (l : length r ≡ 32) where
  abbrev row : List ℕ
  row = decode old_form.layout r

  -- in the new form it has the same numbers, and zeros for those that the old form hasn't
  decode_turned : decode new_form.layout (turned new_form r) ≡ cells row 0 12
  unfolding decode
  decode_turned =
      let n : length (drop 2 r) ≡ 30 = length-drop 2 r ∙ omega arith in
      let t : take 30 (drop 2 r) ≡ drop 2 r = take_all 30 (drop 2 r) (omega arith) in
      ap (λ x. split new_form.layout.widths (x ++ (0 ∷ 0 ∷ 0 ∷ 0 ∷ 0 ∷ 0 ∷ 0 ∷ 0 ∷ []))) t
      ∙ split_append common_widths (4 ∷ 4 ∷ []) (drop 2 r) (0 ∷ 0 ∷ 0 ∷ 0 ∷ 0 ∷ 0 ∷ 0 ∷ 0 ∷ []) n
      ∙ row_more row (length_decode old_form.layout r)

  -- so it says the same order
  order_turned : decode_order new_form (turned new_form r) ≡ decode_order old_form r
  unfolding order_of
  order_turned = ap order_of decode_turned

  -- and is sound where the old form tells it and the new record is sound
  record_turned : record_sound old_form r ≡ (is_plain old_form r && record_sound new_form (turned new_form r))
  unfolding numbers_sound new_tells
  record_turned =
      regroup (has_mark old_form.layout r) (numbers_sound row) (old_tells row) (new_tells row) (old_laws.new row (length_decode old_form.layout r))
      ∙ ap (λ ns. is_plain old_form r && (numbers_sound ns && new_tells ns)) (sym decode_turned)

five : (p a z x y : Bool) → ((((p && a) && z) && x) && y) ≡ ((p && z) && ((a && x) && y))
five false a z x y = refl
five true false true x y = refl
five true false false x y = refl
five true true true x y = refl
five true true false x y = refl

interchange : (p a q b : Bool) → ((p && a) && (q && b)) ≡ ((p && q) && (a && b))
interchange true a true b = refl
interchange true a false b = and_false a refl
interchange false a q b = refl

all_turned : (rs : List (List ℕ)) → Every (λ r. length r ≡ 32) rs
    → all (record_sound old_form) rs ≡ (all (is_plain old_form) rs && all (record_sound new_form) (map (turned new_form) rs))
all_turned [] h = refl
all_turned (r ∷ rs) h =
    ap₂ ◌&&◌ (record_turned r h.0) (all_turned rs h.1)
    ∙ interchange (is_plain old_form r) (record_sound new_form (turned new_form r)) (all (is_plain old_form) rs) (all (record_sound new_form) (map (turned new_form) rs))

orders_turned : (rs : List (List ℕ)) → Every (λ r. length r ≡ 32) rs
    → map (decode_order new_form) (map (turned new_form) rs) ≡ map (decode_order old_form) rs
orders_turned [] h = refl
orders_turned (r ∷ rs) h = ap₂ ◌∷◌ (order_turned r h.0) (orders_turned rs h.1)

-- one behind the other, turned, they are the records of a buffer
first_turned : (rs : List (List ℕ)) → Every (λ r. length r ≡ 32) rs
    → first_records new_form (length rs) (flat_map (turned new_form) rs) ≡ map (turned new_form) rs
first_turned [] h = refl
first_turned (r ∷ rs) h =
    let t = flat_map (turned new_form) rs in
    let l = length_turned New r (omega (arith, h.0)) in
    rw (take_at (turned new_form r) t 40 l, drop_at (turned new_form r) t 40 l, first_turned rs h.1)

-- and none is unused
occupied_turned : (rs : List (List ℕ)) → occupied (map (turned new_form) rs) ≡ map (turned new_form) rs
occupied_turned [] = refl
occupied_turned (r ∷ rs) = ap (λ xs. turned new_form r ∷ xs) (occupied_turned rs)

-- an old book has at most 256 records
pub few_records : (s : List ℕ) (n : ℕ) → is_whole old_form (length s) ≡ true → 32 * n ≤ length s → n ≤ 256
few_records s n w h = omega (arith, leb-true (length s) 8192 (and_true (leb (length s) 8192) (is_zero (length s % 32)) w).0)

-- The first n records of an old book, turned into the new form.
module _ (s : List ℕ) (n : ℕ) (fit : 32 * n ≤ length s) (few : n ≤ 256) where
  abbrev rs : List (List ℕ)
  rs = first_records old_form n s

  abbrev t : List ℕ
  t = flat_map (turned new_form) rs

  abbrev os : List Order
  os = map (decode_order old_form) rs

  each : Every (λ r. length r ≡ 32) rs
  each = records_common Old New n s fit

  count : length rs ≡ n
  count = length_records old_form n s

  long : length t ≡ 40 * n
  long = length_all_turned Old New n s fit

  first : first_records new_form n t ≡ map (turned new_form) rs
  first = ap (λ k. first_records new_form k t) (sym count) ∙ first_turned rs each

  counted : n ≡ length (occupied (records_in new_form t))
  counted =
      let c : length t / 40 ≡ n = omega (arith, long) in
      sym (ap (λ k. length (occupied (first_records new_form k t))) c ∙ ap (λ xs. length (occupied xs)) first ∙ ap length (occupied_turned rs)
      ∙ length-map rs (turned new_form) ∙ count)

  wholly : is_whole new_form (length t) ≡ true
  wholly = true_and (le-leb (length t) 10240 (omega (arith, long))) (eq-eqb (length t % 40) 0 (omega (arith, long)))

  -- they are a sound book where each is sound, numbers rise, and setter marks are apart
  turned_sound : sound_in new_form t ≡ (all (record_sound new_form) (map (turned new_form) rs) && rising 0 os && setters_sound os)
  turned_sound =
      let z : drop (40 * n) t ≡ [] = drop_of_length-le t {i = 40 * n} (omega (arith, long)) in
      let o : first_orders_in new_form n t ≡ os = ap (map (decode_order new_form)) first ∙ orders_turned rs each in
      sound_parts_in new_form t n counted wholly
      ∙ rw (o, first, z, bool.and-true (all (record_sound new_form) (map (turned new_form) rs)))

  -- an old book of these records is sound where they are plain, what is behind them is zero, and they are a sound book of the new form
  pub old_sound : n ≡ length (occupied (records_in old_form s)) → is_whole old_form (length s) ≡ true
      → sound_in old_form s ≡ (all (is_plain old_form) rs && all is_zero (drop (32 * n) s) && sound_in new_form t)
  old_sound e w =
      sound_parts_in old_form s n e w
      ∙ rw (all_turned rs each, turned_sound)
      (five (all (is_plain old_form) rs) (all (record_sound new_form) (map (turned new_form) rs)) (all is_zero (drop (32 * n) s)) (rising 0 os) (setters_sound os))
