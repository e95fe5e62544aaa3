-- Walking over a book's records: as they are cut from its bytes, and one turn of the loops over them and their orders.
use Prim.Native.Nat.{ℕ, zero, suc, ◌+◌, ◌-◌, ◌*◌, ◌/◌, ◌≤◌, ◌<◌}
use mathlib.Core.Path.{◌≡◌, refl, sym, ap, ap₂, ◌∙◌}
use mathlib.Core.Bool.{Bool, ◌&&◌, ◌||◌, and-true, or-false, and_assoc, or_assoc}
use mathlib.Core.List.{List, [], ◌∷◌, ◌++◌, map}
use native.Mathlib.Omega.{arith}
use native.Mathlib.Nat.{mul-suc, add-div_right, mul-div_cancel_left, div-eq_of_lt}
use Rattle.std.specs.List.{fold}
use Rattle.std.specs.Simd.{first_chunks}
use native.Mathlib.Numerals.{add-one}
use lib.ListN.{length, get_or, take, drop, drop_of_length-le, length-append}
use Rattle.std.proofs.lemmas.List.{take-take, drop-take}
use lib.Seq.{length-take-le, take_at, drop_at, drop-cons}
use borrow.Author.Tests.{eq-eqb, ne_eqb}
use Rattle.units.specs.Lists.{all, any}
use Rattle.orders.specs.declared.order.Order.{Order}
use Rattle.record.specs.declared.form.RecordForm.{RecordForm}
use Rattle.record.specs.declared.form.RecordForm.TheVariants.{Old, New}
use Rattle.record.specs.Names.{form_of}
use Rattle.record.specs.Record.{OrderForm, order_bytes, decode_order}
use Rattle.book.specs.Sound.{form, occupied, first_records, records_in}

-- Records of any form.
module _ (f : OrderForm) where
  -- they are the chunks of its width
  pub chunks_records : (n : ℕ) (s : List ℕ) → first_chunks (order_bytes f) n s ≡ first_records f n s
  chunks_records zero s = refl
  chunks_records (suc n) s = ap (λ rs. take (order_bytes f) s ∷ rs) (chunks_records n (drop (order_bytes f) s))

  -- the first are those of their bytes, and what is behind these doesn't matter
  pub records_take : (n m : ℕ) (s : List ℕ) → order_bytes f * n ≤ m → first_records f n (take m s) ≡ first_records f n s
  records_take zero m s h = refl
  records_take (suc n) m s h =
      let w = order_bytes f in
      let l : w + w * n ≤ m = omega (arith, mul-suc w n) in
      let e : w + (m - w) ≡ m = omega arith in
      let rest : drop w (take m s) ≡ take (m - w) (drop w s) = ap (λ k. drop w (take k s)) (sym e) ∙ drop-take w (m - w) s in
      ap₂ ◌∷◌ (take-take w m s (omega arith)) (ap (first_records f n) rest ∙ records_take n (m - w) (drop w s) (omega arith))

  -- and all of these
  pub records_front : 1 ≤ order_bytes f → (n : ℕ) (s : List ℕ) → order_bytes f * n ≤ length s
      → (length (take (order_bytes f * n) s) / order_bytes f ≡ n) × (records_in f (take (order_bytes f * n) s) ≡ first_records f n s)
  records_front some n s h =
      let w = order_bytes f in
      let e : length (take (w * n) s) / w ≡ n = ap (λ k. k / w) (length-take-le (w * n) s h) ∙ mul-div_cancel_left n some in
      (e, ap (λ k. first_records f k (take (w * n) s)) e ∙ records_take n (w * n) s (omega arith))

-- A test of every item, gathered in a fold.
module _ {A B : Type 0} (v : A → B) (p : B → Bool) where
  -- whether all passed
  pub all_folded : (b : Bool) (xs : List A) → fold (λ a x. a && p (v x)) b xs ≡ (b && all p (map v xs))
  all_folded b [] = sym (and-true b)
  all_folded b (x ∷ xs) = all_folded (b && p (v x)) xs ∙ and_assoc b (p (v x)) (all p (map v xs))

  -- whether any did
  pub any_folded : (b : Bool) (xs : List A) → fold (λ a x. a || p (v x)) b xs ≡ (b || any p (map v xs))
  any_folded b [] = sym (or-false b)
  any_folded b (x ∷ xs) = any_folded (b || p (v x)) xs ∙ or_assoc b (p (v x)) (any p (map v xs))

-- A form's record has bytes.
pub has_bytes : (form : RecordForm) → 1 ≤ order_bytes (form_of form)
has_bytes Old = omega arith
has_bytes New = omega arith

-- Records of any form, cut off one by one.
module _ (f : OrderForm) (some : 1 ≤ order_bytes f) (s : List ℕ) where
  -- A record's bytes, and those behind it.
  module _ (r t : List ℕ) (e : s ≡ r ++ t) (l : length r ≡ order_bytes f) where
    -- they hold it and the records behind it
    pub records_next : records_in f s ≡ r ∷ records_in f t
    records_next =
        let w = order_bytes f in
        let k : length s ≡ length t + w = omega (arith, ap length e, length-append r t) in
        let n : length s / w ≡ suc (length t / w) = rw k (omega (arith, add-div_right (length t) some)) in
        ap (λ n. first_records f n s) n
        ∙ ap₂ (λ x y. x ∷ first_records f (length t / w) y) (ap (take w) e ∙ take_at r t w l) (ap (drop w) e ∙ drop_at r t w l)

    -- where it is unused, none comes before the first unused one
    pub occupied_stop : get_or r 0 0 ≡ 0 → length (occupied (records_in f s)) ≡ 0
    occupied_stop z = ap (λ rs. length (occupied rs)) records_next ∙ rw (eq-eqb (get_or r 0 0) 0 z)

    -- else it is one more than those behind it
    pub occupied_next : (get_or r 0 0 ≡ 0 → ⊥) → length (occupied (records_in f s)) ≡ suc (length (occupied (records_in f t)))
    occupied_next z = ap (λ rs. length (occupied rs)) records_next ∙ rw (ne_eqb (get_or r 0 0) 0 z)

  -- fewer bytes hold none
  pub records_end : length s < order_bytes f → records_in f s ≡ []
  records_end h = ap (λ n. first_records f n s) (div-eq_of_lt h)

-- Records whose orders are read one by one.
module _ (rs : List (List ℕ)) (i : ℕ) where
  -- the order of record i, as it is read, stands in front of those behind it
  pub orders_next : i < length rs → (d : List ℕ) {o : Order} → o ≡ decode_order form (get_or rs i d)
      → map (decode_order form) (drop i rs) ≡ o ∷ map (decode_order form) (drop (i + 1) rs)
  orders_next h d q =
      let e : drop i rs ≡ get_or rs i d ∷ drop (i + 1) rs = rw add-one (drop-cons rs i d h) in
      ap (map (decode_order form)) e ∙ ap (λ o. o ∷ map (decode_order form) (drop (i + 1) rs)) (sym q)

  -- behind the last there are none
  pub orders_end : length rs ≤ i → map (decode_order form) (drop i rs) ≡ []
  orders_end h = ap (map (decode_order form)) (drop_of_length-le rs h)
