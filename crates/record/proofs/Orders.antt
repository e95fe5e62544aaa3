-- What a sound order has, and that its numbers fit its record.
use Prim.Native.Nat.{ℕ, ◌≤◌}
use mathlib.Core.Path.{◌≡◌, refl, ap, ◌∙◌}
use mathlib.Core.Bool.{Bool, true, false, ◌&&◌, ◌||◌, false≢true}
use mathlib.Core.List.{List}
use native.Mathlib.Omega.{arith}
use lib.Dec.{leb, eqb}
use borrow.Author.Tests.{leb-true, le-leb}
use Rattle.units.specs.Lists.{in_range, or_zero, is_zero}
use Rattle.units.proofs.Tests.{and_true, true_and, pick_least}
use Rattle.units.proofs.Facts.{range_true, true_range}
use Rattle.orders.specs.declared.order.Side.{Side}
use Rattle.orders.specs.declared.order.Side.TheVariants.{Buy, Sell}
use Rattle.orders.specs.declared.order.Kind.{Kind}
use Rattle.orders.specs.declared.order.Kind.TheVariants.{Displayed, NonDisplayed, MinimumQuantity, Reserve}
use Rattle.orders.specs.declared.order.Order.{Order}
use Rattle.orders.specs.Order.{side_number, kind_number, minimum_of, hidden_of, refresh_of, is_displayed, is_minimum_quantity, is_reserve, price_of, size_of}
use Rattle.orders.specs.Order.{minimum_in_range, reserve_in_range}
use Rattle.record.specs.Record.{new_form, new_tells, numbers_of, order_of, numbers_sound, row_sound}
use Rattle.record.proofs.Numbers.{Fits}
use Rattle.record.proofs.Rows.{numbers_order, passed, all_passed, all_told}

-- a sound order: each of its numbers is in its range
abbrev pub OrderSound : Order → Type 0
OrderSound o = row_sound new_form (numbers_of o) ≡ true

-- the order of a sound row of numbers is sound
pub row_sound_lem : (ns : List ℕ) → row_sound new_form ns ≡ true → OrderSound (order_of ns)
unfolding numbers_sound new_tells
row_sound_lem ns e = ap (row_sound new_form) (numbers_order ns e) ∙ e

-- what a sound order has, and all that it takes
pub record OrderFacts (o : Order) : Type 0 where
  pub number_least : 1 ≤ o.number
  pub number_most : o.number ≤ 4294967295
  pub price_least : 1 ≤ price_of o
  pub price_most : price_of o ≤ 2000000000
  pub size_least : 1 ≤ size_of o
  pub size_most : size_of o ≤ 999999
  pub minimum_least : is_minimum_quantity o.kind ≡ true → 1 ≤ minimum_of o.kind
  pub minimum_most : minimum_of o.kind ≤ size_of o
  pub marked : o.setter ≡ true → is_displayed o.kind ≡ true
  pub hidden_most : hidden_of o.kind ≤ 999999
  pub refresh_least : is_reserve o.kind ≡ true → 1 ≤ refresh_of o.kind
  pub refresh_most : refresh_of o.kind ≤ 999999
  pub security_most : o.security ≤ 1

minimum_facts : (k : Kind) (size : ℕ) → minimum_in_range (kind_number k) size (minimum_of k) ≡ true
    → (is_minimum_quantity k ≡ true → 1 ≤ minimum_of k) × (minimum_of k ≤ size)
minimum_facts Displayed size e = ((λ f. absurd (false≢true f)), omega arith)
minimum_facts NonDisplayed size e = ((λ f. absurd (false≢true f)), omega arith)
minimum_facts (MinimumQuantity m) size e = let r = range_true 1 size m.0 e in ((λ f. r.0), r.1)
minimum_facts (Reserve h r) size e = ((λ f. absurd (false≢true f)), omega arith)

facts_minimum : (k : Kind) (size : ℕ) → (is_minimum_quantity k ≡ true → 1 ≤ minimum_of k) → minimum_of k ≤ size
    → minimum_in_range (kind_number k) size (minimum_of k) ≡ true
facts_minimum Displayed size h l = refl
facts_minimum NonDisplayed size h l = refl
facts_minimum (MinimumQuantity m) size h l = true_range 1 size m.0 (h refl) l
facts_minimum (Reserve b r) size h l = refl

mark_facts : (b : Bool) (k : Kind) → (is_zero (or_zero b 1) || (eqb (or_zero b 1) 1 && (eqb (kind_number k) 1 || eqb (kind_number k) 4))) ≡ true → b ≡ true
    → is_displayed k ≡ true
mark_facts true Displayed e f = refl
mark_facts true NonDisplayed e f = absurd (false≢true e)
mark_facts true (MinimumQuantity m) e f = absurd (false≢true e)
mark_facts true (Reserve h r) e f = refl
mark_facts false k e f = absurd (false≢true f)

facts_mark : (b : Bool) (k : Kind) → (b ≡ true → is_displayed k ≡ true)
    → (is_zero (or_zero b 1) || (eqb (or_zero b 1) 1 && (eqb (kind_number k) 1 || eqb (kind_number k) 4))) ≡ true
facts_mark true Displayed h = refl
facts_mark true NonDisplayed h = absurd (false≢true (h refl))
facts_mark true (MinimumQuantity m) h = absurd (false≢true (h refl))
facts_mark true (Reserve b r) h = refl
facts_mark false k h = refl

side_range : (s : Side) → in_range 1 2 (side_number s) ≡ true
side_range Buy = refl
side_range Sell = refl

kind_range : (k : Kind) → in_range 1 4 (kind_number k) ≡ true
kind_range Displayed = refl
kind_range NonDisplayed = refl
kind_range (MinimumQuantity m) = refl
kind_range (Reserve h r) = refl

-- what a kind has of hidden shares and a refresh size
record ReserveFacts (k : Kind) : Type 0 where
  most : hidden_of k ≤ 999999
  refresh : is_reserve k ≡ true → 1 ≤ refresh_of k
  refresh_most : refresh_of k ≤ 999999

reserve_facts : (k : Kind) → reserve_in_range (kind_number k) (hidden_of k) (refresh_of k) ≡ true → ReserveFacts k
reserve_facts Displayed e = record { most = omega arith; refresh = λ f. absurd (false≢true f); refresh_most = omega arith }
reserve_facts NonDisplayed e = record { most = omega arith; refresh = λ f. absurd (false≢true f); refresh_most = omega arith }
reserve_facts (MinimumQuantity m) e = record { most = omega arith; refresh = λ f. absurd (false≢true f); refresh_most = omega arith }
reserve_facts (Reserve h r) e =
    let a = and_true (leb h.0 999999) (in_range 1 999999 r.0) e in
    let b = range_true 1 999999 r.0 a.1 in
    record { most = leb-true h.0 999999 a.0; refresh = λ f. b.0; refresh_most = b.1 }

facts_reserve : (k : Kind) → ReserveFacts k → reserve_in_range (kind_number k) (hidden_of k) (refresh_of k) ≡ true
facts_reserve Displayed f = refl
facts_reserve NonDisplayed f = refl
facts_reserve (MinimumQuantity m) f = refl
facts_reserve (Reserve h r) f = true_and (le-leb h.0 999999 f.most) (true_range 1 999999 r.0 (f.refresh refl) f.refresh_most)

module _ (o : Order) where
  -- a sound order has each of the facts
  pub order_facts : OrderSound o → OrderFacts o
  unfolding numbers_of
  order_facts e =
      let a = passed (numbers_of o) e in
      let t = a.0.1 in
      let n = range_true 1 4294967295 o.number t.0 in
      let p = range_true 1 2000000000 (price_of o) t.1.0 in
      let z = range_true 1 999999 (size_of o) t.1.1.0 in
      let m = minimum_facts o.kind (size_of o) t.1.1.1.0 in
      let r = reserve_facts o.kind a.1.1.1.1.0 in
      record {
        number_least = n.0;
        number_most = n.1;
        price_least = p.0;
        price_most = p.1;
        size_least = z.0;
        size_most = z.1;
        minimum_least = m.0;
        minimum_most = m.1;
        marked = mark_facts o.setter o.kind t.1.1.1.1.0;
        hidden_most = r.most;
        refresh_least = r.refresh;
        refresh_most = r.refresh_most;
        security_most = (range_true 0 1 o.security a.1.1.0).1;
      }

  -- an order with each of the facts is sound
  pub facts_order : OrderFacts o → OrderSound o
  unfolding numbers_of
  facts_order h =
      true_and
      (all_passed (numbers_of o)
      (side_range o.side)
      (true_range 1 4294967295 o.number h.number_least h.number_most)
      (true_range 1 2000000000 (price_of o) h.price_least h.price_most)
      (true_range 1 999999 (size_of o) h.size_least h.size_most)
      (facts_minimum o.kind (size_of o) h.minimum_least h.minimum_most)
      (facts_mark o.setter o.kind h.marked)
      refl)
      (all_told (numbers_of o)
      (kind_range o.kind)
      (true_range 0 1 o.security (omega arith) h.security_most)
      refl
      (facts_reserve o.kind record { most = h.hidden_most; refresh = h.refresh_least; refresh_most = h.refresh_most }))

  -- a sound order's numbers fit the record of an order
  pub order_fits : OrderSound o → Fits new_form.layout.widths (numbers_of o)
  unfolding numbers_of
  order_fits e =
      let h = order_facts e in
      let s = range_true 1 2 (side_number o.side) (side_range o.side) in
      let k = range_true 1 4 (kind_number o.kind) (kind_range o.kind) in
      let m = pick_least o.setter 1 in
      (omega arith, (omega arith, (omega arith, (omega arith, (omega arith, (omega arith, (omega arith, (omega arith, (omega arith, (omega arith, (omega arith, (omega arith, tt))))))))))))
