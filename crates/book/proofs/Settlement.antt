-- Sound orders stay sound when they lose shares and leave, and when an order is put last.
use Prim.Native.Nat.{ℕ, ◌≤◌, ◌<◌}
use mathlib.Core.Path.{◌≡◌, refl, ap, ◌∙◌}
use mathlib.Core.Bool.{Bool, true, false, not}
use mathlib.Core.List.{List, [], ◌∷◌, ◌++◌}
use native.Mathlib.Omega.{arith}
use lib.ListN.{length}
use lib.Dec.{ltb}
use borrow.Author.Tests.{ltb-true, lt-ltb, not-true}
use Rattle.units.specs.Lists.{any, filter, cons_if, zip_with}
use Rattle.units.proofs.Tests.{and_true, true_and, or_false}
use Rattle.units.proofs.Members.{Every, every_append, filter_fewer}
use Rattle.orders.specs.declared.order.Order.{Order}
use Rattle.orders.specs.Order.{Interest, settled, is_resting}
use Rattle.record.proofs.Orders.{OrderSound, order_facts}
use Rattle.record.proofs.Settling.{settled_side, settled_number, settled_price, settled_setter, settled_sound, settled_security}
use Rattle.book.specs.Sound.{rising, same_setter, setters_sound}
use Rattle.book.proofs.Soundness.{OrdersSound}

-- the orders that still rest
abbrev rest : List Interest → List Order → List Order
rest ls os = filter is_resting (zip_with settled ls os)

-- an order left in or out of a list
module _ (o : Order) (os : List Order) where
  each_if : (b : Bool) → (b ≡ true → OrderSound o) → Every OrderSound os → Every OrderSound (cons_if b o os)
  each_if true h e = (h refl, e)
  each_if false h e = e

  none_if : (p : Order → Bool) (b : Bool) → p o ≡ false → any p os ≡ false → any p (cons_if b o os) ≡ false
  none_if p true h e = rw h e
  none_if p false h e = e

  setters_if : (b : Bool) → any (same_setter o) os ≡ false → setters_sound os ≡ true → setters_sound (cons_if b o os) ≡ true
  setters_if true h e = rw h e
  setters_if false h e = e

-- numbers above m are above what is no more than m
rise_lower : (k m : ℕ) (os : List Order) → k ≤ m → rising m os ≡ true → rising k os ≡ true
rise_lower k m [] h e = refl
rise_lower k m (o ∷ os) h e =
    let a = and_true (ltb m o.number) (rising o.number os) e in
    true_and (lt-ltb k o.number (omega (arith, ltb-true m o.number a.0))) a.1

rise_if : (b : Bool) (m : ℕ) (o : Order) (os : List Order) → ltb m o.number ≡ true → rising o.number os ≡ true → rising m (cons_if b o os) ≡ true
rise_if true m o os h e = true_and h e
rise_if false m o os h e = rise_lower m o.number os (omega (arith, ltb-true m o.number h)) e

rest_each : (ls : List Interest) (os : List Order) → Every OrderSound os → Every OrderSound (rest ls os)
rest_each [] os e = tt
rest_each (l ∷ ls) [] e = tt
rest_each (l ∷ ls) (o ∷ os) e =
    each_if (settled l o) (rest ls os) (is_resting (settled l o)) (settled_sound l o e.0) (rest_each ls os e.1)

rest_rise : (m : ℕ) (ls : List Interest) (os : List Order) → rising m os ≡ true → rising m (rest ls os) ≡ true
rest_rise m [] os e = refl
rest_rise m (l ∷ ls) [] e = refl
rest_rise m (l ∷ ls) (o ∷ os) e =
    let a = and_true (ltb m o.number) (rising o.number os) e in
    let n = settled_number l o in
    rise_if (is_resting (settled l o)) m (settled l o) (rest ls os) (ap (ltb m) n ∙ a.0)
    (ap (λ k. rising k (rest ls os)) n ∙ rest_rise o.number ls os a.1)

same_setter_lem : (k l : Interest) (o p : Order) → same_setter (settled k o) (settled l p) ≡ same_setter o p
same_setter_lem k l o p =
    rw (
      settled_setter k o,
      settled_setter l p,
      settled_security k o,
      settled_security l p,
      settled_side k o,
      settled_side l p,
      settled_price k o,
      settled_price l p,
    )

rest_meets : (k : Interest) (o : Order) (ls : List Interest) (os : List Order) → any (same_setter o) os ≡ false
    → any (same_setter (settled k o)) (rest ls os) ≡ false
rest_meets k o [] os e = refl
rest_meets k o (l ∷ ls) [] e = refl
rest_meets k o (l ∷ ls) (p ∷ os) e =
    let a = or_false (same_setter o p) (any (same_setter o) os) e in
    none_if (settled l p) (rest ls os) (same_setter (settled k o)) (is_resting (settled l p)) (same_setter_lem k l o p ∙ a.0) (rest_meets k o ls os a.1)

rest_setters : (ls : List Interest) (os : List Order) → setters_sound os ≡ true → setters_sound (rest ls os) ≡ true
rest_setters [] os e = refl
rest_setters (l ∷ ls) [] e = refl
rest_setters (l ∷ ls) (o ∷ os) e =
    let a = and_true (not (any (same_setter o) os)) (setters_sound os) e in
    setters_if (settled l o) (rest ls os) (is_resting (settled l o)) (rest_meets l o ls os (not-true (any (same_setter o) os) a.0))
    (rest_setters ls os a.1)

-- orders that lose shares and leave where they have none stay sound
pub settle_sound : (ls : List Interest) (os : List Order) → OrdersSound os → OrdersSound (filter is_resting (zip_with settled ls os))
settle_sound ls os h = record { each = rest_each ls os h.each; rise = rest_rise 0 ls os h.rise; setters = rest_setters ls os h.setters }

settled_fewer : (ls : List Interest) (os : List Order) → length (zip_with settled ls os) ≤ length os
settled_fewer [] os = omega arith
settled_fewer (l ∷ ls) [] = omega arith
settled_fewer (l ∷ ls) (o ∷ os) = omega (arith, settled_fewer ls os)

-- and are no more than they were
pub settle_fewer : (ls : List Interest) (os : List Order) → length (filter is_resting (zip_with settled ls os)) ≤ length os
settle_fewer ls os = omega (arith, filter_fewer is_resting (zip_with settled ls os), settled_fewer ls os)

-- An order put last.
module _ (o : Order) where
  rise_last : (m : ℕ) (os : List Order) → m < o.number → rising m os ≡ true → Every (λ p. p.number < o.number) os
      → rising m (os ++ (o ∷ [])) ≡ true
  rise_last m [] l e h = true_and (lt-ltb m o.number l) refl
  rise_last m (p ∷ os) l e h =
      let a = and_true (ltb m p.number) (rising p.number os) e in
      true_and a.0 (rise_last p.number os h.0 a.1 h.1)

  none_last : (p : Order) (os : List Order) → any (same_setter p) os ≡ false → same_setter p o ≡ false → any (same_setter p) (os ++ (o ∷ [])) ≡ false
  none_last p [] e f = rw f
  none_last p (q ∷ os) e f = let a = or_false (same_setter p q) (any (same_setter p) os) e in rw a.0 (none_last p os a.1 f)

  setters_last : (os : List Order) → setters_sound os ≡ true → Every (λ p. same_setter p o ≡ false) os → setters_sound (os ++ (o ∷ [])) ≡ true
  setters_last [] e h = refl
  setters_last (p ∷ os) e h =
      let a = and_true (not (any (same_setter p) os)) (setters_sound os) e in
      let n = none_last p os (not-true (any (same_setter p) os) a.0) h.0 in
      rw n (setters_last os a.1 h.1)

  -- sound orders stay sound with a sound one last that has the highest number and whose setter mark meets no other
  pub append_sound : (os : List Order) → OrdersSound os → OrderSound o → Every (λ p. p.number < o.number) os
      → Every (λ p. same_setter p o ≡ false) os → OrdersSound (os ++ (o ∷ []))
  append_sound os h e n s = record {
    each = every_append OrderSound os (o ∷ []) h.each (e, tt);
    rise = rise_last 0 os (order_facts o e).number_least h.rise n;
    setters = setters_last os h.setters s;
  }
