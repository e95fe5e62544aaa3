-- Setter marks by key: no two marks are at one security, side and price where no two keys are equal.
use Prim.Native.Nat.{ℕ, ◌+◌, ◌*◌, ◌<◌}
use mathlib.Core.Path.{◌≡◌, refl, sym, ap, ap₂, ◌∙◌}
use mathlib.Core.Bool.{Bool, true, false, not, ◌&&◌, ◌||◌, and_assoc, and-false, or_assoc, or-false}
use mathlib.Core.List.{List, [], ◌∷◌, ◌++◌}
use native.Mathlib.Omega.{arith}
use lib.Dec.{eqb}
use borrow.Author.Tests.{eqb-true, eqb-false, eq-eqb, ne_eqb}
use Rattle.units.specs.Lists.{all, any}
use Rattle.units.proofs.Tests.{and_true as both_true}
use Rattle.units.proofs.Facts.{range_true}
use Rattle.orders.specs.declared.order.Side.{Side}
use Rattle.orders.specs.declared.order.Side.TheVariants.{Buy, Sell}
use Rattle.orders.specs.declared.order.Order.{Order}
use Rattle.orders.specs.Order.{side_number, price_of}
use Rattle.book.specs.Sound.{same_setter, setters_sound}
use Rattle.lookup.specs.Setters.{setter_key, has_security}

-- an order that is not marked, or whose key is none of these
abbrev pub is_free : List ℕ → Order → Bool
is_free ks o = not (o.setter && any (eqb (setter_key o)) ks)

-- marked orders meet none of the keys and not each other
abbrev pub fresh : List ℕ → List Order → Bool
fresh ks os = all (is_free ks) os && setters_sound os

-- keys are equal where securities, sides and prices are
same_key : (p q k l a b : ℕ) → k < 2 → l < 2 → a < 4 → b < 4 → eqb (8 * q + 4 * l + b) (8 * p + 4 * k + a) ≡ (eqb k l && eqb a b && eqb p q)
same_key p q k l a b i j m n = go (eqb k l) (eqb a b) (eqb p q) refl refl refl
  where
    go : (x y z : Bool) → eqb k l ≡ x → eqb a b ≡ y → eqb p q ≡ z → eqb (8 * q + 4 * l + b) (8 * p + 4 * k + a) ≡ (x && y && z)
    go true true true e f g = eq-eqb (8 * q + 4 * l + b) (8 * p + 4 * k + a) (omega (arith, eqb-true k l e, eqb-true a b f, eqb-true p q g))
    go true true false e f g = ne_eqb (8 * q + 4 * l + b) (8 * p + 4 * k + a) (λ h. eqb-false p q g (omega arith))
    go true false z e f g = ne_eqb (8 * q + 4 * l + b) (8 * p + 4 * k + a) (λ h. eqb-false a b f (omega arith))
    go false y z e f g = ne_eqb (8 * q + 4 * l + b) (8 * p + 4 * k + a) (λ h. eqb-false k l e (omega arith))

side_small : (d : Side) → side_number d < 4
side_small Buy = omega arith
side_small Sell = omega arith

any_last : (p : ℕ → Bool) (ks : List ℕ) (k : ℕ) → any p (ks ++ (k ∷ [])) ≡ (any p ks || p k)
any_last p [] k = or-false (p k)
any_last p (x ∷ ks) k = ap (λ b. p x || b) (any_last p ks k) ∙ sym (or_assoc (p x) (any p ks) (p k))

-- an order that is not marked has no mark in common with others
pub apart : (o : Order) (os : List Order) → o.setter ≡ false → any (same_setter o) os ≡ false
apart o [] e = refl
apart o (p ∷ os) e =
    let f : same_setter o p ≡ false = rw e in
    rw f (apart o os e)

free_none : (os : List Order) → all (is_free []) os ≡ true
free_none [] = refl
free_none (o ∷ os) = rw (and-false o.setter) (free_none os)

not_met : (m x e f g : Bool) → not (m && (x || (e && f && g))) ≡ (not (m && x) && not (m && e && f && g))
not_met true true e f g = refl
not_met true false e f g = refl
not_met false x e f g = refl

both_not : (a b c d : Bool) → ((a && not b) && (c && not d)) ≡ ((a && c) && not (b || d))
both_not true true c d = sym (and-false c)
both_not true false c d = refl
both_not false b c d = refl

-- An order is free of the keys and of a marked order's own where it is free of the keys and has no mark at its security, side and price.
module _ (ks : List ℕ) (o : Order) (m : o.setter ≡ true) (r : has_security o ≡ true) where
  free_key : (p : Order) → has_security p ≡ true → is_free (ks ++ (setter_key o ∷ [])) p ≡ (is_free ks p && not (same_setter o p))
  free_key p t =
      let a = side_number o.side in
      let b = side_number p.side in
      let l = any_last (eqb (setter_key p)) ks (setter_key o) in
      let i = (range_true 0 1 o.security r).1 in
      let j = (range_true 0 1 p.security t).1 in
      let k = same_key (price_of o) (price_of p) o.security p.security a b (omega arith) (omega arith) (side_small o.side) (side_small p.side) in
      let e : same_setter o p ≡ (p.setter && eqb o.security p.security && eqb a b && eqb (price_of o) (price_of p)) = rw m in
      rw (l, k, e) (not_met p.setter (any (eqb (setter_key p)) ks) (eqb o.security p.security) (eqb a b) (eqb (price_of o) (price_of p)))

  free_keys : (os : List Order) → all has_security os ≡ true → all (is_free (ks ++ (setter_key o ∷ []))) os ≡ (all (is_free ks) os && not (any (same_setter o) os))
  free_keys [] t = refl
  free_keys (p ∷ os) t =
      let b = both_true (has_security p) (all has_security os) t in
      ap₂ ◌&&◌ (free_key p b.0) (free_keys os b.1) ∙ both_not (is_free ks p) (same_setter o p) (all (is_free ks) os) (any (same_setter o) os)

-- with no keys to meet, setter marks are to be one per security, side and price
pub fresh_none : (os : List Order) → fresh [] os ≡ setters_sound os
fresh_none os = rw (free_none os)

module _ (ks : List ℕ) (o : Order) (os : List Order) where
  -- an order that is not marked meets none
  pub fresh_unmarked : o.setter ≡ false → fresh ks (o ∷ os) ≡ fresh ks os
  fresh_unmarked e = rw (apart o os e, e)

  module _ (m : o.setter ≡ true) where
    -- a marked one whose key is among them meets it
    pub fresh_met : any (eqb (setter_key o)) ks ≡ true → fresh ks (o ∷ os) ≡ false
    fresh_met e = rw (m, e)

    -- a marked one whose key is not leaves it for those behind to meet
    pub fresh_more : all has_security (o ∷ os) ≡ true → any (eqb (setter_key o)) ks ≡ false → fresh ks (o ∷ os) ≡ fresh (ks ++ (setter_key o ∷ [])) os
    fresh_more t e =
        let b = both_true (has_security o) (all has_security os) t in
        let f : is_free ks o ≡ true = rw (m, e) in
        ap (λ b. (b && all (is_free ks) os) && (not (any (same_setter o) os) && setters_sound os)) f
        ∙ sym (and_assoc (all (is_free ks) os) (not (any (same_setter o) os)) (setters_sound os))
        ∙ ap (λ b. b && setters_sound os) (sym (free_keys ks o m b.0 os b.1))
