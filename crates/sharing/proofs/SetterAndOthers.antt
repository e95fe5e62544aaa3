-- A group and its setter: the setter's number as a total, and the group without its setter.
use Prim.Native.Nat.{ℕ, ◌+◌, ◌-◌}
use mathlib.Core.Path.{◌≡◌, refl, sym, ap, ◌∙◌, subst}
use mathlib.Core.Bool.{Bool, true, false, cond, not, true≢false}
use mathlib.Core.List.Memᴰ
use mathlib.Core.List.{List, [], ◌∷◌, map, Memᴰ}
use native.Mathlib.Omega.{arith}
use lib.Dec.{eqb}
use borrow.Author.Tests.{eq-eqb, eqb-true}
use Rattle.units.specs.Lists.{or_zero, total}
use Rattle.units.proofs.Tests.{pick_both}
use Rattle.units.proofs.Members.{Every}
use Rattle.units.proofs.Totals.{total_map, total_add, total_same}
use Rattle.sharing.specs.Rank.{Part, no_part, part_size, Rising}
use Rattle.sharing.specs.Setter.{OneSetter, of_setter, without_setter, others}
use Rattle.sharing.proofs.Ranks.{rising_map, same_number}
use Rattle.sharing.proofs.Turns.{once}

-- the setter's number is a total over the group
pub of_setter_lem : (f : Part → ℕ) (ps : List Part) → of_setter ps (map f ps) ≡ total (λ p. or_zero p.setter (f p)) ps
of_setter_lem f [] = refl
of_setter_lem f (p ∷ ps) = ap (λ n. or_zero p.setter (f p) + n) (of_setter_lem f ps)

-- of a group with one setter it is that part's
pub setter_number : (m : ℕ) (ps : List Part) → Rising m ps → OneSetter ps → (f : Part → ℕ) (p : Part) → Memᴰ p ps → p.setter ≡ true
    → of_setter ps (map f ps) ≡ f p
setter_number m ps r o f p i e = of_setter_lem f ps ∙ total_same ps (λ x j. at x j x.setter refl (eqb p.number x.number) refl) ∙ once m ps r p i (f p)
  where
    at : (x : Part) → Memᴰ x ps → (b : Bool) → x.setter ≡ b → (c : Bool) → eqb p.number x.number ≡ c → or_zero b (f x) ≡ or_zero c (f p)
    at x j true h true k = ap f (same_number m ps r x p j i (sym (eqb-true p.number x.number k)))
    at x j true h false k = absurd (true≢false (sym (eq-eqb p.number x.number (o p x i j e h)) ∙ k))
    at x j false h true k =
        let same = same_number m ps r p x i j (eqb-true p.number x.number k) in
        absurd (true≢false (sym e ∙ ap (λ (y : Part). y.setter) same ∙ h))
    at x j false h false k = refl

-- a total is the setter's and the others'
pub in_two : (f : Part → ℕ) (ps : List Part) → total f ps ≡ of_setter ps (map f ps) + total (λ p. or_zero (not p.setter) (f p)) ps
in_two f ps =
    let a = total_same ps (λ p i. pick_both p.setter (f p)) in
    let b = total_add (λ p. or_zero p.setter (f p)) (λ p. or_zero (not p.setter) (f p)) ps in
    omega (arith, of_setter_lem f ps)

-- a total over the others, of what a part of size 0 has none of
pub others_sum : (f : Part → ℕ) (ps : List Part) → ((p : Part) → Memᴰ p (others ps) → p.size ≡ 0 → f p ≡ 0)
    → total f (others ps) ≡ total (λ p. or_zero (not p.setter) (f p)) ps
others_sum f ps z = total_map f without_setter ps ∙ total_same ps (λ p i. one p p.setter (z (without_setter p) (Memᴰ.map without_setter i)))
  where
    one : (p : Part) (b : Bool) → ((cond b (no_part p.number) p).size ≡ 0 → f (cond b (no_part p.number) p) ≡ 0)
        → f (cond b (no_part p.number) p) ≡ or_zero (not b) (f p)
    one p true h = h refl
    one p false h = refl

-- the others' total is the group's less the setter's size
pub others_total : (ps : List Part) → total part_size (others ps) ≡ total part_size ps - of_setter ps (map part_size ps)
others_total ps = omega (arith, in_two part_size ps, others_sum part_size ps (λ p i z. z))

without_number : (p : Part) → (without_setter p).number ≡ p.number
without_number p = go p.setter
  where
    go : (b : Bool) → (cond b (no_part p.number) p).number ≡ p.number
    go true = refl
    go false = refl

-- the others' numbers rise too
pub others_rising : (m : ℕ) (ps : List Part) → Rising m ps → Rising m (others ps)
others_rising = rising_map without_setter without_number

-- nor have the others minimums, where the group has none
pub others_free : (ps : List Part) → Every (λ p. p.minimum ≡ 0) ps → Every (λ p. p.minimum ≡ 0) (others ps)
others_free [] z = tt
others_free (p ∷ ps) z = (one p.setter, others_free ps z.1)
  where
    one : (b : Bool) → (cond b (no_part p.number) p).minimum ≡ 0
    one true = refl
    one false = z.0

-- who isn't the setter is one of the others
pub others_member : (ps : List Part) (p : Part) → Memᴰ p ps → p.setter ≡ false → Memᴰ p (others ps)
others_member ps p i e = let same : without_setter p ≡ p = rw e in subst (λ (x : Part). Memᴰ x (others ps)) same (Memᴰ.map without_setter i)
