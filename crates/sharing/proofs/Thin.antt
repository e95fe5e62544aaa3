-- A group with some parts left out: totals, the rank of those kept, and shares that go round among them.
use Prim.Native.Nat.{ℕ, ◌+◌, ◌-◌, ◌≤◌}
use mathlib.Core.Path.{◌≡◌, refl, ap}
use mathlib.Core.Bool.{Bool, true, false, cond, ◌||◌}
use mathlib.Core.List.{List, [], ◌∷◌, map}
use native.Mathlib.Omega.{arith}
use native.Mathlib.Nat.{zero-add, sub-zero}
use lib.Dec.{eqb}
use Rattle.units.specs.Lists.{any, or_zero, total}
use Rattle.units.proofs.Tests.{pick_zero}
use Rattle.units.proofs.Members.{Every, every_weaken}
use Rattle.sharing.specs.Rank.{Part, place, ranked, Rising}
use Rattle.sharing.specs.Round.{taking, goes_round}
use Rattle.sharing.proofs.Ranks.{Weak, Pairwise, pairwise_ranked}
use Rattle.sharing.proofs.Turns.{taking_le}

-- the second list is the first without some parts that are Z
pub data Thin (Z : Part → Type 0) : List Part → List Part → Type 0 where
  none : Thin Z [] []
  keep : {p : Part} {ps qs : List Part} → Thin Z ps qs → Thin Z (p ∷ ps) (p ∷ qs)
  drop : {p : Part} {ps qs : List Part} → Z p → Thin Z ps qs → Thin Z (p ∷ ps) qs

-- what holds of every part holds of those kept
pub thin_every : {Z : Part → Type 0} (P : Part → Type 0) {ps qs : List Part} → Thin Z ps qs → Every P ps → Every P qs
thin_every P none a = tt
thin_every P (keep t) a = (a.0, thin_every P t a.1)
thin_every P (drop z t) a = thin_every P t a.1

-- a map leaves out the parts that they become
pub thin_map : {Z Y : Part → Type 0} (f : Part → Part) → ((p : Part) → Z p → Y (f p)) → {ps qs : List Part} → Thin Z ps qs → Thin Y (map f ps) (map f qs)
thin_map f h none = none
thin_map f h (keep t) = keep (thin_map f h t)
thin_map f h (drop {p = p} z t) = drop (h p z) (thin_map f h t)

-- a total to which those left out add nothing
pub thin_total : {Z : Part → Type 0} (f : Part → ℕ) → ((p : Part) → Z p → f p ≡ 0) → {ps qs : List Part} → Thin Z ps qs → total f ps ≡ total f qs
thin_total f h none = refl
thin_total f h (keep {p = p} t) = ap (λ n. f p + n) (thin_total f h t)
thin_total f h (drop {p = p} z t) = rw (h p z, zero-add) (thin_total f h t)

-- a test that those left out don't pass
pub thin_any : {Z : Part → Type 0} (f : Part → Bool) → ((p : Part) → Z p → f p ≡ false) → {ps qs : List Part} → Thin Z ps qs → any f ps ≡ any f qs
thin_any f h none = refl
thin_any f h (keep {p = p} t) = ap (λ b. f p || b) (thin_any f h t)
thin_any f h (drop {p = p} z t) = rw (h p z) (thin_any f h t)

module _ (before : Part → Part → Bool) (w : Weak before) where
  abbrev Sorted : List Part → Type 0
  Sorted = Pairwise (λ q r. before r q ≡ false)

  sorted_ranked : (m : ℕ) (ps : List Part) → Rising m ps → Sorted (ranked before ps)
  sorted_ranked = pairwise_ranked before (λ q r. before r q ≡ false) (λ p q l e. w.apart q p e) (λ p q l e. e) (λ p q r l e b. w.chain p q r e b)

  place_first : (p : Part) (qs : List Part) → Every (λ r. before r p ≡ false) qs → place before p qs ≡ p ∷ qs
  place_first p [] a = refl
  place_first p (q ∷ qs) a = rw a.0

  place_drop : {Z : Part → Type 0} (p : Part) → Z p → {qs rs : List Part} → Thin Z qs rs → Thin Z (place before p qs) rs
  place_drop p z none = drop z none
  place_drop {Z} p z (keep {p = q} {ps = qs} {qs = rs} t) = go (before q p) (place_drop p z t)
    where
      go : (b : Bool) → Thin Z (place before p qs) rs → Thin Z (cond b (q ∷ place before p qs) (p ∷ q ∷ qs)) (q ∷ rs)
      go true r = keep r
      go false r = drop z (keep t)
  place_drop {Z} p z (drop {p = q} {ps = qs} {qs = rs} y t) = go (before q p) (place_drop p z t)
    where
      go : (b : Bool) → Thin Z (place before p qs) rs → Thin Z (cond b (q ∷ place before p qs) (p ∷ q ∷ qs)) rs
      go true r = drop y r
      go false r = drop z (drop y t)

  place_keep : {Z : Part → Type 0} (p : Part) {qs rs : List Part} → Thin Z qs rs → Sorted qs → Thin Z (place before p qs) (place before p rs)
  place_keep p none s = keep none
  place_keep {Z} p (keep {p = q} {ps = qs} {qs = rs} t) s = go (before q p) (place_keep p t s.1)
    where
      go : (b : Bool) → Thin Z (place before p qs) (place before p rs)
          → Thin Z (cond b (q ∷ place before p qs) (p ∷ q ∷ qs)) (cond b (q ∷ place before p rs) (p ∷ q ∷ rs))
      go true r = keep r
      go false r = keep (keep t)
  place_keep {Z} p (drop {p = q} {ps = qs} {qs = rs} y t) s = go (before q p) refl (place_keep p t s.1)
    where
      go : (b : Bool) → before q p ≡ b → Thin Z (place before p qs) (place before p rs) → Thin Z (cond b (q ∷ place before p qs) (p ∷ q ∷ qs)) (place before p rs)
      go true e r = drop y r
      go false e r =
          rw (place_first p rs (thin_every (λ r. before r p ≡ false) t
          (every_weaken {P = λ r. before r q ≡ false} {Q = λ r. before r p ≡ false} (λ r h. w.chain p q r e h) qs s.0)))
          (keep (drop y t))

  -- those kept have their turns in the same order
  pub ranked_thin : {Z : Part → Type 0} (m : ℕ) {ps qs : List Part} → Thin Z ps qs → Rising m ps → Thin Z (ranked before ps) (ranked before qs)
  ranked_thin m none r = none
  ranked_thin m (keep {p = p} {ps = ps} t) r = place_keep p (ranked_thin p.number t r.1) (sorted_ranked p.number ps r.1)
  ranked_thin m (drop {p = p} z t) r = place_drop p z (ranked_thin p.number t r.1)

-- parts that take nothing, of no more shares than the bound, change nothing for the others
pub round_thin : (want : Part → ℕ) {Z : Part → Type 0} (bound : ℕ) → ((p : Part) → Z p → (x : ℕ) → x ≤ bound → taking want x p ≡ 0)
    → (left n : ℕ) → left ≤ bound → {ps qs : List Part} → Thin Z ps qs → goes_round want left ps n ≡ goes_round want left qs n
unfolding goes_round
round_thin want bound h left n l none = refl
round_thin want bound h left n l (keep {p = p} t) =
    ap (λ x. or_zero (eqb p.number n) (taking want left p) + x) (round_thin want bound h (left - taking want left p) n (omega arith) t)
round_thin want bound h left n l (drop {p = p} z t) =
    rw (h p z left l, pick_zero (eqb p.number n) refl, zero-add, sub-zero) (round_thin want bound h left n l t)

-- parts that have size 0 and want nothing change nothing for the others
pub goes_thin : {Z : Part → Type 0} → ((p : Part) → Z p → p.size ≡ 0) → {ps qs : List Part} → Thin Z ps qs → (m : ℕ) → Rising m ps
    → (before : Part → Part → Bool) → Weak before → (want : Part → ℕ) → ((p : Part) → p.size ≡ 0 → want p ≡ 0) → (left n : ℕ)
    → goes_round want left (ranked before ps) n ≡ goes_round want left (ranked before qs) n
goes_thin e t m r before w want h left n =
    round_thin want left (λ p z x l. omega (arith, (taking_le want x p).1, h p (e p z))) left n (omega arith) (ranked_thin before w m t r)
