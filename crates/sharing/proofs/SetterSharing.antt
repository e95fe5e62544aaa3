-- The setter's variation: what it gives a part, that the others have room for what the guarantee leaves, and that it gives out all.
use Prim.Native.Nat.{ℕ, ◌+◌, ◌-◌, ◌*◌, ◌/◌, ◌≤◌, ◌<◌}
use mathlib.Core.Path.{◌≡◌, refl, ap, ◌∙◌}
use mathlib.Core.Bool.{Bool, true, false, cond, not, ◌&&◌}
use mathlib.Core.List.{List, [], ◌∷◌, map, Memᴰ}
use native.Mathlib.Omega.{arith}
use native.Mathlib.Nat.{div-le_of_le-mul}
use lib.Dec.{leb}
use borrow.Author.Tests.{leb-true, leb-false}
use Rattle.units.specs.Lists.{any, or_zero, total, zip_with}
use Rattle.units.proofs.Tests.{and_true, pick_mono}
use Rattle.units.proofs.Members.{Every, member_any}
use Rattle.units.proofs.Totals.{total_add, total_le, total_same}
use Rattle.sharing.specs.Rank.{Part, part_size, Rising}
use Rattle.sharing.specs.Lots.{divided, first_step, lot_sharing}
use Rattle.sharing.specs.Setter.{guarantee, is_setter, of_setter, without_setter, others, beside_setter, setter_sharing, OneSetter}
use Rattle.sharing.proofs.Filled.{Filled, map_filled}
use Rattle.sharing.proofs.LotSharing.{lot_share, lots_map, lots_least, lots_most, lots_zero, lots_within, lots_total}
use Rattle.sharing.proofs.SetterAndOthers.{of_setter_lem, setter_number, in_two, others_sum, others_rising, others_free, others_member}

-- what is guaranteed to the setter; 0 where there is none
abbrev pub guaranteed : ℕ → List Part → ℕ
guaranteed q ps = of_setter ps (map (guarantee q) ps)

-- there is a setter, and it gets exactly the guarantee
unfoldable pub keeps_guarantee : ℕ → ℕ → List Part → Bool
keeps_guarantee lot q ps = any is_setter ps && leb (of_setter ps (lot_sharing lot q ps)) (guaranteed q ps)

-- what a part gets beside a setter that gets the guarantee
abbrev pub beside_share : ℕ → ℕ → List Part → Part → ℕ
beside_share lot q ps p = cond p.setter (guarantee q p) (lot_share lot (q - guaranteed q ps) (others ps) (without_setter p))

-- what the setter's variation gives a part
unfoldable pub setter_share : ℕ → ℕ → List Part → Part → ℕ
setter_share lot q ps p = cond (keeps_guarantee lot q ps) (beside_share lot q ps p) (lot_share lot q ps p)

module _ (lot q : ℕ) (ps : List Part) where
  -- beside a setter that gets the guarantee, part by part
  pub beside_map : beside_setter lot q ps ≡ map (beside_share lot q ps) ps
  unfolding beside_setter
  beside_map = rw (lots_map lot (q - guaranteed q ps) (others ps)) (zip ps)
    where
      zip : (xs : List Part) → zip_with (λ p n. cond p.setter (guarantee q p) n) xs (map (lot_share lot (q - guaranteed q ps) (others ps)) (map without_setter xs))
          ≡ map (beside_share lot q ps) xs
      zip [] = refl
      zip (x ∷ xs) = ap (λ l. beside_share lot q ps x ∷ l) (zip xs)

  -- the setter's variation, part by part
  pub setter_map : setter_sharing lot q ps ≡ map (setter_share lot q ps) ps
  unfolding setter_sharing setter_share keeps_guarantee
  setter_map = go (keeps_guarantee lot q ps)
    where
      go : (b : Bool) → cond b (beside_setter lot q ps) (lot_sharing lot q ps) ≡ map (λ p. cond b (beside_share lot q ps p) (lot_share lot q ps p)) ps
      go true = beside_map
      go false = lots_map lot q ps

  -- where the guarantee isn't kept, sharing is plain
  pub setter_plain : keeps_guarantee lot q ps ≡ false → (p : Part) → setter_share lot q ps p ≡ lot_share lot q ps p
  unfolding setter_share
  setter_plain e p = rw e

  -- where it is, the setter gets it
  pub setter_kept : keeps_guarantee lot q ps ≡ true → (p : Part) → p.setter ≡ true → setter_share lot q ps p ≡ guarantee q p
  unfolding setter_share
  setter_kept e p s = rw (e, s)

  -- and the others share what it leaves
  pub setter_other : keeps_guarantee lot q ps ≡ true → (p : Part) → p.setter ≡ false
      → setter_share lot q ps p ≡ lot_share lot (q - guaranteed q ps) (others ps) p
  unfolding setter_share
  setter_other e p s = rw (e, s)

  -- the guarantee is kept where there is a setter and plain sharing gives it no more
  pub kept_means : keeps_guarantee lot q ps ≡ true → (any is_setter ps ≡ true) × (of_setter ps (map (lot_share lot q ps) ps) ≤ guaranteed q ps)
  unfolding keeps_guarantee
  kept_means e =
      let a = and_true (any is_setter ps) (leb (of_setter ps (lot_sharing lot q ps)) (guaranteed q ps)) e in
      (a.0, rw (lots_map lot q ps) at (leb-true (of_setter ps (lot_sharing lot q ps)) (guaranteed q ps) a.1))

  -- where there is a setter and the guarantee isn't kept, plain sharing gives the setter more
  pub plain_means : keeps_guarantee lot q ps ≡ false → any is_setter ps ≡ true → guaranteed q ps < of_setter ps (map (lot_share lot q ps) ps)
  unfolding keeps_guarantee
  plain_means e s = rw (lots_map lot q ps) at (leb-false (of_setter ps (lot_sharing lot q ps)) (guaranteed q ps) (rw s at e))

-- a part of size 0 gets nothing
pub setters_zero : (lot q m : ℕ) (ps : List Part) → Rising m ps → (p : Part) → Memᴰ p ps → p.size ≡ 0 → setter_share lot q ps p ≡ 0
setters_zero lot q m ps r p i e = go (keeps_guarantee lot q ps) refl p.setter refl
  where
    go : (b : Bool) → keeps_guarantee lot q ps ≡ b → (c : Bool) → p.setter ≡ c → setter_share lot q ps p ≡ 0
    go true k true s = omega (arith, setter_kept lot q ps k p s)
    go true k false s =
        setter_other lot q ps k p s ∙ lots_zero lot (q - guaranteed q ps) (others ps) m (others_rising m ps r) p (others_member ps p i s) e
    go false k c s = setter_plain lot q ps k p ∙ lots_zero lot q ps m r p i e

module _ (lot q m : ℕ) (ps : List Part) (l : 0 < lot) (h : q ≤ total part_size ps) (r : Rising m ps) (z : Every (λ p. p.minimum ≡ 0) ps)
    (k : keeps_guarantee lot q ps ≡ true) where
  -- the others have room for what the guarantee leaves
  pub room : q - guaranteed q ps ≤ total part_size (others ps)
  room =
      let a = (kept_means lot q ps k).1 in
      let b = lots_total lot q ps m r z l h in
      let c = in_two (lot_share lot q ps) ps in
      let d = total_le ps (λ p i. pick_mono (not p.setter) (lots_within lot q ps m r h p i)) in
      omega (arith, others_sum part_size ps (λ p i e. e))

  module _ (p : Part) (i : Memᴰ p ps) (e : p.setter ≡ false) where
    -- beside the guarantee another part gets its first step of what is left, and of the others' total, at least
    pub other_least : first_step lot (q - guaranteed q ps) (total part_size (others ps)) p ≤ setter_share lot q ps p
    other_least = rw (setter_other lot q ps k p e) (lots_least lot (q - guaranteed q ps) (others ps) p)

    -- a lot more at most
    pub other_most : setter_share lot q ps p ≤ first_step lot (q - guaranteed q ps) (total part_size (others ps)) p + lot
    other_most = rw (setter_other lot q ps k p e) (lots_most lot (q - guaranteed q ps) (others ps) m (others_rising m ps r) p (others_member ps p i e))

    -- and no more than its size
    pub other_within : setter_share lot q ps p ≤ p.size
    other_within = rw (setter_other lot q ps k p e) (lots_within lot (q - guaranteed q ps) (others ps) m (others_rising m ps r) room p (others_member ps p i e))

  besides_total : guaranteed q ps ≤ q → total (setter_share lot q ps) ps ≡ q
  besides_total g =
      let share = lot_share lot (q - guaranteed q ps) (others ps) in
      let a = total_same ps (λ p i. one p p.setter refl) in
      let b = total_add (λ p. or_zero p.setter (guarantee q p)) (λ p. or_zero (not p.setter) (share p)) ps in
      let c = of_setter_lem (guarantee q) ps in
      let d = others_sum share ps (lots_zero lot (q - guaranteed q ps) (others ps) m (others_rising m ps r)) in
      omega (arith, room, lots_total lot (q - guaranteed q ps) (others ps) m (others_rising m ps r) (others_free ps z) l room)
    where
      one : (p : Part) (b : Bool) → p.setter ≡ b
          → setter_share lot q ps p ≡ or_zero b (guarantee q p) + or_zero (not b) (lot_share lot (q - guaranteed q ps) (others ps) p)
      one p true e = omega (arith, setter_kept lot q ps k p e)
      one p false e = omega (arith, setter_other lot q ps k p e)

-- a setter's guarantee is no more than q
pub guaranteed_within : (m : ℕ) (ps : List Part) → Rising m ps → OneSetter ps → any is_setter ps ≡ true → (q : ℕ) → guaranteed q ps ≤ q
guaranteed_within m ps r o e q =
    let s = member_any is_setter ps e in
    let a : 2 * q / 5 ≤ q = div-le_of_le-mul 5 (omega arith) in
    omega (arith, setter_number m ps r o (guarantee q) s.0 s.1 s.2)

module _ (lot q m : ℕ) (ps : List Part) (l : 0 < lot) (h : q ≤ total part_size ps) (r : Rising m ps) (z : Every (λ p. p.minimum ≡ 0) ps) where
  -- no part gets more than its size
  pub setters_within : (p : Part) → Memᴰ p ps → setter_share lot q ps p ≤ p.size
  setters_within p i = go (keeps_guarantee lot q ps) refl p.setter refl
    where
      go : (b : Bool) → keeps_guarantee lot q ps ≡ b → (c : Bool) → p.setter ≡ c → setter_share lot q ps p ≤ p.size
      go true k true e = omega (arith, setter_kept lot q ps k p e)
      go true k false e = other_within lot q m ps l h r z k p i e
      go false k c e = rw (setter_plain lot q ps k p) (lots_within lot q ps m r h p i)

  -- the setter's variation gives out exactly q
  pub setters_total : OneSetter ps → total (setter_share lot q ps) ps ≡ q
  setters_total o = go (keeps_guarantee lot q ps) refl
    where
      go : (b : Bool) → keeps_guarantee lot q ps ≡ b → total (setter_share lot q ps) ps ≡ q
      go true k = besides_total lot q m ps l h r z k (guaranteed_within m ps r o (kept_means lot q ps k).0 q)
      go false k = total_same ps (λ p i. setter_plain lot q ps k p) ∙ lots_total lot q ps m r z l h

-- the setter's variation fills the group as far as the shares left go
pub setter_filled : (lot : ℕ) → 0 < lot → (m : ℕ) (ps : List Part) → Rising m ps → Every (λ p. p.minimum ≡ 0) ps → OneSetter ps → (left : ℕ)
    → Filled left ps (setter_sharing lot (divided left ps) ps)
setter_filled lot l m ps r z o left =
    let q = divided left ps in
    let h : q ≤ total part_size ps = omega arith in
    rw (setter_map lot q ps)
    (map_filled (setter_share lot q ps) left ps (setters_within lot q m ps l h r z) (setters_total lot q m ps l h r z o))
