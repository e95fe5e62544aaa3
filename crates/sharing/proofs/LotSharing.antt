-- Lot sharing: what it gives a part, its bounds, and that it gives out all.
use Prim.Native.Nat.{ℕ, ◌+◌, ◌-◌, ◌*◌, ◌/◌, ◌≤◌, ◌<◌}
use mathlib.Core.Path.{◌≡◌}
use mathlib.Core.List.{List, map, Memᴰ}
use native.Mathlib.Omega.{arith}
use native.Mathlib.Nat.{div-mul-le_self, mul-le-mul_left, mul-le-mul_right, le_of_mul-le-mul_right, lt-div-mul-add, zero-div, zero-mul, div-zero}
use native.Mathlib.Decide.{dec_lt}
use Rattle.units.specs.Lists.{total}
use Rattle.units.proofs.Members.{Every}
use Rattle.units.proofs.Totals.{total_add, total_mul, total_le, total_same, total_none, zip_map}
use Rattle.sharing.specs.Rank.{Part, part_size, larger, ranked, Rising}
use Rattle.sharing.specs.Round.{goes_round, round}
use Rattle.sharing.specs.Lots.{divided, first_step, second_step, lot_sharing}
use Rattle.sharing.proofs.Ranks.{mem_ranked, differ_ranked}
use Rattle.sharing.proofs.Turns.{taking_le, turn, round_total}
use Rattle.sharing.proofs.Filled.{Filled, map_filled}

-- what lot sharing of q shares gives a part
unfoldable pub lot_share : ℕ → ℕ → List Part → Part → ℕ
lot_share lot q ps p =
    let s = total part_size ps in
    first_step lot q s p + goes_round (second_step lot q s) (q - total (first_step lot q s) ps) (ranked larger ps) p.number

-- lot sharing, part by part
pub lots_map : (lot q : ℕ) (ps : List Part) → lot_sharing lot q ps ≡ map (lot_share lot q ps) ps
unfolding lot_sharing lot_share round
lots_map lot q ps = zip_map _ _ _ ps

module _ (lot q s : ℕ) (p : Part) where
  first_below : first_step lot q s p * s ≤ p.size * q
  first_below = omega (arith, mul-le-mul_right s (div-mul-le_self (p.size * q / s) lot), div-mul-le_self (p.size * q) s)

  -- the first step gives nothing to a part that has no size
  pub first_zero : p.size ≡ 0 → first_step lot q s p ≡ 0
  first_zero z = rw (z, zero-mul, zero-div, zero-div, zero-mul)

  -- the first step of nothing shares nothing
  first_none : s ≡ 0 → first_step lot q s p ≡ 0
  first_none z = rw (z, div-zero, zero-div, zero-mul)

  -- the first step gives no part more than its size
  pub first_size : q ≤ s → first_step lot q s p ≤ p.size
  first_size h = go (dec_lt 0 s)
    where
      go : Dec (0 < s) → first_step lot q s p ≤ p.size
      go (yes k) = le_of_mul-le-mul_right {k = s} (omega (arith, first_below, mul-le-mul_left p.size h)) k
      go (no k) = omega (arith, first_none (omega arith))

  near : 0 < lot → 0 < s → p.size * q ≤ (first_step lot q s p + lot) * s
  near l k =
      let a : p.size * q / s + 1 ≤ p.size * q / s / lot * lot + lot = omega (arith, lt-div-mul-add {a = p.size * q / s} l) in
      omega (arith, lt-div-mul-add {a = p.size * q} k, mul-le-mul_right s a)

  steps_above : 0 < lot → q ≤ s → 0 < s → p.size * q ≤ (first_step lot q s p + second_step lot q s p) * s
  steps_above l h k = go (dec_lt lot (p.size - first_step lot q s p))
    where
      go : Dec (lot < p.size - first_step lot q s p) → p.size * q ≤ (first_step lot q s p + second_step lot q s p) * s
      go (yes m) = let e : first_step lot q s p + second_step lot q s p ≡ first_step lot q s p + lot = omega arith in rw e (near l k)
      go (no m) =
          let e : first_step lot q s p + second_step lot q s p ≡ p.size = omega (arith, first_size h) in
          rw e (mul-le-mul_left p.size h)

module _ (lot q : ℕ) (ps : List Part) where
  -- the group's total
  abbrev S : ℕ
  S = total part_size ps

  -- the first step gives out no more than q
  pub firsts_below : q ≤ S → total (first_step lot q S) ps ≤ q
  firsts_below h = go (dec_lt 0 S)
    where
      go : Dec (0 < S) → total (first_step lot q S) ps ≤ q
      go (yes k) =
          let a = total_mul (first_step lot q S) S ps in
          let b = total_le ps (λ p i. first_below lot q S p) in
          le_of_mul-le-mul_right {k = S} (omega (arith, total_mul part_size q ps)) k
      go (no k) = let a = total_same ps (λ p i. first_none lot q S p (omega arith)) in omega (arith, total_none ps)

  -- one round uses up the rest: the second steps are together no less than what the first leaves
  pub one_round : 0 < lot → q ≤ S → q - total (first_step lot q S) ps ≤ total (second_step lot q S) ps
  one_round l h = go (dec_lt 0 S)
    where
      go : Dec (0 < S) → q - total (first_step lot q S) ps ≤ total (second_step lot q S) ps
      go (yes k) =
          let a = total_add (first_step lot q S) (second_step lot q S) ps in
          let b = total_mul (λ p. first_step lot q S p + second_step lot q S p) S ps in
          let c = total_le ps (λ p i. steps_above lot q S p l h k) in
          let d : q ≤ total (λ p. first_step lot q S p + second_step lot q S p) ps = le_of_mul-le-mul_right {k = S} (omega (arith, total_mul part_size q ps)) k in
          omega arith
      go (no k) = omega arith

  -- a part gets its first step at least
  pub lots_least : (p : Part) → first_step lot q S p ≤ lot_share lot q ps p
  unfolding lot_share
  lots_least p = omega arith

  module _ (m : ℕ) (r : Rising m ps) where
    -- and its second step more at most
    pub lots_steps : (p : Part) → Memᴰ p ps → lot_share lot q ps p ≤ first_step lot q S p + second_step lot q S p
    unfolding lot_share
    lots_steps p i =
        let t = turn (second_step lot q S) p (ranked larger ps) (differ_ranked larger m ps r) (mem_ranked larger p ps i) (q - total (first_step lot q S) ps) in
        omega (arith, t.took, (taking_le (second_step lot q S) t.met p).1)

    -- a part of size 0 gets nothing
    pub lots_zero : (p : Part) → Memᴰ p ps → p.size ≡ 0 → lot_share lot q ps p ≡ 0
    lots_zero p i e = let a = first_zero lot q S p e in omega (arith, lots_steps p i)

    -- a part gets at most a lot more than its first step
    pub lots_most : (p : Part) → Memᴰ p ps → lot_share lot q ps p ≤ first_step lot q S p + lot
    lots_most p i = omega (arith, lots_steps p i)

    -- no part gets more than its size
    pub lots_within : q ≤ S → (p : Part) → Memᴰ p ps → lot_share lot q ps p ≤ p.size
    lots_within h p i = omega (arith, lots_steps p i, first_size lot q S p h)

    -- lot sharing gives out exactly q
    pub lots_total : Every (λ p. p.minimum ≡ 0) ps → 0 < lot → q ≤ S → total (lot_share lot q ps) ps ≡ q
    unfolding lot_share
    lots_total z l h =
        let a = total_add (first_step lot q S) (λ p. goes_round (second_step lot q S) (q - total (first_step lot q S) ps) (ranked larger ps) p.number) ps in
        omega (arith, firsts_below h, one_round l h, round_total (second_step lot q S) m ps r z larger (q - total (first_step lot q S) ps))

-- lot sharing fills the group as far as the shares left go
pub lots_filled : (lot : ℕ) → 0 < lot → (m : ℕ) (ps : List Part) → Rising m ps → Every (λ p. p.minimum ≡ 0) ps → (left : ℕ)
    → Filled left ps (lot_sharing lot (divided left ps) ps)
lots_filled lot l m ps r z left =
    let q = divided left ps in
    rw (lots_map lot q ps)
    (map_filled (lot_share lot q ps) left ps (lots_within lot q ps m r (omega arith)) (lots_total lot q ps m r z l (omega arith)))
