-- What holds of a group's sharing whatever its method.
use Prim.Native.Nat.{ℕ, ◌-◌, ◌<◌, min}
use mathlib.Core.Path.{◌≡◌, refl}
use mathlib.Core.Bool.{Bool, true, false}
use mathlib.Core.List.{List, map, Memᴰ}
use native.Mathlib.Omega.{arith}
use Rattle.units.proofs.Members.{Every}
use Rattle.sharing.specs.declared.Rank.{Rank}
use Rattle.sharing.specs.declared.Rank.TheVariants.{Time, Size, Minimum}
use Rattle.sharing.specs.declared.Method.{Method}
use Rattle.sharing.specs.declared.Method.TheVariants.{InTurn, Lots, Setter}
use Rattle.sharing.specs.Rank.{Part, part_size, by_time, larger, smaller_minimum, before_of, ranked, Rising}
use Rattle.sharing.specs.Round.{taking, goes_round, round}
use Rattle.sharing.specs.Lots.{divided}
use Rattle.sharing.specs.Setter.{OneSetter}
use Rattle.sharing.specs.Method.{allot_by, is_by_lots}
use Rattle.sharing.proofs.Ranks.{by_rank, differ_ranked, mem_ranked}
use Rattle.sharing.proofs.Turns.{turn, taking_le}
use Rattle.sharing.proofs.Filled.{Filled, round_filled}
use Rattle.sharing.proofs.LotSharing.{lot_share, lots_map, lots_zero, lots_filled}
use Rattle.sharing.proofs.SetterSharing.{setter_share, setter_map, setters_zero, setter_filled}
use Rattle.sharing.proofs.Closed.{ahead, closed_lots, closed_setter, round_closed, minimum_closed, lots_closed, setter_closed}
use Rattle.sharing.proofs.Thin.{Thin, thin_total}
use Rattle.sharing.proofs.Zeros.{Nothing, SameShares, round_zeros, lots_zeros, setter_zeros}

-- what a round gives a part
unfoldable pub round_share : Rank → ℕ → List Part → Part → ℕ
round_share rank left ps p = goes_round part_size left (ranked (before_of rank) ps) p.number

-- what a method gives a part of the shares left
abbrev pub share_by : Method → ℕ → ℕ → List Part → Part → ℕ
share_by (InTurn rank) lot left ps = round_share rank left ps
share_by Lots lot left ps = lot_share lot (divided left ps) ps
share_by Setter lot left ps = setter_share lot (divided left ps) ps

-- a method allots part by part
pub by_map : (way : Method) (lot left : ℕ) (ps : List Part) → allot_by way lot left ps ≡ map (share_by way lot left ps) ps
unfolding round round_share
by_map (InTurn rank) lot left ps = refl
by_map Lots lot left ps = lots_map lot (divided left ps) ps
by_map Setter lot left ps = setter_map lot (divided left ps) ps

-- The parts' numbers rise.
module _ (m : ℕ) (ps : List Part) (r : Rising m ps) where
  -- a part that has no size gets nothing
  pub by_none : (p : Part) → Memᴰ p ps → p.size ≡ 0 → (way : Method) (lot left : ℕ) → share_by way lot left ps p ≡ 0
  unfolding round_share
  by_none p i z (InTurn rank) lot left =
      let t = turn part_size p (ranked (before_of rank) ps) (differ_ranked (before_of rank) m ps r) (mem_ranked (before_of rank) p ps i) left in
      omega (arith, t.took, (taking_le part_size t.met p).1)
  by_none p i z Lots lot left = lots_zero lot (divided left ps) ps m r p i z
  by_none p i z Setter lot left = setters_zero lot (divided left ps) m ps r p i z

  -- parts that are nothing may be left out
  pub by_zeros : {qs : List Part} → Thin Nothing ps qs → (way : Method) (lot left : ℕ) → SameShares ps qs (allot_by way lot left ps) (allot_by way lot left qs)
  by_zeros t (InTurn rank) lot left = round_zeros t m r (before_of rank) (by_rank rank) part_size (λ p e. e) left
  by_zeros {qs} t Lots lot left = rw (thin_total part_size (λ p z. z.0) t) (lots_zeros t m r lot (divided left qs))
  by_zeros {qs} t Setter lot left = rw (thin_total part_size (λ p z. z.0) t) (setter_zeros t m r lot (divided left qs))

-- Sharing by lots is of a group in which no order has a minimum.
module _ (m : ℕ) (ps : List Part) (r : Rising m ps) (way : Method) (free : is_by_lots way ≡ true → Every (λ p. p.minimum ≡ 0) ps) where
  -- a method fills the group as far as the shares left go
  pub by_filled : (lot : ℕ) → 0 < lot → OneSetter ps → (left : ℕ) → Filled left ps (allot_by way lot left ps)
  by_filled lot l one left = go way free
    where
      go : (w : Method) → (is_by_lots w ≡ true → Every (λ p. p.minimum ≡ 0) ps) → Filled left ps (allot_by w lot left ps)
      go (InTurn rank) f = round_filled (before_of rank) m ps r left
      go Lots f = lots_filled lot l m ps r (f refl) left
      go Setter f = setter_filled lot l m ps r (f refl) one left

-- in turn without a sort: where no order has a minimum, or by the smallest minimum; else there is no such form
abbrev pub closed_turns : Bool → Rank → ℕ → List Part → List ℕ
closed_turns true rank left ps = map (λ p. min p.size (left - ahead (before_of rank) part_size p ps)) ps
closed_turns false Time left ps = round by_time part_size left ps
closed_turns false Size left ps = round larger part_size left ps
closed_turns false Minimum left ps = map (λ p. taking part_size (left - ahead smaller_minimum part_size p ps) p) ps

-- a method without a sort; the test says that no order of the group has a minimum
abbrev pub closed_by : Bool → Method → ℕ → ℕ → List Part → List ℕ
closed_by free (InTurn rank) lot left ps = closed_turns free rank left ps
closed_by free Lots lot left ps = closed_lots lot (divided left ps) ps
closed_by free Setter lot left ps = closed_setter lot (divided left ps) ps

module _ (m : ℕ) (ps : List Part) (r : Rising m ps) where
  turns_closed : (free : Bool) → (free ≡ true → Every (λ p. p.minimum ≡ 0) ps) → (rank : Rank) (left : ℕ)
      → round (before_of rank) part_size left ps ≡ closed_turns free rank left ps
  turns_closed true z rank left = round_closed (before_of rank) (by_rank rank) part_size m ps r (z refl) left
  turns_closed false z Time left = refl
  turns_closed false z Size left = refl
  turns_closed false z Minimum left = minimum_closed part_size m ps r left

  -- a method's sequential and closed forms are equal
  pub by_closed : (free : Bool) → (free ≡ true → Every (λ p. p.minimum ≡ 0) ps) → (way : Method) → (is_by_lots way ≡ true → free ≡ true) → (lot left : ℕ)
      → allot_by way lot left ps ≡ closed_by free way lot left ps
  by_closed free z (InTurn rank) f lot left = turns_closed free z rank left
  by_closed free z Lots f lot left = lots_closed lot (divided left ps) m ps r (z (f refl))
  by_closed free z Setter f lot left = setter_closed lot (divided left ps) m ps r (z (f refl))
