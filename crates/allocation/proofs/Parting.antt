-- Keys that rise are parted where the group changes: the groups that the shares left fill, and where a group ends.
use Prim.Native.Nat.{ℕ, zero, suc, ◌+◌, ◌-◌, ◌≤◌, ◌<◌}
use mathlib.Core.Path.{◌≡◌, sym, ◌∙◌}
use mathlib.Core.List.{List, [], ◌∷◌}
use native.Mathlib.Omega.{arith}
use native.Mathlib.Decide.{dec_lt}
use lib.ListN.{length, get_or, take}
use Rattle.units.specs.Lists.{total}
use Rattle.ordering.specs.Sorted.{Rising}
use Rattle.parts.specs.Key.{shares_in}
use Rattle.allocation.specs.Stretch.{group_at, Parted, Whole, Ends}
use Rattle.allocation.proofs.Places.{total_front}

-- what holds from a place on, and at the place before it, holds from there on
pub from_before : (P : ℕ → Type 0) (k : ℕ) → ((j : ℕ) → k ≤ j → P j) → P (k - 1) → (j : ℕ) → k - 1 ≤ j → P j
from_before P k a p j h = go (dec_lt j k)
  where
    go : Dec (j < k) → P j
    go (yes l) = let e : j ≡ k - 1 = omega arith in rw e p
    go (no l) = a j (omega arith)

-- each key is at least the first bound, and at least those before it
least_at : (m : ℕ) (keys : List ℕ) → Rising m keys → (j : ℕ) → j < length keys → m ≤ get_or keys j 0
least_at m [] r j h = absurd (omega arith)
least_at m (k ∷ keys) r zero h = r.0
least_at m (k ∷ keys) r (suc j) h = omega (arith, r.0, least_at k keys r.1 j (omega arith))

rising_at : (m : ℕ) (keys : List ℕ) → Rising m keys → (i j : ℕ) → i ≤ j → j < length keys → get_or keys i 0 ≤ get_or keys j 0
rising_at m [] r i j h l = absurd (omega arith)
rising_at m (k ∷ keys) r zero zero h l = omega arith
rising_at m (k ∷ keys) r zero (suc j) h l = least_at k keys r.1 j (omega arith)
rising_at m (k ∷ keys) r (suc i) zero h l = absurd (omega arith)
rising_at m (k ∷ keys) r (suc i) (suc j) h l = rising_at k keys r.1 i j (omega arith) (omega arith)

-- so do the groups
group_rising : (keys : List ℕ) → Rising 0 keys → (i j : ℕ) → i ≤ j → j < length keys → group_at keys i ≤ group_at keys j
group_rising keys r i j h l = omega (arith, rising_at 0 keys r i j h l)

-- all keys are filled
pub whole_all : (keys : List ℕ) {left k : ℕ} → length keys ≤ k → k ≤ length keys → total shares_in (take k keys) ≤ left → Whole keys left k
whole_all keys h l f = record { within = l; parted = λ i j a b n. absurd (omega arith); fits = f; most = λ end n a. absurd (omega arith) }

module _ (keys : List ℕ) (r : Rising 0 keys) where
  -- keys are parted where the last key before is of another group than the one there
  parted : (k : ℕ) → ((j : ℕ) → k ≡ j + 1 → group_at keys j ≡ group_at keys k → ⊥) → Parted keys k
  parted zero d i j h l n = absurd (omega arith)
  parted (suc k) d i j h l n =
      let a = group_rising keys r i k (omega arith) (omega arith) in
      let b = group_rising keys r k (suc k) (omega arith) (omega arith) in
      let c = group_rising keys r (suc k) j l n in
      let e = d k (omega arith) in
      omega (arith, e)

  -- The key at a place isn't filled with those before it: the group that it is in is the next.
  pub whole_before : {left place k : ℕ} → place < length keys → left < total shares_in (take (place + 1) keys) → total shares_in (take place keys) ≤ left
      → k ≤ place → ((j : ℕ) → k ≤ j → j < place → group_at keys j ≡ group_at keys place)
      → ((j : ℕ) → k ≡ j + 1 → group_at keys j ≡ group_at keys place → ⊥) → Whole keys left k
  whole_before {left} {place} {k} h m f l s d = record {
    within = omega arith;
    parted = parted k (λ j e g. d j e (g ∙ same));
    fits = omega (arith, total_front shares_in keys k place l);
    most = λ end n a. omega (arith, total_front shares_in keys (place + 1) end (omega (arith, a place h (sym same))));
  }
    where
      same : group_at keys k ≡ group_at keys place
      same = go (dec_lt k place)
        where
          go : Dec (k < place) → group_at keys k ≡ group_at keys place
          go (yes n) = s k (omega arith) n
          go (no n) = let e : k ≡ place = omega arith in rw e

  -- where the group of the key at `from` ends
  pub ends_at : {from end : ℕ} → from < end → end ≤ length keys → ((j : ℕ) → from ≤ j → j < end → group_at keys j ≡ group_at keys from)
      → (end < length keys → group_at keys end ≡ group_at keys from → ⊥) → Ends keys from end
  ends_at {from} {end} h l s d = record { some = h; within = l; same = s; parted = go (dec_lt end (length keys)) }
    where
      go : Dec (end < length keys) → Parted keys end
      go (yes n) = parted end (λ j e g. d n (sym g ∙ s j (omega arith) (omega arith)))
      go (no n) = λ i j a b m. absurd (omega arith)
