-- Stretches of keys that rise, and where one ends.
use Rattle.std.specs.Prelude.{ℕ, ◌≤◌, ◌<◌, ◌≡◌, List, length, get_or, take}
use Rattle.units.specs.Lists.{total}
use Rattle.parts.specs.Key.{group_in, shares_in}

-- the group of the key at a place
abbrev pub group_at : List ℕ → ℕ → ℕ
group_at keys i = group_in (get_or keys i 0)

-- No group lies on both sides of this place.
abbrev pub Parted : List ℕ → ℕ → Type 0
Parted keys k = (i j : ℕ) → i < k → k ≤ j → j < length keys → group_at keys i < group_at keys j

-- The keys before k are whole groups whose shares fit into those left; with the group that comes next they don't.
pub record Whole (keys : List ℕ) (left k : ℕ) : Type 0 where
  pub within : k ≤ length keys
  pub parted : Parted keys k
  pub fits : total shares_in (take k keys) ≤ left
  pub most : (end : ℕ) → k < length keys → ((j : ℕ) → j < length keys → group_at keys j ≡ group_at keys k → j < end) → left < total shares_in (take end keys)

-- The group of the key at `from` lies from there to before `end`.
pub record Ends (keys : List ℕ) (from end : ℕ) : Type 0 where
  pub some : from < end
  pub within : end ≤ length keys
  pub same : (j : ℕ) → from ≤ j → j < end → group_at keys j ≡ group_at keys from
  pub parted : Parted keys end
