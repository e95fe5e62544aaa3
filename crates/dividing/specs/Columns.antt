-- Columns of numbers beside the parts of a group: their sizes or keys, what they want and what they get.
use Rattle.std.specs.Prelude.{ℕ, zero, suc, ◌+◌, ◌-◌, ◌*◌, ◌/◌, ◌<◌, min, ◌≡◌, List, [], ◌∷◌, map, leb, ltb, eqb, length, get_or}
use Rattle.units.specs.Lists.{sum, or_zero, zip_with}
use Rattle.units.specs.Lots.{round_down}
use Rattle.sharing.specs.Rank.{Part, part_size, Rising}
use Rattle.sharing.specs.Setter.{NoMinimum}

-- the sizes of parts whose numbers rise and that have no minimum
pub record Sizes (sizes : List ℕ) (ps : List Part) : Type 0 where
  pub start : ℕ
  pub rising : Rising start ps
  pub free : NoMinimum ps
  pub same : sizes ≡ map part_size ps

-- what one of key x wants, where x is above t
abbrev pub want_above : ℕ → ℕ → ℕ → ℕ
want_above t x w = or_zero (ltb t x) w

-- what those of a key above t want together
abbrev pub above : ℕ → List ℕ → List ℕ → ℕ
above t xs ws = sum (zip_with (want_above t) xs ws)

-- what those want that have their turn before the one of key x at place k: the earlier ones of its key or above, the later ones above it
abbrev pub ahead_at : ℕ → ℕ → List ℕ → List ℕ → ℕ
ahead_at x zero ys ws = above x ys ws
ahead_at x (suc k) [] ws = 0
ahead_at x (suc k) (y ∷ ys) [] = 0
ahead_at x (suc k) (y ∷ ys) (w ∷ ws) = or_zero (leb x y) w + ahead_at x k ys ws

-- what one takes of what is left: no more than it wants, and nothing while less than its minimum is left
abbrev pub may_take : ℕ → ℕ → ℕ → ℕ
may_take minimum w left = or_zero (leb minimum left) (min w left)

-- what one of key t takes
abbrev pub takes_at : ℕ → ℕ → ℕ → ℕ → ℕ → ℕ
takes_at t minimum x w left = or_zero (eqb x t) (may_take minimum w left)

-- what each takes in the order of place, by what it takes of what is left
unfoldable pub in_order : (ℕ → ℕ → ℕ → ℕ) → ℕ → List ℕ → List ℕ → List ℕ
in_order takes left [] ws = []
in_order takes left (x ∷ xs) [] = []
in_order takes left (x ∷ xs) (w ∷ ws) = let part = takes x w left in part ∷ in_order takes (left - part) xs ws

-- what the one at place i takes of what those before it leave of the rest, where one of key x has the minimum top - x
abbrev pub turn_at : ℕ → ℕ → List ℕ → List ℕ → ℕ → ℕ
turn_at top rest keys wants i = may_take (top - get_or keys i 0) (get_or wants i 0) (rest - ahead_at (get_or keys i 0) i keys wants)

-- What each has after the rest went round by keys, largest first: beside what it had, what it takes in its turn.
pub record Served (top rest : ℕ) (keys wants had has : List ℕ) : Type 0 where
  pub long : length has ≡ length had
  pub each : (i : ℕ) → i < length had → get_or has i 0 ≡ get_or had i 0 + turn_at top rest keys wants i

-- what one of size x first gets, as `first_step`
abbrev pub first_of : ℕ → ℕ → ℕ → ℕ → ℕ
first_of lot q s x = round_down lot (x * q / s)

-- what it may get of the rest beside what it has, as `second_step`
abbrev pub second_of : ℕ → ℕ → ℕ → ℕ
second_of lot x g = min lot (x - g)

-- The columns after both steps of lot sharing: what each has, what it may get of the rest, and the rest of q.
pub record Stepped (lot q s : ℕ) (sizes wants gets : List ℕ) (rest : ℕ) : Type 0 where
  pub has : gets ≡ map (first_of lot q s) sizes
  pub may : wants ≡ zip_with (second_of lot) sizes gets
  pub leaves : rest ≡ q - sum gets
