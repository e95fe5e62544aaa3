-- Lot sharing, for any lot of 1 or more.
use Rattle.std.specs.Prelude.{ℕ, ◌+◌, ◌-◌, ◌*◌, ◌/◌, min, List, map}
use Rattle.units.specs.Lists.{total, zip_with}
use Rattle.units.specs.Lots.{round_down}
use Rattle.sharing.specs.Rank.{Part, part_size, larger}
use Rattle.sharing.specs.Round.{round}

-- Q, the shares divided: the smaller of the shares left and the total of the group
abbrev pub divided : ℕ → List Part → ℕ
divided left ps = min left (total part_size ps)

module _ (lot q s : ℕ) where
  -- what a part first gets: size × Q ÷ S, rounded down to whole lots
  abbrev pub first_step : Part → ℕ
  first_step p = round_down lot (p.size * q / s)

  -- what a part may get of the rest: the smaller of one lot and what its size still lacks
  abbrev pub second_step : Part → ℕ
  second_step p = min lot (p.size - first_step p)

-- q shares, no more than the group's total s: the first step, and then the rest goes round once, largest entry size first
unfoldable pub lot_sharing : ℕ → ℕ → List Part → List ℕ
lot_sharing lot q ps =
    let s = total part_size ps in
    let rest = q - total (first_step lot q s) ps in
    zip_with ◌+◌ (map (first_step lot q s) ps) (round larger (second_step lot q s) rest ps)
