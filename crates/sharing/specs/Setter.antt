-- Lot sharing with a price setter, the rule's variation.
use Rattle.std.specs.Prelude.{ℕ, ◌-◌, ◌*◌, ◌/◌, min, ◌≡◌, Bool, true, cond, ◌&&◌, leb}
use mathlib.Core.List.{List, map, Memᴰ}
use Rattle.units.specs.Lists.{any, sum, or_zero, zip_with}
use Rattle.sharing.specs.Rank.{Part, no_part}
use Rattle.sharing.specs.Lots.{lot_sharing}

-- the guarantee: the smaller of the setter's size and two fifths of Q, rounded down to a share
abbrev pub guarantee : ℕ → Part → ℕ
guarantee q p = min p.size (2 * q / 5)

abbrev pub is_setter : Part → Bool
is_setter p = p.setter

-- no order of a group has a minimum
abbrev pub NoMinimum : List Part → Type 0
NoMinimum ps = (p : Part) → Memᴰ p ps → p.minimum ≡ 0

-- at most one order of a group is the setter
abbrev pub OneSetter : List Part → Type 0
OneSetter ps = (p q : Part) → Memᴰ p ps → Memᴰ q ps → p.setter ≡ true → q.setter ≡ true → p.number ≡ q.number

-- the setter's number of a list beside the parts; 0 where there is no setter
abbrev pub of_setter : List Part → List ℕ → ℕ
of_setter ps ns = sum (zip_with (λ p n. or_zero p.setter n) ps ns)

-- nothing in place of the setter
abbrev pub without_setter : Part → Part
without_setter p = cond p.setter (no_part p.number) p

-- the group without its setter
abbrev pub others : List Part → List Part
others ps = map without_setter ps

-- the setter gets the guarantee, and the others share what it leaves of Q, with their own total
unfoldable pub beside_setter : ℕ → ℕ → List Part → List ℕ
beside_setter lot q ps =
    let rest = q - of_setter ps (map (guarantee q) ps) in
    zip_with (λ p n. cond p.setter (guarantee q p) n) ps (lot_sharing lot rest (others ps))

-- Where plain lot sharing, both steps of it, gives the setter more than the guarantee, plain sharing holds for all; else, equality
-- included, the setter gets the guarantee.
unfoldable pub setter_sharing : ℕ → ℕ → List Part → List ℕ
setter_sharing lot q ps =
    let plain = lot_sharing lot q ps in
    cond (any is_setter ps && leb (of_setter ps plain) (of_setter ps (map (guarantee q) ps))) (beside_setter lot q ps) plain
