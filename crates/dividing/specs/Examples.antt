-- Worked values of columns, computed by the checker, and groups that a method can divide among, or can't.
use Rattle.std.specs.Prelude.{ℕ, zero, suc, ◌+◌, ◌<◌, ◌≡◌, refl, Bool, true, false, List, [], ◌∷◌, map, eqb, get_or}
use Rattle.std.proofs.Common.{ap, true≢false, arith}
use mathlib.Core.List.Memᴰ
use Rattle.units.specs.Lists.{all, same_numbers}
use Rattle.sharing.specs.declared.Rank.TheVariants.{Time, Size, Minimum}
use Rattle.sharing.specs.declared.Method.TheVariants.{InTurn, Lots, Setter}
use Rattle.sharing.specs.Rank.{Part}
use Rattle.sharing.specs.Setter.{NoMinimum}
use Rattle.dividing.specs.Columns.{Sizes, want_above, above, ahead_at, may_take, takes_at, in_order, turn_at, Served, first_of, second_of, Stepped}
use Rattle.dividing.specs.Group.{Division, part_minimum, SetterAt, Asked, Group, Within}

-- a part of 300 shares
abbrev part : ℕ → ℕ → Bool → Part
part n m b = record { number = n; size = 300; minimum = m; setter = b }

values : List Bool
values =
    -- a key is above t, or isn't
    eqb (want_above 2 3 50) 50 ∷
    eqb (want_above 3 3 50) 0 ∷
    eqb (above 2 (3 ∷ 2 ∷ 5 ∷ []) (30 ∷ 20 ∷ 50 ∷ [])) 80 ∷
    -- before the second of three of key 2 the first has its turn, and the one of key 3 behind them
    eqb (ahead_at 2 1 (2 ∷ 2 ∷ 2 ∷ 3 ∷ 1 ∷ []) (1 ∷ 10 ∷ 100 ∷ 1000 ∷ 10000 ∷ [])) 1001 ∷
    -- a minimum that is just met, one that isn't, and fewer wanted than are left
    eqb (may_take 300 500 300) 300 ∷
    eqb (may_take 301 500 300) 0 ∷
    eqb (may_take 0 200 300) 200 ∷
    eqb (takes_at 2 300 2 500 300) 300 ∷
    eqb (takes_at 2 300 3 500 300) 0 ∷
    -- of 300 shares the first of two of key 200 leaves the second 50, and 50 are below its minimum of 200
    eqb (turn_at 400 300 (200 ∷ 200 ∷ []) (250 ∷ 250 ∷ []) 0) 250 ∷
    eqb (turn_at 400 300 (200 ∷ 200 ∷ []) (250 ∷ 250 ∷ []) 1) 0 ∷
    -- one that is passed over takes nothing from those behind it
    same_numbers (in_order may_take 350 (0 ∷ 300 ∷ 0 ∷ []) (100 ∷ 300 ∷ 400 ∷ [])) (100 ∷ 0 ∷ 250 ∷ []) ∷
    -- 145 shares in whole lots, and then up to a lot of what lacks
    eqb (first_of 100 290 300 150) 100 ∷
    eqb (second_of 100 150 100) 50 ∷
    eqb (second_of 100 350 100) 100 ∷
    eqb (part_minimum (part 1 200 false)) 200 ∷ []

values_worked : all (λ b. b) values ≡ true
unfolding values in_order
values_worked = refl

-- of two of key 200 the first is served, on top of what it had; the minimum is 400 less the key
keys : List ℕ
keys = 200 ∷ 200 ∷ []

wants : List ℕ
wants = 250 ∷ 250 ∷ []

round_served : Served 400 300 keys wants (5 ∷ 6 ∷ []) (255 ∷ 6 ∷ [])
unfolding keys wants
round_served = record { long = refl; each = at }
  where
    beyond : (i : ℕ) → suc (suc i) < 2 → ⊥
    beyond i h = omega arith

    at : (i : ℕ) → i < 2 → get_or (255 ∷ 6 ∷ []) i 0 ≡ get_or (5 ∷ 6 ∷ []) i 0 + turn_at 400 300 keys wants i
    at zero h = refl
    at (suc zero) h = refl
    at (suc (suc i)) h = absurd (beyond i h)

-- of 290 shares two of 150 first get 100 each, and 90 are left for the 50 that each lacks
both_steps : Stepped 100 290 300 (150 ∷ 150 ∷ []) (50 ∷ 50 ∷ []) (100 ∷ 100 ∷ []) 90
both_steps = record { has = refl; may = refl; leaves = refl }

-- the setter is the second of three, or none of two; never the first where the second is one too
second_sets : SetterAt 1 (part 1 0 false ∷ part 2 0 true ∷ part 3 0 false ∷ [])
second_sets = (refl, (refl, (refl, tt)))

none_sets : SetterAt 2 (part 1 0 false ∷ part 2 0 false ∷ [])
none_sets = (refl, (refl, tt))

two_set : SetterAt 0 (part 1 0 true ∷ part 2 0 true ∷ []) → ⊥
two_set h = true≢false h.1.0

-- one that has a minimum shares in turn by time or by minimum, by that minimum and no other, and not otherwise
least : List Part
least = part 7 200 true ∷ []

in_turn_asks : Asked (InTurn Time) (200 ∷ []) 0 least × Asked (InTurn Minimum) (200 ∷ []) 0 least
unfolding least
in_turn_asks = (refl, refl)

other_minimum : 201 ∷ [] ≡ map part_minimum least → ⊥
unfolding least
other_minimum h = let e : ◌≡◌ {A = ℕ} 201 200 = ap (λ ms. get_or ms 0 0) h in omega arith

in_turn_refuses : (Asked (InTurn Time) (201 ∷ []) 0 least → ⊥) × (Asked (InTurn Minimum) (201 ∷ []) 0 least → ⊥)
in_turn_refuses = (other_minimum, other_minimum)

has_minimum : NoMinimum least → ⊥
unfolding least
has_minimum h = let e : ◌≡◌ {A = ℕ} 200 0 = h (part 7 200 true) (Memᴰ.head refl) in omega arith

others_ask : (Asked (InTurn Size) (200 ∷ []) 0 least → ⊥) × (Asked Lots (200 ∷ []) 0 least → ⊥) × (Asked Setter (200 ∷ []) 0 least → ⊥)
others_ask = (has_minimum, has_minimum, λ h. has_minimum h.0)

-- one that has none shares otherwise, whatever the column of minimums holds, and as the setter only at its place
no_minimum : NoMinimum (part 7 0 true ∷ [])
no_minimum p (Memᴰ.head e) = ap part_minimum e
no_minimum p (Memᴰ.tail k) = absurd (Memᴰ.not-nil k)

others_take : Asked (InTurn Size) (9 ∷ []) 5 (part 7 0 true ∷ []) × Asked Lots (9 ∷ []) 5 (part 7 0 true ∷ [])
others_take = (no_minimum, no_minimum)

elsewhere : Asked Setter (9 ∷ []) 1 (part 7 0 true ∷ []) → ⊥
elsewhere h = true≢false h.1.0

-- its number 7 is above 6, and all of its shares may be divided
alone : Group Setter (300 ∷ []) (9 ∷ []) 0 (part 7 0 true ∷ [])
alone = record { start = 6; rising = (omega arith, tt); sized = refl; asked = (no_minimum, (refl, tt)) }

alone_sizes : Sizes (300 ∷ []) (part 7 0 true ∷ [])
alone_sizes = record { start = 6; rising = (omega arith, tt); free = no_minimum; same = refl }

whole : Division (300 ∷ []) (9 ∷ []) (8 ∷ []) 300 300 1
whole = record { wanting = refl; getting = refl; totals = refl; within = omega arith; some = omega arith; lots = omega arith }

-- by minimum a minimum may be the size and no more; otherwise no minimum is looked at
met : Within (InTurn Minimum) (300 ∷ []) (300 ∷ [])
met zero = omega arith
met (suc i) = omega arith

above_size : Within (InTurn Minimum) (301 ∷ []) (300 ∷ []) → ⊥
above_size h = omega (arith, h 0)

others_within : Within (InTurn Time) (301 ∷ []) (300 ∷ []) × Within (InTurn Size) (301 ∷ []) (300 ∷ [])
    × Within Lots (301 ∷ []) (300 ∷ []) × Within Setter (301 ∷ []) (300 ∷ [])
others_within = (tt, tt, tt, tt)
