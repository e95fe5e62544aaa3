-- Worked values of sharing, computed by the checker. They are those of the rule's examples and of the scope's cases, for one group.
use Rattle.std.specs.Prelude.{ℕ, suc, ◌≡◌, refl, Bool, true, false, not, List, [], ◌∷◌}
use Rattle.units.specs.Lists.{all, same_numbers}
use Rattle.sharing.specs.declared.Rank.TheVariants.{Time, Size, Minimum}
use Rattle.sharing.specs.declared.Method.TheVariants.{InTurn, Lots, Setter}
use Rattle.sharing.specs.Rank.{Part, part_size, by_time, larger, smaller_minimum}
use Rattle.sharing.specs.Round.{goes_round, round}
use Rattle.sharing.specs.Lots.{lot_sharing}
use Rattle.sharing.specs.Setter.{beside_setter, setter_sharing}
use Rattle.sharing.specs.Method.{allot_by, is_by_lots}

-- parts of these sizes, numbered from n, the first of them the setter where b says so
plain : ℕ → Bool → List ℕ → List Part
plain n b [] = []
plain n b (s ∷ ss) = record { number = n; size = s; minimum = 0; setter = b } ∷ plain (suc n) false ss

sized : List ℕ → List Part
sized = plain 1 false

with_setter : List ℕ → List Part
with_setter = plain 1 true

-- a minimum quantity part
least : ℕ → ℕ → ℕ → Part
least n s m = record { number = n; size = s; minimum = m; setter = false }

-- what was got, and what should be
record Value : Type 0 where
  got : List ℕ
  due : List ℕ

value : List ℕ → List ℕ → Value
value g d = record { got = g; due = d }

holds : Value → Bool
holds v = same_numbers v.got v.due

-- lot sharing: examples 1 and 2, two equal odd sizes, the second step by entry size and not by what is lacking, and a lot of 1
by_lots : List Value
by_lots =
    value (lot_sharing 100 1200 (sized (600 ∷ 400 ∷ 300 ∷ []))) (600 ∷ 400 ∷ 200 ∷ []) ∷
    value (lot_sharing 100 80 (sized (600 ∷ 400 ∷ 300 ∷ []))) (80 ∷ 0 ∷ 0 ∷ []) ∷
    value (lot_sharing 100 290 (sized (150 ∷ 150 ∷ []))) (150 ∷ 140 ∷ []) ∷
    value (lot_sharing 100 400 (sized (290 ∷ 200 ∷ []))) (290 ∷ 110 ∷ []) ∷
    value (lot_sharing 1 7 (sized (3 ∷ 3 ∷ 3 ∷ []))) (3 ∷ 2 ∷ 2 ∷ []) ∷ []

-- the setter: examples 3, 4 and 5, equality, a setter filled whole, others that share with their own total, no setter at all; below a
-- lot, one that plain sharing gives more
with_setters : List Value
with_setters =
    value (setter_sharing 100 1000 (with_setter (1000 ∷ 3000 ∷ 1000 ∷ []))) (400 ∷ 500 ∷ 100 ∷ []) ∷
    value (setter_sharing 100 1000 (with_setter (3000 ∷ 1000 ∷ 1000 ∷ []))) (600 ∷ 200 ∷ 200 ∷ []) ∷
    value (setter_sharing 100 80 (with_setter (1000 ∷ 3000 ∷ 1000 ∷ []))) (32 ∷ 48 ∷ 0 ∷ []) ∷
    value (setter_sharing 100 500 (with_setter (300 ∷ 250 ∷ 250 ∷ 200 ∷ []))) (200 ∷ 200 ∷ 100 ∷ 0 ∷ []) ∷
    value (setter_sharing 100 500 (with_setter (100 ∷ 900 ∷ []))) (100 ∷ 400 ∷ []) ∷
    value (setter_sharing 100 250 (with_setter (100 ∷ 200 ∷ 100 ∷ []))) (100 ∷ 150 ∷ 0 ∷ []) ∷
    value (setter_sharing 100 500 (sized (300 ∷ 250 ∷ 250 ∷ 200 ∷ []))) (200 ∷ 100 ∷ 100 ∷ 100 ∷ []) ∷
    value (setter_sharing 100 80 (with_setter (300 ∷ 200 ∷ []))) (80 ∷ 0 ∷ []) ∷ []

-- two fifths of 81, 83 and 84 are 32.4, 33.2 and 33.6, rounded down and once
guarantees : List Value
guarantees =
    value (setter_sharing 100 81 (with_setter (1000 ∷ 3000 ∷ 1000 ∷ []))) (32 ∷ 49 ∷ 0 ∷ []) ∷
    value (setter_sharing 100 83 (with_setter (1000 ∷ 3000 ∷ 1000 ∷ []))) (33 ∷ 50 ∷ 0 ∷ []) ∷
    value (setter_sharing 100 84 (with_setter (1000 ∷ 3000 ∷ 1000 ∷ []))) (33 ∷ 51 ∷ 0 ∷ []) ∷ []

-- in turn by time, by size and by minimum, and the earlier of equal ones first; an unmet minimum is passed over and the next part is
-- tried, and one that is just met is not
in_turn : List Value
in_turn =
    value (round by_time part_size 100 (sized (99 ∷ 100 ∷ []))) (99 ∷ 1 ∷ []) ∷
    value (round larger part_size 100 (sized (40 ∷ 50 ∷ 50 ∷ []))) (0 ∷ 50 ∷ 50 ∷ []) ∷
    value (round larger part_size 70 (sized (50 ∷ 60 ∷ 60 ∷ []))) (0 ∷ 60 ∷ 10 ∷ []) ∷
    value (round by_time part_size 150 (least 1 300 300 ∷ least 2 100 0 ∷ [])) (0 ∷ 100 ∷ []) ∷
    value (round smaller_minimum part_size 350 (least 1 500 400 ∷ least 2 400 300 ∷ [])) (0 ∷ 350 ∷ []) ∷
    value (round smaller_minimum part_size 450 (least 1 500 200 ∷ least 2 400 100 ∷ [])) (0 ∷ 400 ∷ []) ∷
    value (round smaller_minimum part_size 350 (least 1 300 100 ∷ least 2 400 100 ∷ [])) (300 ∷ 0 ∷ []) ∷
    value (round smaller_minimum part_size 200 (least 1 300 200 ∷ [])) (200 ∷ []) ∷ []

-- each method is the sharing of its name, of no more than the group has
methods : List Value
methods =
    value (allot_by (InTurn Time) 100 100 (sized (99 ∷ 100 ∷ []))) (99 ∷ 1 ∷ []) ∷
    value (allot_by (InTurn Size) 100 50 (sized (40 ∷ 60 ∷ []))) (0 ∷ 50 ∷ []) ∷
    value (allot_by (InTurn Minimum) 100 450 (least 1 500 200 ∷ least 2 400 100 ∷ [])) (0 ∷ 400 ∷ []) ∷
    value (allot_by Lots 100 300 (sized (100 ∷ 300 ∷ 200 ∷ []))) (0 ∷ 200 ∷ 100 ∷ []) ∷
    value (allot_by Lots 100 900 (sized (100 ∷ 300 ∷ 200 ∷ []))) (100 ∷ 300 ∷ 200 ∷ []) ∷
    value (allot_by Setter 100 500 (with_setter (300 ∷ 250 ∷ 250 ∷ 200 ∷ []))) (200 ∷ 200 ∷ 100 ∷ 0 ∷ []) ∷
    value (allot_by Setter 100 9000 (with_setter (300 ∷ 250 ∷ []))) (300 ∷ 250 ∷ []) ∷ []

-- which methods are by lots
lot_methods : List Bool
lot_methods = is_by_lots Lots ∷ is_by_lots Setter ∷ not (is_by_lots (InTurn Time)) ∷ not (is_by_lots (InTurn Size)) ∷ not (is_by_lots (InTurn Minimum)) ∷ []

lot_methods_worked : all (λ b. b) lot_methods ≡ true
unfolding lot_methods
lot_methods_worked = refl

by_lots_worked : all holds by_lots ≡ true
unfolding by_lots value holds sized plain lot_sharing round goes_round
by_lots_worked = refl

setters_worked : all holds with_setters ≡ true
unfolding with_setters value holds with_setter sized plain setter_sharing beside_setter lot_sharing round goes_round
setters_worked = refl

guarantees_worked : all holds guarantees ≡ true
unfolding guarantees value holds with_setter sized plain setter_sharing beside_setter lot_sharing round goes_round
guarantees_worked = refl

in_turn_worked : all holds in_turn ≡ true
unfolding in_turn value holds least sized plain round goes_round
in_turn_worked = refl

methods_worked : all holds methods ≡ true
unfolding methods value holds least with_setter sized plain setter_sharing beside_setter lot_sharing round goes_round
methods_worked = refl
