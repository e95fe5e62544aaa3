-- How many records move when orders leave a book. A move is a record copied to another place than its own.
use Rattle.std.specs.Prelude.{ℕ, cond, not, List, [], ◌∷◌, length, eqb}
use Rattle.units.specs.Lists.{filter, zip_with, sum, or_zero}
use Rattle.orders.specs.declared.order.Order.{Order}
use Rattle.orders.specs.Order.{is_resting}

-- of orders as they are left, those behind the first that has no shares, which leaves; none where none leaves
abbrev pub behind_first_gap : List Order → List Order
behind_first_gap [] = []
behind_first_gap (o ∷ os) = cond (is_resting o) (behind_first_gap os) os

-- the survivors behind the first record that left, each of which moves once; 0 if none left
abbrev pub moves_of : List Order → ℕ
moves_of os = length (filter is_resting (behind_first_gap os))

-- in how many places of a book another order stands than before, by its number
abbrev pub displaced : List Order → List Order → ℕ
displaced before after = sum (zip_with (λ b a. or_zero (not (eqb b.number a.number)) 1) before after)
