-- The paragraphs of the rule at one price: who stands in each, and how they share.
use Rattle.std.specs.Prelude.{ℕ, Bool, true, false, cond, not, ◌&&◌, List, [], ◌∷◌, leb, ltb, eqb}
use Rattle.sharing.specs.declared.Rank.TheVariants.{Time, Size, Minimum}
use Rattle.sharing.specs.declared.Method.{Method}
use Rattle.sharing.specs.declared.Method.TheVariants.{InTurn, Lots, Setter}
use Rattle.sharing.specs.Rank.{Part, no_part}
use Rattle.sharing.specs.Method.{allot_by}
use Rattle.orders.specs.declared.order.Order.{Order}
use Rattle.orders.specs.declared.order.Taker.{Taker}
use Rattle.orders.specs.Order.{Visibility, shown, hidden, shares_of, interest_of, is_minimum_quantity, minimum_of, price_of}
use Rattle.orders.specs.Trading.{is_opposite_of}
use Rattle.matching.specs.declared.Algorithm.{Algorithm}
use Rattle.matching.specs.declared.Algorithm.TheVariants.{PriceTime, ProRata, PriceSetter}
use Rattle.matching.specs.declared.Paragraph.{Paragraph}
use Rattle.matching.specs.declared.Paragraph.TheVariants.{Two, Three, Four, Five, Six}

-- 1 price/time, 2 pro rata, 3 pro rata with the price-setter variation
abbrev pub algorithm_of : ℕ → Algorithm
algorithm_of n = cond (eqb n 1) PriceTime (cond (eqb n 2) ProRata PriceSetter)

abbrev pub paragraph_number : Paragraph → ℕ
paragraph_number Two = 2
paragraph_number Three = 3
paragraph_number Four = 4
paragraph_number Five = 5
paragraph_number Six = 6

abbrev pub paragraphs : List Paragraph
paragraphs = Two ∷ Three ∷ Four ∷ Five ∷ Six ∷ []

-- A group: the visibility of the interest that stands in it, and a test of whether the order is a minimum quantity order and of its
-- shares of that visibility.
pub record Group : Type 0 where
  pub visibility : Visibility
  pub holds : Bool → ℕ → Bool

abbrev group : Visibility → (Bool → ℕ → Bool) → Group
group v t = record { visibility = v; holds = t }

-- The tests: every order, and none
abbrev pub every_order : Bool → ℕ → Bool
every_order m n = true

abbrev pub no_order : Bool → ℕ → Bool
no_order m n = false

-- a minimum quantity order of any size
abbrev pub minimum_order : Bool → ℕ → Bool
minimum_order m n = m

-- shares of a lot or more, and below a lot
abbrev pub of_lot : ℕ → Bool → ℕ → Bool
of_lot lot m n = leb lot n

abbrev pub below_lot : ℕ → Bool → ℕ → Bool
below_lot lot m n = ltb n lot

-- the test passes, and the order is no minimum quantity order
abbrev pub without_minimum : (Bool → ℕ → Bool) → Bool → ℕ → Bool
without_minimum test m n = not m && test m n

-- price/time: displayed shares, then all others together
abbrev pub time_group : Paragraph → Group
time_group Two = group shown every_order
time_group Three = group hidden every_order
time_group Four = group hidden no_order
time_group Five = group hidden no_order
time_group Six = group hidden no_order

-- pro rata: displayed of a lot or more, displayed below a lot, non-displayed of a lot or more, minimum quantity of any size,
-- non-displayed below a lot
abbrev pub pro_rata_group : ℕ → Paragraph → Group
pro_rata_group lot Two = group shown (of_lot lot)
pro_rata_group lot Three = group shown (below_lot lot)
pro_rata_group lot Four = group hidden (without_minimum (of_lot lot))
pro_rata_group lot Five = group hidden minimum_order
pro_rata_group lot Six = group hidden (without_minimum (below_lot lot))

-- the group of a paragraph; the variation has those of pro rata
abbrev pub group_of : ℕ → Algorithm → Paragraph → Group
group_of lot PriceTime g = time_group g
group_of lot ProRata g = pro_rata_group lot g
group_of lot PriceSetter g = pro_rata_group lot g

-- the order has shares of the group's visibility, and they pass its test
abbrev pub in_group : Group → Order → Bool
in_group g o = let n = shares_of g.visibility (interest_of o) in ltb 0 n && g.holds (is_minimum_quantity o.kind) n

-- the part of an order that stands in a group at a price: its shares of that visibility, where it is an opposite order of the price
unfoldable pub part_of : Taker → ℕ → Group → Order → Part
part_of t price g o =
    cond (is_opposite_of t o && eqb (price_of o) price && in_group g o)
    (record { number = o.number; size = shares_of g.visibility (interest_of o); minimum = minimum_of o.kind; setter = o.setter })
    (no_part o.number)

-- pro rata: by lots in paragraphs 2 and 4, largest first in 3 and 6, smallest minimum first in 5
abbrev pub pro_rata_method : Paragraph → Method
pro_rata_method Two = Lots
pro_rata_method Three = InTurn Size
pro_rata_method Four = Lots
pro_rata_method Five = InTurn Minimum
pro_rata_method Six = InTurn Size

-- the method of a paragraph: by time under price/time; the variation changes paragraph 2
abbrev pub method_of : Algorithm → Paragraph → Method
method_of PriceTime g = InTurn Time
method_of ProRata g = pro_rata_method g
method_of PriceSetter g = cond (eqb (paragraph_number g) 2) Setter (pro_rata_method g)

-- what a paragraph gives each part of the shares left
abbrev pub allot : ℕ → Algorithm → Paragraph → ℕ → List Part → List ℕ
allot lot alg g left ps = allot_by (method_of alg g) lot left ps
