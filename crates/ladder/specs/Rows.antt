-- The rows of a depth ladder: one for each side and price that an order has, with what the orders there come to.
use Rattle.std.specs.Prelude.{ℕ, ◌+◌, Bool, true, false, cond, ◌&&◌, ltb, eqb}
use mathlib.Core.List.{List, [], ◌∷◌, map, foldr}
use Rattle.orders.specs.declared.order.Side.{Side}
use Rattle.orders.specs.declared.order.Side.TheVariants.{Buy, Sell}
use Rattle.orders.specs.declared.order.Order.{Order}
use Rattle.orders.specs.Order.{side_number, interest_of}
use Rattle.ladder.specs.declared.row.Row.{Row}

-- two rows are of one price level: one side and price
abbrev pub same_level : Row → Row → Bool
same_level a b = eqb (side_number a.side) (side_number b.side) && eqb a.price.0 b.price.0

-- sells come first with rising price, then buys with falling price
abbrev pub comes_first : Side → ℕ → Side → ℕ → Bool
comes_first Sell p Sell q = ltb p q
comes_first Sell p Buy q = true
comes_first Buy p Sell q = false
comes_first Buy p Buy q = ltb q p

abbrev pub precedes : Row → Row → Bool
precedes a b = comes_first a.side a.price.0 b.side b.price.0

-- the row of one order alone
unfoldable pub row_of : Order → Row
row_of o = record {
  side = o.side;
  price = o.price;
  displayed = record { 0 = (interest_of o).displayed };
  other = record { 0 = (interest_of o).non_displayed };
  orders = 1;
}

-- two rows of one level as one: displayed shares, other shares and orders are added up
unfoldable pub joined : Row → Row → Row
joined a b = record {
  side = a.side;
  price = a.price;
  displayed = record { 0 = a.displayed.0 + b.displayed.0 };
  other = record { 0 = a.other.0 + b.other.0 };
  orders = a.orders + b.orders;
}

-- a row put in its place; with a row of its level that is there already it becomes one
abbrev pub insert_row : Row → List Row → List Row
insert_row r [] = r ∷ []
insert_row r (q ∷ qs) = cond (same_level r q) (joined r q ∷ qs) (cond (precedes r q) (r ∷ q ∷ qs) (q ∷ insert_row r qs))

-- rows put in their places, one by one
abbrev pub gathered : List Row → List Row
gathered rs = foldr insert_row [] rs

-- the rows of orders
unfoldable pub rows_of : List Order → List Row
rows_of os = gathered (map row_of os)
