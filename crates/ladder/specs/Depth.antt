-- What a ladder tells of a book's orders, by its bytes and its rows, in words apart from how it is made.
use Rattle.std.specs.Prelude.{ℕ, ◌*◌, ◌≤◌, ◌≡◌, Bool, true, ◌&&◌, List, [], ◌∷◌, length, drop}
use Rattle.units.specs.Lists.{all, filter, total, is_zero}
use Rattle.orders.specs.declared.order.Side.{Side}
use Rattle.orders.specs.declared.order.Order.{Order}
use Rattle.orders.specs.Order.{price_of, interest_of}
use Rattle.ladder.specs.declared.row.Row.{Row}
use Rattle.ladder.specs.Row.{row_bytes, rows_in}
use Rattle.ladder.specs.Rows.{precedes}

-- each row strictly before all those behind it
abbrev pub in_order : List Row → Bool
in_order [] = true
in_order (r ∷ rs) = all (precedes r) rs && in_order rs

-- the rows at some price levels, and the orders there
abbrev pub rows_at : (Side → ℕ → Bool) → List Row → List Row
rows_at at rs = filter (λ r. at r.side r.price.0) rs

abbrev pub orders_at : (Side → ℕ → Bool) → List Order → List Order
orders_at at os = filter (λ o. at o.side (price_of o)) os

pub record Tells (os : List Order) (l : List ℕ) (rows : List Row) : Type 0 where
  -- these are the rows that are read from it, and nothing stands behind them
  pub read : rows_in (length rows) l ≡ rows
  pub clear : all is_zero (drop (row_bytes * length rows) l) ≡ true
  -- sells with rising price, then buys with falling price, no level twice; at most as many as orders
  pub ordered : in_order rows ≡ true
  pub few : length rows ≤ length os
  -- at any price levels, at one or at all of a side: the rows' counts and shares are those of the orders
  pub orders : (at : Side → ℕ → Bool) → total (λ r. r.orders) (rows_at at rows) ≡ length (orders_at at os)
  pub displayed : (at : Side → ℕ → Bool) → total (λ r. r.displayed.0) (rows_at at rows) ≡ total (λ o. (interest_of o).displayed) (orders_at at os)
  pub other : (at : Side → ℕ → Bool) → total (λ r. r.other.0) (rows_at at rows) ≡ total (λ o. (interest_of o).non_displayed) (orders_at at os)
