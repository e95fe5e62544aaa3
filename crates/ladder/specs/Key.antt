-- An order's place in the ladder as one number, for the functions that put orders in order. No call's meaning rests on it.
use Rattle.std.specs.Prelude.{ℕ, suc, ◌+◌, ◌-◌, ◌*◌, ◌/◌, ◌%◌, List, [], ◌∷◌}
use Rattle.units.specs.Lists.{cons_if}
use Rattle.orders.specs.declared.order.Side.{Side}
use Rattle.orders.specs.declared.order.Side.TheVariants.{Buy, Sell}
use Rattle.orders.specs.declared.order.Order.{Order}
use Rattle.orders.specs.Order.{price_of}
use Rattle.orders.specs.Trading.{of_security}

-- sells by their price, buys behind them, the higher the price the lower: no price is above 2,000,000,000
abbrev pub rank_of : Side → ℕ → ℕ
rank_of Sell price = price
rank_of Buy price = 4294967295 - price

-- the rank of its level, and the place of its record, below 256
abbrev pub key_of : ℕ → Order → ℕ
key_of place o = 256 * rank_of o.side (price_of o) + place

abbrev pub rank_in : ℕ → ℕ
rank_in key = key / 256

abbrev pub place_in : ℕ → ℕ
place_in key = key % 256

-- the keys of a security's orders, the first order of all at a place
unfoldable pub keys_from : ℕ → ℕ → List Order → List ℕ
keys_from k place [] = []
keys_from k place (o ∷ os) = cons_if (of_security k o) (key_of place o) (keys_from k (suc place) os)
