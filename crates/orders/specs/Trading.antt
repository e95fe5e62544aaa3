-- Which orders may trade, and which of two prices is better.
use Rattle.std.specs.Prelude.{ℕ, Bool, true, false, ◌&&◌, leb, ltb, eqb}
use Rattle.orders.specs.declared.order.Side.{Side}
use Rattle.orders.specs.declared.order.Side.TheVariants.{Buy, Sell}
use Rattle.orders.specs.declared.order.Order.{Order}
use Rattle.orders.specs.declared.order.Taker.{Taker}
use Rattle.orders.specs.Order.{price_of}

-- a buy trades with sells, a sell with buys
abbrev pub is_opposite : Side → Side → Bool
is_opposite Buy Buy = false
is_opposite Buy Sell = true
is_opposite Sell Buy = true
is_opposite Sell Sell = false

-- a buy trades at or below its limit, a sell at or above
abbrev pub within_limit : Side → ℕ → ℕ → Bool
within_limit Buy limit price = leb price limit
within_limit Sell limit price = leb limit price

-- p is a better price than q for a taker of this side: lower for a buy, higher for a sell
abbrev pub is_better : Side → ℕ → ℕ → Bool
is_better Buy p q = ltb p q
is_better Sell p q = ltb q p

-- p is a strictly better price than q for resting orders of this side: higher for a buy, lower for a sell
abbrev pub is_priced_better : Side → ℕ → ℕ → Bool
is_priced_better Buy p q = ltb q p
is_priced_better Sell p q = ltb p q

-- the order is of this security
abbrev pub of_security : ℕ → Order → Bool
of_security k o = eqb o.security k

-- the resting order is of the same security, on the other side
abbrev pub is_opposite_of : Taker → Order → Bool
is_opposite_of t o = of_security t.security o && is_opposite t.side o.side

-- a resting order that the taker may trade with
abbrev pub is_tradable : Taker → Order → Bool
is_tradable t o = is_opposite_of t o && within_limit t.side t.limit.0 (price_of o)

-- an order as a taker at its own price
abbrev pub as_taker : Order → Taker
as_taker o = record { side = o.side; limit = o.price; security = o.security }
