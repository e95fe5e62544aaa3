-- The price levels that an incoming order may trade at, best first.
use Rattle.std.specs.Prelude.{ℕ, cond, eqb}
use mathlib.Core.List.{List, [], ◌∷◌, foldr}
use Rattle.units.specs.Lists.{filter}
use Rattle.orders.specs.declared.order.Side.{Side}
use Rattle.orders.specs.declared.order.Order.{Order}
use Rattle.orders.specs.declared.order.Taker.{Taker}
use Rattle.orders.specs.Order.{price_of}
use Rattle.orders.specs.Trading.{is_better, is_tradable}

-- a price put in its place; a price that is there already isn't put in again
abbrev pub insert_price : Side → ℕ → List ℕ → List ℕ
insert_price side p [] = p ∷ []
insert_price side p (q ∷ qs) = cond (is_better side p q) (p ∷ q ∷ qs) (cond (eqb p q) (q ∷ qs) (q ∷ insert_price side p qs))

-- the prices of the resting orders that it may trade with: rising for a buy, falling for a sell
unfoldable pub price_levels : Taker → List Order → List ℕ
price_levels t os = foldr (λ o ps. insert_price t.side (price_of o) ps) [] (filter (is_tradable t) os)
