-- The fairness demand, demand 3 of the scope. It speaks of the orders at entry, the executions, the shares left and the orders
-- afterwards, and of nothing inside take. The shares that an order displays are a part of it, with the size that they have at entry and
-- an execution of their own; those that a reserve order hides are another.
use Rattle.std.specs.Prelude.{ℕ, ◌+◌, ◌-◌, ◌*◌, ◌/◌, ◌≤◌, ◌<◌, min, ◌≡◌, ◌&&◌, T, leb, eqb}
use mathlib.Core.List.{List, Memᴰ}
use Rattle.units.specs.Lists.{total, or_zero}
use Rattle.units.specs.Lots.{round_lot, round_down}
use Rattle.orders.specs.declared.order.Order.{Order}
use Rattle.record.specs.declared.execution.Execution.{Execution}
use Rattle.orders.specs.Order.{interest_of, is_minimum_quantity, minimum_of, price_of}
use Rattle.orders.specs.Trading.{is_opposite_of, is_tradable, is_better, within_limit}
use Rattle.record.specs.Execution.{executions_in}
use Rattle.book.specs.Sound.{orders_of}
use Rattle.matching.specs.declared.Algorithm.{Algorithm}
use Rattle.matching.specs.declared.Algorithm.TheVariants.{PriceTime, PriceSetter}
use Rattle.matching.specs.declared.Paragraph.TheVariants.{Two}
use Rattle.matching.specs.declared.incoming.Incoming.{Incoming}
use Rattle.matching.specs.Paragraph.{algorithm_of, paragraph_number}
use Rattle.matching.specs.declared.TakeRequest.{TakeRequest}
use Rattle.matching.specs.TakeCall.{incoming_of, TakeAnswer}

abbrev pub executed_shares : Execution → ℕ
executed_shares e = e.shares.0

-- what an order's displayed part of a round lot or more gets: the shares of the execution with its order's number and its paragraph,
-- the second; 0 without one
unfoldable pub gets : List Execution → Order → ℕ
gets es o = total (λ e. or_zero (eqb e.number o.number && eqb e.paragraph (paragraph_number Two)) (executed_shares e)) es

-- what reaches a price: the incoming size less the shares of all executions at better prices
unfoldable pub reaching : Incoming → List Execution → ℕ → ℕ
reaching i es price = i.size.0 - total (λ e. or_zero (is_better i.taker.side e.price.0 price) (executed_shares e)) es

-- what of an order counts at a price: the size of its displayed part, where it is an opposite order there and the part is a round lot or
-- more
unfoldable pub counted : ℕ → Incoming → ℕ → Order → ℕ
counted lot i price o =
    let n = (interest_of o).displayed in
    or_zero (is_opposite_of i.taker o && eqb (price_of o) price && leb lot n) n

-- the smaller of the size of the setter's part and two fifths of the shares divided, rounded down to a share
abbrev pub guaranteed : ℕ → ℕ → ℕ
guaranteed d size = min size (2 * d / 5)

-- n shares of a part of this size, where d shares are divided among parts of total t: at least its exact share size × d ÷ t,
-- rounded down to whole lots, at most one lot above that, and never more than its size
pub record LotBounds (lot d t size n : ℕ) : Type 0 where
  pub at_least : round_down lot (size * d / t) ≤ n
  pub at_most : n ≤ round_down lot (size * d / t) + lot
  pub within_size : n ≤ size

module _ (lot : ℕ) (alg : Algorithm) (i : Incoming) (os : List Order) (es : List Execution) where
  -- what of an order counts at its own price
  abbrev pub counted_size : Order → ℕ
  counted_size o = counted lot i (price_of o) o

  -- T, the total that counts at a price
  abbrev pub total_at : ℕ → ℕ
  total_at price = total (counted lot i price) os

  -- D, the shares divided at a price
  abbrev pub divided_at : ℕ → ℕ
  divided_at price = min (total_at price) (reaching i es price)

  -- an opposite order whose displayed part is a round lot or more, at a price within the limit that shares reach
  pub record Sharing (o : Order) : Type 0 where
    pub member : Memᴰ o os
    pub counts : 0 < counted_size o
    pub in_limit : T (within_limit i.taker.side i.taker.limit.0 (price_of o))
    pub reached : 0 < reaching i es (price_of o)

  -- such an order that has the setter mark, under the price-setter variation
  pub record Setter (s : Order) : Type 0 where
    pub variation : alg ≡ PriceSetter
    pub shares : Sharing s
    pub marked : T s.setter

  -- a setter that gets exactly what it is guaranteed
  pub record HeldToGuarantee (s : Order) : Type 0 where
    pub setter : Setter s
    pub exactly : gets es s ≡ guaranteed (divided_at (price_of s)) (counted_size s)

  -- What take must yield under pro rata, with and without the variation. The last two clauses hold under price/time too.
  pub record Fair (left : ℕ) (after : List Order) : Type 0 where
    -- the lot bounds, where the price has no setter that gets exactly what it is guaranteed
    pub lot_bounds : ¬ (alg ≡ PriceTime) → (o : Order) → Sharing o → ((s : Order) → HeldToGuarantee s → price_of s ≡ price_of o → ⊥)
        → LotBounds lot (divided_at (price_of o)) (total_at (price_of o)) (counted_size o) (gets es o)
    -- the price setter gets at least 40 percent of the shares divided, or its size
    pub setter_share : (s : Order) → Setter s → guaranteed (divided_at (price_of s)) (counted_size s) ≤ gets es s
    -- nor does it get less than its exact share, rounded down to whole lots
    pub setter_least : (s : Order) → Setter s → round_down lot (counted_size s * divided_at (price_of s) / total_at (price_of s)) ≤ gets es s
    -- beside a setter that gets exactly what it is guaranteed, the lot bounds hold for the others, with what it leaves and their own total
    pub beside_setter : (s : Order) → HeldToGuarantee s → (o : Order) → Sharing o → price_of o ≡ price_of s → ¬ (o.number ≡ s.number)
        → LotBounds lot (divided_at (price_of s) - gets es s) (total_at (price_of s) - counted_size s) (counted_size o) (gets es o)
    -- what is left over is the incoming size less the shares of all executions
    pub left_over : left + total executed_shares es ≡ i.size.0
    -- shares are left over only where each opposite order still resting within the limit has a minimum above them
    pub unmet : 0 < left → (o : Order) → Memᴰ o after → T (is_tradable i.taker o)
        → T (is_minimum_quantity o.kind) × (left < minimum_of o.kind)

-- The demand of the call on bytes, where it is accepted: of the orders in the book at entry, the executions in the buffer, the shares
-- left, and the orders in the book afterwards.
abbrev pub FairTake : TakeRequest → List ℕ → TakeAnswer → Type 0
FairTake q s a =
    a.taken.refusal ≡ 0
    → Fair round_lot (algorithm_of q.algorithm) (incoming_of q) (orders_of s)
    (executions_in a.taken.count a.executions) a.taken.left (orders_of a.book)
