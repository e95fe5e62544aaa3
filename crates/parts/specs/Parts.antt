-- The parts of a book's orders that an incoming order may trade with.
use Rattle.std.specs.Prelude.{ℕ, suc, ◌+◌, ◌-◌, Bool, cond, ◌&&◌, List, [], ◌∷◌, leb, ltb}
use Rattle.units.specs.Lists.{cons_if, or_zero}
use Rattle.orders.specs.declared.order.Side.{Side}
use Rattle.orders.specs.declared.order.Side.TheVariants.{Buy, Sell}
use Rattle.orders.specs.declared.order.Order.{Order}
use Rattle.orders.specs.Order.{Visibility, shown, hidden, shares_of, interest_of, is_minimum_quantity, minimum_of, price_of}
use Rattle.orders.specs.Trading.{is_tradable}
use Rattle.matching.specs.declared.Algorithm.{Algorithm}
use Rattle.matching.specs.declared.Algorithm.TheVariants.{PriceTime, ProRata, PriceSetter}
use Rattle.matching.specs.declared.incoming.Incoming.{Incoming}
use Rattle.parts.specs.Key.{key_of}

-- the rank of a price for a taker of this side: the better the price, the lower; the rank of a rank is the price
abbrev pub rank_on : Side → ℕ → ℕ
rank_on Buy price = price
rank_on Sell price = 4294967295 - price

-- the number of the paragraph in whose group so many shares of a visibility stand under pro rata, of an order with a minimum or without
abbrev pub pro_rata_paragraph : ℕ → Visibility → Bool → ℕ → ℕ
pro_rata_paragraph lot shown m n = 2 + or_zero (ltb n lot) 1
pro_rata_paragraph lot hidden m n = cond m 5 (4 + or_zero (ltb n lot) 2)

-- under price/time
abbrev pub time_paragraph : Visibility → ℕ
time_paragraph shown = 2
time_paragraph hidden = 3

-- and under each algorithm
abbrev pub paragraph_for : ℕ → Algorithm → Visibility → Bool → ℕ → ℕ
paragraph_for lot PriceTime v m n = time_paragraph v
paragraph_for lot ProRata v m n = pro_rata_paragraph lot v m n
paragraph_for lot PriceSetter v m n = pro_rata_paragraph lot v m n

-- an order's part of a visibility: all its shares of it
module _ (lot : ℕ) (alg : Algorithm) (side : Side) where
  abbrev pub part_key : Visibility → ℕ → Order → ℕ
  part_key v place o =
      let n = shares_of v (interest_of o) in
      key_of (rank_on side (price_of o)) (paragraph_for lot alg v (is_minimum_quantity o.kind) n) place n

-- the incoming order may trade with it, and its minimum isn't above all the shares that come in
abbrev pub may_meet : Incoming → Order → Bool
may_meet i o = is_tradable i.taker o && leb (minimum_of o.kind) i.size.0

-- and it has shares of the visibility
abbrev pub offers : Incoming → Visibility → Order → Bool
offers i v o = may_meet i o && ltb 0 (shares_of v (interest_of o))

-- the parts of one that it may meet, the displayed one first, in front of those of others
unfoldable pub keys_of : ℕ → Algorithm → Incoming → ℕ → Order → List ℕ → List ℕ
keys_of lot alg i place o others =
    cons_if (offers i shown o) (part_key lot alg i.taker.side shown place o)
    (cons_if (offers i hidden o) (part_key lot alg i.taker.side hidden place o) others)

-- the parts of all that it may meet, in the order of the records, the first at a place
unfoldable pub keys_from : ℕ → Algorithm → Incoming → ℕ → List Order → List ℕ
keys_from lot alg i place [] = []
keys_from lot alg i place (o ∷ os) = keys_of lot alg i place o (keys_from lot alg i (suc place) os)
