-- Ladders that don't tell a book's orders: each fails a clause.
use Rattle.std.specs.Prelude.{ℕ, ◌≡◌, refl, true, false, List, [], ◌∷◌, eqb, length}
use Rattle.std.proofs.Common.{ap, arith}
use Rattle.std.proofs.lemmas.Bool.{false≢true}
use Rattle.units.specs.Lists.{all, flat_map, total}
use Rattle.orders.specs.declared.order.Side.{Side}
use Rattle.orders.specs.declared.order.Side.TheVariants.{Buy, Sell}
use Rattle.orders.specs.declared.order.Kind.TheVariants.{Displayed, NonDisplayed}
use Rattle.orders.specs.declared.order.Order.{Order}
use Rattle.orders.specs.Order.{side_number}
use Rattle.record.specs.Codec.{encode, decode}
use Rattle.ladder.specs.declared.row.Row.{Row}
use Rattle.ladder.specs.Row.{encode_row, row_from}
use Rattle.ladder.specs.Depth.{rows_at, orders_at, Tells}

-- a displayed sell of 30 at 5, and a hidden buy of 20 at 3
orders : List Order
orders =
    record { side = Sell; kind = Displayed; number = 1; price = record { 0 = 5 }; size = record { 0 = 30 }; setter = false; security = 0 } ∷
    record { side = Buy; kind = NonDisplayed; number = 2; price = record { 0 = 3 }; size = record { 0 = 20 }; setter = false; security = 0 } ∷ []

-- a row of one order
row : Side → ℕ → ℕ → ℕ → Row
row side price displayed other = record { side = side; price = record { 0 = price }; displayed = record { 0 = displayed }; other = record { 0 = other }; orders = 1 }

sell : Row
sell = row Sell 5 30 0

buy : Row
buy = row Buy 3 0 20

bytes : List Row → List ℕ
bytes = flat_map encode_row

-- the row that is read is another
misread : Tells orders (bytes (sell ∷ buy ∷ [])) (row Sell 6 30 0 ∷ buy ∷ []) → ⊥
unfolding orders bytes sell buy row encode decode row_from
misread t = let e = ap (total (λ r. r.price.0)) t.read in omega arith

-- one row and one order at price 3; two orders in all, and order 1 the only sell
levels_worked : all (λ b. b)
    (eqb (length (rows_at (λ side price. eqb price 3) (sell ∷ buy ∷ []))) 1 ∷
    eqb (length (orders_at (λ side price. eqb price 3) orders)) 1 ∷
    eqb (length (orders_at (λ side price. true) orders)) 2 ∷
    eqb (total (λ o. o.number) (orders_at (λ side price. eqb (side_number side) 2) orders)) 1 ∷ []) ≡ true
unfolding orders sell buy row
levels_worked = refl

-- a row behind the last
unclear : Tells orders (bytes (sell ∷ buy ∷ buy ∷ [])) (sell ∷ buy ∷ []) → ⊥
unfolding orders bytes sell buy row encode
unclear t = false≢true t.clear

-- buys before sells, and a level twice
disordered : Tells orders (bytes (buy ∷ sell ∷ [])) (buy ∷ sell ∷ []) → ⊥
unfolding buy sell row
disordered t = false≢true t.ordered

disordered_behind : Tells orders (bytes (sell ∷ row Buy 2 0 0 ∷ buy ∷ [])) (sell ∷ row Buy 2 0 0 ∷ buy ∷ []) → ⊥
unfolding buy sell row
disordered_behind t = false≢true t.ordered

twice : Tells orders (bytes (sell ∷ sell ∷ [])) (sell ∷ sell ∷ []) → ⊥
unfolding sell row
twice t = false≢true t.ordered

-- more rows than orders
too_many : Tells orders (bytes (sell ∷ buy ∷ row Buy 2 0 0 ∷ [])) (sell ∷ buy ∷ row Buy 2 0 0 ∷ []) → ⊥
unfolding orders
too_many t = let e = t.few in omega arith

-- an order that is not counted, at its level and on its side
uncounted : Tells orders (bytes (sell ∷ [])) (sell ∷ []) → ⊥
unfolding orders sell row
uncounted t = let e = t.orders (λ side price. eqb price 3) in omega arith

-- displayed shares that are not there, and other shares that are missing
displayed_wrong : Tells orders (bytes (sell ∷ row Buy 3 20 0 ∷ [])) (sell ∷ row Buy 3 20 0 ∷ []) → ⊥
unfolding orders sell row
displayed_wrong t = let e = t.displayed (λ side price. eqb price 3) in omega arith

other_wrong : Tells orders (bytes (sell ∷ row Buy 3 0 19 ∷ [])) (sell ∷ row Buy 3 0 19 ∷ []) → ⊥
unfolding orders sell row
other_wrong t = let e = t.other (λ side price. eqb price 3) in omega arith
