-- Worked values of rows, of the ladder and of the calls that make and keep it, computed by the checker.
use Rattle.std.specs.Prelude.{ℕ, ◌≡◌, refl, true, false, List, [], ◌∷◌, ◌++◌, take, drop, set, replicate, eqb}
use Rattle.units.specs.Lists.{all, flat_map, same_numbers}
use Rattle.orders.specs.declared.order.Side.{Side}
use Rattle.orders.specs.declared.order.Side.TheVariants.{Buy, Sell}
use Rattle.orders.specs.declared.order.Kind.{Kind}
use Rattle.orders.specs.declared.order.Kind.TheVariants.{Displayed, NonDisplayed, MinimumQuantity, Reserve}
use Rattle.orders.specs.declared.order.Order.{Order}
use Rattle.record.specs.Codec.{encode, decode}
use Rattle.ladder.specs.declared.row.Row.{Row}
use Rattle.ladder.specs.Row as form
use Rattle.ladder.specs.Row.{row_bytes, encode_row, row_from, rows_in}
use Rattle.ladder.specs.Rows.{row_of, joined, rows_of}
use Rattle.ladder.specs.Ladder.{ladder_bytes, ladder_of}

order : Side → Kind → ℕ → ℕ → ℕ → Order
order side kind number price size = record {
  side = side;
  kind = kind;
  number = number;
  price = record { 0 = price };
  size = record { 0 = size };
  setter = false;
  security = 0;
}

-- the numbers of rows: side, 0, price, displayed and other shares, orders, 0
unfoldable pub numbers : List Row → List ℕ
numbers = flat_map form.numbers_of

-- sells rise and buys fall, whatever the order of their records
sells : List Order
sells = order Sell Displayed 1 100200 300 ∷ order Sell Displayed 2 100000 100 ∷ order Sell Displayed 5 100100 200 ∷ []

buys : List Order
buys = order Buy Displayed 3 99800 30 ∷ order Buy Displayed 4 99900 40 ∷ order Buy Displayed 6 99700 50 ∷ []

sells_worked : same_numbers (numbers (rows_of sells))
    (2 ∷ 0 ∷ 100000 ∷ 100 ∷ 0 ∷ 1 ∷ 0 ∷ 2 ∷ 0 ∷ 100100 ∷ 200 ∷ 0 ∷ 1 ∷ 0 ∷ 2 ∷ 0 ∷ 100200 ∷ 300 ∷ 0 ∷ 1 ∷ 0 ∷ []) ≡ true
unfolding numbers sells order rows_of row_of joined
sells_worked = refl

buys_worked : same_numbers (numbers (rows_of buys))
    (1 ∷ 0 ∷ 99900 ∷ 40 ∷ 0 ∷ 1 ∷ 0 ∷ 1 ∷ 0 ∷ 99800 ∷ 30 ∷ 0 ∷ 1 ∷ 0 ∷ 1 ∷ 0 ∷ 99700 ∷ 50 ∷ 0 ∷ 1 ∷ 0 ∷ []) ≡ true
unfolding numbers buys order rows_of row_of joined
buys_worked = refl

-- a buy stands behind a sell, whichever was first in the book, and apart from it at the same price
ask : Order
ask = order Sell Displayed 1 100000 20

bid : Order
bid = order Buy Displayed 2 100000 10

asks_first : List ℕ
asks_first = 2 ∷ 0 ∷ 100000 ∷ 20 ∷ 0 ∷ 1 ∷ 0 ∷ 1 ∷ 0 ∷ 100000 ∷ 10 ∷ 0 ∷ 1 ∷ 0 ∷ []

bids_worked : same_numbers (numbers (rows_of (bid ∷ ask ∷ []))) asks_first ≡ true
unfolding numbers bid ask asks_first order rows_of row_of joined
bids_worked = refl

asks_worked : same_numbers (numbers (rows_of (ask ∷ bid ∷ []))) asks_first ≡ true
unfolding numbers bid ask asks_first order rows_of row_of joined
asks_worked = refl

-- kind 1 is displayed, kinds 2 and 3 are other
kinds_worked : all (λ b. b)
    (same_numbers (form.numbers_of (row_of (order Sell Displayed 1 5 300))) (2 ∷ 0 ∷ 5 ∷ 300 ∷ 0 ∷ 1 ∷ 0 ∷ []) ∷
    same_numbers (form.numbers_of (row_of (order Sell NonDisplayed 1 5 300))) (2 ∷ 0 ∷ 5 ∷ 0 ∷ 300 ∷ 1 ∷ 0 ∷ []) ∷
    same_numbers (form.numbers_of (row_of (order Sell (MinimumQuantity (record { 0 = 50 })) 1 5 300))) (2 ∷ 0 ∷ 5 ∷ 0 ∷ 300 ∷ 1 ∷ 0 ∷ []) ∷ []) ≡ true
unfolding order row_of
kinds_worked = refl

-- an order of kind 4 is counted once, with what it shows displayed and what it hides other
reserve_worked : same_numbers (form.numbers_of (row_of (order Sell (Reserve (record { 0 = 250 }) (record { 0 = 100 })) 1 5 60)))
    (2 ∷ 0 ∷ 5 ∷ 60 ∷ 250 ∷ 1 ∷ 0 ∷ []) ≡ true
unfolding order row_of
reserve_worked = refl

-- three orders of one level in one row
level : List Order
level =
    order Sell Displayed 1 5 300 ∷ order Sell NonDisplayed 2 5 20 ∷ order Sell Displayed 3 5 7 ∷ []

level_worked : same_numbers (numbers (rows_of level)) (2 ∷ 0 ∷ 5 ∷ 307 ∷ 20 ∷ 3 ∷ 0 ∷ []) ≡ true
unfolding numbers level order rows_of row_of joined
level_worked = refl

-- and of two buys
bid_level_worked : same_numbers (numbers (rows_of (bid ∷ bid ∷ []))) (1 ∷ 0 ∷ 100000 ∷ 20 ∷ 0 ∷ 2 ∷ 0 ∷ []) ≡ true
unfolding numbers bid order rows_of row_of joined
bid_level_worked = refl

-- 256 orders, whose count has two bytes
many : Row
many = record { side = Buy; price = record { 0 = 66051 }; displayed = record { 0 = 255999744 }; other = record { 0 = 9 }; orders = 256 }

bytes_worked : all (λ b. b)
    (eqb row_bytes 24 ∷
    same_numbers (encode_row many)
    (0x4c ∷ 0x44 ∷ 1 ∷ 0 ∷ 3 ∷ 2 ∷ 1 ∷ 0 ∷ 0 ∷ 0x3f ∷ 0x42 ∷ 0x0f ∷ 9 ∷ 0 ∷ 0 ∷ 0 ∷ 0 ∷ 1 ∷ 0 ∷ 0 ∷ 0 ∷ 0 ∷ 0 ∷ 0 ∷ []) ∷
    same_numbers (numbers (rows_in 2 (encode_row many ++ encode_row many))) (numbers (many ∷ many ∷ [])) ∷
    -- and no byte behind these two is read as part of it
    same_numbers (numbers (rows_in 1 (set (encode_row many) 18 1))) (numbers (many ∷ [])) ∷ []) ≡ true
unfolding numbers many encode decode row_from
bytes_worked = refl

-- zeros behind the rows, up to 6,144 bytes
ladder_worked : all (λ b. b)
    (eqb ladder_bytes 6144 ∷
    same_numbers (take 24 (ladder_of level)) (flat_map encode_row (rows_of level)) ∷
    same_numbers (drop 24 (ladder_of level)) (replicate 6120 0) ∷ []) ≡ true
unfolding level order ladder_of encode rows_of row_of joined
ladder_worked = refl
