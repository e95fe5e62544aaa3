-- Worked values of the keys by which orders are put in order, and of rows made along them, computed by the checker; and memory that doesn't do.
use Rattle.std.specs.Prelude.{ℕ, ◌≡◌, refl, true, false, List, [], ◌∷◌, replicate, eqb}
use Rattle.std.proofs.lemmas.Bool.{false≢true}
use Rattle.std.proofs.Common.{arith}
use Rattle.units.specs.Lists.{all, same_numbers}
use Rattle.orders.specs.declared.order.Side.{Side}
use Rattle.orders.specs.declared.order.Side.TheVariants.{Buy, Sell}
use Rattle.orders.specs.declared.order.Kind.TheVariants.{Displayed}
use Rattle.orders.specs.declared.order.Order.{Order}
use Rattle.record.specs.Codec.{encode, decode}
use Rattle.record.specs.Record.{numbers_of, order_of}
use Rattle.book.specs.Sound.{sound, orders_of, book_of}
use Rattle.ladder.specs.Rows.{row_of, joined}
use Rattle.ladder.specs.Key.{rank_of, key_of, rank_in, place_in, keys_from}
use Rattle.ladder.specs.Along.{along, along_keys, Keyed, Lent}
use Rattle.ladder.specs.Examples.{numbers}

-- a displayed order of a security
order_for : ℕ → Side → ℕ → ℕ → ℕ → Order
order_for security side number price size =
    record { side = side; kind = Displayed; number = number; price = record { 0 = price }; size = record { 0 = size }; setter = false; security = security }

-- and of security 0
order : Side → ℕ → ℕ → ℕ → Order
order = order_for 0

-- the ranks of sells rise with the price, those of buys fall, from above all sells on; the place stands in the lowest byte
keys_worked : all (λ b. b)
    (eqb (rank_of Sell 2000000000) 2000000000 ∷
    eqb (rank_of Buy 2000000000) 2294967295 ∷
    eqb (rank_of Buy 5) 4294967290 ∷
    eqb (key_of 200 (order Sell 1 5 30)) 1480 ∷
    eqb (rank_in 1480) 5 ∷
    eqb (place_in 1480) 200 ∷
    same_numbers (keys_from 0 7 (order Sell 1 5 30 ∷ order Sell 2 6 30 ∷ [])) (1287 ∷ 1544 ∷ []) ∷
    -- of one security, each with its place among the orders of both
    same_numbers (keys_from 0 7 (order_for 1 Sell 1 5 30 ∷ order Sell 2 6 30 ∷ [])) (1544 ∷ []) ∷
    same_numbers (keys_from 1 7 (order_for 1 Sell 1 5 30 ∷ order Sell 2 6 30 ∷ [])) (1287 ∷ []) ∷ []) ≡ true
unfolding order order_for keys_from
keys_worked = refl

-- two orders of one level and one of the next
along_worked : all (λ b. b)
    (same_numbers (numbers (along (row_of (order Sell 1 5 30) ∷ row_of (order Sell 2 5 20) ∷ row_of (order Sell 3 6 10) ∷ [])))
    (2 ∷ 0 ∷ 5 ∷ 50 ∷ 0 ∷ 2 ∷ 0 ∷ 2 ∷ 0 ∷ 6 ∷ 10 ∷ 0 ∷ 1 ∷ 0 ∷ []) ∷
    same_numbers (numbers (along [])) [] ∷ []) ≡ true
unfolding order order_for numbers row_of joined
along_worked = refl

-- a book of two sells, the second at the better price
book : List ℕ
book = book_of 2 (order Sell 1 6 30 ∷ order Sell 2 5 20 ∷ [])

-- the rows along the keys of both
along_keys_worked : same_numbers (numbers (along_keys book (1281 ∷ 1536 ∷ []))) (2 ∷ 0 ∷ 5 ∷ 20 ∷ 0 ∷ 1 ∷ 0 ∷ 2 ∷ 0 ∷ 6 ∷ 30 ∷ 0 ∷ 1 ∷ 0 ∷ []) ≡ true
unfolding book order order_for numbers orders_of book_of encode decode numbers_of order_of row_of joined
along_keys_worked = refl

-- the key of a third order, more keys than a book may have orders, and a book that isn't sound
not_placed : Keyed book (1282 ∷ []) → ⊥
unfolding book order order_for orders_of book_of encode decode numbers_of order_of
not_placed k = let e = k.places.0 in omega arith

too_many : Keyed book (replicate 257 1281) → ⊥
too_many k = let e = k.few in omega arith

not_sound : Keyed (0 ∷ []) [] → ⊥
unfolding sound orders_of
not_sound k = false≢true k.is_sound

-- an order too few, a key too few, memory for one less, a row too few, and a book that isn't sound
not_counted : Lent book 1 (0 ∷ []) (0 ∷ []) (replicate 6144 0) → ⊥
unfolding book order order_for orders_of book_of encode decode numbers_of order_of
not_counted l = let e = l.counted in omega arith

not_for_each : Lent book 2 (0 ∷ []) (0 ∷ 0 ∷ []) (replicate 6144 0) → ⊥
not_for_each l = let e = l.for_each in omega arith

not_as_much : Lent book 2 (0 ∷ 0 ∷ []) (0 ∷ []) (replicate 6144 0) → ⊥
not_as_much l = let e = l.as_much in omega arith

not_long : Lent book 2 (0 ∷ 0 ∷ []) (0 ∷ 0 ∷ []) (replicate 6120 0) → ⊥
not_long l = let e = l.long in omega arith

not_sound_lent : Lent (0 ∷ []) 0 [] [] (replicate 6144 0) → ⊥
unfolding sound orders_of
not_sound_lent l = false≢true l.is_sound
