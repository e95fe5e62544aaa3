-- Worked values of the forms of orders and executions, computed by the checker.
use Rattle.std.specs.Prelude.{ℕ, ◌≡◌, refl, Bool, true, not, List, [], ◌∷◌, ◌++◌, map, take, drop, set, eqb}
use Rattle.units.specs.Lists.{all, or_zero, same_numbers}
use Rattle.orders.specs.Order.{side_number, kind_number, minimum_of, hidden_of, refresh_of, price_of, size_of}
use Rattle.orders.specs.declared.order.Order.{Order}
use Rattle.record.specs.declared.execution.Execution.{Execution}
use Rattle.record.specs.Codec.{replaced, encode, decode}
use Rattle.record.specs.Record.{new_form, old_form, new_tells, old_tells, numbers_of, order_of, numbers_sound, order_bytes, encode_order, decode_order, can_tell, record_sound}
use Rattle.record.specs.Execution.{execution_bytes, encode_execution, execution_of, decode_execution, executions_in}

-- order 258, a displayed sell of 600 at 10.00 dollars that set the price
setter : List ℕ
setter =
    0x4f ∷ 0x43 ∷ 2 ∷ 1 ∷ 2 ∷ 1 ∷ 0 ∷ 0 ∷ 0xa0 ∷ 0x86 ∷ 1 ∷ 0 ∷ 0x58 ∷ 2 ∷ 0 ∷ 0 ∷ 0 ∷ 0 ∷ 0 ∷ 0 ∷ 1 ∷ 0 ∷ 0 ∷ 0 ∷ 0 ∷ 0 ∷ 0 ∷ 0 ∷ 0 ∷
    0 ∷ 0 ∷ 0 ∷ 0 ∷ 0 ∷ 0 ∷ 0 ∷ 0 ∷ 0 ∷ 0 ∷ 0 ∷ []

-- the same without the mark
unmarked : List ℕ
unmarked = set setter 20 0

-- order 1, a minimum quantity sell of 500
of_minimum : ℕ → Order
of_minimum m = order_of (2 ∷ 3 ∷ 1 ∷ 100000 ∷ 500 ∷ m ∷ 0 ∷ 0 ∷ 0 ∷ 0 ∷ 0 ∷ 0 ∷ [])

-- order 1, a marked reserve sell that shows 100: hidden shares, refresh size
of_reserve : ℕ → ℕ → Order
of_reserve h r = order_of (2 ∷ 4 ∷ 1 ∷ 100000 ∷ 100 ∷ 0 ∷ 1 ∷ 0 ∷ 0 ∷ 0 ∷ h ∷ r ∷ [])

abbrev reserve_sound : ℕ → ℕ → Bool
reserve_sound h r = record_sound new_form (encode_order new_form (of_reserve h r))

-- an order's side, kind, number, price, size, minimum, mark, hidden shares, refresh size and security
reads : Order → List ℕ → Bool
reads o =
    same_numbers
    (side_number o.side ∷ kind_number o.kind ∷ o.number ∷ price_of o ∷ size_of o ∷ minimum_of o.kind ∷ or_zero o.setter 1
    ∷ hidden_of o.kind ∷ refresh_of o.kind ∷ o.security ∷ [])

-- an execution's number, price, shares and paragraph
tells : Execution → List ℕ → Bool
tells e = same_numbers (e.number ∷ e.price.0 ∷ e.shares.0 ∷ e.paragraph ∷ [])

execution : Execution
execution = record { number = 3; price = record { 0 = 100000 }; shares = record { 0 = 500 }; paragraph = 5 }

values : List Bool
values =
    -- 40 bytes, and 32 in the old form, which has the same numbers but the last two, behind another mark
    eqb (order_bytes new_form) 40 ∷
    eqb (order_bytes old_form) 32 ∷
    same_numbers (encode_order old_form (of_minimum 400)) (set (take 32 (encode_order new_form (of_minimum 400))) 1 0x42) ∷
    record_sound new_form setter ∷
    same_numbers (encode_order new_form (decode_order new_form setter)) setter ∷
    record_sound new_form (encode_order new_form (of_minimum 400)) ∷
    -- a buy; an order of kind 2 without a mark; a minimum that is the size
    record_sound new_form (set setter 2 1) ∷
    record_sound new_form (set unmarked 3 2) ∷
    record_sound new_form (encode_order new_form (of_minimum 500)) ∷
    -- security 1, marked and not, and of a kind without a mark; no other
    record_sound new_form (set setter 21 1) ∷
    record_sound new_form (set unmarked 21 1) ∷
    record_sound new_form (set (encode_order new_form (of_minimum 400)) 21 1) ∷
    not (record_sound new_form (set setter 21 2)) ∷
    not (record_sound new_form (set unmarked 21 2)) ∷
    not (record_sound new_form (set unmarked 21 255)) ∷
    -- every byte counts: mark, side, kind, number, price, size, minimum, setter mark, and each byte behind the security
    not (record_sound new_form (set setter 1 0)) ∷
    not (record_sound new_form (set setter 0 0)) ∷
    not (record_sound new_form (set setter 2 0)) ∷
    not (record_sound new_form (set setter 2 3)) ∷
    not (record_sound new_form (set unmarked 3 0)) ∷
    not (record_sound new_form (set unmarked 3 5)) ∷
    not (record_sound new_form (set setter 1 0x42)) ∷
    not (record_sound new_form (set (set setter 4 0) 5 0)) ∷
    not (record_sound new_form (set setter 11 0x78)) ∷
    not (record_sound new_form (set setter 14 16)) ∷
    not (record_sound new_form (set setter 16 1)) ∷
    not (record_sound new_form (set setter 20 2)) ∷
    not (record_sound new_form (set setter 3 2)) ∷
    not (record_sound new_form (encode_order new_form (of_minimum 501))) ∷
    not (record_sound new_form (encode_order new_form (of_minimum 0))) ∷
    all (λ n. not (record_sound new_form (set setter n 1))) (22 ∷ 23 ∷ 24 ∷ 25 ∷ 26 ∷ 27 ∷ 28 ∷ 29 ∷ 30 ∷ 31 ∷ []) ∷
    -- hidden shares and a refresh size on no other kind
    all (λ n. not (record_sound new_form (set setter n 1))) (32 ∷ 33 ∷ 34 ∷ 35 ∷ 36 ∷ 37 ∷ 38 ∷ 39 ∷ []) ∷
    not (record_sound new_form (set (set unmarked 3 2) 32 5)) ∷
    not (record_sound new_form (set (encode_order new_form (of_minimum 400)) 36 5)) ∷
    -- what its numbers say
    reads (decode_order new_form setter) (2 ∷ 1 ∷ 258 ∷ 100000 ∷ 600 ∷ 0 ∷ 1 ∷ 0 ∷ 0 ∷ 0 ∷ []) ∷
    reads (decode_order new_form (encode_order new_form (of_minimum 400))) (2 ∷ 3 ∷ 1 ∷ 100000 ∷ 500 ∷ 400 ∷ 0 ∷ 0 ∷ 0 ∷ 0 ∷ []) ∷
    reads (decode_order new_form (encode_order new_form (of_reserve 250 300))) (2 ∷ 4 ∷ 1 ∷ 100000 ∷ 100 ∷ 0 ∷ 1 ∷ 250 ∷ 300 ∷ 0 ∷ []) ∷
    reads (decode_order new_form (set setter 21 1)) (2 ∷ 1 ∷ 258 ∷ 100000 ∷ 600 ∷ 0 ∷ 1 ∷ 0 ∷ 0 ∷ 1 ∷ []) ∷
    same_numbers (encode_order new_form (decode_order new_form (set setter 21 1))) (set setter 21 1) ∷
    -- where the hidden shares and the refresh size stand
    same_numbers (drop 32 (encode_order new_form (of_reserve 250 300))) (0xfa ∷ 0 ∷ 0 ∷ 0 ∷ 0x2c ∷ 1 ∷ 0 ∷ 0 ∷ []) ∷
    -- bytes in the place of others
    same_numbers (replaced 1 (8 ∷ 9 ∷ []) (1 ∷ 2 ∷ 3 ∷ 4 ∷ [])) (1 ∷ 8 ∷ 9 ∷ 4 ∷ []) ∷ []

worked : all (λ b. b) values ≡ true
unfolding values setter unmarked of_minimum of_reserve reads encode decode numbers_of order_of numbers_sound new_tells old_tells
worked = refl

-- an old record of the same order
abbrev old : ℕ → ℕ → List ℕ
old at byte = set (set (take 32 setter) 1 0x42) at byte

-- 32 bytes tell kinds 1 to 3 of security 0, and nothing behind the setter mark
olds : List Bool
olds =
    record_sound old_form (old 20 1) ∷
    record_sound old_form (encode_order old_form (of_minimum 400)) ∷
    record_sound old_form (set (old 20 0) 3 2) ∷
    reads (decode_order old_form (old 20 1)) (2 ∷ 1 ∷ 258 ∷ 100000 ∷ 600 ∷ 0 ∷ 1 ∷ 0 ∷ 0 ∷ 0 ∷ []) ∷
    can_tell old_form (of_minimum 400) ∷
    not (can_tell old_form (of_reserve 250 100)) ∷
    not (can_tell old_form (of_reserve 0 100)) ∷
    can_tell new_form (of_reserve 0 100) ∷
    not (can_tell old_form (decode_order new_form (set setter 21 1))) ∷
    can_tell new_form (decode_order new_form (set setter 21 1)) ∷
    not (record_sound old_form (old 3 4)) ∷
    not (record_sound old_form (old 3 0)) ∷
    not (record_sound old_form (old 1 0x43)) ∷
    not (record_sound old_form (old 14 16)) ∷
    all (λ n. not (record_sound old_form (old n 1))) (21 ∷ 22 ∷ 23 ∷ 24 ∷ 25 ∷ 26 ∷ 27 ∷ 28 ∷ 29 ∷ 30 ∷ 31 ∷ []) ∷ []

olds_worked : all (λ b. b) olds ≡ true
unfolding olds setter of_minimum of_reserve reads encode decode numbers_of order_of numbers_sound new_tells old_tells
olds_worked = refl

-- a reserve order may be marked, hide nothing, and show more or less than its refresh size
reserves : List Bool
reserves =
    reserve_sound 250 100 ∷
    reserve_sound 0 100 ∷
    reserve_sound 999999 1 ∷
    reserve_sound 7 999999 ∷
    not (reserve_sound 1000000 100) ∷
    not (reserve_sound 250 0) ∷
    not (reserve_sound 250 1000000) ∷
    not (record_sound new_form (set (encode_order new_form (of_reserve 250 100)) 16 1)) ∷ []

reserves_worked : all (λ b. b) reserves ≡ true
unfolding reserves of_reserve encode decode numbers_of order_of numbers_sound new_tells
reserves_worked = refl

executions : List Bool
executions =
    eqb execution_bytes 16 ∷
    -- byte 2 is the paragraph, and byte 3 is zero
    same_numbers (encode_execution execution) (0x45 ∷ 0x58 ∷ 5 ∷ 0 ∷ 3 ∷ 0 ∷ 0 ∷ 0 ∷ 0xa0 ∷ 0x86 ∷ 1 ∷ 0 ∷ 0xf4 ∷ 1 ∷ 0 ∷ 0 ∷ []) ∷
    -- and what they say
    tells (decode_execution (encode_execution execution)) (3 ∷ 100000 ∷ 500 ∷ 5 ∷ []) ∷
    tells (decode_execution (set (encode_execution execution) 2 6)) (3 ∷ 100000 ∷ 500 ∷ 6 ∷ []) ∷
    -- two executions, one behind the other
    same_numbers (map (λ e. e.number) (executions_in 2 (encode_execution execution ++ set (encode_execution execution) 4 7))) (3 ∷ 7 ∷ []) ∷ []

executions_worked : all (λ b. b) executions ≡ true
unfolding executions tells execution encode decode execution_of
executions_worked = refl
