-- Worked values of add and reduce, computed by the checker.
use Rattle.std.specs.Prelude.{ℕ, ◌+◌, ◌*◌, ◌≡◌, refl, Bool, true, ◌&&◌, List, [], ◌∷◌, get_or, set, replicate, eqb}
use Rattle.units.specs.Lists.{all, same_numbers}
use Rattle.record.specs.Codec.{encode, decode}
use Rattle.orders.specs.Order.{with_interest, settled}
use Rattle.record.specs.Record.{numbers_of, order_of, numbers_sound, new_tells}
use Rattle.book.specs.Sound.{sound, orders_of, book_of}
use Rattle.book.specs.Refusal.{Changed}
use Rattle.entry.specs.Add.{requested, sets_price, added, add_call}
use Rattle.entry.specs.Reduce.{reduced, reduce_call}

-- security, side, kind, number, price, size, minimum, hidden shares, refresh size
enter_for : ℕ → ℕ → ℕ → ℕ → ℕ → ℕ → ℕ → ℕ → ℕ → List ℕ → Changed
enter_for security side kind n price size minimum hidden refresh s =
    add_call
    (record { side = side; kind = kind; number = n; price = price; size = size; minimum = minimum; hidden = hidden; refresh = refresh; security = security })
    s

-- the same in security 0
enter : ℕ → ℕ → ℕ → ℕ → ℕ → ℕ → ℕ → ℕ → List ℕ → Changed
enter = enter_for 0

-- a displayed order: security, side, number, price, size
add_for : ℕ → ℕ → ℕ → ℕ → ℕ → List ℕ → Changed
add_for security side n price size = enter_for security side 1 n price size 0 0 0

-- an order of kinds 1 to 3
add : ℕ → ℕ → ℕ → ℕ → ℕ → ℕ → List ℕ → Changed
add side kind n price size minimum = enter side kind n price size minimum 0 0

-- a reserve order: side, number, price, shown and hidden shares
reserve : ℕ → ℕ → ℕ → ℕ → ℕ → List ℕ → Changed
reserve side n price shown hidden = enter side 4 n price shown 0 hidden shown

refusal : Changed → ℕ → Bool
refusal c n = eqb c.refusal n

-- the setter mark of record i, counted from 0
marks : ℕ → Changed → ℕ → Bool
marks i c n = refusal c 0 && eqb (get_or c.book (40 * i + 20) 0) n

-- the shares that the first record shows and hides
holds : Changed → ℕ → ℕ → Bool
holds c shown hidden = refusal c 0 && eqb (get_or c.book 12 0) shown && eqb (get_or c.book 32 0) hidden

empty : List ℕ
empty = replicate 120 0

-- order 7, a displayed sell of 500 at 100100; order 9, a minimum quantity sell of 400 at 100000 with minimum 300
one : List ℕ
one = (add 2 1 7 100100 500 0 empty).book

two : List ℕ
two = (add 2 3 9 100000 400 300 one).book

-- order 7, a reserve sell at 100100 that shows 100 and hides 50
hides50 : List ℕ
hides50 = (reserve 2 7 100100 100 50 empty).book

-- order 7, a minimum quantity sell of 600 at 100000 with minimum 550
least550 : List ℕ
least550 = (add 2 3 7 100000 600 550 empty).book

-- a number outside its range, each by itself
beyond : List Bool
beyond =
    refusal (add 0 1 10 5 5 0 two) 1 ∷
    refusal (add 3 1 10 5 5 0 two) 1 ∷
    refusal (add 1 0 10 5 5 0 two) 1 ∷
    refusal (add 1 5 10 5 5 0 two) 1 ∷
    refusal (add 1 1 0 5 5 0 two) 1 ∷
    refusal (add 1 1 10 0 5 0 two) 1 ∷
    refusal (add 1 1 10 2000000001 5 0 two) 1 ∷
    refusal (add 1 1 10 5 0 0 two) 1 ∷
    refusal (add 1 1 10 5 1000000 0 two) 1 ∷
    refusal (add 1 1 10 5 5 1 two) 1 ∷
    refusal (add 1 3 10 5 5 6 two) 1 ∷
    refusal (add 1 3 10 5 5 0 two) 1 ∷ []

-- hidden shares and a refresh size: both 0 for kinds 1 to 3; for kind 4 hidden up to 999,999, refresh equal to shown, and no minimum
reserving : List Bool
reserving =
    refusal (enter 1 1 10 5 5 0 5 0 two) 1 ∷
    refusal (enter 1 2 10 5 5 0 0 5 two) 1 ∷
    refusal (enter 1 3 10 5 5 1 5 5 two) 1 ∷
    refusal (enter 1 4 10 5 5 0 0 0 two) 1 ∷
    refusal (enter 1 4 10 5 5 0 7 4 two) 1 ∷
    refusal (enter 1 4 10 5 5 0 7 6 two) 1 ∷
    refusal (enter 1 4 10 5 5 1 7 5 two) 1 ∷
    refusal (enter 1 4 10 5 5 0 1000000 5 two) 1 ∷
    refusal (enter 1 4 10 5 5 0 999999 5 two) 0 ∷
    refusal (enter 1 4 10 5 5 0 0 5 two) 0 ∷
    -- they stand in the record
    (holds (reserve 2 7 100100 100 50 empty) 100 50 && eqb (get_or hides50 3 0) 4 && eqb (get_or hides50 36 0) 100) ∷ []

-- add's refusals, each before the next
refusing : List Bool
refusing =
    refusal (add 3 1 0 5 5 0 (set two 119 1)) 1 ∷
    refusal (add 1 1 9 200000 5 0 (set two 119 1)) 2 ∷
    refusal (add 1 1 9 200000 5 0 two) 4 ∷
    refusal (add 1 1 10 100100 5 0 two) 5 ∷
    refusal (add 1 1 10 100000 300 0 two) 5 ∷
    refusal (add 1 1 10 100000 299 0 two) 0 ∷
    -- a reserve order within the price could trade; a new one has the shares that it shows and those that it hides
    refusal (add 1 2 10 100100 1 0 hides50) 5 ∷
    refusal (add 1 2 10 100099 1 0 hides50) 0 ∷
    refusal (reserve 1 10 100000 100 500 least550) 5 ∷
    refusal (reserve 1 10 100000 100 450 least550) 5 ∷
    refusal (reserve 1 10 100000 100 449 least550) 0 ∷
    refusal (reserve 1 10 100000 100 400 least550) 0 ∷
    refusal (add 1 1 1 5 5 0 []) 6 ∷
    same_numbers (add 1 1 9 200000 5 0 two).book two ∷ []

-- the setter mark: on an empty side; strictly better; not at an equal price, not below a lot, not hidden; hidden orders don't prevent it
marking : List Bool
marking =
    marks 0 (add 2 1 7 100100 500 0 empty) 1 ∷
    marks 2 (add 2 1 10 100000 100 0 two) 1 ∷
    marks 2 (add 2 1 10 100100 100 0 two) 0 ∷
    marks 2 (reserve 2 10 100100 100 500 two) 0 ∷
    marks 2 (add 2 1 10 100000 99 0 two) 0 ∷
    marks 2 (add 2 2 10 90000 100 0 two) 0 ∷
    marks 2 (add 1 1 10 50000 100 0 two) 1 ∷ []

-- a new reserve order is marked by what it shows, whatever it hides
showing : List Bool
showing =
    marks 2 (reserve 2 10 100000 100 0 two) 1 ∷
    marks 2 (reserve 2 10 100000 99 500 two) 0 ∷ []

-- a resting one stands in the way like a displayed order
hindering : List Bool
hindering =
    marks 1 (add 2 1 10 100200 100 0 hides50) 0 ∷
    marks 1 (add 2 1 10 100099 100 0 hides50) 1 ∷ []

-- reduce: its refusals, a minimum lowered, an order that leaves
reducing : List Bool
reducing =
    refusal (reduce_call 0 0 5 (set two 119 1)) 1 ∷
    refusal (reduce_call 0 9 1000000 two) 1 ∷
    refusal (reduce_call 0 8 1 (set two 119 1)) 2 ∷
    refusal (reduce_call 0 8 1 two) 3 ∷
    refusal (reduce_call 0 9 401 two) 7 ∷
    (eqb (get_or (reduce_call 0 9 150 two).book 52 0) 250 && eqb (get_or (reduce_call 0 9 150 two).book 56 0) 250) ∷
    same_numbers (reduce_call 0 9 400 two).book one ∷
    same_numbers (reduce_call 0 7 500 two).book (add 2 3 9 100000 400 300 empty).book ∷
    -- of a reserve order hidden shares first, then shown ones, and nothing is shown anew; the sum may go, and no more
    holds (reduce_call 0 7 30 hides50) 100 20 ∷
    holds (reduce_call 0 7 50 hides50) 100 0 ∷
    holds (reduce_call 0 7 80 hides50) 70 0 ∷
    same_numbers (reduce_call 0 7 150 hides50).book empty ∷
    refusal (reduce_call 0 7 151 hides50) 7 ∷ []

beyond_worked : all (λ b. b) beyond ≡ true
unfolding beyond two one empty refusal add enter enter_for add_call added sets_price requested sound orders_of book_of encode decode numbers_of order_of numbers_sound new_tells with_interest settled
beyond_worked = refl

reserving_worked : all (λ b. b) reserving ≡ true
unfolding reserving two one hides50 empty holds refusal reserve add enter enter_for add_call added sets_price requested sound orders_of book_of encode decode numbers_of order_of numbers_sound new_tells with_interest settled
reserving_worked = refl

refusing_worked : all (λ b. b) refusing ≡ true
unfolding refusing two one hides50 least550 empty refusal reserve add enter enter_for add_call added sets_price requested reduce_call reduced sound orders_of book_of encode decode numbers_of order_of numbers_sound new_tells with_interest settled
refusing_worked = refl

marking_worked : all (λ b. b) marking ≡ true
unfolding marking two one empty marks refusal reserve add enter enter_for add_call added sets_price requested sound orders_of book_of encode decode numbers_of order_of numbers_sound new_tells with_interest settled
marking_worked = refl

showing_worked : all (λ b. b) showing ≡ true
unfolding showing two one empty marks refusal reserve add enter enter_for add_call added sets_price requested sound orders_of book_of encode decode numbers_of order_of numbers_sound new_tells with_interest settled
showing_worked = refl

hindering_worked : all (λ b. b) hindering ≡ true
unfolding hindering hides50 empty marks refusal reserve add enter enter_for add_call added sets_price requested sound orders_of book_of encode decode numbers_of order_of numbers_sound new_tells with_interest settled
hindering_worked = refl

-- Two securities in one book: order 7 of security 0, a displayed sell of 500 at 100100, and order 9 of security 1, one of 300 at 99900
mixed : List ℕ
mixed = (add_for 1 2 9 99900 300 one).book

-- numbers rise over both, and there is no third security
together : List Bool
together =
    refusal (add_for 0 2 8 100200 100 mixed) 4 ∷
    refusal (add_for 0 2 10 100200 100 mixed) 0 ∷
    refusal (add_for 1 2 8 100200 100 one) 0 ∷
    refusal (add_for 2 2 10 100200 100 mixed) 1 ∷
    refusal (add_for 2 2 10 100200 100 (set mixed 119 1)) 1 ∷
    -- the security stands in byte 21
    eqb (get_or mixed 21 0) 0 ∷
    eqb (get_or mixed 61 0) 1 ∷ []

-- room is the book's: a third order fills it, of whichever security
filling : List Bool
filling =
    refusal (add_for 0 2 11 100200 100 (add_for 0 2 10 100200 100 mixed).book) 6 ∷
    refusal (add_for 1 2 11 100200 100 (add_for 0 2 10 100200 100 mixed).book) 6 ∷ []

-- a buy could trade with sells of its security alone
apart : List Bool
apart =
    refusal (add_for 0 1 10 100000 100 mixed) 0 ∷
    refusal (add_for 1 1 10 100000 100 mixed) 5 ∷
    refusal (add_for 0 1 10 100100 100 mixed) 5 ∷
    refusal (add_for 1 1 10 99899 100 mixed) 0 ∷ []

-- and a sell is marked where it is better than those of its security
marks_apart : List Bool
marks_apart =
    marks 1 (add_for 1 2 9 99900 300 one) 1 ∷
    marks 1 (add_for 1 2 9 100100 300 one) 1 ∷
    marks 1 (add_for 1 2 9 100200 300 one) 1 ∷
    marks 2 (add_for 0 2 10 100000 100 mixed) 1 ∷
    marks 2 (add_for 1 2 10 100000 100 mixed) 0 ∷
    marks 2 (add_for 0 2 10 100100 100 mixed) 0 ∷ []

-- a reduce reaches an order of its security alone
reduces_apart : List Bool
reduces_apart =
    refusal (reduce_call 1 7 1 mixed) 3 ∷
    refusal (reduce_call 0 9 1 mixed) 3 ∷
    refusal (reduce_call 2 9 1 mixed) 1 ∷
    refusal (reduce_call 2 9 1 (set mixed 119 1)) 1 ∷
    same_numbers (reduce_call 1 9 300 mixed).book one ∷
    eqb (get_or (reduce_call 1 9 50 mixed).book 52 0) 250 ∷
    same_numbers (reduce_call 0 7 500 mixed).book (add_for 1 2 9 99900 300 empty).book ∷ []

together_worked : all (λ b. b) together ≡ true
unfolding together mixed one empty refusal add_for add enter enter_for add_call added sets_price requested sound orders_of book_of encode decode numbers_of order_of numbers_sound new_tells with_interest settled
together_worked = refl

filling_worked : all (λ b. b) filling ≡ true
unfolding filling mixed one empty refusal add_for add enter enter_for add_call added sets_price requested sound orders_of book_of encode decode numbers_of order_of numbers_sound new_tells with_interest settled
filling_worked = refl

apart_worked : all (λ b. b) apart ≡ true
unfolding apart mixed one empty refusal add_for add enter enter_for add_call added sets_price requested sound orders_of book_of encode decode numbers_of order_of numbers_sound new_tells with_interest settled
apart_worked = refl

marks_apart_worked : all (λ b. b) marks_apart ≡ true
unfolding marks_apart mixed one empty marks refusal add_for add enter enter_for add_call added sets_price requested sound orders_of book_of encode decode numbers_of order_of numbers_sound new_tells with_interest settled
marks_apart_worked = refl

reduces_apart_worked : all (λ b. b) reduces_apart ≡ true
unfolding reduces_apart mixed one empty refusal add_for add enter enter_for add_call added sets_price requested reduce_call reduced sound orders_of book_of encode decode numbers_of order_of numbers_sound new_tells with_interest settled
reduces_apart_worked = refl

reducing_worked : all (λ b. b) reducing ≡ true
unfolding reducing two one hides50 empty holds refusal reserve add enter enter_for add_call added sets_price requested reduce_call reduced sound orders_of book_of encode decode numbers_of order_of numbers_sound new_tells with_interest settled
reducing_worked = refl
