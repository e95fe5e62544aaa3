-- Worked values of the conversions, computed by the checker.
use Rattle.std.specs.Prelude.{ℕ, ◌≡◌, refl, Bool, true, List, [], ◌∷◌, ◌++◌, take, drop, set, replicate, eqb}
use Rattle.units.specs.Lists.{all, same_numbers}
use Rattle.orders.specs.declared.order.Order.{Order}
use Rattle.record.specs.Codec.{encode, decode}
use Rattle.record.specs.Record.{new_form, old_form, new_tells, old_tells, numbers_of, order_of, numbers_sound}
use Rattle.book.specs.Sound.{book_in}
use Rattle.book.specs.Refusal.{Changed}
use Rattle.conversion.specs.Conversion.{convert_call, to_new_call, to_old_call}

-- an order of 300 shares at 10.00 dollars: side, kind, number, minimum, setter mark, hidden shares, refresh size
order : ℕ → ℕ → ℕ → ℕ → ℕ → ℕ → ℕ → Order
order side kind number minimum mark hidden refresh = order_of (side ∷ kind ∷ number ∷ 100000 ∷ 300 ∷ minimum ∷ mark ∷ 0 ∷ 0 ∷ 0 ∷ hidden ∷ refresh ∷ [])

-- a marked buy, and sells of the two other kinds
three : List Order
three = order 1 1 7 0 1 0 0 ∷ order 2 2 8 0 0 0 0 ∷ order 2 3 9 200 0 0 0 ∷ []

-- a reserve sell that hides nothing
reserve : List Order
reserve = order 2 4 9 0 0 0 300 ∷ []

-- books of them with a free record, in each form; bytes that a target may hold
olds : List ℕ
olds = book_in old_form 4 three

news : List ℕ
news = book_in new_form 4 three

abbrev any : ℕ → List ℕ
any n = replicate n 0xa5

-- a conversion is accepted and leaves these bytes
gives : Changed → List ℕ → Bool
gives c s = same_numbers (c.refusal ∷ c.book) (0 ∷ s)

-- or is refused and leaves what was there
refuses : Changed → ℕ → ℕ → Bool
refuses c n bytes = same_numbers (c.refusal ∷ c.book) (n ∷ any bytes)

converted : List Bool
converted =
    -- both ways, all kinds and a mark; a target that is larger, one that just holds the orders, and empty to empty
    gives (to_new_call olds (any 160)) news ∷
    gives (to_old_call news (any 128)) olds ∷
    gives (to_new_call olds (any 200)) (book_in new_form 5 three) ∷
    gives (to_new_call olds (any 120)) (book_in new_form 3 three) ∷
    gives (to_old_call news (any 96)) (book_in old_form 3 three) ∷
    gives (to_new_call [] []) [] ∷
    gives (to_old_call [] []) [] ∷
    gives (to_old_call [] (any 64)) (replicate 64 0) ∷
    -- there and back
    gives (to_old_call (to_new_call olds (any 120)).book (any 128)) olds ∷
    gives (to_new_call (to_old_call news (any 96)).book (any 160)) news ∷
    -- the first record: the mark, bytes 2 to 31, and eight zeros
    same_numbers (take 40 (to_new_call olds (any 160)).book) ((0x4f ∷ 0x43 ∷ take 30 (drop 2 olds)) ++ replicate 8 0) ∷
    same_numbers (take 32 (to_old_call news (any 128)).book) (0x4f ∷ 0x42 ∷ take 30 (drop 2 news)) ∷ []

converted_worked : all (λ b. b) converted ≡ true
unfolding converted gives olds news three order convert_call encode decode numbers_of order_of numbers_sound new_tells old_tells
converted_worked = refl

turned_away : List Bool
turned_away =
    -- 2: the other form; a kind 4 and a 1 in byte 21 of an old book
    refuses (to_new_call news (any 160)) 2 160 ∷
    refuses (to_old_call olds (any 128)) 2 128 ∷
    refuses (to_new_call (set olds 35 4) (any 160)) 2 160 ∷
    refuses (to_new_call (set olds 21 1) (any 160)) 2 160 ∷
    -- 11: a reserve order, with hidden shares or none
    refuses (to_old_call (book_in new_form 1 reserve) (any 32)) 11 32 ∷
    refuses (to_old_call (book_in new_form 1 (order 2 4 9 0 0 250 300 ∷ [])) (any 32)) 11 32 ∷
    -- 12: a record too few; lengths that are no whole number of records; 257 of them
    refuses (to_new_call olds (any 80)) 12 80 ∷
    refuses (to_old_call news (any 64)) 12 64 ∷
    refuses (to_old_call [] (any 33)) 12 33 ∷
    refuses (to_new_call [] (any 39)) 12 39 ∷
    refuses (to_new_call [] (any 41)) 12 41 ∷
    refuses (to_new_call [] (any 32)) 12 32 ∷
    refuses (to_old_call [] (any 40)) 12 40 ∷
    -- an order of security 1, alone and behind one of security 0; no other security is sound
    refuses (to_old_call (set news 21 1) (any 128)) 11 128 ∷
    refuses (to_old_call (set news 101 1) (any 128)) 11 128 ∷
    refuses (to_old_call (set news 21 2) (any 128)) 2 128 ∷
    -- an unsound book that holds a kind 4, and a target of the wrong length: 2; a kind 4, or security 1, and such a target: 11
    refuses (to_old_call (set (book_in new_form 1 reserve) 22 1) (any 33)) 2 33 ∷
    refuses (to_old_call (set news 21 1) (any 33)) 11 33 ∷
    refuses (to_old_call (book_in new_form 1 reserve) (any 33)) 11 33 ∷
    refuses (to_new_call (set olds 21 1) (any 33)) 2 33 ∷ []

turned_away_worked : all (λ b. b) turned_away ≡ true
unfolding turned_away refuses olds news three reserve order convert_call encode decode numbers_of order_of numbers_sound new_tells old_tells
turned_away_worked = refl

-- 256 records are accepted and 257 are not
limits : List Bool
limits =
    eqb (to_new_call [] (any 10240)).refusal 0 ∷
    eqb (to_new_call [] (any 10280)).refusal 12 ∷
    eqb (to_old_call [] (any 8192)).refusal 0 ∷
    eqb (to_old_call [] (any 8224)).refusal 12 ∷
    eqb (to_new_call (any 8224) []).refusal 2 ∷ []

limits_worked : all (λ b. b) limits ≡ true
unfolding limits convert_call
limits_worked = refl
