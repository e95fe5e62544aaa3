-- Worked values of the calls that make and keep a ladder, computed by the checker.
use Rattle.std.specs.Prelude.{ℕ, ◌≡◌, refl, Bool, true, false, ◌&&◌, List, [], ◌∷◌, get_or, drop, set, replicate, eqb}
use Rattle.units.specs.Lists.{all, same_numbers}
use Rattle.orders.specs.declared.order.Side.TheVariants.{Sell}
use Rattle.orders.specs.declared.order.Kind.TheVariants.{Displayed}
use Rattle.orders.specs.declared.order.Order.{Order}
use Rattle.orders.specs.Order.{with_interest, settled}
use Rattle.record.specs.Codec.{encode, decode}
use Rattle.record.specs.Record.{numbers_of, order_of, numbers_sound, new_tells}
use Rattle.book.specs.Sound.{sound, orders_of, book_of}
use Rattle.sharing.specs.Round.{round, goes_round}
use Rattle.sharing.specs.Lots.{lot_sharing}
use Rattle.sharing.specs.Setter.{setter_sharing, beside_setter}
use Rattle.matching.specs.Levels.{price_levels}
use Rattle.matching.specs.Paragraph.{part_of}
use Rattle.matching.specs.Take.{outcome, losses_of, executions_of, allocations, allocations_over, allocations_at, allocation_at}
use Rattle.matching.specs.TakeCall.{outcome_of, written, take_call}
use Rattle.entry.specs.Add.{requested, sets_price, added, add_call}
use Rattle.entry.specs.Reduce.{reduced, reduce_call}
use Rattle.ladder.specs.Rows.{row_of, joined, rows_of}
use Rattle.ladder.specs.Ladder.{ladder_of, made_of, ladder_call, Kept, TakeKept, add_ladder_call, reduce_ladder_call, take_ladder_call}
use Rattle.ladder.specs.Seen.{seen_of}

-- security, side, kind, number, price, size
add_for : ℕ → ℕ → ℕ → ℕ → ℕ → ℕ → List ℕ → List ℕ → Kept
add_for security side kind n price size s l =
    add_ladder_call (record { side = side; kind = kind; number = n; price = price; size = size; minimum = 0; hidden = 0; refresh = 0; security = security }) s l

-- in security 0
add : ℕ → ℕ → ℕ → ℕ → ℕ → List ℕ → List ℕ → Kept
add = add_for 0

empty : Kept
empty = record { refusal = 0; book = replicate 120 0; ladder = replicate 6144 0 }

-- order 7, a displayed sell of 500 at 100100, and order 9, a hidden one of 400 at 100000
one : Kept
one = add 2 1 7 100100 500 empty.book empty.ladder

two : Kept
two = add 2 2 9 100000 400 one.book one.ladder

-- and order 10, a displayed sell of 100 at 100000, with which the book is full
three : Kept
three = add 2 1 10 100000 100 two.book two.ladder

-- the ladder is kept along
kept_worked : all (λ b. b)
    (eqb two.refusal 0 ∷
    same_numbers two.ladder (made_of 0 two.book) ∷
    eqb (get_or two.ladder 4 0) 0xa0 ∷
    eqb (get_or two.ladder 28 0) 0x04 ∷ []) ≡ true
unfolding two one empty add add_for add_ladder_call add_call added sets_price requested sound orders_of book_of ladder_of rows_of row_of joined encode decode numbers_of order_of numbers_sound new_tells
kept_worked = refl

refusal : Kept → ℕ → Bool
refusal k n = eqb k.refusal n

-- refused, and nothing changed
leaves : Kept → ℕ → List ℕ → List ℕ → Bool
leaves k n s l = refusal k n && same_numbers k.book s && same_numbers k.ladder l

-- a ladder of 255 rows, of 257, and one with a wrong last byte
short : List ℕ
short = replicate 6120 0

long : List ℕ
long = replicate 6168 0

wrong : List ℕ
wrong = set two.ladder 6143 1

-- a byte behind the orders is not zero
unsound : List ℕ
unsound = set two.book 119 1

-- the new call: 2 before 9, and never 10
new_worked : all (λ b. b)
    (eqb (ladder_call 0 unsound short).refusal 2 ∷
    eqb (ladder_call 0 two.book []).refusal 9 ∷
    eqb (ladder_call 0 two.book short).refusal 9 ∷
    eqb (ladder_call 0 two.book long).refusal 9 ∷
    same_numbers (ladder_call 0 two.book long).ladder long ∷
    eqb (ladder_call 0 two.book wrong).refusal 0 ∷
    same_numbers (ladder_call 0 two.book (replicate 6144 255)).ladder two.ladder ∷ []) ≡ true
unfolding unsound wrong short long ladder_call two one empty add add_for add_ladder_call add_call added sets_price requested sound orders_of book_of ladder_of rows_of row_of joined encode decode numbers_of order_of numbers_sound new_tells
new_worked = refl

-- a form: 1, then 2, then 9, then 10, then what the plain call is refused
order_worked : all (λ b. b)
    (refusal (add 3 1 9 5 5 unsound short) 1 ∷
    refusal (add 1 1 9 5 5 unsound short) 2 ∷
    refusal (add 1 1 9 5 5 two.book short) 9 ∷
    refusal (add 1 1 9 5 5 two.book long) 9 ∷
    refusal (add 1 1 9 5 5 two.book one.ladder) 10 ∷
    leaves (add 1 1 9 5 5 two.book two.ladder) 4 two.book two.ladder ∷
    refusal (reduce_ladder_call 0 8 5 two.book one.ladder) 10 ∷
    refusal (reduce_ladder_call 0 8 5 two.book two.ladder) 3 ∷ []) ≡ true
unfolding refusal leaves unsound short long reduce_ladder_call reduce_call reduced with_interest settled two one empty add add_for add_ladder_call add_call added sets_price requested sound orders_of book_of ladder_of rows_of row_of joined encode decode numbers_of order_of numbers_sound new_tells
order_worked = refl

-- so with 5, 6 and 7: behind 9 and 10
behind_worked : all (λ b. b)
    (refusal (add 1 1 11 100000 5 two.book short) 9 ∷
    refusal (add 1 1 11 100000 5 two.book one.ladder) 10 ∷
    refusal (add 1 1 11 100000 5 two.book two.ladder) 5 ∷
    refusal (add 1 1 11 5 5 three.book short) 9 ∷
    refusal (add 1 1 11 5 5 three.book two.ladder) 10 ∷
    refusal (add 1 1 11 5 5 three.book three.ladder) 6 ∷
    refusal (reduce_ladder_call 0 9 401 two.book short) 9 ∷
    refusal (reduce_ladder_call 0 9 401 two.book one.ladder) 10 ∷
    refusal (reduce_ladder_call 0 9 401 two.book two.ladder) 7 ∷ []) ≡ true
unfolding refusal short reduce_ladder_call reduce_call reduced with_interest settled three two one empty add add_for add_ladder_call add_call added sets_price requested sound orders_of book_of ladder_of rows_of row_of joined encode decode numbers_of order_of numbers_sound new_tells
behind_worked = refl

-- the ladder is compared to its last byte
tail_worked : leaves (add 1 1 10 5 5 two.book wrong) 10 two.book wrong ≡ true
unfolding refusal leaves wrong two one empty add add_for add_ladder_call add_call added sets_price requested sound orders_of book_of ladder_of rows_of row_of joined encode decode numbers_of order_of numbers_sound new_tells
tail_worked = refl

-- a level's only order leaves, and its row with it; then the ladder is that of the one order before
left_worked : let k = reduce_ladder_call 0 9 400 two.book two.ladder in
    (refusal k 0 && same_numbers k.book one.book && same_numbers k.ladder one.ladder) ≡ true
unfolding refusal reduce_ladder_call reduce_call reduced with_interest settled two one empty add add_for add_ladder_call add_call added sets_price requested sound orders_of book_of ladder_of rows_of row_of joined encode decode numbers_of order_of numbers_sound new_tells
left_worked = refl

-- a buy up to a limit under pro rata, with an execution buffer
take : ℕ → ℕ → List ℕ → TakeKept
take limit size x = take_ladder_call (record { side = 1; limit = limit; size = size; algorithm = 2; security = 0 }) two.book x two.ladder

-- one level emptied and the next thinned, of two kinds; and nothing within the limit
taken_worked : let k = take 100100 600 (replicate 32 0) in
    (eqb k.taken.refusal 0
    && eqb k.taken.count 2
    && eqb (get_or k.executions 16 0) 0x45
    && same_numbers k.ladder (made_of 0 k.book)
    && eqb (get_or k.ladder 4 0) 0x04
    && eqb (get_or k.ladder 8 0) 44
    && same_numbers (drop 24 k.ladder) (replicate 6120 0)
    && same_numbers (take 99999 600 []).ladder two.ladder
    && eqb (take 99999 600 []).taken.left 600) ≡ true
unfolding take take_ladder_call take_call written outcome_of outcome losses_of executions_of allocations allocations_over allocations_at allocation_at part_of price_levels setter_sharing beside_setter lot_sharing round goes_round with_interest settled two one empty add add_for add_ladder_call add_call added sets_price requested sound orders_of book_of ladder_of rows_of row_of joined encode decode numbers_of order_of numbers_sound new_tells
taken_worked = refl

-- without room for its executions it leaves the ladder
no_room_worked : let k = take 100100 600 (replicate 31 0) in
    (eqb k.taken.refusal 8 && eqb k.taken.count 0 && same_numbers k.ladder two.ladder && same_numbers k.executions (replicate 31 0)) ≡ true
unfolding take take_ladder_call take_call written outcome_of outcome losses_of executions_of allocations allocations_over allocations_at allocation_at part_of price_levels setter_sharing beside_setter lot_sharing round goes_round with_interest settled two one empty add add_for add_ladder_call add_call added sets_price requested sound orders_of book_of ladder_of rows_of row_of joined encode decode numbers_of order_of numbers_sound new_tells
no_room_worked = refl

-- refused for the ladder it takes nothing, where the plain take has two executions and leaves 100 shares
untaken : ℕ → List ℕ → List ℕ → Bool
untaken n x l =
    let k = take_ladder_call (record { side = 1; limit = 100100; size = 1000; algorithm = 2; security = 0 }) two.book x l in
    eqb k.taken.refusal n
    && eqb k.taken.count 0
    && eqb k.taken.left 0
    && same_numbers k.book two.book
    && same_numbers k.executions x
    && same_numbers k.ladder l

other_ladder_worked : all (λ b. b)
    (untaken 9 (replicate 32 0) short ∷
    untaken 10 (replicate 32 0) one.ladder ∷
    -- also where there is no room for the executions
    untaken 9 (replicate 31 0) short ∷
    untaken 10 (replicate 31 0) one.ladder ∷
    untaken 8 (replicate 31 0) two.ladder ∷ []) ≡ true
unfolding untaken short take_ladder_call take_call written outcome_of outcome losses_of executions_of allocations allocations_over allocations_at allocation_at part_of price_levels setter_sharing beside_setter lot_sharing round goes_round with_interest settled two one empty add add_for add_ladder_call add_call added sets_price requested sound orders_of book_of ladder_of rows_of row_of joined encode decode numbers_of order_of numbers_sound new_tells
other_ladder_worked = refl

-- what a form sees first: refusals 2, 9 and 10, and else the numbers of records in use and of the security's rows
seen : List ℕ → List ℕ → List ℕ → Bool
seen s l ns = let k = seen_of 0 s l in same_numbers (k.refusal ∷ k.records ∷ k.rows ∷ []) ns

seen_worked : all (λ b. b)
    (seen unsound short (2 ∷ 0 ∷ 0 ∷ []) ∷
    seen two.book short (9 ∷ 0 ∷ 0 ∷ []) ∷
    seen two.book one.ladder (10 ∷ 0 ∷ 0 ∷ []) ∷
    seen three.book three.ladder (0 ∷ 3 ∷ 2 ∷ []) ∷ []) ≡ true
unfolding seen seen_of three unsound short two one empty add add_for add_ladder_call add_call added sets_price requested sound orders_of book_of ladder_of rows_of row_of joined encode decode numbers_of order_of numbers_sound new_tells
seen_worked = refl

-- Two securities: a third order of security 1 at the price of the first. Each has its ladder.
mixed : Kept
mixed = add_for 1 2 1 10 100100 300 two.book (replicate 6144 0)

mixed_worked : all (λ b. b)
    (refusal mixed 0 ∷
    same_numbers mixed.ladder (made_of 1 mixed.book) ∷
    same_numbers (made_of 0 mixed.book) two.ladder ∷
    eqb (get_or mixed.ladder 16 0) 1 ∷
    eqb (get_or mixed.ladder 4 0) 0x04 ∷
    same_numbers (drop 24 mixed.ladder) (replicate 6120 0) ∷
    -- each is kept by calls for its own security, and is no ladder of the other's
    refusal (add_for 0 2 1 11 100200 5 mixed.book mixed.ladder) 10 ∷
    refusal (add_for 0 2 1 11 100200 5 mixed.book two.ladder) 6 ∷
    refusal (reduce_ladder_call 1 10 300 mixed.book two.ladder) 10 ∷
    refusal (reduce_ladder_call 1 9 300 mixed.book mixed.ladder) 3 ∷
    same_numbers (reduce_ladder_call 1 10 300 mixed.book mixed.ladder).ladder (replicate 6144 0) ∷
    same_numbers (reduce_ladder_call 0 9 400 mixed.book two.ladder).ladder one.ladder ∷ []) ≡ true
unfolding mixed refusal reduce_ladder_call reduce_call reduced with_interest settled two one empty add add_for add_ladder_call add_call added sets_price requested sound orders_of book_of ladder_of rows_of row_of joined encode decode numbers_of order_of numbers_sound new_tells
mixed_worked = refl

-- a sell of each security at one price
sell : ℕ → ℕ → Order
sell security number = record {
  side = Sell;
  kind = Displayed;
  number = number;
  price = record { 0 = 5 };
  size = record { 0 = 30 };
  setter = false;
  security = security;
}

made_worked : same_numbers (made_of 1 (book_of 2 (sell 0 1 ∷ sell 1 2 ∷ []))) (ladder_of (sell 1 2 ∷ [])) ≡ true
unfolding sell orders_of book_of ladder_of rows_of row_of joined encode decode numbers_of order_of
made_worked = refl

-- the new call makes either, and there is no third security
either_worked : all (λ b. b)
    (same_numbers (ladder_call 1 mixed.book (replicate 6144 255)).ladder mixed.ladder ∷
    same_numbers (ladder_call 0 mixed.book (replicate 6144 255)).ladder two.ladder ∷
    eqb (ladder_call 2 unsound short).refusal 1 ∷
    same_numbers (ladder_call 2 unsound short).ladder short ∷
    refusal (add_for 2 2 1 11 100200 5 unsound short) 1 ∷
    refusal (reduce_ladder_call 2 9 5 unsound short) 1 ∷ []) ≡ true
unfolding mixed unsound short ladder_call refusal reduce_ladder_call reduce_call reduced with_interest settled two one empty add add_for add_ladder_call add_call added sets_price requested sound orders_of book_of ladder_of rows_of row_of joined encode decode numbers_of order_of numbers_sound new_tells
either_worked = refl

-- a form sees all records in use, and the rows of its security
mixed_seen_worked : (let k = seen_of 1 mixed.book mixed.ladder in same_numbers (k.refusal ∷ k.records ∷ k.rows ∷ []) (0 ∷ 3 ∷ 1 ∷ [])) ≡ true
unfolding seen_of mixed two one empty add add_for add_ladder_call add_call added sets_price requested sound orders_of book_of ladder_of rows_of row_of joined encode decode numbers_of order_of numbers_sound new_tells
mixed_seen_worked = refl
