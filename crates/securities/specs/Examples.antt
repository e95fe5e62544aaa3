-- Worked values of what calls for a security give on two books, computed by the checker; of what they don't keep apart; and of the calls
-- as they were before there were two.
use Rattle.std.specs.Prelude.{ℕ, ◌+◌, ◌*◌, ◌≡◌, refl, Bool, true, false, not, ◌&&◌, List, [], ◌∷◌, get_or, take, replicate, eqb}
use Rattle.units.specs.Lists.{all, flat_map, same_numbers}
use Rattle.sharing.specs.Round.{round, goes_round}
use Rattle.sharing.specs.Lots.{lot_sharing}
use Rattle.sharing.specs.Setter.{setter_sharing, beside_setter}
use Rattle.orders.specs.declared.order.Side.{Side}
use Rattle.orders.specs.declared.order.Side.TheVariants.{Buy, Sell}
use Rattle.orders.specs.declared.order.Kind.TheVariants.{Displayed}
use Rattle.orders.specs.declared.order.Order.{Order}
use Rattle.orders.specs.Order.{with_interest, settled}
use Rattle.record.specs.Codec.{encode, decode}
use Rattle.record.specs.Record.{numbers_of, order_of, numbers_sound, new_tells}
use Rattle.book.specs.Sound.{sound, orders_of, book_of}
use Rattle.book.specs.Lookup.{check_call, find_call}
use Rattle.book.specs.Securities.{records_for, Result}
use Rattle.entry.specs.declared.admission.AddRequest.{AddRequest}
use Rattle.entry.specs.Add.{requested, sets_price, added, add_call}
use Rattle.entry.specs.Reduce.{reduced, reduce_call}
use Rattle.matching.specs.declared.TakeRequest.{TakeRequest}
use Rattle.matching.specs.Levels.{price_levels}
use Rattle.matching.specs.Paragraph.{part_of}
use Rattle.matching.specs.Take.{outcome, losses_of, executions_of, allocations, allocations_over, allocations_at, allocation_at}
use Rattle.matching.specs.TakeCall.{outcome_of, written, take_call}
use Rattle.matching.specs.WayBy.{row_by, rows_by, levels_by}
use Rattle.ladder.specs.Rows.{row_of, joined, rows_of}
use Rattle.ladder.specs.Ladder.{ladder_of, ladder_call, add_ladder_call, reduce_ladder_call, take_ladder_call}
use Rattle.securities.specs.Calls.{check_on, find_on, add_on, reduce_on, take_on, ladder_on, add_ladder_on, reduce_ladder_on, take_ladder_on}
use Rattle.securities.specs.BookBefore.{sound_before, tells_before, encode_before, book_before, check_before, find_before}
use Rattle.securities.specs.EntryBefore.{add_before, added_before, sets_price_before, reduce_before, reduced_before}
use Rattle.securities.specs.LadderBefore.{ladder_before, reduce_ladder_before}
use Rattle.securities.specs.TakeBefore.{take_before, outcome_before, price_levels_before, part_before}

-- a displayed order of 300: security, side, number, price
order : ℕ → Side → ℕ → ℕ → Order
order security side number price = record {
  side = side;
  kind = Displayed;
  number = number;
  price = record { 0 = price };
  size = record { 0 = 300 };
  setter = false;
  security = security;
}

-- sell 2 of security 1 alone, in a book of two records; and between two sells of security 0 at one price with it, in a book of four
alone : List ℕ
alone = book_of 2 (order 1 Sell 2 5 ∷ [])

between : List ℕ
between = book_of 4 (order 0 Sell 1 5 ∷ order 1 Sell 2 5 ∷ order 0 Sell 3 5 ∷ [])

-- the bytes of the records of security 1
bytes_for : List ℕ → List ℕ
bytes_for s = flat_map (λ r. r) (records_for 1 s)

-- a displayed order of 300 is asked for: security, side, number, price
asked : ℕ → ℕ → ℕ → ℕ → AddRequest
asked security side number price =
    record { side = side; kind = 1; number = number; price = price; size = 300; minimum = 0; hidden = 0; refresh = 0; security = security }

-- 100 shares are bought up to 5 of security 1 under pro rata
buy : TakeRequest
buy = record { side = 1; limit = 5; size = 100; algorithm = 2; security = 1 }

-- both give so many, and leave the same records of security 1
alike : {A : Type 0} → (List ℕ → Result A) → (A → List ℕ) → ℕ → List ℕ → Bool
alike call numbers r ns =
    eqb (call alone).refusal r && eqb (call between).refusal r
    && same_numbers (numbers (call alone).others) ns && same_numbers (numbers (call between).others) ns
    && same_numbers (bytes_for (call alone).book) (bytes_for (call between).book)

-- the ladder of security 1, and an execution buffer of two records
own : List ℕ
own = ladder_of (order 1 Sell 2 5 ∷ [])

room : List ℕ
room = replicate 32 7

looked : List Bool
looked =
    same_numbers (bytes_for alone) (bytes_for between) ∷
    alike (check_on 1) (λ n. n ∷ []) 0 (1 ∷ []) ∷
    alike (find_on 1 2) (λ l. l) 0 (take 40 alone) ∷
    alike (find_on 1 3) (λ l. l) 3 [] ∷ []

looked_worked : all (λ b. b) looked ≡ true
unfolding looked alike bytes_for alone between order check_call find_call sound orders_of book_of encode decode numbers_of order_of numbers_sound new_tells
looked_worked = refl

entered : List Bool
entered =
    alike (add_on (asked 1 2 4 6)) (λ u. []) 0 [] ∷
    alike (add_on (asked 1 1 4 5)) (λ u. []) 5 [] ∷
    alike (reduce_on 1 2 100) (λ u. []) 0 [] ∷
    alike (reduce_on 1 1 100) (λ u. []) 3 [] ∷
    not (same_numbers (add_on (asked 1 2 4 6) alone).book alone) ∷
    not (same_numbers (reduce_on 1 2 100 alone).book alone) ∷ []

entered_worked : all (λ b. b) entered ≡ true
unfolding entered alike bytes_for alone between order asked add_call added sets_price requested reduce_call reduced with_interest settled sound orders_of book_of encode decode numbers_of order_of numbers_sound new_tells
entered_worked = refl

-- what a take gives: an execution of 100, none left, and the buffer
taken : List Bool
taken =
    alike (take_on buy room) (λ a. a.0.refusal ∷ a.0.count ∷ a.0.left ∷ take 16 a.1) 0
    (0 ∷ 1 ∷ 0 ∷ 0x45 ∷ 0x58 ∷ 2 ∷ 0 ∷ 2 ∷ 0 ∷ 0 ∷ 0 ∷ 5 ∷ 0 ∷ 0 ∷ 0 ∷ 100 ∷ 0 ∷ 0 ∷ 0 ∷ []) ∷
    not (same_numbers (take_on buy room alone).book alone) ∷ []

taken_worked : all (λ b. b) taken ≡ true
unfolding taken alike bytes_for alone between order buy room take_call written outcome_of outcome losses_of executions_of allocations allocations_over allocations_at allocation_at part_of price_levels setter_sharing beside_setter lot_sharing round goes_round with_interest settled sound orders_of book_of encode decode numbers_of order_of numbers_sound new_tells
taken_worked = refl

-- and with a ladder: the first row behind, or the buffer as it was
kept : List Bool
kept =
    alike (ladder_on 1 (replicate 6144 7)) (take 24) 0 (take 24 own) ∷
    alike (add_ladder_on (asked 1 2 4 6) own) (λ l. get_or l 28 0 ∷ []) 0 (6 ∷ []) ∷
    alike (reduce_ladder_on 1 2 100 own) (λ l. get_or l 8 0 ∷ []) 0 (200 ∷ []) ∷
    alike (reduce_ladder_on 1 2 100 (replicate 6144 0)) (λ l. get_or l 8 0 ∷ []) 10 (0 ∷ []) ∷ []

kept_worked : all (λ b. b) kept ≡ true
unfolding kept alike bytes_for alone between own order asked ladder_call add_ladder_call reduce_ladder_call add_call added sets_price requested reduce_call reduced with_interest settled ladder_of rows_of row_of joined sound orders_of book_of encode decode numbers_of order_of numbers_sound new_tells
kept_worked = refl

taken_kept_worked : alike (take_ladder_on buy room own) (λ a. a.0.count ∷ a.0.left ∷ get_or a.1.0 12 0 ∷ get_or a.1.1 8 0 ∷ []) 0 (1 ∷ 0 ∷ 100 ∷ 200 ∷ []) ≡ true
unfolding alike bytes_for alone between own order buy room take_ladder_call take_call written outcome_of outcome losses_of executions_of allocations allocations_over allocations_at allocation_at part_of price_levels setter_sharing beside_setter lot_sharing round goes_round with_interest settled ladder_of rows_of row_of joined sound orders_of book_of encode decode numbers_of order_of numbers_sound new_tells
taken_kept_worked = refl

-- What two securities don't keep apart: numbers, room, and the place of a part.
shared : List Bool
shared =
    eqb (add_on (asked 1 2 3 6) alone).refusal 0 ∷
    eqb (add_on (asked 1 2 3 6) between).refusal 4 ∷
    eqb (add_on (asked 1 2 4 6) (book_of 3 (order 0 Sell 1 5 ∷ order 1 Sell 2 5 ∷ order 0 Sell 3 5 ∷ []))).refusal 6 ∷
    eqb (find_call 1 2 alone).start 0 ∷
    eqb (find_call 1 2 between).start 40 ∷ []

shared_worked : all (λ b. b) shared ≡ true
unfolding shared alone between order asked add_call added sets_price requested find_call sound orders_of book_of encode decode numbers_of order_of numbers_sound new_tells
shared_worked = refl

-- Before, a record of security 1 was unsound, a second mark at one side and price too, and every order was seen.
marked : Side → ℕ → Order
marked side number = record { side = side; kind = Displayed; number = number; price = record { 0 = 5 }; size = record { 0 = 300 }; setter = true; security = 0 }

before : List Bool
before =
    sound_before (book_of 2 (marked Sell 1 ∷ marked Buy 2 ∷ [])) ∷
    not (sound_before (book_of 2 (marked Sell 1 ∷ marked Sell 2 ∷ []))) ∷
    not (sound_before (book_of 2 (order 0 Sell 2 5 ∷ order 0 Sell 1 5 ∷ []))) ∷
    not (sound_before alone) ∷
    eqb (check_before (book_of 2 (order 0 Sell 1 5 ∷ order 0 Sell 2 5 ∷ []))).orders 2 ∷
    eqb (find_before 2 (book_of 2 (order 0 Sell 1 5 ∷ order 0 Sell 2 5 ∷ []))).start 40 ∷
    eqb (find_before 3 (book_of 2 (order 0 Sell 1 5 ∷ order 0 Sell 2 5 ∷ []))).refusal 3 ∷ []

before_worked : all (λ b. b) before ≡ true
unfolding before marked alone order sound_before tells_before check_before find_before sound orders_of book_of encode decode numbers_of order_of numbers_sound new_tells
before_worked = refl

-- a sell below all others is marked, one above isn't, and a buy that could trade is refused 5; a reduce takes shares off
entry_before_worked : let s = book_of 2 (order 0 Sell 1 5 ∷ []) in
    (eqb (get_or (add_before (asked 0 2 2 4) s).book 60 0) 1
    && eqb (get_or (add_before (asked 0 2 2 6) s).book 60 0) 0
    && eqb (add_before (asked 0 1 2 5) s).refusal 5
    && eqb (get_or (reduce_before 1 100 s).book 12 0) 200
    && eqb (reduce_before 1 301 s).refusal 7) ≡ true
unfolding order asked add_before added_before sets_price_before requested reduce_before reduced_before with_interest settled sound_before tells_before encode_before book_before orders_of book_of encode decode numbers_of order_of numbers_sound
entry_before_worked = refl

-- the better price is taken first
take_before_worked : let s = book_of 2 (order 0 Sell 1 6 ∷ order 0 Sell 2 5 ∷ []) in
    let a = take_before (record { side = 1; limit = 6; size = 400; algorithm = 1; security = 0 }) s (replicate 32 0) in
    (eqb a.taken.count 2 && eqb (get_or a.executions 4 0) 2 && eqb (get_or a.executions 20 0) 1 && eqb (get_or a.book 12 0) 200) ≡ true
unfolding order take_before outcome_before price_levels_before part_before row_by rows_by levels_by written losses_of executions_of setter_sharing beside_setter lot_sharing round goes_round with_interest settled sound_before tells_before encode_before book_before orders_of book_of encode decode numbers_of order_of numbers_sound
take_before_worked = refl

-- one ladder of all orders, kept by a reduce; another one is refused 10
ladder_before_worked : let s = book_of 2 (order 0 Sell 1 5 ∷ order 0 Sell 2 5 ∷ []) in
    let l = (ladder_before s (replicate 6144 7)).ladder in
    (eqb (get_or l 8 0 + 256 * get_or l 9 0) 600
    && eqb (get_or (reduce_ladder_before 1 100 s l).ladder 8 0 + 256 * get_or (reduce_ladder_before 1 100 s l).ladder 9 0) 500
    && eqb (reduce_ladder_before 1 100 s (replicate 6144 7)).refusal 10) ≡ true
unfolding order ladder_before reduce_ladder_before ladder_of rows_of row_of joined reduce_before reduced_before with_interest settled sound_before tells_before encode_before book_before orders_of book_of encode decode numbers_of order_of numbers_sound
ladder_before_worked = refl
