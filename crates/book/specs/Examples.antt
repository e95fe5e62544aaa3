-- Worked values of soundness, check and find, computed by the checker.
use Rattle.std.specs.Prelude.{ℕ, ◌≡◌, refl, Bool, true, false, not, ◌&&◌, List, [], ◌∷◌, ◌++◌, length, take, drop, set, replicate, eqb}
use Rattle.units.specs.Lists.{all, flat_map, same_numbers}
use Rattle.orders.specs.declared.order.Side.{Side}
use Rattle.orders.specs.declared.order.Side.TheVariants.{Buy, Sell}
use Rattle.orders.specs.declared.order.Kind.TheVariants.{Displayed}
use Rattle.orders.specs.declared.order.Order.{Order}
use Rattle.record.specs.Codec.{encode, decode}
use Rattle.record.specs.Record.{numbers_of, order_of, numbers_sound, new_tells}
use Rattle.book.specs.Sound.{sound, orders_of, book_of, capacity_of, order_at}
use Rattle.book.specs.declared.refusal.Refusal.TheVariants.{UnsoundBook}
use Rattle.book.specs.Answer.{number_of}
use Rattle.book.specs.Lookup.{check_call, find_call, found_part}
use Rattle.book.specs.Securities.{records_for}

order : ℕ → Side → ℕ → ℕ → Bool → Order
order security side number price setter = record {
  side = side;
  kind = Displayed;
  number = number;
  price = record { 0 = price };
  size = record { 0 = 300 };
  setter = setter;
  security = security;
}

-- of security 0 a buy above a sell, both setters, with a free record behind them
crossed : List ℕ
crossed = book_of 3 (order 0 Buy 7 100100 true ∷ order 0 Sell 9 100000 true ∷ [])

-- orders 7 and 9 of security 0 and order 8 of security 1, all marked at one side and price or at another
shared : List ℕ
shared = book_of 4 (order 0 Buy 7 100100 true ∷ order 1 Buy 8 100100 true ∷ order 0 Buy 9 100200 true ∷ [])

checking : List Bool
checking =
    -- 0 to 10,240 bytes
    sound [] ∷
    sound (replicate 10240 0) ∷
    sound crossed ∷
    eqb (check_call 0 crossed).orders 2 ∷
    sound (book_of 1 (order 0 Buy 1 100100 true ∷ [])) ∷
    eqb (capacity_of crossed) 3 ∷
    eqb (order_at crossed 1).number 9 ∷
    -- a record's first byte alone says whether it is unused
    eqb (length (orders_of (set crossed 41 0))) 2 ∷
    eqb (length (orders_of (set crossed 40 0))) 1 ∷
    -- a length that is no whole number of records; too many records; a byte behind the orders
    not (sound (crossed ++ (0 ∷ []))) ∷
    not (sound (replicate 10280 0)) ∷
    not (sound (set crossed 119 1)) ∷
    -- a number that doesn't rise; two setter marks at one side and price, and at two prices
    not (sound (book_of 2 (order 0 Buy 7 100100 false ∷ order 0 Buy 7 100000 false ∷ []))) ∷
    not (sound (book_of 2 (order 0 Buy 7 100100 true ∷ order 0 Buy 9 100100 true ∷ []))) ∷
    sound (book_of 2 (order 0 Buy 7 100100 true ∷ order 0 Buy 9 100200 true ∷ [])) ∷
    eqb (check_call 0 (set crossed 0 1)).refusal 2 ∷
    eqb (check_call 0 (set crossed 0 1)).orders 0 ∷ []

-- two securities: a mark of each at one side and price, and not two of one; numbers rise over both
sharing : List Bool
sharing =
    sound shared ∷
    not (sound (book_of 2 (order 1 Buy 7 100100 true ∷ order 1 Buy 9 100100 true ∷ []))) ∷
    not (sound (book_of 2 (order 0 Buy 7 100100 false ∷ order 1 Buy 7 100000 false ∷ []))) ∷
    not (sound (book_of 2 (order 0 Buy 8 100100 false ∷ order 1 Buy 7 100000 false ∷ []))) ∷
    not (sound (set shared 61 2)) ∷ []

-- each counts its own orders
counting : List Bool
counting =
    eqb (check_call 0 shared).orders 2 ∷
    eqb (check_call 1 shared).orders 1 ∷
    eqb (check_call 1 crossed).orders 0 ∷
    eqb (check_call 1 crossed).refusal 0 ∷
    -- there is no third, which is said before the book is looked at
    eqb (check_call 2 shared).refusal 1 ∷
    eqb (check_call 2 shared).orders 0 ∷
    eqb (check_call 2 (set shared 0 1)).refusal 1 ∷
    -- the records in use are those of both
    eqb (length (orders_of shared)) 3 ∷
    (not (sound (set shared 0 1)) && eqb (number_of UnsoundBook) 2) ∷
    eqb (length (records_for 0 shared)) 2 ∷
    same_numbers (flat_map (λ r. r) (records_for 1 shared)) (take 40 (drop 40 shared)) ∷
    same_numbers (flat_map (λ r. r) (records_for 0 shared)) (take 40 shared ++ take 40 (drop 80 shared)) ∷ []

-- the second record; no such order; the number before the book, the book before its orders
finding : List Bool
finding =
    same_numbers (found_part (find_call 0 9 crossed) crossed) (take 40 (drop 40 crossed)) ∷
    (eqb (find_call 0 9 crossed).start 40 && eqb (find_call 0 9 crossed).length 40) ∷
    eqb (find_call 0 8 crossed).refusal 3 ∷
    eqb (find_call 0 0 (set crossed 0 1)).refusal 1 ∷
    eqb (find_call 0 8 (set crossed 0 1)).refusal 2 ∷
    same_numbers (found_part (find_call 0 8 crossed) crossed) [] ∷ []

-- an order of its own security alone, behind one of the other; and no third security
finding_apart : List Bool
finding_apart =
    same_numbers (found_part (find_call 0 9 shared) shared) (take 40 (drop 80 shared)) ∷
    same_numbers (found_part (find_call 1 8 shared) shared) (take 40 (drop 40 shared)) ∷
    eqb (find_call 0 8 shared).refusal 3 ∷
    eqb (find_call 1 9 shared).refusal 3 ∷
    eqb (find_call 2 8 (set shared 0 1)).refusal 1 ∷ []

checking_worked : all (λ b. b) checking ≡ true
unfolding checking crossed order sound orders_of book_of check_call find_call encode decode numbers_of order_of numbers_sound new_tells
checking_worked = refl

sharing_worked : all (λ b. b) sharing ≡ true
unfolding sharing shared order sound orders_of book_of encode decode numbers_of order_of numbers_sound new_tells
sharing_worked = refl

counting_worked : all (λ b. b) counting ≡ true
unfolding counting crossed shared order sound orders_of book_of check_call encode decode numbers_of order_of numbers_sound new_tells
counting_worked = refl

finding_worked : all (λ b. b) finding ≡ true
unfolding finding crossed order sound orders_of book_of check_call find_call encode decode numbers_of order_of numbers_sound new_tells
finding_worked = refl

finding_apart_worked : all (λ b. b) finding_apart ≡ true
unfolding finding_apart shared order sound orders_of book_of find_call encode decode numbers_of order_of numbers_sound new_tells
finding_apart_worked = refl
