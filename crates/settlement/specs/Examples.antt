-- Worked values of moves and of records that are closed up, computed by the checker, and bytes that begin with records, or don't.
use Rattle.std.specs.Prelude.{ℕ, ◌≡◌, refl, Bool, true, false, List, [], ◌∷◌, ◌++◌, map, take, drop, replicate}
use Rattle.std.proofs.lemmas.Bool.{false≢true}
use Rattle.std.proofs.Common.{arith}
use Rattle.units.specs.Lists.{all, flat_map, same_numbers}
use Rattle.orders.specs.declared.order.Side.TheVariants.{Sell}
use Rattle.orders.specs.declared.order.Kind.TheVariants.{Displayed, Reserve}
use Rattle.orders.specs.declared.order.Order.{Order}
use Rattle.orders.specs.Order.{size_of, interest, with_interest, settled}
use Rattle.record.specs.Codec.{encode, decode}
use Rattle.record.specs.Record.{numbers_of, order_of, numbers_sound, new_tells}
use Rattle.book.specs.Sound.{book_of}
use Rattle.settlement.specs.Moves.{behind_first_gap, moves_of, displaced}
use Rattle.settlement.specs.Losing.{RecordAt, Records, left_at, left_in, closed_up}

-- number and shares
order : ℕ → ℕ → Order
order number size = record {
  side = Sell;
  kind = Displayed;
  number = number;
  price = record { 0 = 100000 };
  size = record { 0 = size };
  setter = false;
  security = 0;
}

-- one that has left, and one that rests
gone : ℕ → Order
gone number = order number 0

here : ℕ → Order
here number = order number 300

-- behind the first that leaves; nothing where none does, nor behind the last
numbers : List Order → List ℕ
numbers os = map (λ o. o.number) os

behind_worked : same_numbers
    (numbers (behind_first_gap (here 1 ∷ gone 2 ∷ here 3 ∷ gone 4 ∷ []))
    ++ numbers (behind_first_gap (here 5 ∷ here 6 ∷ []))
    ++ numbers (behind_first_gap (here 7 ∷ gone 8 ∷ [])))
    (3 ∷ 4 ∷ []) ≡ true
unfolding numbers here gone order
behind_worked = refl

-- no orders; none leaves; all leave; the first alone; the last alone; the middle one of three
few_worked : same_numbers
    (moves_of [] ∷
    moves_of (here 1 ∷ here 2 ∷ []) ∷
    moves_of (gone 1 ∷ gone 2 ∷ []) ∷
    moves_of (gone 1 ∷ here 2 ∷ here 3 ∷ []) ∷
    moves_of (here 1 ∷ here 2 ∷ gone 3 ∷ []) ∷
    moves_of (here 1 ∷ gone 2 ∷ here 3 ∷ []) ∷ [])
    (0 ∷ 0 ∷ 0 ∷ 2 ∷ 0 ∷ 1 ∷ []) ≡ true
unfolding here gone order
few_worked = refl

-- behind the second of two gaps a record moves once, and one filled in part like another, down to a share
gaps_worked : same_numbers
    (moves_of (here 1 ∷ gone 2 ∷ here 3 ∷ gone 4 ∷ gone 5 ∷ here 6 ∷ []) ∷ moves_of (order 1 30 ∷ gone 2 ∷ order 3 1 ∷ here 4 ∷ order 5 30 ∷ []) ∷ [])
    (2 ∷ 3 ∷ []) ≡ true
unfolding here gone order
gaps_worked = refl

-- where one that shows 100 and hides 250 loses the 100 it is shown anew and rests: behind a gap it moves, and it makes none
reserve : ℕ → Order
reserve number = record {
  side = Sell;
  kind = Reserve (record { 0 = 250 }) (record { 0 = 100 });
  number = number;
  price = record { 0 = 100000 };
  size = record { 0 = 100 };
  setter = false;
  security = 0;
}

refreshed_worked : same_numbers
    (moves_of (gone 1 ∷ settled (interest 100 0) (reserve 2) ∷ []) ∷
    moves_of (settled (interest 100 0) (reserve 1) ∷ here 2 ∷ []) ∷
    moves_of (settled (interest 100 250) (reserve 1) ∷ here 2 ∷ []) ∷ [])
    (1 ∷ 0 ∷ 1 ∷ []) ≡ true
unfolding reserve here gone order settled with_interest
refreshed_worked = refl

-- 256 orders, by turns
turns : Order → Order → List Order
turns a b = flat_map {A = ℕ} (λ k. a ∷ b ∷ []) (replicate 128 0)

-- every second leaves from place 1 on, from place 0 on; the first alone, the last alone, none, all
full_worked : same_numbers
    (moves_of (turns (here 1) (gone 2)) ∷
    moves_of (turns (gone 1) (here 2)) ∷
    moves_of (gone 1 ∷ replicate 255 (here 2)) ∷
    moves_of (replicate 255 (here 1) ++ (gone 2 ∷ [])) ∷
    moves_of (replicate 256 (here 1)) ∷
    moves_of (replicate 256 (gone 1)) ∷ [])
    (127 ∷ 128 ∷ 255 ∷ 0 ∷ 0 ∷ 0 ∷ []) ≡ true
unfolding turns here gone order
full_worked = refl

-- places: the same orders, the last gone, the middle one, the first; another size or none afterwards is no other order
places_worked : same_numbers
    (displaced (here 1 ∷ here 2 ∷ here 3 ∷ []) (here 1 ∷ here 2 ∷ here 3 ∷ []) ∷
    displaced (here 1 ∷ here 2 ∷ here 3 ∷ []) (here 1 ∷ here 2 ∷ []) ∷
    displaced (here 1 ∷ here 2 ∷ here 3 ∷ []) (here 1 ∷ here 3 ∷ []) ∷
    displaced (here 1 ∷ here 2 ∷ here 3 ∷ []) (here 2 ∷ here 3 ∷ []) ∷
    displaced (here 1 ∷ here 2 ∷ []) (order 1 30 ∷ here 2 ∷ []) ∷
    displaced (here 1 ∷ []) [] ∷ [])
    (0 ∷ 0 ∷ 1 ∷ 2 ∷ 0 ∷ 0 ∷ []) ≡ true
unfolding here order
places_worked = refl

-- orders 7 and 9, in a book with room for three
two : List ℕ
two = book_of 3 (order 7 300 ∷ order 9 200 ∷ [])

shares : List Order → List ℕ
shares os = map size_of os

losing : List Bool
losing =
    -- what the record at a byte loses: its displayed shares
    same_numbers (numbers_of (left_at two 40 50 10)) (numbers_of (order 9 150)) ∷
    -- the first n orders, each by its own loss
    same_numbers (shares (left_in 2 (100 ∷ 200 ∷ 5 ∷ []) (1 ∷ 1 ∷ 1 ∷ []) two)) (200 ∷ 0 ∷ []) ∷
    same_numbers (shares (left_in 1 (100 ∷ 200 ∷ []) (0 ∷ 0 ∷ []) two)) (200 ∷ []) ∷
    -- of two records one is left, zeros come in behind it, and a byte behind both is as it was
    same_numbers (closed_up 2 (order 9 150 ∷ []) (two ++ (7 ∷ []))) (book_of 3 (order 9 150 ∷ []) ++ (7 ∷ [])) ∷
    same_numbers (closed_up 1 [] two) (replicate 40 0 ++ drop 40 two) ∷ []

losing_worked : all (λ b. b) losing ≡ true
unfolding losing shares two order book_of encode decode numbers_of order_of settled with_interest
losing_worked = refl

-- from byte 40 on lies a sound record; from byte 80 on none, nor from byte 39
record_there : RecordAt two 40
unfolding two order book_of encode decode numbers_of numbers_sound new_tells
record_there = (omega arith, refl)

no_record : (RecordAt two 80 → ⊥) × (RecordAt two 39 → ⊥) × (RecordAt (take 79 two) 40 → ⊥)
unfolding two order book_of encode decode numbers_of numbers_sound new_tells
no_record = ((λ h. false≢true h.1), (λ h. false≢true h.1), λ h. omega (arith, h.0))

-- the bytes begin with two sound records, and not with three; each has a loss of either visibility
records_there : Records two 2 (0 ∷ 5 ∷ []) (0 ∷ 5 ∷ [])
unfolding two order book_of encode decode numbers_of numbers_sound new_tells
records_there = record { room = omega arith; each = refl; shown_each = omega arith; hidden_each = omega arith }

no_records : (Records two 3 (0 ∷ 5 ∷ 0 ∷ []) (0 ∷ 5 ∷ 0 ∷ []) → ⊥)
    × (Records (take 79 two) 2 (0 ∷ 5 ∷ []) (0 ∷ 5 ∷ []) → ⊥)
    × (Records two 2 (0 ∷ []) (0 ∷ 5 ∷ []) → ⊥)
    × (Records two 2 (0 ∷ 5 ∷ []) (0 ∷ []) → ⊥)
unfolding two order book_of encode decode numbers_of numbers_sound new_tells
no_records = (
  (λ h. false≢true h.each),
  (λ h. omega (arith, h.room)),
  (λ h. omega (arith, h.shown_each)),
  λ h. omega (arith, h.hidden_each),
)
