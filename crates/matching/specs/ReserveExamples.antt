-- Worked values of takes from reserve orders, computed by the checker, and books afterwards that are convicted. Of R 100+250/100 100 shares
-- are shown and 250 hidden, and 100 is the refresh size; D and H are displayed and non-displayed orders; numbers run from 1.
use Rattle.std.specs.Prelude.{ℕ, ◌≡◌, refl, Bool, true, not, ◌&&◌, eqb, replicate}
use Rattle.std.proofs.Common.{ap, arith}
use mathlib.Core.List.Memᴰ
use mathlib.Core.List.{List, [], ◌∷◌, map, Memᴰ}
use Rattle.units.specs.Lists.{all, flat_map, or_zero, same_numbers}
use Rattle.sharing.specs.Round.{goes_round, round}
use Rattle.sharing.specs.Lots.{lot_sharing}
use Rattle.sharing.specs.Setter.{beside_setter, setter_sharing}
use Rattle.orders.specs.declared.order.Side.TheVariants.{Buy}
use Rattle.orders.specs.declared.order.Kind.TheVariants.{Displayed, NonDisplayed}
use Rattle.orders.specs.declared.order.Order.{Order}
use Rattle.orders.specs.Order.{shown, hidden, hidden_of, refresh_of, size_of, with_interest, settled}
use Rattle.record.specs.declared.execution.Execution.{Execution}
use Rattle.record.specs.Codec.{encode, decode}
use Rattle.record.specs.Execution.{encode_execution, execution_of}
use Rattle.record.specs.Record.{numbers_of, order_of, numbers_sound, new_tells}
use Rattle.book.specs.Sound.{sound, orders_of, book_of}
use Rattle.matching.specs.declared.Algorithm.{Algorithm}
use Rattle.matching.specs.declared.Algorithm.TheVariants.{PriceTime, ProRata, PriceSetter}
use Rattle.matching.specs.Levels.{price_levels}
use Rattle.matching.specs.Paragraph.{part_of}
use Rattle.matching.specs.Take.{allocation_at, allocations_at, allocations_over, allocations, executions_of, losses_of, outcome}
use Rattle.matching.specs.TakeCall.{TakeAnswer, outcome_of, written, take_call}
use Rattle.matching.specs.Fairness.{gets}
use Rattle.matching.specs.Parts.{parts_of, without_reserve, OnePerPart}
use Rattle.matching.specs.Reserve.{executed_of, lost_of, Alone, Remains}
use Rattle.matching.specs.ExampleBooks.{sell, minimum, reserve, marked_reserve, incoming}

-- of executions: paragraph, order number and shares of each
told : List Execution → List ℕ
told es = flat_map (λ e. e.paragraph ∷ e.number ∷ e.shares.0 ∷ []) es

-- of orders: number, shown or whole size, hidden shares, refresh size and mark of each
standing : List Order → List ℕ
standing os = flat_map (λ o. o.number ∷ size_of o ∷ hidden_of o.kind ∷ refresh_of o.kind ∷ or_zero o.setter 1 ∷ []) os

-- a buy of this size under an algorithm has these executions, and leaves these orders and no shares
gives : Algorithm → ℕ → List Order → List ℕ → List ℕ → Bool
gives alg size os due rest =
    let o = outcome 100 alg (incoming Buy 100000 size) os in
    same_numbers (told o.executions) due && same_numbers (standing o.orders) rest && eqb o.left 0

-- R 100+250/100, D 300
two_orders : List Order
two_orders = reserve 1 100 250 100 ∷ sell Displayed 2 100000 300 ∷ []

-- the hidden part has its turn behind all that is shown; what is refreshed doesn't trade; filled in both parts the order is gone
turns : List Bool
turns =
    gives ProRata 500 two_orders (2 ∷ 1 ∷ 100 ∷ 2 ∷ 2 ∷ 300 ∷ 4 ∷ 1 ∷ 100 ∷ []) (1 ∷ 100 ∷ 50 ∷ 100 ∷ 0 ∷ []) ∷
    gives ProRata 650 two_orders (2 ∷ 1 ∷ 100 ∷ 2 ∷ 2 ∷ 300 ∷ 4 ∷ 1 ∷ 250 ∷ []) [] ∷
    -- a shown part below a lot has its turn in paragraph 3, and where nothing is hidden there is no hidden part
    gives ProRata 260 (reserve 1 50 150 50 ∷ sell Displayed 2 100000 200 ∷ []) (2 ∷ 2 ∷ 200 ∷ 3 ∷ 1 ∷ 50 ∷ 4 ∷ 1 ∷ 10 ∷ []) (1 ∷ 50 ∷ 90 ∷ 50 ∷ 0 ∷ []) ∷
    gives ProRata 150 (reserve 1 100 0 100 ∷ sell NonDisplayed 2 100000 50 ∷ []) (2 ∷ 1 ∷ 100 ∷ 6 ∷ 2 ∷ 50 ∷ []) [] ∷
    -- by time its number is the time of both parts
    gives PriceTime 200 (sell NonDisplayed 1 100000 50 ∷ reserve 2 100 250 100 ∷ sell NonDisplayed 3 100000 70 ∷ [])
    (2 ∷ 2 ∷ 100 ∷ 3 ∷ 1 ∷ 50 ∷ 3 ∷ 2 ∷ 50 ∷ []) (2 ∷ 100 ∷ 100 ∷ 100 ∷ 0 ∷ 3 ∷ 70 ∷ 0 ∷ 0 ∷ 0 ∷ []) ∷ []

-- each part has its own size
sized : Bool
sized = gives ProRata 350 (reserve 1 100 250 100 ∷ []) (2 ∷ 1 ∷ 100 ∷ 4 ∷ 1 ∷ 250 ∷ []) []

-- and is in a paragraph by its own size: shown below a lot, hidden of a lot or more, and the other way round
grouped : List Bool
grouped =
    gives ProRata 200 (reserve 1 50 150 50 ∷ []) (3 ∷ 1 ∷ 50 ∷ 4 ∷ 1 ∷ 150 ∷ []) [] ∷
    gives ProRata 330 (reserve 1 100 60 100 ∷ sell NonDisplayed 2 100000 200 ∷ []) (2 ∷ 1 ∷ 100 ∷ 4 ∷ 2 ∷ 200 ∷ 6 ∷ 1 ∷ 30 ∷ []) (1 ∷ 30 ∷ 0 ∷ 100 ∷ 0 ∷ []) ∷ []

-- so a shown part below a lot stands behind a displayed order that is larger and earlier: D 70, R 60+60/60, buy 60
behind : Bool
behind =
    let es = (outcome 100 ProRata (incoming Buy 100000 60) (sell Displayed 1 100000 70 ∷ reserve 2 60 60 60 ∷ [])).executions in
    same_numbers (map (λ e. e.number) es) (1 ∷ [])

-- a take that ends with no share shown refreshes, up to the hidden shares; with one share shown it doesn't
refreshing : List Bool
refreshing =
    gives ProRata 100 (reserve 1 100 30 100 ∷ []) (2 ∷ 1 ∷ 100 ∷ []) (1 ∷ 30 ∷ 0 ∷ 100 ∷ 0 ∷ []) ∷
    gives ProRata 99 (reserve 1 100 30 100 ∷ []) (2 ∷ 1 ∷ 99 ∷ []) (1 ∷ 1 ∷ 30 ∷ 100 ∷ 0 ∷ []) ∷ []

-- each part loses the shares of its own execution: of 200 the hidden one 100
losing : Bool
losing = same_numbers (standing (outcome 100 ProRata (incoming Buy 100000 200) (reserve 1 100 250 100 ∷ [])).orders) (1 ∷ 100 ∷ 50 ∷ 100 ∷ 0 ∷ [])

-- the shown part may be the setter, held to its own size, and the mark stays when it is refreshed
setting : Bool
setting =
    gives PriceSetter 500 (marked_reserve 1 100 500 100 ∷ sell Displayed 2 100000 900 ∷ []) (2 ∷ 1 ∷ 100 ∷ 2 ∷ 2 ∷ 400 ∷ [])
    (1 ∷ 100 ∷ 400 ∷ 100 ∷ 1 ∷ 2 ∷ 500 ∷ 0 ∷ 0 ∷ 0 ∷ [])

-- an execution at 100000: paragraph, order number, shares
execution : ℕ → ℕ → ℕ → Execution
execution g n shares = record { number = n; price = record { 0 = 100000 }; shares = record { 0 = shares }; paragraph = g }

-- those of the first take
first : List Execution
first = execution 2 1 100 ∷ execution 2 2 300 ∷ execution 4 1 100 ∷ []

-- what the demand says that a shown part gets is the shares of its own execution alone
getting : Bool
getting = all (λ o. eqb (gets first o) (size_of o)) two_orders

-- what an order lost in all, of its shown and of its hidden shares
losses : Algorithm → List Execution → Order → List ℕ → Bool
losses alg es o due = same_numbers (executed_of es o ∷ lost_of 100 alg shown es o ∷ lost_of 100 alg hidden es o ∷ []) due

lost : List Bool
lost =
    losses ProRata first (reserve 1 100 250 100) (200 ∷ 100 ∷ 100 ∷ []) ∷
    losses ProRata first (sell Displayed 2 100000 300) (300 ∷ 300 ∷ 0 ∷ []) ∷
    -- paragraph 3 is of shown shares under pro rata, and of hidden ones under price/time
    losses ProRata (execution 3 1 50 ∷ execution 4 1 10 ∷ []) (reserve 1 50 150 50) (60 ∷ 50 ∷ 10 ∷ []) ∷
    losses PriceTime (execution 2 2 100 ∷ execution 3 1 50 ∷ execution 3 2 40 ∷ []) (reserve 2 100 250 100) (140 ∷ 100 ∷ 40 ∷ []) ∷ []

-- how many parts an order has
parts : List Bool
parts =
    eqb (parts_of (reserve 1 100 250 100)) 2 ∷
    eqb (parts_of (reserve 1 100 0 100)) 1 ∷
    eqb (parts_of (sell Displayed 1 100000 300)) 1 ∷
    eqb (parts_of (minimum 1 300 100)) 1 ∷
    not (without_reserve two_orders) ∷
    without_reserve (sell Displayed 1 100000 300 ∷ minimum 2 300 100 ∷ sell NonDisplayed 3 100000 300 ∷ []) ∷ []

-- On bytes: a buy of 500 from the first book, with so much room.
take : ℕ → TakeAnswer
take room = take_call (record { side = 1; limit = 100000; size = 500; algorithm = 2; security = 0 }) (book_of 2 two_orders) (replicate room 7)

answers : TakeAnswer → ℕ → ℕ → List ℕ → Bool
answers a refusal count rest =
    eqb a.taken.refusal refusal && eqb a.taken.count count && eqb a.taken.left 0 && same_numbers (standing (orders_of a.book)) rest

-- three executions of two orders need 48 bytes
called : List Bool
called =
    answers (take 48) 0 3 (1 ∷ 100 ∷ 50 ∷ 100 ∷ 0 ∷ []) ∷
    answers (take 47) 8 0 (1 ∷ 100 ∷ 250 ∷ 100 ∷ 0 ∷ 2 ∷ 300 ∷ 0 ∷ 0 ∷ 0 ∷ []) ∷ []

turns_worked : all (λ b. b) turns ≡ true
unfolding turns gives told standing two_orders outcome losses_of executions_of allocations allocations_over allocations_at allocation_at part_of price_levels lot_sharing round goes_round with_interest settled
turns_worked = refl

sized_worked : sized ≡ true
unfolding sized gives told standing outcome losses_of executions_of allocations allocations_over allocations_at allocation_at part_of price_levels lot_sharing round goes_round with_interest settled
sized_worked = refl

grouped_worked : all (λ b. b) grouped ≡ true
unfolding grouped gives told standing outcome losses_of executions_of allocations allocations_over allocations_at allocation_at part_of price_levels lot_sharing round goes_round with_interest settled
grouped_worked = refl

behind_worked : behind ≡ true
unfolding behind outcome losses_of executions_of allocations allocations_over allocations_at allocation_at part_of price_levels lot_sharing round goes_round with_interest settled
behind_worked = refl

refreshing_worked : all (λ b. b) refreshing ≡ true
unfolding refreshing gives told standing outcome losses_of executions_of allocations allocations_over allocations_at allocation_at part_of price_levels lot_sharing round goes_round with_interest settled
refreshing_worked = refl

losing_worked : losing ≡ true
unfolding losing standing outcome losses_of executions_of allocations allocations_over allocations_at allocation_at part_of price_levels lot_sharing round goes_round with_interest settled
losing_worked = refl

setting_worked : setting ≡ true
unfolding setting gives told standing outcome losses_of executions_of allocations allocations_over allocations_at allocation_at part_of price_levels setter_sharing beside_setter lot_sharing round goes_round with_interest settled
setting_worked = refl

getting_worked : getting ≡ true
unfolding getting gets first execution two_orders
getting_worked = refl

lost_worked : all (λ b. b) lost ≡ true
unfolding lost losses first execution
lost_worked = refl

parts_worked : all (λ b. b) parts ≡ true
unfolding parts two_orders
parts_worked = refl

called_worked : all (λ b. b) called ≡ true
unfolding called answers take standing two_orders take_call written outcome_of outcome losses_of executions_of allocations allocations_over allocations_at allocation_at part_of price_levels lot_sharing round goes_round with_interest settled sound orders_of book_of encode decode numbers_of order_of numbers_sound new_tells
called_worked = refl

-- Of R 100+30/100 a buy of 100 leaves R 30+0/100, and one of 99 R 1+30/100.
abbrev few : Order
few = reserve 1 100 30 100

same : {o p : Order} → Memᴰ o (p ∷ []) → o ≡ p
same (Memᴰ.head e) = e
same (Memᴰ.tail m) = absurd (Memᴰ.not-nil m)

only : (o : Order) → Alone (o ∷ []) o
only o = record { there = Memᴰ.head refl; alone = λ x m n. same m }

refreshed_remains : Remains (reserve 1 30 0 100 ∷ []) few 100 0 100
refreshed_remains = record {
  in_all = refl;
  of_shown = omega arith;
  of_hidden = omega arith;
  kept = λ l. absurd (omega arith);
  refreshed = λ e l. only (reserve 1 30 0 100);
  gone = λ e f. absurd (omega arith);
  shows = λ x m n. omega (arith, ap size_of (same m));
}

kept_remains : Remains (reserve 1 1 30 100 ∷ []) few 99 0 99
kept_remains = record {
  in_all = refl;
  of_shown = omega arith;
  of_hidden = omega arith;
  kept = λ l. only (reserve 1 1 30 100);
  refreshed = λ e l. absurd (omega arith);
  gone = λ e f. absurd (omega arith);
  shows = λ x m n. omega (arith, ap size_of (same m));
}

-- refreshed up to the refresh size; refreshed while a share is shown; not refreshed; without its mark; with another number; still there
convicted : (Remains (reserve 1 100 0 100 ∷ []) few 100 0 100 → ⊥) × (Remains (reserve 1 31 0 100 ∷ []) few 99 0 99 → ⊥)
    × (Remains (reserve 1 0 30 100 ∷ []) few 100 0 100 → ⊥) × (Remains (reserve 1 30 0 100 ∷ []) (marked_reserve 1 100 30 100) 100 0 100 → ⊥)
    × (Remains (reserve 2 30 0 100 ∷ []) few 100 0 100 → ⊥) × (Remains (reserve 1 30 0 100 ∷ []) few 100 30 130 → ⊥)
convicted = (
  λ r. omega (arith, ap size_of (same (r.refreshed refl (omega arith)).there)),
  λ r. omega (arith, ap size_of (same (r.kept (omega arith)).there)),
  λ r. omega (arith, ap size_of (same (r.refreshed refl (omega arith)).there)),
  λ r. omega (arith, ap (λ (o : Order). or_zero o.setter 1) (same (r.refreshed refl (omega arith)).there)),
  λ r. omega (arith, ap (λ (o : Order). o.number) (same (r.refreshed refl (omega arith)).there)),
  λ r. r.gone refl refl (reserve 1 30 0 100) (Memᴰ.head refl) refl,
)

-- Executions that are more than one for each part: two of order 1 in paragraph 2, and where no order is a reserve order two of one number.
bytes : List Execution → List ℕ
bytes es = flat_map encode_execution es

doubled : (OnePerPart two_orders 2 (bytes (execution 2 1 60 ∷ execution 2 1 40 ∷ [])) → ⊥)
    × (OnePerPart (minimum 1 300 100 ∷ sell Displayed 2 100000 300 ∷ []) 2 (bytes (execution 2 2 60 ∷ execution 3 2 40 ∷ [])) → ⊥)
unfolding bytes execution encode decode execution_of
doubled = (λ r. omega (arith, r.apart 0 1 (omega arith) (omega arith) refl refl), λ r. omega (arith, r.numbers_apart refl 0 1 (omega arith) (omega arith) refl))
