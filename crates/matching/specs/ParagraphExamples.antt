-- Worked values of each paragraph's sharing, computed by the checker: what each order of a book gets.
use Rattle.std.specs.Prelude.{ℕ, ◌≡◌, refl, Bool, true, List, [], ◌∷◌, map, eqb}
use Rattle.units.specs.Lists.{all, same_numbers}
use Rattle.sharing.specs.Round.{goes_round, round}
use Rattle.sharing.specs.Lots.{lot_sharing}
use Rattle.sharing.specs.Setter.{beside_setter, setter_sharing}
use Rattle.orders.specs.declared.order.Side.TheVariants.{Buy}
use Rattle.orders.specs.declared.order.Kind.TheVariants.{Displayed, NonDisplayed}
use Rattle.orders.specs.declared.order.Order.{Order}
use Rattle.orders.specs.Order.{with_interest, settled}
use Rattle.matching.specs.declared.Algorithm.{Algorithm}
use Rattle.matching.specs.declared.Algorithm.TheVariants.{PriceTime, ProRata, PriceSetter}
use Rattle.matching.specs.Levels.{price_levels}
use Rattle.matching.specs.Paragraph.{paragraph_number, part_of}
use Rattle.matching.specs.Numbered.{paragraph_numbered}
use Rattle.matching.specs.Take.{allocation_at, allocations_at, allocations_over, allocations, executions_of, losses_of, outcome}
use Rattle.matching.specs.Reserve.{executed_of}
use Rattle.matching.specs.ExampleBooks.{marked, minimum, sells, bid, incoming}

-- an incoming buy of this size gives these shares to the orders of the book
gives : Algorithm → ℕ → List Order → List ℕ → Bool
gives alg size os due = same_numbers (map (executed_of (outcome 100 alg (incoming Buy 100000 size) os).executions) os) due

-- Who stands in a group at all: orders of the other side alone; an order of one share too, and each order once.
membership : List Bool
membership =
    gives ProRata 500 (bid 1 100000 ∷ sells Displayed 2 (300 ∷ [])) (0 ∷ 300 ∷ []) ∷
    gives ProRata 500 (sells Displayed 1 (1 ∷ [])) (1 ∷ []) ∷
    gives PriceTime 500 (sells NonDisplayed 1 (1 ∷ 50 ∷ [])) (1 ∷ 50 ∷ []) ∷
    gives PriceTime 500 (sells Displayed 1 (50 ∷ 300 ∷ [])) (50 ∷ 300 ∷ []) ∷ []

-- displayed orders of a lot or more share by lots, also beside those below a lot
paragraph2 : List Bool
paragraph2 =
    gives ProRata 300 (sells Displayed 1 (100 ∷ 300 ∷ 200 ∷ [])) (0 ∷ 200 ∷ 100 ∷ []) ∷
    gives ProRata 250 (sells Displayed 1 (99 ∷ 300 ∷ [])) (0 ∷ 250 ∷ []) ∷
    gives PriceTime 300 (sells Displayed 1 (100 ∷ 300 ∷ 200 ∷ [])) (100 ∷ 200 ∷ 0 ∷ []) ∷ []

-- the setter of the price under the variation, and not without it
variation : List Bool
variation =
    gives PriceSetter 500 (marked 1 300 ∷ sells Displayed 2 (250 ∷ 250 ∷ 200 ∷ [])) (200 ∷ 200 ∷ 100 ∷ 0 ∷ []) ∷
    gives ProRata 500 (marked 1 300 ∷ sells Displayed 2 (250 ∷ 250 ∷ 200 ∷ [])) (200 ∷ 100 ∷ 100 ∷ 100 ∷ []) ∷
    gives PriceSetter 84 (marked 1 1000 ∷ sells Displayed 2 (3000 ∷ 1000 ∷ [])) (33 ∷ 51 ∷ 0 ∷ []) ∷ []

-- displayed orders below a lot have their turn largest first, equal sizes by time
paragraph3 : List Bool
paragraph3 =
    gives ProRata 50 (sells Displayed 1 (40 ∷ 60 ∷ [])) (0 ∷ 50 ∷ []) ∷
    gives ProRata 70 (sells Displayed 1 (50 ∷ 60 ∷ 60 ∷ [])) (0 ∷ 60 ∷ 10 ∷ []) ∷
    gives PriceSetter 50 (sells Displayed 1 (40 ∷ 60 ∷ [])) (0 ∷ 50 ∷ []) ∷ []

-- non-displayed orders of a lot or more share by lots: largest first would give the second all
paragraph4 : List Bool
paragraph4 =
    gives ProRata 300 (sells NonDisplayed 1 (100 ∷ 300 ∷ 200 ∷ [])) (0 ∷ 200 ∷ 100 ∷ []) ∷
    gives PriceSetter 300 (sells NonDisplayed 1 (100 ∷ 300 ∷ 200 ∷ [])) (0 ∷ 200 ∷ 100 ∷ []) ∷ []

-- minimum quantity orders of any size have their turn smallest minimum first, equal ones by time
paragraph5 : List Bool
paragraph5 =
    gives ProRata 450 (minimum 1 500 200 ∷ minimum 2 400 100 ∷ []) (0 ∷ 400 ∷ []) ∷
    gives ProRata 450 (minimum 1 400 200 ∷ minimum 2 500 100 ∷ []) (0 ∷ 450 ∷ []) ∷
    gives ProRata 350 (minimum 1 300 100 ∷ minimum 2 400 100 ∷ []) (300 ∷ 0 ∷ []) ∷
    gives ProRata 55 (minimum 1 50 20 ∷ sells NonDisplayed 2 (60 ∷ [])) (50 ∷ 5 ∷ []) ∷
    gives PriceSetter 450 (minimum 1 500 200 ∷ minimum 2 400 100 ∷ []) (0 ∷ 400 ∷ []) ∷ []

-- non-displayed orders below a lot have their turn largest first, equal sizes by time
paragraph6 : List Bool
paragraph6 =
    gives ProRata 50 (sells NonDisplayed 1 (30 ∷ 60 ∷ [])) (0 ∷ 50 ∷ []) ∷
    gives ProRata 70 (sells NonDisplayed 1 (50 ∷ 60 ∷ 60 ∷ [])) (0 ∷ 60 ∷ 10 ∷ []) ∷
    gives PriceSetter 50 (sells NonDisplayed 1 (30 ∷ 60 ∷ [])) (0 ∷ 50 ∷ []) ∷ []

membership_worked : all (λ b. b) membership ≡ true
unfolding membership gives outcome losses_of executions_of allocations allocations_over allocations_at allocation_at part_of price_levels lot_sharing round goes_round with_interest settled
membership_worked = refl

paragraph_2_worked : all (λ b. b) paragraph2 ≡ true
unfolding paragraph2 gives outcome losses_of executions_of allocations allocations_over allocations_at allocation_at part_of price_levels lot_sharing round goes_round with_interest settled
paragraph_2_worked = refl

variation_worked : all (λ b. b) variation ≡ true
unfolding variation gives outcome losses_of executions_of allocations allocations_over allocations_at allocation_at part_of price_levels setter_sharing beside_setter lot_sharing round goes_round with_interest settled
variation_worked = refl

paragraph_3_worked : all (λ b. b) paragraph3 ≡ true
unfolding paragraph3 gives outcome losses_of executions_of allocations allocations_over allocations_at allocation_at part_of price_levels setter_sharing beside_setter lot_sharing round goes_round with_interest settled
paragraph_3_worked = refl

paragraph_4_worked : all (λ b. b) paragraph4 ≡ true
unfolding paragraph4 gives outcome losses_of executions_of allocations allocations_over allocations_at allocation_at part_of price_levels setter_sharing beside_setter lot_sharing round goes_round with_interest settled
paragraph_4_worked = refl

paragraph_5_worked : all (λ b. b) paragraph5 ≡ true
unfolding paragraph5 gives outcome losses_of executions_of allocations allocations_over allocations_at allocation_at part_of price_levels setter_sharing beside_setter lot_sharing round goes_round with_interest settled
paragraph_5_worked = refl

paragraph_6_worked : all (λ b. b) paragraph6 ≡ true
unfolding paragraph6 gives outcome losses_of executions_of allocations allocations_over allocations_at allocation_at part_of price_levels setter_sharing beside_setter lot_sharing round goes_round with_interest settled
paragraph_6_worked = refl

-- a number below the first paragraph's, each of theirs, and one behind the last
numbers : List Bool
numbers = all (λ n. eqb (paragraph_number (paragraph_numbered n)) n) (2 ∷ 3 ∷ 4 ∷ 5 ∷ 6 ∷ []) ∷ eqb (paragraph_number (paragraph_numbered 0)) 2 ∷ eqb (paragraph_number (paragraph_numbered 7)) 6 ∷ []

numbers_worked : all (λ b. b) numbers ≡ true
unfolding numbers
numbers_worked = refl
