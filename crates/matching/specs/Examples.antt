-- Worked values of take, computed by the checker: through two prices, through all five paragraphs, what rests, apart from the other
-- security, and on bytes.
use Rattle.std.specs.Prelude.{ℕ, ◌≡◌, refl, Bool, true, ◌&&◌, List, [], ◌∷◌, map, drop, set, replicate, eqb}
use Rattle.std.proofs.Common.{arith}
use Rattle.units.specs.Lists.{all, same_numbers}
use Rattle.sharing.specs.Round.{goes_round, round}
use Rattle.sharing.specs.Lots.{lot_sharing}
use Rattle.sharing.specs.Setter.{beside_setter, setter_sharing}
use Rattle.orders.specs.declared.order.Side.TheVariants.{Buy, Sell}
use Rattle.orders.specs.declared.order.Kind.TheVariants.{Displayed, NonDisplayed}
use Rattle.orders.specs.declared.order.Order.{Order}
use Rattle.record.specs.declared.execution.Execution.{Execution}
use Rattle.record.specs.Codec.{encode, decode}
use Rattle.orders.specs.Order.{size_of, with_interest, settled}
use Rattle.record.specs.Record.{numbers_of, order_of, numbers_sound, new_tells}
use Rattle.book.specs.Sound.{sound, orders_of, book_of}
use Rattle.matching.specs.declared.Algorithm.TheVariants.{PriceTime, ProRata, PriceSetter}
use Rattle.matching.specs.Levels.{price_levels}
use Rattle.matching.specs.Paragraph.{part_of}
use Rattle.matching.specs.Take.{allocation_at, allocations_at, allocations_over, allocations, executions_of, losses_of, Outcome, outcome}
use Rattle.matching.specs.TakeCall.{TakeAnswer, outcome_of, written, take_call}
use Rattle.matching.specs.Fairness.{reaching, counted, guaranteed, LotBounds}
use Rattle.matching.specs.ExampleBooks.{sell, marked, reserve, sells, bid, incoming, in_other, three_prices, every_kind}

-- an outcome's numbers: of the executions, their orders, prices, shares and paragraphs; the shares left
record Due : Type 0 where
  orders : List ℕ
  prices : List ℕ
  shares : List ℕ
  paragraphs : List ℕ
  left : ℕ

holds : Outcome → Due → Bool
holds o d =
    same_numbers (map (λ e. e.number) o.executions) d.orders
    && same_numbers (map (λ e. e.price.0) o.executions) d.prices
    && same_numbers (map (λ e. e.shares.0) o.executions) d.shares
    && same_numbers (map (λ e. e.paragraph) o.executions) d.paragraphs
    && eqb o.left d.left

prices : List Bool
prices =
    -- best price first, and nothing beyond the limit
    holds (outcome 100 ProRata (incoming Buy 100100 400) three_prices) (record {
      orders = 2 ∷ 1 ∷ [];
      prices = 100000 ∷ 100100 ∷ [];
      shares = 200 ∷ 200 ∷ [];
      paragraphs = 2 ∷ 2 ∷ [];
      left = 0;
    }) ∷
    holds (outcome 100 PriceSetter (incoming Buy 100100 999) three_prices) (record {
      orders = 2 ∷ 1 ∷ [];
      prices = 100000 ∷ 100100 ∷ [];
      shares = 200 ∷ 300 ∷ [];
      paragraphs = 2 ∷ 2 ∷ [];
      left = 499;
    }) ∷
    -- for an incoming sell the highest price is the best
    holds (outcome 100 PriceTime (incoming Sell 90000 350) (bid 1 100000 ∷ bid 2 100100 ∷ [])) (record {
      orders = 2 ∷ 1 ∷ [];
      prices = 100100 ∷ 100000 ∷ [];
      shares = 300 ∷ 50 ∷ [];
      paragraphs = 2 ∷ 2 ∷ [];
      left = 0;
    }) ∷ []

-- through all paragraphs
through : List Bool
through =
    holds (outcome 100 ProRata (incoming Buy 100000 1000) every_kind) (record {
      orders = 5 ∷ 1 ∷ 4 ∷ 3 ∷ 2 ∷ [];
      prices = 100000 ∷ 100000 ∷ 100000 ∷ 100000 ∷ 100000 ∷ [];
      shares = 100 ∷ 99 ∷ 300 ∷ 200 ∷ 50 ∷ [];
      paragraphs = 2 ∷ 3 ∷ 4 ∷ 5 ∷ 6 ∷ [];
      left = 251;
    }) ∷
    holds (outcome 100 PriceTime (incoming Buy 100000 700) every_kind) (record {
      orders = 1 ∷ 5 ∷ 2 ∷ 3 ∷ 4 ∷ [];
      prices = 100000 ∷ 100000 ∷ 100000 ∷ 100000 ∷ 100000 ∷ [];
      shares = 99 ∷ 100 ∷ 50 ∷ 200 ∷ 251 ∷ [];
      paragraphs = 2 ∷ 2 ∷ 3 ∷ 3 ∷ 3 ∷ [];
      left = 0;
    }) ∷ []

-- the orders that a buy at 100100 leaves, by number and size: what is left of one filled in part, no filled one, all beyond the limit
leaves : ℕ → List Order → List ℕ → List ℕ → Bool
leaves size os numbers sizes =
    let rest = (outcome 100 ProRata (incoming Buy 100100 size) os).orders in
    same_numbers (map (λ o. o.number) rest) numbers && same_numbers (map size_of rest) sizes

resting : List Bool
resting =
    leaves 200 (sells Displayed 1 (300 ∷ [])) (1 ∷ []) (100 ∷ []) ∷
    leaves 300 (sells Displayed 1 (300 ∷ [])) [] [] ∷
    leaves 999 three_prices (3 ∷ []) (100 ∷ []) ∷ []

-- a marked sell of each security at one price; of the second ones that of security 1 is the better
by_turns : List Order
by_turns = marked 1 300 ∷ in_other (marked 2 300) ∷ sell Displayed 3 100100 200 ∷ in_other (sell Displayed 4 100000 900) ∷ []

-- a buy of security 0 gets none of the other's, and the variation has its own setter
apart : List Bool
apart =
    holds (outcome 100 PriceSetter (incoming Buy 100100 600) by_turns) (record {
      orders = 1 ∷ 3 ∷ [];
      prices = 100000 ∷ 100100 ∷ [];
      shares = 300 ∷ 200 ∷ [];
      paragraphs = 2 ∷ 2 ∷ [];
      left = 100;
    }) ∷
    leaves 400 by_turns (2 ∷ 3 ∷ 4 ∷ []) (300 ∷ 100 ∷ 900 ∷ []) ∷ []

-- take on bytes: security; side, limit, size, algorithm
take_for : ℕ → ℕ → ℕ → ℕ → ℕ → List ℕ → List ℕ → TakeAnswer
take_for security side limit size algorithm =
    take_call (record { side = side; limit = limit; size = size; algorithm = algorithm; security = security })

take : ℕ → ℕ → ℕ → ℕ → List ℕ → List ℕ → TakeAnswer
take = take_for 0

-- the answer is this refusal with zeros, and the buffers are as they were
refused : ℕ → TakeAnswer → List ℕ → List ℕ → Bool
refused n a s x =
    eqb a.taken.refusal n && eqb a.taken.count 0 && eqb a.taken.left 0 && same_numbers a.book s && same_numbers a.executions x

accepted : TakeAnswer → ℕ → ℕ → Bool
accepted a count left = eqb a.taken.refusal 0 && eqb a.taken.count count && eqb a.taken.left left

book : List ℕ
book = book_of 3 three_prices

damaged : List ℕ
damaged = set book 119 1

short : List ℕ
short = replicate 31 7

room : List ℕ
room = replicate 64 7

with_marked : List ℕ
with_marked = book_of 4 (marked 1 300 ∷ sells Displayed 2 (250 ∷ 250 ∷ 200 ∷ []))

calls : List Bool
calls =
    -- the refusals, each before the next
    refused 1 (take 3 100100 400 2 damaged short) damaged short ∷
    refused 1 (take 1 0 400 2 book short) book short ∷
    refused 1 (take 1 100100 1000000 2 book short) book short ∷
    refused 1 (take 1 100100 400 4 book short) book short ∷
    refused 1 (take_for 2 1 100100 400 2 book short) book short ∷
    refused 2 (take 1 100100 400 2 damaged short) damaged short ∷
    refused 8 (take 1 100100 400 2 book short) book short ∷
    -- a buffer for one execution, of any length, is enough for one, and none is needed for none
    accepted (take 1 100100 200 2 book short) 1 0 ∷
    accepted (take 1 99999 200 2 book []) 0 200 ∷
    accepted (take 1 100000 10 1 [] []) 0 10 ∷
    -- security 1 has no order
    accepted (take_for 1 1 100100 400 2 book []) 0 400 ∷
    -- algorithms 1, 2 and 3: how many orders of 99 and 100 give 100 shares, and of a setter's 300 and 250, 250, 200 give 500
    accepted (take 1 100000 100 1 (book_of 2 (sells Displayed 1 (99 ∷ 100 ∷ []))) room) 2 0 ∷
    accepted (take 1 100000 100 2 (book_of 2 (sells Displayed 1 (99 ∷ 100 ∷ []))) room) 1 0 ∷
    accepted (take 1 100000 500 2 with_marked room) 4 0 ∷
    accepted (take 1 100000 500 3 with_marked room) 3 0 ∷ []

-- the bytes behind the last execution keep their content
behind : Bool
behind = same_numbers (drop 16 (take 1 100100 200 2 book short).executions) (replicate 15 7)

called : all (λ b. b) calls ≡ true
unfolding calls short room with_marked damaged book accepted refused take take_for take_call written outcome_of outcome losses_of executions_of allocations allocations_over allocations_at allocation_at part_of price_levels setter_sharing beside_setter lot_sharing round goes_round sound orders_of book_of encode decode numbers_of order_of numbers_sound new_tells with_interest settled
called = refl

behind_kept : behind ≡ true
unfolding behind short book take take_for take_call written outcome_of outcome losses_of executions_of allocations allocations_over allocations_at allocation_at part_of price_levels setter_sharing beside_setter lot_sharing round goes_round sound orders_of book_of encode decode numbers_of order_of numbers_sound new_tells with_interest settled
behind_kept = refl

prices_worked : all (λ b. b) prices ≡ true
unfolding prices holds outcome losses_of executions_of allocations allocations_over allocations_at allocation_at part_of price_levels setter_sharing beside_setter lot_sharing round goes_round with_interest settled
prices_worked = refl

apart_worked : all (λ b. b) apart ≡ true
unfolding apart by_turns leaves holds outcome losses_of executions_of allocations allocations_over allocations_at allocation_at part_of price_levels setter_sharing beside_setter lot_sharing round goes_round with_interest settled
apart_worked = refl

through_worked : all (λ b. b) through ≡ true
unfolding through holds outcome losses_of executions_of allocations allocations_over allocations_at allocation_at part_of price_levels lot_sharing round goes_round with_interest settled
through_worked = refl

resting_worked : all (λ b. b) resting ≡ true
unfolding resting leaves outcome losses_of executions_of allocations allocations_over allocations_at allocation_at part_of price_levels lot_sharing round goes_round with_interest settled
resting_worked = refl

-- The demand's words: what reaches each price where 200 were taken at 100000, for a buy and for a sell; what of an order counts at a
-- price; two fifths, rounded down, or the size.
taken200 : List Execution
taken200 = record { number = 2; price = record { 0 = 100000 }; shares = record { 0 = 200 }; paragraph = 2 } ∷ []

counts : ℕ → Order → Bool
counts n o = eqb (counted 100 (incoming Buy 100100 400) 100000 o) n

words : List Bool
words =
    eqb (reaching (incoming Buy 100100 400) taken200 100000) 400 ∷
    eqb (reaching (incoming Buy 100100 400) taken200 100100) 200 ∷
    eqb (reaching (incoming Sell 90000 400) taken200 100000) 400 ∷
    eqb (reaching (incoming Sell 90000 400) taken200 90000) 200 ∷
    counts 300 (sell Displayed 1 100000 300) ∷
    counts 100 (sell Displayed 1 100000 100) ∷
    counts 0 (sell Displayed 1 100000 99) ∷
    counts 0 (sell NonDisplayed 1 100000 300) ∷
    counts 0 (sell Displayed 1 100100 300) ∷
    counts 0 (bid 1 100000) ∷
    -- of a reserve order what it shows alone
    counts 100 (reserve 1 100 250 100) ∷
    counts 0 (reserve 1 99 250 100) ∷
    eqb (guaranteed 81 1000) 32 ∷
    eqb (guaranteed 84 1000) 33 ∷
    eqb (guaranteed 500 100) 100 ∷ []

worded : all (λ b. b) words ≡ true
unfolding words counts taken200 reaching counted
worded = refl

-- the rule's first example keeps the lot bounds, and its largest order reaches the upper one: 500 and a lot of 1,200 shares divided
reached : LotBounds 100 1200 1300 600 600
reached = record { at_least = omega arith; at_most = omega arith; within_size = omega arith }
