-- Worked values of the paragraph that an execution names, computed by the checker: takes on bytes, and bytes that name it wrongly.
use Rattle.std.specs.Prelude.{ℕ, zero, suc, ◌≡◌, refl, Bool, true, T, get_or, drop, set, replicate}
use Rattle.std.proofs.Common.{sym, ap, subst, ◌∙◌, arith}
use mathlib.Core.List.Memᴰ
use mathlib.Core.List.{List, [], ◌∷◌, Memᴰ}
use Rattle.units.specs.Lists.{all, same_numbers}
use Rattle.sharing.specs.Round.{goes_round, round}
use Rattle.sharing.specs.Lots.{lot_sharing}
use Rattle.sharing.specs.Setter.{beside_setter, setter_sharing}
use Rattle.orders.specs.declared.order.Kind.TheVariants.{Displayed, NonDisplayed}
use Rattle.orders.specs.declared.order.Order.{Order}
use Rattle.orders.specs.Order.{shown, hidden, with_interest, settled}
use Rattle.record.specs.Codec.{encode, decode}
use Rattle.record.specs.Record.{numbers_of, order_of, numbers_sound, new_tells}
use Rattle.record.specs.Execution.{execution_bytes, encode_execution, execution_of, decode_execution}
use Rattle.book.specs.Sound.{sound, orders_of, book_of}
use Rattle.matching.specs.declared.Algorithm.TheVariants.{PriceTime, ProRata}
use Rattle.matching.specs.declared.Paragraph.{Paragraph}
use Rattle.matching.specs.declared.Paragraph.TheVariants.{Two, Three, Four, Five, Six}
use Rattle.matching.specs.Levels.{price_levels}
use Rattle.matching.specs.Paragraph.{paragraph_number, group_of, in_group, part_of}
use Rattle.matching.specs.Take.{allocation_at, allocations_at, allocations_over, allocations, executions_of, losses_of, outcome}
use Rattle.matching.specs.TakeCall.{outcome_of, written, take_call}
use Rattle.matching.specs.Naming.{Named, NamedTake}
use Rattle.matching.specs.ExampleBooks.{sell, marked, minimum, reserve, sells}

-- of so many executions from the start of a buffer: number, byte 2 and byte 3
told : ℕ → List ℕ → List ℕ
told zero x = []
told (suc n) x = (decode_execution x).number ∷ get_or x 2 0 ∷ get_or x 3 0 ∷ told n (drop execution_bytes x)

-- a buy of this size at 100100 under an algorithm tells so
tells : ℕ → ℕ → List ℕ → List ℕ → Bool
tells algorithm size s due =
    let a = take_call (record { side = 1; limit = 100100; size = size; algorithm = algorithm; security = 0 }) s (replicate 80 7) in
    same_numbers (told a.taken.count a.executions) due

-- one order for each paragraph of pro rata
five : List ℕ
five = book_of 5 (sell Displayed 1 100000 300 ∷ sell Displayed 2 100000 40 ∷ sell NonDisplayed 3 100000 200 ∷ minimum 4 100 50 ∷ sell NonDisplayed 5 100000 30 ∷ [])

-- case k of the scope
k : List ℕ
k = book_of 2 (sell NonDisplayed 1 100000 50 ∷ minimum 2 200 200 ∷ [])

-- at the best price nothing is displayed
two : List ℕ
two = book_of 4 (sell Displayed 1 100100 300 ∷ sell NonDisplayed 2 100000 30 ∷ sell NonDisplayed 3 100000 200 ∷ sell Displayed 4 100100 50 ∷ [])

-- each paragraph of pro rata
each : Bool
each = tells 2 670 five (1 ∷ 2 ∷ 0 ∷ 2 ∷ 3 ∷ 0 ∷ 3 ∷ 4 ∷ 0 ∷ 4 ∷ 5 ∷ 0 ∷ 5 ∷ 6 ∷ 0 ∷ [])

values : List Bool
values =
    tells 1 670 five (1 ∷ 2 ∷ 0 ∷ 2 ∷ 2 ∷ 0 ∷ 3 ∷ 3 ∷ 0 ∷ 4 ∷ 3 ∷ 0 ∷ 5 ∷ 3 ∷ 0 ∷ []) ∷
    tells 1 220 k (1 ∷ 3 ∷ 0 ∷ []) ∷
    tells 2 220 k (2 ∷ 5 ∷ 0 ∷ 1 ∷ 6 ∷ 0 ∷ []) ∷
    -- each price begins anew
    tells 2 580 two (3 ∷ 4 ∷ 0 ∷ 2 ∷ 6 ∷ 0 ∷ 1 ∷ 2 ∷ 0 ∷ 4 ∷ 3 ∷ 0 ∷ []) ∷
    tells 1 580 two (2 ∷ 3 ∷ 0 ∷ 3 ∷ 3 ∷ 0 ∷ 1 ∷ 2 ∷ 0 ∷ 4 ∷ 2 ∷ 0 ∷ []) ∷
    -- a setter and the others beside it
    tells 3 500 (book_of 4 (marked 1 300 ∷ sells Displayed 2 (250 ∷ 250 ∷ 200 ∷ []))) (1 ∷ 2 ∷ 0 ∷ 2 ∷ 2 ∷ 0 ∷ 3 ∷ 2 ∷ 0 ∷ []) ∷
    -- both parts of a reserve order
    tells 2 350 (book_of 1 (reserve 1 100 250 100 ∷ [])) (1 ∷ 2 ∷ 0 ∷ 1 ∷ 4 ∷ 0 ∷ []) ∷ []

worked : all (λ b. b) values ≡ true
unfolding values tells told five k two take_call written outcome_of outcome losses_of executions_of allocations allocations_over allocations_at allocation_at part_of price_levels setter_sharing beside_setter lot_sharing round goes_round sound orders_of book_of encode decode numbers_of order_of numbers_sound new_tells execution_of with_interest settled
worked = refl

each_worked : each ≡ true
unfolding each tells told five take_call written outcome_of outcome losses_of executions_of allocations allocations_over allocations_at allocation_at part_of price_levels lot_sharing round goes_round sound orders_of book_of encode decode numbers_of order_of numbers_sound new_tells execution_of with_interest settled
each_worked = refl

-- a minimum quantity order, and the bytes of an execution of it with this in byte 2
abbrev fourth : Order
fourth = minimum 4 100 50

bytes : ℕ → List ℕ
bytes p = encode_execution (record { number = 4; price = record { 0 = 100000 }; shares = record { 0 = 70 }; paragraph = p })

shown_hidden : shown ≡ hidden → ⊥
shown_hidden e = let z : ◌≡◌ {A = ℕ} 0 1 = cc in omega arith

-- under price/time it is in the group of paragraph 3 and no other
alone : (g : Paragraph) → T (in_group (group_of 100 PriceTime g) fourth) → g ≡ Three
alone Two i = absurd i
alone Three i = refl
alone Four i = absurd i
alone Five i = absurd i
alone Six i = absurd i

named : Named 100 PriceTime (fourth ∷ []) (bytes 3)
unfolding bytes encode decode execution_of
named = record { order = fourth; member = Memᴰ.head refl; number = refl; paragraph = Three; inside = tt; alone = λ g v. alone g; byte2 = refl; byte3 = refl }

-- each part of a reserve order is in a group, and the execution of either names its paragraph
both : Order
both = reserve 4 100 250 100

alone_shown : (g : Paragraph) → (group_of 100 ProRata g).visibility ≡ shown → T (in_group (group_of 100 ProRata g) both) → g ≡ Two
unfolding both
alone_shown Two e i = refl
alone_shown Three e i = absurd i
alone_shown Four e i = absurd (shown_hidden (sym e))
alone_shown Five e i = absurd i
alone_shown Six e i = absurd i

alone_hidden : (g : Paragraph) → (group_of 100 ProRata g).visibility ≡ hidden → T (in_group (group_of 100 ProRata g) both) → g ≡ Four
unfolding both
alone_hidden Two e i = absurd (shown_hidden e)
alone_hidden Three e i = absurd i
alone_hidden Four e i = refl
alone_hidden Five e i = absurd i
alone_hidden Six e i = absurd i

both_named : Named 100 ProRata (both ∷ []) (bytes 2) × Named 100 ProRata (both ∷ []) (bytes 4)
unfolding both bytes encode decode execution_of
both_named = (
  record { order = both; member = Memᴰ.head refl; number = refl; paragraph = Two; inside = tt; alone = alone_shown; byte2 = refl; byte3 = refl },
  record { order = both; member = Memᴰ.head refl; number = refl; paragraph = Four; inside = tt; alone = alone_hidden; byte2 = refl; byte3 = refl },
)

-- the execution is of the order, and byte 2 is 3
only : {o p : Order} → Memᴰ o (p ∷ []) → o ≡ p
only (Memᴰ.head e) = e
only (Memᴰ.tail m) = absurd (Memᴰ.not-nil m)

three : {x : List ℕ} → Named 100 PriceTime (fourth ∷ []) x → get_or x 2 0 ≡ 3
three n = n.byte2 ∙ ap paragraph_number (alone n.paragraph (subst (λ (o : Order). T (in_group (group_of 100 PriceTime n.paragraph) o)) (only n.member) n.inside))

-- neither its place, nor its number under pro rata; not in byte 3 too; of no other order
misnamed : (Named 100 PriceTime (fourth ∷ []) (bytes 1) → ⊥) × (Named 100 PriceTime (fourth ∷ []) (bytes 5) → ⊥)
    × (Named 100 PriceTime (fourth ∷ []) (set (bytes 3) 3 3) → ⊥) × (Named 100 PriceTime (fourth ∷ []) (set (bytes 3) 4 5) → ⊥)
unfolding bytes encode decode execution_of
misnamed = (λ n. omega (arith, three n), λ n. omega (arith, three n), λ n. omega (arith, n.byte3), λ n. omega (arith, n.number, ap (λ (o : Order). o.number) (only n.member)))

-- an order without shares is in no group, so that no number is right
nowhere : Named 100 PriceTime (minimum 4 0 0 ∷ []) (bytes 3) → ⊥
nowhere n = go n.paragraph (subst (λ (o : Order). T (in_group (group_of 100 PriceTime n.paragraph) o)) (only n.member) n.inside)
  where
    go : (g : Paragraph) → T (in_group (group_of 100 PriceTime g) (minimum 4 0 0)) → ⊥
    go Two i = i
    go Three i = i
    go Four i = i
    go Five i = i
    go Six i = i

-- so an answer with such bytes is convicted
answered_misnamed : NamedTake (record { side = 1; limit = 100000; size = 70; algorithm = 1; security = 0 }) (book_of 1 (fourth ∷ [])) (record {
  taken = record { refusal = 0; count = 1; left = 0 };
  book = book_of 1 (minimum 4 30 30 ∷ []);
  executions = bytes 5;
}) → ⊥
unfolding bytes orders_of book_of encode decode numbers_of order_of execution_of
answered_misnamed f = omega (arith, three (f refl 0 (omega arith)))
