-- Takes that the fairness demand convicts, computed by the checker: one that shares only at the first price, one that shares only in the
-- first paragraph, and hands back the rest, and one that hands back everything.
use Rattle.std.specs.Prelude.{refl, List, [], ◌∷◌, take}
use mathlib.Core.List.Memᴰ
use Rattle.std.proofs.Common.{arith}
use Rattle.sharing.specs.Round.{goes_round, round}
use Rattle.sharing.specs.Lots.{lot_sharing}
use Rattle.orders.specs.declared.order.Side.TheVariants.{Buy}
use Rattle.orders.specs.declared.order.Order.{Order}
use Rattle.orders.specs.Order.{with_interest, settled}
use Rattle.record.specs.Codec.{encode, decode}
use Rattle.record.specs.Record.{numbers_of, order_of}
use Rattle.book.specs.Sound.{orders_of, book_of}
use Rattle.matching.specs.declared.Algorithm.TheVariants.{ProRata}
use Rattle.matching.specs.declared.Paragraph.TheVariants.{Two}
use Rattle.matching.specs.declared.incoming.Incoming.{Incoming}
use Rattle.matching.specs.Levels.{price_levels}
use Rattle.matching.specs.Paragraph.{part_of}
use Rattle.matching.specs.Take.{allocation_at, allocations_at, allocations_over, executions_of, losses_of, Outcome, yielded}
use Rattle.matching.specs.Fairness.{Fair, FairTake}
use Rattle.matching.specs.ExampleBooks.{incoming, three_prices, every_kind}

-- the demand of an outcome under pro rata, with a lot of 100
abbrev FairOutcome : Incoming → List Order → Outcome → Type 0
FairOutcome i os o = Fair 100 ProRata i os o.executions o.left o.orders

-- a buy of 400 up to 100100 takes 200 at 100000 and gives up, though 300 more are offered at 100100
first_price : Outcome
first_price =
    let i = incoming Buy 100100 400 in
    yielded i three_prices (allocations_over 100 ProRata i.taker three_prices (take 1 (price_levels i.taker three_prices)) 400)

first_price_unfair : FairOutcome (incoming Buy 100100 400) three_prices first_price → ⊥
unfolding first_price losses_of executions_of allocations_over allocations_at allocation_at part_of price_levels lot_sharing round goes_round with_interest settled
first_price_unfair f = (f.unmet (omega arith) _ (Memᴰ.head refl) tt).0

-- a buy of 1,000 takes the displayed round lot and gives up, though four more orders of the price would sell
first_paragraph : Outcome
first_paragraph =
    let i = incoming Buy 100000 1000 in
    yielded i every_kind (allocations_at 100 ProRata i.taker every_kind 100000 (Two ∷ []) 1000)

first_paragraph_unfair : FairOutcome (incoming Buy 100000 1000) every_kind first_paragraph → ⊥
unfolding first_paragraph losses_of executions_of allocations_at allocation_at part_of lot_sharing round goes_round with_interest settled
first_paragraph_unfair f = (f.unmet (omega arith) _ (Memᴰ.head refl) tt).0

-- on bytes: the same buy of 400 is accepted, executes nothing and leaves everything as it was
idle_unfair : FairTake (record { side = 1; limit = 100100; size = 400; algorithm = 2; security = 0 }) (book_of 3 three_prices) (record {
  taken = record { refusal = 0; count = 0; left = 400 };
  book = book_of 3 three_prices;
  executions = [];
}) → ⊥
unfolding orders_of book_of encode decode numbers_of order_of
idle_unfair f = ((f refl).unmet (omega arith) _ (Memᴰ.head refl) tt).0
