-- An incoming order taken through a book: price levels best first, at each the paragraphs in turn.
use Rattle.std.specs.Prelude.{ℕ, ◌-◌, ltb}
use mathlib.Core.List.{List, [], ◌∷◌, ◌++◌, map, foldr}
use Rattle.units.specs.Lists.{filter, total, sum, zip_with, flat_map, cons_if}
use Rattle.orders.specs.declared.order.Order.{Order}
use Rattle.orders.specs.declared.order.Taker.{Taker}
use Rattle.record.specs.declared.execution.Execution.{Execution}
use Rattle.orders.specs.Order.{Visibility, Interest, no_interest, only_of, together, settled, is_resting}
use Rattle.matching.specs.declared.Algorithm.{Algorithm}
use Rattle.matching.specs.declared.Paragraph.{Paragraph}
use Rattle.matching.specs.declared.incoming.Incoming.{Incoming}
use Rattle.matching.specs.Levels.{price_levels}
use Rattle.matching.specs.Paragraph.{paragraphs, paragraph_number, group_of, part_of, allot}

-- What one paragraph gives at one price. The allotment stands beside the book's orders: one number of shares each, of the visibility that
-- the paragraph's group has.
pub record Allocation : Type 0 where
  pub price : ℕ
  pub paragraph : Paragraph
  pub visibility : Visibility
  pub allotment : List ℕ

-- the shares of the incoming order that it uses up
abbrev pub used : Allocation → ℕ
used a = sum a.allotment

-- Groups and sizes are those of the book at entry; only the shares left go from one paragraph to the next.
module _ (lot : ℕ) (alg : Algorithm) (t : Taker) (os : List Order) where
  -- one paragraph at one price
  unfoldable pub allocation_at : ℕ → Paragraph → ℕ → Allocation
  allocation_at price g left =
      let group = group_of lot alg g in
      record {
        price = price;
        paragraph = g;
        visibility = group.visibility;
        allotment = allot lot alg g left (map (part_of t price group) os);
      }

  -- one price: the incoming order shrinks with each paragraph
  unfoldable pub allocations_at : ℕ → List Paragraph → ℕ → List Allocation
  allocations_at price [] left = []
  allocations_at price (g ∷ gs) left =
      let a = allocation_at price g left in
      a ∷ allocations_at price gs (left - used a)

  -- one price after another
  unfoldable pub allocations_over : List ℕ → ℕ → List Allocation
  allocations_over [] left = []
  allocations_over (price ∷ prices) left =
      let level = allocations_at price paragraphs left in
      level ++ allocations_over prices (left - total used level)

-- all that a take allots, best price first
unfoldable pub allocations : ℕ → Algorithm → Incoming → List Order → List Allocation
allocations lot alg i os = allocations_over lot alg i.taker os (price_levels i.taker os) i.size.0

-- one execution for each part that received shares, at the resting order's price
abbrev pub executions_by : ℕ → ℕ → List Order → List ℕ → List Execution
executions_by g price [] ns = []
executions_by g price (o ∷ os) [] = []
executions_by g price (o ∷ os) (n ∷ ns) =
    cons_if (ltb 0 n)
    (record { number = o.number; price = record { 0 = price }; shares = record { 0 = n }; paragraph = g })
    (executions_by g price os ns)

-- by price, then paragraph, then rising order number
unfoldable pub executions_of : List Order → List Allocation → List Execution
executions_of os rows = flat_map (λ a. executions_by (paragraph_number a.paragraph) a.price os a.allotment) rows

-- what each order lost of its interest
unfoldable pub losses_of : List Order → List Allocation → List Interest
losses_of os rows = foldr (λ a ls. zip_with together (map (only_of a.visibility) a.allotment) ls) (map (λ o. no_interest) os) rows

-- what a take yields: its executions, the shares left, and the orders afterwards
pub record Outcome : Type 0 where
  pub executions : List Execution
  pub left : ℕ
  pub orders : List Order

-- of allocations: a partly filled order keeps what is left of it, a reserve order refreshed where it shows none, and a filled one leaves
abbrev pub yielded : Incoming → List Order → List Allocation → Outcome
yielded i os rows = record {
  executions = executions_of os rows;
  left = i.size.0 - total used rows;
  orders = filter is_resting (zip_with settled (losses_of os rows) os);
}

-- of all that it allots
unfoldable pub outcome : ℕ → Algorithm → Incoming → List Order → Outcome
outcome lot alg i os = yielded i os (allocations lot alg i os)
