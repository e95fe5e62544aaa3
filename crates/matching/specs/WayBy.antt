-- A take's way through prices and paragraphs, by another saying of what of an order stands in a group at a price: what takes of earlier
-- times are said by.
use Rattle.std.specs.Prelude.{ℕ, ◌-◌, List, [], ◌∷◌, ◌++◌, map}
use Rattle.units.specs.Lists.{total}
use Rattle.sharing.specs.Rank.{Part}
use Rattle.orders.specs.declared.order.Order.{Order}
use Rattle.matching.specs.declared.Algorithm.{Algorithm}
use Rattle.matching.specs.declared.Paragraph.{Paragraph}
use Rattle.matching.specs.Paragraph.{paragraphs, Group, group_of, allot}
use Rattle.matching.specs.Take.{Allocation, used}

module _ (lot : ℕ) (alg : Algorithm) (part : ℕ → Group → Order → Part) (os : List Order) where
  -- one paragraph at one price
  unfoldable pub row_by : ℕ → Paragraph → ℕ → Allocation
  row_by price g left =
      let group = group_of lot alg g in
      record { price = price; paragraph = g; visibility = group.visibility; allotment = allot lot alg g left (map (part price group) os) }

  -- one price
  unfoldable pub rows_by : ℕ → List Paragraph → ℕ → List Allocation
  rows_by price [] left = []
  rows_by price (g ∷ gs) left =
      let a = row_by price g left in
      a ∷ rows_by price gs (left - used a)

  -- one price after another
  unfoldable pub levels_by : List ℕ → ℕ → List Allocation
  levels_by [] left = []
  levels_by (price ∷ prices) left =
      let level = rows_by price paragraphs left in
      level ++ levels_by prices (left - total used level)
