-- The paragraphs of all price levels in one row, and the allocations along them.
use Prim.Native.Nat.{ℕ, ◌+◌, ◌-◌, ◌≤◌, ◌<◌}
use mathlib.Core.Path.{◌≡◌, refl, ap, ◌∙◌}
use mathlib.Core.Bool.{true}
use mathlib.Core.List.{List, [], ◌∷◌, ◌++◌, map}
use native.Mathlib.Omega.{arith}
use native.Mathlib.Nat.{sub-zero}
use Rattle.units.specs.Lists.{total, flat_map}
use Rattle.units.proofs.Members.{Every}
use Rattle.orders.specs.declared.order.Side.{Side}
use Rattle.orders.specs.declared.order.Order.{Order}
use Rattle.orders.specs.declared.order.Taker.{Taker}
use Rattle.orders.specs.Trading.{within_limit}
use Rattle.matching.specs.declared.Algorithm.{Algorithm}
use Rattle.matching.specs.declared.Paragraph.{Paragraph}
use Rattle.matching.specs.Paragraph.{paragraphs}
use Rattle.matching.specs.Take.{Allocation, used, allocation_at, allocations_at, allocations_over}
use Rattle.allocation.proofs.Cells.{cell}

-- a price and a paragraph
abbrev pub Cell : Type 0
Cell = ℕ × Paragraph

-- the paragraphs of a price
abbrev pub cells_at : ℕ → List Paragraph → List Cell
cells_at price gs = map (λ g. (price, g)) gs

-- those of all prices
abbrev pub cells_over : List ℕ → List Cell
cells_over prices = flat_map (λ price. cells_at price paragraphs) prices

-- the number of a cell's group
abbrev pub number_of : Side → Cell → ℕ
number_of side c = cell side c.0 c.1

-- each is before all that follow it
abbrev pub Ascends : Side → List Cell → Type 0
Ascends side [] = Unit {0}
Ascends side (c ∷ cs) = Every (λ d. number_of side c < number_of side d) cs × Ascends side cs

-- a price that can be, within the taker's limit
abbrev pub Fine : Taker → Cell → Type 0
Fine t c = (c.0 ≤ 2000000000) × (within_limit t.side t.limit.0 c.0 ≡ true)

module _ (lot : ℕ) (alg : Algorithm) (t : Taker) (os : List Order) where
  -- one after another
  unfoldable pub along : List Cell → ℕ → List Allocation
  along [] left = []
  along (c ∷ cs) left = let a = allocation_at lot alg t os c.0 c.1 left in a ∷ along cs (left - used a)

  along_at : (price : ℕ) (gs : List Paragraph) (cs : List Cell) (left : ℕ)
      → allocations_at lot alg t os price gs left ++ along cs (left - total used (allocations_at lot alg t os price gs left)) ≡ along (cells_at price gs ++ cs) left
  unfolding along allocations_at
  along_at price [] cs left = ap (along cs) (sub-zero left)
  along_at price (g ∷ gs) cs left =
      let a = allocation_at lot alg t os price g left in
      let n = total used (allocations_at lot alg t os price gs (left - used a)) in
      let e : left - (used a + n) ≡ left - used a - n = omega arith in
      ap (λ rows. a ∷ rows)
      (ap (λ k. allocations_at lot alg t os price gs (left - used a) ++ along cs k) e ∙ along_at price gs cs (left - used a))

  -- the allocations of all price levels
  pub along_over : (prices : List ℕ) (left : ℕ) → allocations_over lot alg t os prices left ≡ along (cells_over prices) left
  unfolding allocations_over along
  along_over [] left = refl
  along_over (price ∷ prices) left =
      let level = allocations_at lot alg t os price paragraphs left in
      ap (λ rows. level ++ rows) (along_over prices (left - total used level)) ∙ along_at price paragraphs (cells_over prices) left
