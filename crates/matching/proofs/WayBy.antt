-- Where every order has the parts that it has now, a way by other parts is that of take.
use Prim.Native.Nat.{ℕ, ◌-◌}
use mathlib.Core.Path.{◌≡◌, refl}
use mathlib.Core.List.{List, [], ◌∷◌, Memᴰ}
use Rattle.units.specs.Lists.{total}
use Rattle.units.proofs.Totals.{map_same}
use Rattle.sharing.specs.Rank.{Part}
use Rattle.orders.specs.declared.order.Order.{Order}
use Rattle.orders.specs.declared.order.Taker.{Taker}
use Rattle.matching.specs.declared.Algorithm.{Algorithm}
use Rattle.matching.specs.declared.Paragraph.{Paragraph}
use Rattle.matching.specs.Paragraph.{paragraphs, Group, group_of, part_of}
use Rattle.matching.specs.Take.{used, allocation_at, allocations_at, allocations_over}
use Rattle.matching.specs.WayBy.{row_by, rows_by, levels_by}

module _ (lot : ℕ) (alg : Algorithm) (t : Taker) (part : ℕ → Group → Order → Part) (os : List Order) (same : (price : ℕ) (g : Group) (o : Order) → Memᴰ o os → part price g o ≡ part_of t price g o) where
  row_by_lem : (price : ℕ) (g : Paragraph) (left : ℕ) → row_by lot alg part os price g left ≡ allocation_at lot alg t os price g left
  unfolding row_by allocation_at
  row_by_lem price g left = rw (map_same {f = part price (group_of lot alg g)} {g = part_of t price (group_of lot alg g)} os (same price (group_of lot alg g)))

  rows_by_lem : (price : ℕ) (gs : List Paragraph) (left : ℕ) → rows_by lot alg part os price gs left ≡ allocations_at lot alg t os price gs left
  unfolding rows_by allocations_at
  rows_by_lem price [] left = refl
  rows_by_lem price (g ∷ gs) left = rw (row_by_lem price g left, rows_by_lem price gs (left - used (allocation_at lot alg t os price g left)))

  pub levels_by_lem : (prices : List ℕ) (left : ℕ) → levels_by lot alg part os prices left ≡ allocations_over lot alg t os prices left
  unfolding levels_by allocations_over
  levels_by_lem [] left = refl
  levels_by_lem (price ∷ prices) left =
      rw (rows_by_lem price paragraphs left, levels_by_lem prices (left - total used (allocations_at lot alg t os price paragraphs left)))
