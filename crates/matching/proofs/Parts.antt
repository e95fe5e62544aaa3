-- The parts of a book's orders in a group, and what each gets of an allotment, for every algorithm and paragraph.
use Prim.Native.Nat.{ℕ, ◌-◌, ◌≤◌}
use mathlib.Core.Path.{◌≡◌, refl, ap, ◌∙◌}
use mathlib.Core.Bool.{Bool, true, false, ◌&&◌}
use mathlib.Core.List.Memᴰ
use mathlib.Core.List.{List, [], ◌∷◌, map, Memᴰ}
use native.Mathlib.Omega.{arith}
use lib.Dec.{ltb, eqb}
use lib.ListN.{length, length-map}
use borrow.Author.Tests.{ltb-true}
use Rattle.units.specs.Lists.{or_zero, total}
use Rattle.units.proofs.Tests.{and_true}
use Rattle.units.proofs.Members.{Every, every_append}
use Rattle.units.proofs.Totals.{total_append}
use Rattle.sharing.specs.Rank.{Part, no_part, part_size, Rising}
use Rattle.sharing.proofs.Methods.{share_by, by_map, by_none}
use Rattle.orders.specs.declared.order.Order.{Order}
use Rattle.orders.specs.declared.order.Taker.{Taker}
use Rattle.orders.specs.Order.{Visibility, shares_of, interest_of, minimum_of, price_of}
use Rattle.orders.specs.Trading.{is_opposite_of}
use Rattle.book.specs.Sound.{rising}
use Rattle.matching.specs.declared.Algorithm.{Algorithm}
use Rattle.matching.specs.declared.Paragraph.{Paragraph}
use Rattle.matching.specs.Paragraph.{Group, group_of, in_group, part_of, paragraphs, method_of}
use Rattle.matching.specs.Take.{Allocation, used, allocation_at, allocations_at, allocations_over}
use Rattle.matching.proofs.Entries.{share_in, lookup, Aligned}

-- all that an order has of a visibility
abbrev pub whole_part : Visibility → Order → Part
whole_part v o = record { number = o.number; size = shares_of v (interest_of o); minimum = minimum_of o.kind; setter = o.setter }

module _ (t : Taker) (price : ℕ) (g : Group) where
  -- the order stands in the group at the price
  abbrev pub stands : Order → Bool
  stands o = is_opposite_of t o && eqb (price_of o) price && in_group g o

  -- an order that stands there has all its shares of the group's visibility in it
  pub part_in_lem : (o : Order) → stands o ≡ true → part_of t price g o ≡ whole_part g.visibility o
  unfolding part_of
  part_in_lem o e = rw e

  -- any other order has a part of size 0
  pub part_out : (o : Order) → stands o ≡ false → part_of t price g o ≡ no_part o.number
  unfolding part_of
  part_out o e = rw e

  -- a part has its order's number
  pub part_number : (o : Order) → (part_of t price g o).number ≡ o.number
  part_number o = go (stands o) refl
    where
      go : (b : Bool) → stands o ≡ b → (part_of t price g o).number ≡ o.number
      go true e = rw (part_in_lem o e)
      go false e = rw (part_out o e)

  -- a part's size: the order's shares of the group's visibility, where it stands there
  pub part_size_lem : (o : Order) → (part_of t price g o).size ≡ or_zero (stands o) (shares_of g.visibility (interest_of o))
  part_size_lem o = go (stands o) refl
    where
      go : (b : Bool) → stands o ≡ b → (part_of t price g o).size ≡ or_zero b (shares_of g.visibility (interest_of o))
      go true e = rw (part_in_lem o e)
      go false e = rw (part_out o e)

  -- the parts' numbers rise as the orders' do
  pub parts_rising : (m : ℕ) (os : List Order) → rising m os ≡ true → Rising m (map (part_of t price g) os)
  parts_rising m [] r = tt
  parts_rising m (o ∷ os) r =
      let a = and_true (ltb m o.number) (rising o.number os) r in
      rw (part_number o) (ltb-true m o.number a.0, parts_rising o.number os a.1)

-- what a paragraph gives a part of the shares left
abbrev pub allot_share : ℕ → Algorithm → Paragraph → ℕ → List Part → Part → ℕ
allot_share lot alg g left ps = share_by (method_of alg g) lot left ps

module _ (lot : ℕ) (alg : Algorithm) (t : Taker) (os : List Order) where
  -- the parts of a paragraph at a price
  abbrev pub parts_at : ℕ → Paragraph → List Part
  parts_at price g = map (part_of t price (group_of lot alg g)) os

  -- an allotment is what each part gets
  pub allotted : (price : ℕ) (g : Paragraph) (left : ℕ)
      → (allocation_at lot alg t os price g left).allotment ≡ map (allot_share lot alg g left (parts_at price g)) (parts_at price g)
  unfolding allocation_at
  allotted price g left = by_map (method_of alg g) lot left (parts_at price g)

  -- what holds of every allocation holds of those over any price levels
  module _ (P : Allocation → Type 0) (h : (price : ℕ) (g : Paragraph) (left : ℕ) → P (allocation_at lot alg t os price g left)) where
    every_at : (price : ℕ) (gs : List Paragraph) (left : ℕ) → Every P (allocations_at lot alg t os price gs left)
    unfolding allocations_at
    every_at price [] left = tt
    every_at price (g ∷ gs) left = (h price g left, every_at price gs (left - used (allocation_at lot alg t os price g left)))

    pub every_over : (prices : List ℕ) (left : ℕ) → Every P (allocations_over lot alg t os prices left)
    unfolding allocations_over
    every_over [] left = tt
    every_over (price ∷ prices) left =
        let level = allocations_at lot alg t os price paragraphs left in
        every_append P level (allocations_over lot alg t os prices (left - total used level)) (every_at price paragraphs left)
        (every_over prices (left - total used level))

  -- a number of an allocation that is bounded at each price and paragraph is bounded over any price levels
  module _ (f : Allocation → ℕ) (most : ℕ → Paragraph → ℕ)
      (h : (price : ℕ) (g : Paragraph) (left : ℕ) → f (allocation_at lot alg t os price g left) ≤ most price g)
    where
      most_at : (price : ℕ) (gs : List Paragraph) (left : ℕ) → total f (allocations_at lot alg t os price gs left) ≤ total (most price) gs
      unfolding allocations_at
      most_at price [] left = omega arith
      most_at price (g ∷ gs) left =
          omega (arith, h price g left, most_at price gs (left - used (allocation_at lot alg t os price g left)))

      pub most_over : (prices : List ℕ) (left : ℕ)
          → total f (allocations_over lot alg t os prices left) ≤ total (λ price. total (most price) paragraphs) prices
      unfolding allocations_over
      most_over [] left = omega arith
      most_over (price ∷ prices) left =
          let level = allocations_at lot alg t os price paragraphs left in
          let rest = allocations_over lot alg t os prices (left - total used level) in
          omega (arith, total_append f level rest, most_at price paragraphs left, most_over prices (left - total used level))

  -- they have one number for each order
  pub aligned_over : (prices : List ℕ) (left : ℕ) → Aligned os (allocations_over lot alg t os prices left)
  aligned_over = every_over (λ a. length a.allotment ≡ length os) (λ price g left. rw (allotted price g left, length-map, length-map))

  module _ (rise : rising 0 os ≡ true) (price : ℕ) (g : Paragraph) (left : ℕ) (o : Order) (i : Memᴰ o os) where
    -- an order's entry is what its part gets
    pub entry_is : share_in o.number os (allocation_at lot alg t os price g left).allotment
        ≡ allot_share lot alg g left (parts_at price g) (part_of t price (group_of lot alg g) o)
    entry_is = rw (allotted price g left) (lookup (allot_share lot alg g left (parts_at price g)) (part_of t price (group_of lot alg g)) 0 os rise o i)

    -- an order whose part has no size is given nothing
    pub part_none : (part_of t price (group_of lot alg g) o).size ≡ 0 → allot_share lot alg g left (parts_at price g) (part_of t price (group_of lot alg g) o) ≡ 0
    part_none z =
        let group = group_of lot alg g in
        by_none 0 (parts_at price g) (parts_rising t price group 0 os rise) (part_of t price group o) (Memᴰ.map (part_of t price group) i) z (method_of alg g) lot left

    -- nor one that doesn't stand there
    pub share_none : stands t price (group_of lot alg g) o ≡ false
        → ltb 0 (allot_share lot alg g left (parts_at price g) (part_of t price (group_of lot alg g) o)) ≡ false
    share_none e = ap (ltb 0) (part_none (ap part_size (part_out t price (group_of lot alg g) o e)))

    -- the entry of an order whose part has no size says that it is given nothing
    pub entry_none : (part_of t price (group_of lot alg g) o).size ≡ 0 → share_in o.number os (allocation_at lot alg t os price g left).allotment ≡ 0
    entry_none z = entry_is ∙ part_none z
