-- What the part of an order in the first paragraph gets over the price levels: its share there of what reaches its price.
use Prim.Native.Nat.{ℕ, ◌+◌, ◌-◌}
use mathlib.Core.Path.{◌≡◌, refl, sym, ap, ◌∙◌, subst}
use mathlib.Core.Bool.{true}
use mathlib.Core.List.{List, [], ◌∷◌, ◌++◌, Memᴰ}
use native.Mathlib.Omega.{arith}
use lib.Dec.{eqb}
use Rattle.units.specs.Lists.{or_zero, total}
use Rattle.units.proofs.Tests.{pick_zero, pick_add}
use Rattle.units.proofs.Members.{Every, every_member}
use Rattle.units.proofs.Totals.{total_append}
use Rattle.orders.specs.declared.order.Order.{Order}
use Rattle.orders.specs.declared.order.Taker.{Taker}
use Rattle.record.specs.declared.execution.Execution.{Execution}
use Rattle.orders.specs.Order.{price_of}
use Rattle.orders.specs.Trading.{is_better, is_tradable}
use Rattle.book.specs.Sound.{rising}
use Rattle.matching.specs.declared.Algorithm.{Algorithm}
use Rattle.matching.specs.declared.Paragraph.{Paragraph}
use Rattle.matching.specs.declared.Paragraph.TheVariants.{Two}
use Rattle.matching.specs.declared.incoming.Incoming.{Incoming}
use Rattle.matching.specs.Levels.{price_levels}
use Rattle.matching.specs.Paragraph.{group_of, part_of, paragraphs, paragraph_number}
use Rattle.matching.specs.Take.{Allocation, used, allocation_at, allocations_at, allocations_over, allocations, outcome}
use Rattle.matching.specs.Fairness.{gets, reaching}
use Rattle.matching.proofs.Levels.{Sorted, levels_sorted, levels_have, better_irreflexive, better_apart, better_asymmetric}
use Rattle.matching.proofs.Entries.{share_in, picked_entries, executed_at}
use Rattle.matching.proofs.Parts.{allot_share, parts_at, entry_is, entry_none, aligned_over}
use Rattle.matching.proofs.Groups.{other_price}

-- what the first paragraph at a price gives an order of the shares left
abbrev pub first_share : ℕ → Algorithm → Taker → List Order → ℕ → ℕ → Order → ℕ
first_share lot alg t os price left o = allot_share lot alg Two left (parts_at lot alg t os price Two) (part_of t price (group_of lot alg Two) o)

module _ (lot : ℕ) (alg : Algorithm) (t : Taker) (os : List Order) (rise : rising 0 os ≡ true) (o : Order) (i : Memᴰ o os) where
  -- what the order has of an allocation of the first paragraph, and of allocations
  abbrev got_of : Allocation → ℕ
  got_of a = or_zero (eqb (paragraph_number a.paragraph) (paragraph_number Two)) (share_in o.number os a.allotment)

  abbrev got : List Allocation → ℕ
  got rows = total got_of rows

  -- what allocations at prices better than its own use
  abbrev before : List Allocation → ℕ
  before rows = total (λ a. or_zero (is_better t.side a.price (price_of o)) (used a)) rows

  abbrev level : ℕ → ℕ → List Allocation
  level price left = allocations_at lot alg t os price paragraphs left

  abbrev over : List ℕ → ℕ → List Allocation
  over prices left = allocations_over lot alg t os prices left

  -- nothing at another price
  got_none : (price : ℕ) → ¬ (price_of o ≡ price) → (gs : List Paragraph) (left : ℕ) → got (allocations_at lot alg t os price gs left) ≡ 0
  unfolding allocations_at
  got_none price n [] left = refl
  got_none price n (g ∷ gs) left =
      let row = allocation_at lot alg t os price g left in
      let a = entry_none lot alg t os rise price g left o i (other_price t price (group_of lot alg g) o n) in
      let b = pick_zero (eqb (paragraph_number row.paragraph) (paragraph_number Two)) a in
      let c = got_none price n gs (left - used row) in
      omega arith

  before_level : (price : ℕ) (gs : List Paragraph) (left : ℕ)
      → before (allocations_at lot alg t os price gs left) ≡ or_zero (is_better t.side price (price_of o)) (total used (allocations_at lot alg t os price gs left))
  unfolding allocation_at allocations_at
  before_level price [] left = sym (pick_zero (is_better t.side price (price_of o)) refl)
  before_level price (g ∷ gs) left =
      let a = allocation_at lot alg t os price g left in
      let b = is_better t.side price (price_of o) in
      ap (λ n. or_zero b (used a) + n) (before_level price gs (left - used a)) ∙ pick_add b (used a) (total used (allocations_at lot alg t os price gs (left - used a)))

  got_append : (rows rest : List Allocation) → got (rows ++ rest) ≡ got rows + got rest
  got_append = total_append got_of

  before_append : (rows rest : List Allocation) → before (rows ++ rest) ≡ before rows + before rest
  before_append = total_append (λ a. or_zero (is_better t.side a.price (price_of o)) (used a))

  got_worse : (prices : List ℕ) → Every (λ q. is_better t.side (price_of o) q ≡ true) prices → (left : ℕ)
      → (got (over prices left) ≡ 0) × (before (over prices left) ≡ 0)
  unfolding allocations_over
  got_worse [] h left = (refl, refl)
  got_worse (q ∷ qs) h left =
      let rows = level q left in
      let rest = over qs (left - total used rows) in
      let w = got_worse qs h.1 (left - total used rows) in
      let a = got_none q (better_apart t.side (price_of o) q h.0) paragraphs left in
      let b = before_level q paragraphs left ∙ ap (λ c. or_zero c (total used rows)) (better_asymmetric t.side (price_of o) q h.0) in
      let c = got_append rows rest in
      let d = before_append rows rest in
      (omega (arith, w.0), omega (arith, w.1))

  -- its share of the first paragraph at its price
  abbrev share : ℕ → ℕ
  share left = first_share lot alg t os (price_of o) left o

  got_here : (left : ℕ) → got (level (price_of o) left) ≡ share left
  unfolding allocations_at allocation_at
  got_here left = omega (arith, entry_is lot alg t os rise (price_of o) Two left o i)

  got_over : (prices : List ℕ) → Sorted t.side prices → Memᴰ (price_of o) prices → (left : ℕ)
      → got (over prices left) ≡ share (left - before (over prices left))
  unfolding allocations_over
  got_over [] s x'' left = elim x'' [ ]
  got_over (q ∷ qs) s (Memᴰ.head e) left =
      subst (λ (p : ℕ). Every (λ x. is_better t.side p x ≡ true) qs → got (over (p ∷ qs) left) ≡ share (left - before (over (p ∷ qs) left))) e first s.0
    where
      first : Every (λ x. is_better t.side (price_of o) x ≡ true) qs → got (over (price_of o ∷ qs) left) ≡ share (left - before (over (price_of o ∷ qs) left))
      first h =
          let rows = level (price_of o) left in
          let rest = over qs (left - total used rows) in
          let w = got_worse qs h (left - total used rows) in
          let a = got_here left in
          let b = before_level (price_of o) paragraphs left ∙ ap (λ c. or_zero c (total used rows)) (better_irreflexive t.side (price_of o)) in
          let c = got_append rows rest in
          let d = before_append rows rest in
          let x : got (rows ++ rest) ≡ share left = omega (arith, w.0) in
          let y : left ≡ left - before (rows ++ rest) = omega (arith, w.1) in
          x ∙ ap share y
  got_over (q ∷ qs) s (Memᴰ.tail k) left =
      let rows = level q left in
      let rest = over qs (left - total used rows) in
      let z = every_member (λ x. is_better t.side q x ≡ true) qs s.0 (price_of o) k in
      let a = got_none q (λ e. better_apart t.side q (price_of o) z (sym e)) paragraphs left in
      let b = before_level q paragraphs left ∙ ap (λ c. or_zero c (total used rows)) z in
      let c = got_append rows rest in
      let d = before_append rows rest in
      let x : got (rows ++ rest) ≡ got rest = omega arith in
      let y : left - total used rows - before rest ≡ left - before (rows ++ rest) = omega arith in
      x ∙ got_over qs s.1 k (left - total used rows) ∙ ap share y

module _ (lot : ℕ) (alg : Algorithm) (i : Incoming) (os : List Order) where
  abbrev es : List Execution
  es = (outcome lot alg i os).executions

  -- what reaches a price is the incoming size less what the allocations at better prices use
  reaching_is : (price : ℕ)
      → reaching i es price ≡ i.size.0 - total (λ a. or_zero (is_better i.taker.side a.price price) (used a)) (allocations lot alg i os)
  unfolding reaching outcome allocations
  reaching_is price =
      ap (λ n. i.size.0 - n)
      (executed_at (λ p. is_better i.taker.side p price) os (allocations lot alg i os) (aligned_over lot alg i.taker os (price_levels i.taker os) i.size.0))

  module _ (rise : rising 0 os ≡ true) (o : Order) (m : Memᴰ o os) (e : is_tradable i.taker o ≡ true) where
    gets_own : gets es o ≡ first_share lot alg i.taker os (price_of o) (reaching i es (price_of o)) o
    unfolding gets outcome allocations
    gets_own =
        picked_entries (λ g. eqb g (paragraph_number Two)) os (allocations lot alg i os) o.number
        ∙ got_over lot alg i.taker os rise o m (price_levels i.taker os) (levels_sorted i.taker os) (levels_have i.taker os o m e) i.size.0
        ∙ ap (share lot alg i.taker os rise o m) (sym (reaching_is (price_of o)))

    -- what an order that may trade gets of the first paragraph is its share there of what reaches its price
    pub gets_share : (price : ℕ) → price_of o ≡ price → gets es o ≡ first_share lot alg i.taker os price (reaching i es price) o
    gets_share price at = rw (← at) gets_own
