-- Where no order is a reserve order, a take gives what it gave before there were any.
use Prim.Native.Nat.{ℕ}
use mathlib.Core.Path.{◌≡◌, refl, sym, ap, ◌∙◌}
use mathlib.Core.Bool.{Bool, true, false, not, true≢false}
use mathlib.Core.List.{List, [], ◌∷◌, Memᴰ}
use native.Mathlib.Nat.{zero-add, add-zero}
use lib.Dec.{ltb}
use borrow.Author.Tests.{not-true}
use Rattle.units.specs.Lists.{filter, cons_if, zip_with}
use Rattle.units.specs.Lots.{round_lot}
use Rattle.units.proofs.Tests.{and_true}
use Rattle.units.proofs.Members.{all_member}
use Rattle.orders.specs.declared.order.Kind.{Kind}
use Rattle.orders.specs.declared.order.Kind.TheVariants.{Displayed, NonDisplayed, MinimumQuantity, Reserve}
use Rattle.orders.specs.declared.order.Order.{Order}
use Rattle.orders.specs.declared.order.Taker.{Taker}
use Rattle.orders.specs.Order.{Interest, less, all_shares, interest_by, interest_of, size_from, kind_from, with_interest, settled, is_resting, is_reserve, size_of}
use Rattle.record.proofs.Settling.{settled_reserve}
use Rattle.book.specs.Sound.{orders_of}
use Rattle.matching.specs.declared.Algorithm.{Algorithm}
use Rattle.matching.specs.declared.TakeRequest.{TakeRequest}
use Rattle.matching.specs.declared.incoming.Incoming.{Incoming}
use Rattle.matching.specs.Levels.{price_levels}
use Rattle.matching.specs.Paragraph.{algorithm_of, Group, part_of}
use Rattle.matching.specs.Take.{allocations, losses_of, outcome}
use Rattle.matching.specs.TakeCall.{incoming_of, outcome_of, take_call}
use Rattle.matching.specs.Parts.{without_reserve}
use Rattle.matching.specs.Before.{interest_before, size_before, kind_before, settled_before, part_before, outcome_before, BeforeTake}
use Rattle.matching.proofs.WayBy.{levels_by_lem}
use Rattle.matching.proofs.Taking.{take_orders, take_left, take_executions}

-- Of kinds 1 to 3.
same_interest : (k : Kind) (n : ℕ) → is_reserve k ≡ false → interest_before k n ≡ interest_by k n
same_interest Displayed n e = refl
same_interest NonDisplayed n e = refl
same_interest (MinimumQuantity m) n e = refl
same_interest (Reserve h r) n e = absurd (true≢false e)

same_size : (k : Kind) (i : Interest) → is_reserve k ≡ false → size_before k i ≡ size_from k i
same_size Displayed i e = refl
same_size NonDisplayed i e = refl
same_size (MinimumQuantity m) i e = refl
same_size (Reserve h r) i e = absurd (true≢false e)

same_kind : (k : Kind) (i : Interest) → is_reserve k ≡ false → kind_before k i ≡ kind_from k i
same_kind Displayed i e = refl
same_kind NonDisplayed i e = refl
same_kind (MinimumQuantity m) i e = refl
same_kind (Reserve h r) i e = absurd (true≢false e)

-- all that they have is their size
whole : (k : Kind) (n : ℕ) → is_reserve k ≡ false → n ≡ all_shares (interest_by k n)
whole Displayed n e = sym (add-zero n)
whole NonDisplayed n e = sym (zero-add n)
whole (MinimumQuantity m) n e = sym (zero-add n)
whole (Reserve h r) n e = absurd (true≢false e)

-- Of an order of theirs.
module _ (o : Order) (e : is_reserve o.kind ≡ false) where
  same_part : (t : Taker) (price : ℕ) (g : Group) → part_before t price g o ≡ part_of t price g o
  unfolding part_before part_of
  same_part t price g = rw (same_interest o.kind (size_of o) e)

  same_settled : (l : Interest) → settled_before l o ≡ settled l o
  unfolding settled_before settled with_interest
  same_settled l =
      let i = less (interest_of o) l in
      rw (same_interest o.kind (size_of o) e, same_kind o.kind i e, same_size o.kind i e)

  same_rests : ltb 0 (size_of o) ≡ is_resting o
  same_rests = ap (ltb 0) (whole o.kind (size_of o) e)

-- Of a list without reserve orders.
same_left : (ls : List Interest) (os : List Order) → without_reserve os ≡ true
    → filter (λ o. ltb 0 (size_of o)) (zip_with settled_before ls os) ≡ filter is_resting (zip_with settled ls os)
same_left [] os h = refl
same_left (l ∷ ls) [] h = refl
same_left (l ∷ ls) (o ∷ os) h =
    let a = and_true (not (is_reserve o.kind)) (without_reserve os) h in
    let e = not-true (is_reserve o.kind) a.0 in
    rw (same_settled o e l, same_rests (settled l o) (settled_reserve l o ∙ e), same_left ls os a.1)

-- an order left in or out of one
without_if : (b : Bool) (o : Order) (os : List Order) → is_reserve o.kind ≡ false → without_reserve os ≡ true → without_reserve (cons_if b o os) ≡ true
without_if true o os e h = rw e h
without_if false o os e h = h

-- orders that lose shares don't become reserve orders
pub without_left : (ls : List Interest) (os : List Order) → without_reserve os ≡ true → without_reserve (filter is_resting (zip_with settled ls os)) ≡ true
without_left [] os h = refl
without_left (l ∷ ls) [] h = refl
without_left (l ∷ ls) (o ∷ os) h =
    let a = and_true (not (is_reserve o.kind)) (without_reserve os) h in
    without_if (is_resting (settled l o)) (settled l o) (filter is_resting (zip_with settled ls os))
    (settled_reserve l o ∙ not-true (is_reserve o.kind) a.0) (without_left ls os a.1)

-- all its orders have the parts that they had
same_parts : (t : Taker) (os : List Order) → without_reserve os ≡ true → (price : ℕ) (g : Group) (o : Order) → Memᴰ o os
    → part_before t price g o ≡ part_of t price g o
same_parts t os h price g o m = same_part o (not-true (is_reserve o.kind) (all_member (λ o. not (is_reserve o.kind)) os h o m)) t price g

-- the outcomes are one
pub outcome_before_lem : (lot : ℕ) (alg : Algorithm) (i : Incoming) (os : List Order) → without_reserve os ≡ true
    → outcome lot alg i os ≡ outcome_before lot alg i os
unfolding outcome outcome_before allocations
outcome_before_lem lot alg i os h =
    rw (
      levels_by_lem lot alg i.taker (part_before i.taker) os (same_parts i.taker os h) (price_levels i.taker os) i.size.0,
      same_left (losses_of os (allocations lot alg i os)) os h,
    )

-- and so is what an accepted take answers
pub take_before_lem : (q : TakeRequest) (s x : List ℕ) → BeforeTake q s (take_call q s x)
unfolding outcome_of
take_before_lem q s x e h =
    let same = outcome_before_lem round_lot (algorithm_of q.algorithm) (incoming_of q) (orders_of s) h in
    record {
      executions = take_executions q s x e ∙ ap (λ o. o.executions) same;
      left = take_left q s x e ∙ ap (λ o. o.left) same;
      orders = take_orders q s x e ∙ ap (λ o. o.orders) same;
    }

-- it leaves a book without reserve orders
pub take_without_reserve : (q : TakeRequest) (s x : List ℕ) → (take_call q s x).taken.refusal ≡ 0 → without_reserve (orders_of s) ≡ true
    → without_reserve (orders_of (take_call q s x).book) ≡ true
unfolding outcome_of outcome
take_without_reserve q s x e h =
    rw (take_orders q s x e) (without_left (losses_of (orders_of s) (allocations round_lot (algorithm_of q.algorithm) (incoming_of q) (orders_of s))) (orders_of s) h)
