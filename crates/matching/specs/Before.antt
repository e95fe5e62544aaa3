-- A take as it was before there were reserve orders: which shares kinds 1 to 3 display, how an order of theirs is made anew, and the
-- sharing over that. What these definitions say of a reserve order means nothing.
use Rattle.std.specs.Prelude.{ℕ, ◌-◌, min, ◌≡◌, true, cond, ◌&&◌, List, ltb, eqb}
use Rattle.units.specs.Lists.{filter, total, zip_with}
use Rattle.units.specs.Lots.{round_lot}
use Rattle.sharing.specs.Rank.{Part, no_part}
use Rattle.orders.specs.declared.order.Kind.{Kind}
use Rattle.orders.specs.declared.order.Kind.TheVariants.{Displayed, NonDisplayed, MinimumQuantity, Reserve}
use Rattle.orders.specs.declared.order.Order.{Order}
use Rattle.orders.specs.declared.order.Taker.{Taker}
use Rattle.orders.specs.Order.{Interest, interest, no_interest, shares_of, less, is_minimum_quantity, minimum_of, price_of, size_of}
use Rattle.orders.specs.Trading.{is_opposite_of}
use Rattle.record.specs.Execution.{executions_in}
use Rattle.book.specs.Sound.{orders_of}
use Rattle.matching.specs.declared.Algorithm.{Algorithm}
use Rattle.matching.specs.declared.TakeRequest.{TakeRequest}
use Rattle.matching.specs.declared.incoming.Incoming.{Incoming}
use Rattle.matching.specs.Levels.{price_levels}
use Rattle.matching.specs.Paragraph.{algorithm_of, Group}
use Rattle.matching.specs.Take.{used, executions_of, losses_of, Outcome}
use Rattle.matching.specs.TakeCall.{incoming_of, TakeAnswer}
use Rattle.matching.specs.Parts.{without_reserve}
use Rattle.matching.specs.WayBy.{levels_by}

-- all of an order's size is of one visibility
abbrev pub interest_before : Kind → ℕ → Interest
interest_before Displayed n = interest n 0
interest_before NonDisplayed n = interest 0 n
interest_before (MinimumQuantity m) n = interest 0 n
interest_before (Reserve h r) n = no_interest

-- the size of an order of this kind that has this interest
abbrev pub size_before : Kind → Interest → ℕ
size_before Displayed i = i.displayed
size_before NonDisplayed i = i.non_displayed
size_before (MinimumQuantity m) i = i.non_displayed
size_before (Reserve h r) i = 0

-- its kind: a minimum above the new size becomes the new size
abbrev pub kind_before : Kind → Interest → Kind
kind_before Displayed i = Displayed
kind_before NonDisplayed i = NonDisplayed
kind_before (MinimumQuantity m) i = MinimumQuantity (record { 0 = min m.0 i.non_displayed })
kind_before (Reserve h r) i = Reserve h r

-- the order after it lost shares
unfoldable pub settled_before : Interest → Order → Order
settled_before loss o =
    let i = less (interest_before o.kind (size_of o)) loss in
    record { side = o.side; kind = kind_before o.kind i; number = o.number; price = o.price; size = record { 0 = size_before o.kind i }; setter = o.setter; security = o.security }

-- what of an order stands in a group at a price
unfoldable pub part_before : Taker → ℕ → Group → Order → Part
part_before t price g o =
    let n = shares_of g.visibility (interest_before o.kind (size_of o)) in
    cond (is_opposite_of t o && eqb (price_of o) price && (ltb 0 n && g.holds (is_minimum_quantity o.kind) n))
    (record { number = o.number; size = n; minimum = minimum_of o.kind; setter = o.setter }) (no_part o.number)

-- what a take yielded: an order stayed while it had shares
unfoldable pub outcome_before : ℕ → Algorithm → Incoming → List Order → Outcome
outcome_before lot alg i os =
    let rows = levels_by lot alg (part_before i.taker) os (price_levels i.taker os) i.size.0 in
    record {
      executions = executions_of os rows;
      left = i.size.0 - total used rows;
      orders = filter (λ o. ltb 0 (size_of o)) (zip_with settled_before (losses_of os rows) os);
    }

-- The answer of a take says this outcome.
pub record Says (o : Outcome) (a : TakeAnswer) : Type 0 where
  pub executions : executions_in a.taken.count a.executions ≡ o.executions
  pub left : a.taken.left ≡ o.left
  pub orders : orders_of a.book ≡ o.orders

-- An accepted take on a book without reserve orders gives what it gave.
abbrev pub BeforeTake : TakeRequest → List ℕ → TakeAnswer → Type 0
BeforeTake q s a =
    a.taken.refusal ≡ 0 → without_reserve (orders_of s) ≡ true
    → Says (outcome_before round_lot (algorithm_of q.algorithm) (incoming_of q) (orders_of s)) a
