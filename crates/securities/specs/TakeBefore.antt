-- A take as it was before there were securities: the incoming order could trade with all orders on the other side.
use Rattle.std.specs.Prelude.{ℕ, ◌*◌, Bool, cond, not, ◌&&◌, length, ltb, eqb}
use mathlib.Core.List.{List, [], ◌∷◌, foldr}
use Rattle.units.specs.Lists.{filter, in_range, or_zero}
use Rattle.units.specs.Lots.{round_lot}
use Rattle.sharing.specs.Rank.{Part, no_part}
use Rattle.orders.specs.declared.order.Order.{Order}
use Rattle.orders.specs.declared.order.Taker.{Taker}
use Rattle.orders.specs.Order.{minimum_of, price_of}
use Rattle.orders.specs.Order.{shares_of, interest_of}
use Rattle.orders.specs.Order.{price_in_range, shares_in_range}
use Rattle.orders.specs.Trading.{is_opposite}
use Rattle.record.specs.declared.execution.Execution.{Execution}
use Rattle.record.specs.Execution.{execution_bytes}
use Rattle.book.specs.Sound.{orders_of, capacity_of}
use Rattle.book.specs.Refusal.{Refusals, refuse, refusal_of, is_accepted}
use Rattle.matching.specs.declared.Algorithm.{Algorithm}
use Rattle.matching.specs.declared.TakeRequest.{TakeRequest}
use Rattle.matching.specs.declared.incoming.Incoming.{Incoming}
use Rattle.matching.specs.Levels.{insert_price}
use Rattle.matching.specs.Paragraph.{algorithm_of, Group, in_group}
use Rattle.matching.specs.Take.{Outcome, yielded}
use Rattle.matching.specs.TakeCall.{incoming_of, written, TakeAnswer}
use Rattle.matching.specs.WayBy.{levels_by}
use Rattle.securities.specs.BookBefore.{sound_before, book_before}
use Rattle.securities.specs.EntryBefore.{is_tradable_before}

-- the prices of all orders that it may trade with, best first
unfoldable pub price_levels_before : Taker → List Order → List ℕ
price_levels_before t os = foldr (λ o ps. insert_price t.side (price_of o) ps) [] (filter (is_tradable_before t) os)

-- what of an order stands in a group at a price
unfoldable pub part_before : Taker → ℕ → Group → Order → Part
part_before t price g o =
    cond (is_opposite t.side o.side && eqb (price_of o) price && in_group g o)
    (record { number = o.number; size = shares_of g.visibility (interest_of o); minimum = minimum_of o.kind; setter = o.setter })
    (no_part o.number)

-- what a take yielded
unfoldable pub outcome_before : ℕ → Algorithm → Incoming → List Order → Outcome
outcome_before lot alg i os = yielded i os (levels_by lot alg (part_before i.taker) os (price_levels_before i.taker os) i.size.0)

-- the numbers that take was given are in their ranges
abbrev pub take_in_range_before : TakeRequest → Bool
take_in_range_before q = in_range 1 2 q.side && price_in_range q.limit && shares_in_range q.size && in_range 1 3 q.algorithm

-- take was refused 1, 2, 8
abbrev pub take_refusals_before : TakeRequest → List Execution → List ℕ → Refusals
take_refusals_before q es x = record {
  of_call = refuse 1 (not (take_in_range_before q)) ∷ [];
  of_book = refuse 8 (ltb (length x) (execution_bytes * length es)) ∷ [];
}

-- what take answered, and both buffers afterwards
unfoldable pub take_before : TakeRequest → List ℕ → List ℕ → TakeAnswer
take_before q s x =
    let o = outcome_before round_lot (algorithm_of q.algorithm) (incoming_of q) (orders_of s) in
    let r = refusal_of (take_refusals_before q o.executions x) (sound_before s) in
    record {
      taken = record {
        refusal = r;
        count = or_zero (is_accepted r) (length o.executions);
        left = or_zero (is_accepted r) o.left;
      };
      book = cond (is_accepted r) (book_before (capacity_of s) o.orders) s;
      executions = cond (is_accepted r) (written o.executions x) x;
    }
