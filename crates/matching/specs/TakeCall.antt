-- The call take: what it answers, and every byte of the book and of the execution buffer afterwards.
use Rattle.std.specs.Prelude.{ℕ, ◌*◌, Bool, cond, not, ◌&&◌, List, [], ◌∷◌, ◌++◌, length, drop, ltb}
use Rattle.units.specs.Lists.{flat_map, in_range, or_zero}
use Rattle.units.specs.Lots.{round_lot}
use Rattle.orders.specs.declared.order.Order.{Order}
use Rattle.record.specs.declared.execution.Execution.{Execution}
use Rattle.orders.specs.Order.{side_of, price_in_range, shares_in_range, security_in_range}
use Rattle.record.specs.Execution.{execution_bytes, encode_execution}
use Rattle.book.specs.Sound.{sound, orders_of, book_of, capacity_of}
use Rattle.book.specs.Refusal.{Refusals, refuse, refusal_of, is_accepted}
use Rattle.matching.specs.declared.Taken.{Taken}
use Rattle.matching.specs.declared.TakeRequest.{TakeRequest}
use Rattle.matching.specs.declared.incoming.Incoming.{Incoming}
use Rattle.matching.specs.Paragraph.{algorithm_of}
use Rattle.matching.specs.Take.{Outcome, outcome}

-- the numbers that take is given are in their ranges
abbrev pub request_in_range : TakeRequest → Bool
request_in_range q =
    in_range 1 2 q.side && price_in_range q.limit && shares_in_range q.size && in_range 1 3 q.algorithm && security_in_range q.security

-- the incoming order that they say
abbrev pub incoming_of : TakeRequest → Incoming
incoming_of q = record {
  taker = record { side = side_of q.side; limit = record { 0 = q.limit }; security = q.security };
  size = record { 0 = q.size };
}

-- its outcome under the algorithm that they say
unfoldable pub outcome_of : TakeRequest → List Order → Outcome
outcome_of q os = outcome round_lot (algorithm_of q.algorithm) (incoming_of q) os

-- take is refused 1, 2, 8, the last where the executions need more bytes than the execution buffer has
abbrev pub take_refusals : TakeRequest → List Execution → List ℕ → Refusals
take_refusals q es x = record {
  of_call = refuse 1 (not (request_in_range q)) ∷ [];
  of_book = refuse 8 (ltb (length x) (execution_bytes * length es)) ∷ [];
}

-- executions from the start of the buffer; the bytes behind them keep their content
unfoldable pub written : List Execution → List ℕ → List ℕ
written es x = flat_map encode_execution es ++ drop (execution_bytes * length es) x

-- the numbers that take returns, the book and the execution buffer
pub record TakeAnswer : Type 0 where
  pub taken : Taken
  pub book : List ℕ
  pub executions : List ℕ

-- What take answers, and both buffers afterwards. What is left of the incoming order isn't put in the book.
unfoldable pub take_call : TakeRequest → List ℕ → List ℕ → TakeAnswer
take_call q s x =
    let o = outcome_of q (orders_of s) in
    let r = refusal_of (take_refusals q o.executions x) (sound s) in
    record {
      taken = record {
        refusal = r;
        count = or_zero (is_accepted r) (length o.executions);
        left = or_zero (is_accepted r) o.left;
      };
      book = cond (is_accepted r) (book_of (capacity_of s) o.orders) s;
      executions = cond (is_accepted r) (written o.executions x) x;
    }
