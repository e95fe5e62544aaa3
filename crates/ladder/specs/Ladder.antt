-- The ladder kept beside a book: what a new one has, when it is refused, and the calls that make and keep it.
use Rattle.std.specs.Prelude.{ℕ, ◌-◌, ◌*◌, Bool, cond, not, List, [], ◌∷◌, ◌++◌, length, replicate, eqb}
use Rattle.units.specs.Lists.{flat_map, or_zero, same_numbers}
use Rattle.orders.specs.declared.order.Order.{Order}
use Rattle.orders.specs.Order.{security_in_range}
use Rattle.book.specs.Sound.{sound, most_orders, orders_of, capacity_of}
use Rattle.book.specs.Lookup.{orders_for}
use Rattle.book.specs.Refusal.{Refusals, refuse, refusal_of, is_accepted, Changed}
use Rattle.entry.specs.declared.admission.AddRequest.{AddRequest}
use Rattle.entry.specs.Add.{add_refusals, add_call}
use Rattle.entry.specs.Reduce.{reduce_refusals, reduce_call}
use Rattle.matching.specs.declared.Taken.{Taken}
use Rattle.matching.specs.declared.TakeRequest.{TakeRequest}
use Rattle.matching.specs.TakeCall.{take_refusals, take_call, outcome_of}
use Rattle.ladder.specs.Row.{row_bytes, encode_row}
use Rattle.ladder.specs.Rows.{rows_of}

-- a ladder has room for a row for each order that a book may have: 6,144 bytes
abbrev pub ladder_bytes : ℕ
ladder_bytes = row_bytes * most_orders

-- the rows of orders, zeros behind them
unfoldable pub ladder_of : List Order → List ℕ
ladder_of os = let rs = rows_of os in flat_map encode_row rs ++ replicate (row_bytes * (most_orders - length rs)) 0

-- what a new call makes of a security's orders in a book
abbrev pub made_of : ℕ → List ℕ → List ℕ
made_of k s = ladder_of (orders_for k s)

-- refusal 9: the ladder's length isn't 6,144 bytes
abbrev pub is_other_length : List ℕ → Bool
is_other_length l = not (eqb (length l) ladder_bytes)

-- refusal 10: the ladder isn't that of the security in the book, to the last byte
abbrev pub is_other_ladder : ℕ → List ℕ → List ℕ → Bool
is_other_ladder k s l = not (same_numbers l (made_of k s))

-- the new call is refused 1, 2, 9
abbrev pub ladder_refusals : ℕ → List ℕ → Refusals
ladder_refusals k l = record { of_call = refuse 1 (not (security_in_range k)) ∷ []; of_book = refuse 9 (is_other_length l) ∷ [] }

-- what it answers, and the ladder afterwards
pub record LadderAnswer : Type 0 where
  pub refusal : ℕ
  pub ladder : List ℕ

unfoldable pub ladder_call : ℕ → List ℕ → List ℕ → LadderAnswer
ladder_call k s l =
    let r = refusal_of (ladder_refusals k l) (sound s) in
    record { refusal = r; ladder = cond (is_accepted r) (made_of k s) l }

-- A call that keeps a security's ladder has the refusals of the plain call, and directly after 2 the two of the ladder.
abbrev pub with_ladder : ℕ → List ℕ → List ℕ → Refusals → Refusals
with_ladder k s l rs = record {
  of_call = rs.of_call;
  of_book = refuse 9 (is_other_length l) ∷ refuse 10 (is_other_ladder k s l) ∷ rs.of_book;
}

-- the ladder that it leaves with a book: a new one of that book, unless it is refused
abbrev pub kept_ladder : ℕ → ℕ → List ℕ → List ℕ → List ℕ
kept_ladder k r book l = cond (is_accepted r) (made_of k book) l

-- what a call that changes the book and keeps its ladder gives
pub record Kept : Type 0 where
  pub refusal : ℕ
  pub book : List ℕ
  pub ladder : List ℕ

-- with the refusals of the plain call, and what that gives
abbrev pub keeping : ℕ → Refusals → Changed → List ℕ → List ℕ → Kept
keeping k rs plain s l =
    let r = refusal_of (with_ladder k s l rs) (sound s) in
    let b = cond (is_accepted r) plain.book s in
    record { refusal = r; book = b; ladder = kept_ladder k r b l }

-- add
unfoldable pub add_ladder_call : AddRequest → List ℕ → List ℕ → Kept
add_ladder_call q s l = keeping q.security (add_refusals q (capacity_of s) (orders_of s)) (add_call q s) s l

-- reduce
unfoldable pub reduce_ladder_call : ℕ → ℕ → ℕ → List ℕ → List ℕ → Kept
reduce_ladder_call k n shares s l = keeping k (reduce_refusals k n shares (orders_of s)) (reduce_call k n shares s) s l

-- take: the numbers that it returns, the book, the execution buffer and the ladder
pub record TakeKept : Type 0 where
  pub taken : Taken
  pub book : List ℕ
  pub executions : List ℕ
  pub ladder : List ℕ

unfoldable pub take_ladder_call : TakeRequest → List ℕ → List ℕ → List ℕ → TakeKept
take_ladder_call q s x l =
    let plain = take_call q s x in
    let kept = keeping q.security (take_refusals q (outcome_of q (orders_of s)).executions x) (record { refusal = plain.taken.refusal; book = plain.book }) s l in
    let b = is_accepted kept.refusal in
    record {
      taken = record { refusal = kept.refusal; count = or_zero b plain.taken.count; left = or_zero b plain.taken.left };
      book = kept.book;
      executions = cond b plain.executions x;
      ladder = kept.ladder;
    }
