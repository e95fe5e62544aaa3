-- What add and reduce decide before a byte is written, for the functions that decide. No call's meaning rests on it.
use Rattle.std.specs.Prelude.{ℕ, ◌*◌, false, cond, List, length, Result, Ok, Err}
use Rattle.units.specs.Lists.{all, any}
use Rattle.units.specs.Lots.{round_lot}
use Rattle.orders.specs.declared.order.Order.{Order}
use Rattle.orders.specs.Order.{interest_of, settled, is_resting}
use Rattle.record.specs.Record.{decode_order}
use Rattle.book.specs.Sound.{form, record_bytes, orders_of}
use Rattle.book.specs.Refusal.{is_accepted}
use Rattle.book.specs.Lookup.{find_call, found_part}
use Rattle.entry.specs.declared.admission.AddRequest.{AddRequest}
use Rattle.entry.specs.declared.admission.Standing.{Standing}
use Rattle.entry.specs.declared.reduction.Reduction.{Reduction}
use Rattle.entry.specs.declared.reduction.Reduction.TheVariants as outcome
use Rattle.entry.specs.Add.{requested, beats, sets_price, could_trade, is_stale, add_call}
use Rattle.entry.specs.Reduce.{reduction, reduce_call}

-- how a new order stands to others: refusals 4 and 5, and what keeps it from the setter mark
abbrev pub standing_of : Order → List Order → Standing
standing_of new os = record { stale = is_stale new.number os; trades = any (could_trade new) os; beats = all (beats new) os }

-- add: the number of its refusal, or the new order and the place of its record, behind those of the others
unfoldable pub add_plan : AddRequest → List ℕ → Result (ℕ × Order) ℕ
add_plan q s =
    let os = orders_of s in
    let r = (add_call q s).refusal in
    cond (is_accepted r) (Ok (record_bytes * length os, requested q (sets_price round_lot (requested q false) os))) (Err r)

-- the order in a record, reduced
abbrev pub reduced_order : ℕ → Order → Order
reduced_order shares o = settled (reduction shares (interest_of o)) o

-- an order whose record lies here stays, as it is left, or leaves
abbrev pub outcome_of : ℕ → Order → Reduction
outcome_of start left = cond (is_resting left) (outcome.Kept start left) (outcome.Gone start)

-- reduce: the number of its refusal, or what becomes of the order
unfoldable pub reduce_plan : ℕ → ℕ → ℕ → List ℕ → Result Reduction ℕ
reduce_plan k n shares s =
    let r = (reduce_call k n shares s).refusal in
    let f = find_call k n s in
    cond (is_accepted r) (Ok (outcome_of f.start (reduced_order shares (decode_order form (found_part f s))))) (Err r)
