-- The calls for a security, each as a function of the book alone, all else given and lent: what they give that one who trades in that
-- security sees.
use Rattle.std.specs.Prelude.{ℕ, List}
use Rattle.book.specs.Lookup.{check_call, find_call, found_part}
use Rattle.book.specs.Securities.{Result}
use Rattle.entry.specs.declared.admission.AddRequest.{AddRequest}
use Rattle.entry.specs.Add.{add_call}
use Rattle.entry.specs.Reduce.{reduce_call}
use Rattle.matching.specs.declared.Taken.{Taken}
use Rattle.matching.specs.declared.TakeRequest.{TakeRequest}
use Rattle.matching.specs.TakeCall.{take_call}
use Rattle.ladder.specs.Ladder.{ladder_call, add_ladder_call, reduce_ladder_call, take_ladder_call}

-- check: the number of the security's orders
abbrev pub check_on : ℕ → List ℕ → Result ℕ
check_on k s = let c = check_call k s in record { refusal = c.refusal; others = c.orders; book = s }

-- find: the bytes of its part. Where the part lies depends on the records of the other security, and is left out.
abbrev pub find_on : ℕ → ℕ → List ℕ → Result (List ℕ)
find_on k n s = let f = find_call k n s in record { refusal = f.refusal; others = found_part f s; book = s }

-- add and reduce give nothing but their refusal
abbrev pub add_on : AddRequest → List ℕ → Result (Unit {0})
add_on q s = let c = add_call q s in record { refusal = c.refusal; others = tt; book = c.book }

abbrev pub reduce_on : ℕ → ℕ → ℕ → List ℕ → Result (Unit {0})
reduce_on k n shares s = let c = reduce_call k n shares s in record { refusal = c.refusal; others = tt; book = c.book }

-- take: the numbers that it returns, and the execution buffer
abbrev pub take_on : TakeRequest → List ℕ → List ℕ → Result (Taken × List ℕ)
take_on q x s = let a = take_call q s x in record { refusal = a.taken.refusal; others = (a.taken, a.executions); book = a.book }

-- the ladder call: the ladder
abbrev pub ladder_on : ℕ → List ℕ → List ℕ → Result (List ℕ)
ladder_on k l s = let a = ladder_call k s l in record { refusal = a.refusal; others = a.ladder; book = s }

-- with a ladder kept: what the plain call gives, and the ladder
abbrev pub add_ladder_on : AddRequest → List ℕ → List ℕ → Result (List ℕ)
add_ladder_on q l s = let c = add_ladder_call q s l in record { refusal = c.refusal; others = c.ladder; book = c.book }

abbrev pub reduce_ladder_on : ℕ → ℕ → ℕ → List ℕ → List ℕ → Result (List ℕ)
reduce_ladder_on k n shares l s = let c = reduce_ladder_call k n shares s l in record { refusal = c.refusal; others = c.ladder; book = c.book }

abbrev pub take_ladder_on : TakeRequest → List ℕ → List ℕ → List ℕ → Result (Taken × (List ℕ × List ℕ))
take_ladder_on q x l s =
    let a = take_ladder_call q s x l in
    record { refusal = a.taken.refusal; others = (a.taken, (a.executions, a.ladder)); book = a.book }
