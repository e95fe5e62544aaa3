-- What parts get, kept: the fills, what each record got, how many fills there are, and what is left of the incoming order.
use Rattle.std.specs.Prelude.{ℕ, ◌+◌, ◌≤◌, ◌<◌, ◌≡◌, List, ◌++◌, map, length, get_or, take, set}
use Rattle.units.specs.Lists.{sum}
use Rattle.units.proofs.Members.{Every}
use Rattle.orders.specs.declared.order.Order.{Order}
use Rattle.orders.specs.Order.{Visibility, shown, hidden, shares_of, only_of}
use Rattle.record.specs.declared.execution.Execution.{Execution}
use Rattle.matching.specs.declared.Algorithm.{Algorithm}
use Rattle.matching.specs.Incoming.{executed}
use Rattle.parts.specs.Key.{place_in}
use Rattle.allocation.specs.declared.Progress.{Progress}
use Rattle.parts.specs.Visible.{visibility_in}
use Rattle.parts.specs.Execution.{execution_of}
use Rattle.allocation.specs.Walk.{executions_from, fills_of, got_at}

-- one of two by a visibility
abbrev pub seen : Visibility → List ℕ → List ℕ → List ℕ
seen shown ss hs = ss
seen hidden ss hs = hs

-- an allotment of a visibility, in which a part's record got n shares more if the part is of it
abbrev pub noted : Algorithm → Visibility → ℕ → ℕ → List ℕ → List ℕ
noted alg v key n ns = let p = place_in key in set ns p (get_or ns p 0 + shares_of v (only_of (visibility_in alg key) n))

-- How far an incoming order has come, with the lent fills and the lent allotments, one for each visibility.
pub record Ledger : Type 0 where
  pub progress : Progress
  pub fills : List ℕ
  pub allotment : Visibility → List ℕ

abbrev pub ledger : Progress → List ℕ → List ℕ → List ℕ → Ledger
ledger p fills ss hs = record { progress = p; fills = fills; allotment = λ v. seen v ss hs }

abbrev pub left_in : Ledger → ℕ
left_in l = l.progress.incoming.size.0

-- the executions of the fills, with these orders at the places of the records
abbrev pub logged : (ℕ → Order) → Ledger → List Execution
logged at l = map (execution_of at) (take l.progress.count l.fills)

-- There is room for so many parts' fills and an entry of each visibility for each of their records, and no record got more than was taken.
pub record Room (keys : List ℕ) (l : Ledger) : Type 0 where
  pub fills : l.progress.count + length keys ≤ length l.fills
  pub places : (v : Visibility) → Every (λ k. place_in k < length (l.allotment v)) keys
  pub bounded : (v : Visibility) (i : ℕ) → get_or (l.allotment v) i 0 + left_in l ≤ 999999

-- The second is the first after the parts got these shares. Each execution that was logged for it names the paragraph of its part's group,
-- whatever orders stand at the places.
pub record Credited (alg : Algorithm) (keys gets : List ℕ) (a b : Ledger) : Type 0 where
  pub left : b.progress.incoming ≡ executed (sum gets) a.progress.incoming
  pub count : b.progress.count ≡ a.progress.count + length (fills_of keys gets)
  pub fills : take b.progress.count b.fills ≡ take a.progress.count a.fills ++ fills_of keys gets
  pub executions : (at : ℕ → Order) → logged at b ≡ logged at a ++ executions_from at keys gets
  pub allotment : (v : Visibility) (i : ℕ) → get_or (b.allotment v) i 0 ≡ get_or (a.allotment v) i 0 + got_at alg v i keys gets
  pub room : length b.fills ≡ length a.fills
  pub records : (v : Visibility) → length (b.allotment v) ≡ length (a.allotment v)
