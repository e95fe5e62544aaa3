-- A paragraph at a price allots what the parts of its group get.
use Prim.Native.Nat.{ℕ, ◌≤◌, ◌<◌}
use mathlib.Core.Path.{◌≡◌, sym, ap, ◌∙◌}
use mathlib.Core.Bool.{true}
use mathlib.Core.List.{List, map}
use native.Mathlib.Omega.{arith}
use native.Mathlib.Nat.{zero-add}
use lib.ListN.{length, get_or, length-map}
use Rattle.units.specs.Lists.{filter, sum}
use Rattle.units.proofs.Members.{Every, member_every}
use Rattle.sharing.specs.Rank.{Part}
use Rattle.orders.specs.declared.order.Order.{Order}
use Rattle.orders.specs.declared.order.Taker.{Taker}
use Rattle.orders.specs.Order.{Visibility, shares_of, only_of}
use Rattle.orders.specs.Trading.{within_limit}
use Rattle.book.proofs.Soundness.{OrdersSound}
use Rattle.matching.specs.declared.Algorithm.{Algorithm}
use Rattle.matching.specs.declared.Paragraph.{Paragraph}
use Rattle.matching.specs.declared.incoming.Incoming.{Incoming}
use Rattle.matching.specs.Paragraph.{group_of, method_of, paragraph_number}
use Rattle.matching.specs.Take.{Allocation, used, allocation_at, executions_by}
use Rattle.matching.proofs.Parts.{parts_at, parts_rising}
use Rattle.matching.proofs.Groups.{lots_no_minimum, no_minimum}
use Rattle.matching.proofs.Allotting.{used_within}
use Rattle.parts.specs.Key.{paragraph_in}
use Rattle.parts.specs.Parts.{keys_from}
use Rattle.parts.specs.Visible.{visible_by}
use Rattle.parts.proofs.Seeing.{group_visible}
use Rattle.allocation.specs.Walk.{part_in, executions_from, shared_by, got_at}
use Rattle.allocation.proofs.LeftOut.{Idle, Alike, left_out}
use Rattle.allocation.proofs.Rows.{Row, row_thin, row_sum, row_got, row_executions}
use Rattle.allocation.proofs.Cells.{of_group, cell, cell_number, cell_paragraph, Beside, cell_row}

-- An allocation beside the orders of a book, and numbers beside keys of their parts, give the same.
pub record Allots (alg : Algorithm) (at : ℕ → Order) (os : List Order) (keys gets : List ℕ) (left : ℕ) (row : Allocation) : Type 0 where
  pub executes : executions_by (paragraph_number row.paragraph) row.price os row.allotment ≡ executions_from at keys gets
  pub uses : used row ≡ sum gets
  pub gives : (v : Visibility) (j : ℕ) → j < length os → shares_of v (only_of row.visibility (get_or row.allotment j 0)) ≡ got_at alg v j keys gets
  pub many : length gets ≡ length keys
  pub within : used row ≤ left

module _ (lot : ℕ) (has_lot : 0 < lot) (alg : Algorithm) (i : Incoming) (at : ℕ → Order) (os : List Order)
    (s : OrdersSound os) (few : length os ≤ 256) (b : Beside at 0 os) (price : ℕ) (h : price ≤ 2000000000)
    (w : within_limit i.taker.side i.taker.limit.0 price ≡ true) (g : Paragraph) (left : ℕ) (l : left ≤ i.size.0) where
  abbrev t : Taker
  t = i.taker

  abbrev number : ℕ
  number = cell t.side price g

  abbrev ps : List Part
  ps = parts_at lot alg t os price g

  -- the keys of its parts
  abbrev keys : List ℕ
  keys = filter (of_group number) (keys_from lot alg i 0 os)

  abbrev row : Allocation
  row = allocation_at lot alg t os price g left

  here : Row alg at price number i.size.0 0 os ps keys
  here = cell_row lot alg i at price h w g 0 os b s.each (omega arith)

  alike : Alike i.size.0 ps (map (part_in at) keys) row.allotment (shared_by at lot alg number keys left)
  unfolding allocation_at shared_by
  alike =
      rw (cell_paragraph t.side price g)
      (left_out (row_thin alg at price number i.size.0 here) 0 (parts_rising t price (group_of lot alg g) 0 os s.rise) lot left l (method_of alg g)
      (λ e. no_minimum lot alg g (lots_no_minimum alg g e) t price os))

  abbrev f : Part → ℕ
  f = alike.share

  given : Every (λ q. Idle i.size.0 q → f q ≡ 0) ps
  given = member_every (λ q. Idle i.size.0 q → f q ≡ 0) ps alike.none

  uses_within : used row ≤ left
  uses_within = used_within lot has_lot alg t os s.rise s.setters price g left

  -- the group's visibility can be read from its number
  seen : visible_by alg (paragraph_in number) ≡ (group_of lot alg g).visibility
  seen = ap (visible_by alg) (cell_number t.side price g) ∙ group_visible lot alg g

  pub cell_allots : Allots alg at os keys (shared_by at lot alg number keys left) left row
  unfolding allocation_at
  cell_allots = record {
    executes =
        rw (alike.whole, alike.kept)
        (ap (λ n. executions_by n price os (map f ps)) (sym (cell_number t.side price g))
        ∙ row_executions alg at price number i.size.0 f here given);
    uses = rw alike.kept (ap sum alike.whole ∙ row_sum alg at price number i.size.0 f here given);
    gives = λ v j k.
        rw (alike.whole, alike.kept)
        (ap (λ w. shares_of v (only_of w (get_or (map f ps) j 0))) (sym seen)
        ∙ row_got alg at price number i.size.0 f here given v j k
        ∙ ap (λ p. got_at alg v p keys (map f (map (part_in at) keys))) (zero-add j));
    many = rw (alike.kept, length-map, length-map);
    within = uses_within;
  }
