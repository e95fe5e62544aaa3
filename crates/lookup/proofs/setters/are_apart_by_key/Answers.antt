-- `lookup::setters::are_apart_by_key` meets its contract: the keys of the marked orders that were read are gathered.
use Rattle.std.proofs.Common.{rules, ◌∙◌, ◌≤◌, length, arith, sym}
use lib.ListN.{length-map}
use Rattle.record.specs.Record.{decode_order}
use Rattle.book.specs.Sound.{form, first_records, first_orders}
use Rattle.book.proofs.Soundness.{length_records}
use Rattle.book.proofs.Walking.{orders_next, orders_end}
use Rattle.lookup.proofs.Gathering.{gathered_none, gathered_done, gathered_same, gathered_met, gathered_more}
use Rattle.lookup.proofs.setters.are_apart_by_key.Goals as goal
use Rattle.lookup.proofs.setters.are_apart_by_key.Goals.{then-order+else-contains, else-order}

pub loop-rec-init : goal.loop-rec-init
loop-rec-init c =
    let n = c.args.n in
    let s = c.args.book.now in
    let l : length (first_orders n s) ≤ 256 = omega (arith, length-map (first_records form n s) (decode_order form), length_records form n s) in
    rw c.first-rec-items.ensures (gathered_none l (search rules))

pub returns-then-contains : goal.returns-then-contains
returns-then-contains c =
    gathered_met c.loop-rec.invariant (orders_next _ _ c.loop-rec-test.true _ c.read-order.ensures) c.if-order.true
    c.key_of-key.ensures (sym c.contains.ensures ∙ c.if-contains.true)

pub loop-rec-preserved : goal.loop-rec-preserved
loop-rec-preserved c =
    let next = orders_next _ _ c.loop-rec-test.true _ c.read-order.ensures in
    elim c.if-order.branch [
      | then-order+else-contains w ↦
          rw (w.keys-is, w.marked-is)
          (gathered_more c.loop-rec.invariant next w.if-order.true w.key_of-key.ensures (sym w.contains.ensures ∙ w.if-contains.false))
      | else-order w ↦
          rw (w.keys-is, w.marked-is)
          (gathered_same c.loop-rec.invariant next w.if-order.false)
    ]

pub returns : goal.returns
returns c = gathered_done c.loop-rec.invariant (orders_end _ _ c.loop-rec-test.false)
