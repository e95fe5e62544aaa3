-- `entry::admission::standing_in` meets its contract: what is gathered so far, with what the rest says, is what all say.
use Prim.Native.Nat.{ℕ}
use mathlib.Core.Path.{◌≡◌, refl}
use mathlib.Core.List.{List, []}
use lib.Dec.{leb}
use lib.ListN.{get_or}
use Rattle.orders.specs.declared.order.Order.{Order}
use Rattle.record.specs.Codec.{decode}
use Rattle.record.specs.Record.{order_of}
use Rattle.record.specs.Names.{named_numbers}
use Rattle.book.specs.Sound.{form}
use Rattle.book.proofs.Walking.{orders_next, orders_end}
use Rattle.entry.proofs.Comparing.{is_later, compared_none, compared_more, compared_done}
use Rattle.entry.proofs.admission.standing_in.Goals as goal

-- the number of a record's order
later : (new : Order) (ns : List ℕ) → leb new.number (named_numbers ns).number ≡ is_later [] new (order_of ns)
unfolding order_of
later new ns = refl

pub loop-rec-init : goal.loop-rec-init
loop-rec-init c = rw c.first-rec-items.ensures (compared_none _ c.args.new)

pub loop-rec-preserved : goal.loop-rec-preserved
loop-rec-preserved c =
    let ns = decode form.layout (get_or c.first-rec-items.result.now c.loop-rec.rec-index []) in
    rw (
      c.could_trade-trades.ensures ns c.numbers_of-resting.ensures c.requires.1,
      c.beats-best.ensures ns c.numbers_of-resting.ensures,
      c.is_later-stale.ensures,
      c.numbers_of-resting.ensures,
      later c.args.new ns,
    )
    (compared_more _ c.args.new c.loop-rec.invariant (orders_next _ _ c.loop-rec-test.true [] refl))

pub returns : goal.returns
returns c = compared_done _ c.args.new c.loop-rec.invariant (orders_end _ _ c.loop-rec-test.false)
