-- `allocation::share::setter_place` meets its contract: none of the parts before is a setter.
use Prim.Native.Nat.{◌<◌}
use mathlib.Core.Path.{◌≡◌, sym, ap, ◌∙◌}
use native.Mathlib.Omega.{arith}
use lib.ListN.{length}
use Rattle.orders.specs.declared.order.Order.{Order}
use Rattle.book.specs.Sound.{orders_of, order_at}
use Rattle.book.proofs.Checking.{sound_fits}
use Rattle.parts.specs.Key.{place_in}
use Rattle.allocation.specs.Walk.{part_in}
use Rattle.units.proofs.Members.{every_at}
use Rattle.allocation.proofs.Setters.{none_more, first_found, first_none}
use Rattle.allocation.proofs.share.setter_place.Goals as goal

pub order_at-order-requires : goal.order_at-order-requires
order_at-order-requires c =
    let inside : c.place.result < length (orders_of c.args.book.now) =
    omega (
      arith,
      c.place.ensures,
      every_at (λ k. place_in k < length (orders_of c.args.book.now)) c.args.keys.now c.requires.0 c.loop-k.k (omega arith),
    ) in
    omega (arith, inside, sound_fits c.args.book.now c.requires.1)

pub returns-then-order : goal.returns-then-order
returns-then-order c =
    first_found (part_in (order_at c.args.book.now)) c.args.keys.now c.loop-k.k c.loop-k.invariant (omega arith) (sym (ap (λ (o : Order). o.setter) (c.order_at-order.ensures ∙ ap (order_at c.args.book.now) c.place.ensures)) ∙ c.if-order.true)

pub loop-k-preserved : goal.loop-k-preserved
loop-k-preserved c =
    none_more (part_in (order_at c.args.book.now)) c.args.keys.now c.loop-k.k c.loop-k.invariant (omega arith) (sym (ap (λ (o : Order). o.setter) (c.order_at-order.ensures ∙ ap (order_at c.args.book.now) c.place.ensures)) ∙ c.if-order.false)

pub returns : goal.returns
returns c =
    let e : c.loop-k.k ≡ length c.args.keys.now = omega arith in
    first_none (part_in (order_at c.args.book.now)) c.args.keys.now (length c.args.keys.now) (rw e at c.loop-k.invariant) (omega arith)
