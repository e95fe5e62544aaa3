-- `ladder::rows::write_keys` meets its contract: the keys kept so far, and those of the orders that are left, are the keys of all.
use mathlib.Core.Path.{sym, ap, ◌∙◌}
use mathlib.Core.List.{◌++◌, append-nil}
use native.Mathlib.Omega.{arith}
use lib.ListN.{take, length-set}
use lib.Dec.{eqb}
use Rattle.units.proofs.Tests.{pick_least}
use Rattle.units.proofs.Columns.{kept_more}
use Rattle.orders.specs.Trading.{of_security}
use Rattle.book.specs.Sound.{order_at}
use Rattle.book.proofs.Checking.{sound_fits}
use Rattle.ladder.specs.Key.{key_of}
use Rattle.ladder.proofs.Keys.{counted, keys_more, keys_done}
use Rattle.ladder.proofs.rows.write_keys.Goals as goal

pub order_at-order-requires : goal.order_at-order-requires
order_at-order-requires c =
    omega (arith, sound_fits c.args.book.now c.requires.0, c.requires.1)

pub key_of-requires : goal.key_of-requires
key_of-requires c =
    omega (arith, sound_fits c.args.book.now c.requires.0, c.requires.1)

pub loop-i-preserved : goal.loop-i-preserved
loop-i-preserved c =
    let h = keys_more c.args.security c.args.book.now c.loop-i.i (omega (arith, c.requires.1)) in (
      length-set c.loop-i.keys c.loop-i.count c.key_of.result ∙ c.loop-i.invariant.0,
      omega arith,
      omega (arith, c.from-count.ensures, counted (eqb c.order_at-order.result.security c.args.security), pick_least (eqb c.order_at-order.result.security c.args.security) 1),
      rw (c.from-count.ensures, counted (eqb c.order_at-order.result.security c.args.security), c.key_of.ensures, c.order_at-order.ensures)
          (kept_more (of_security c.args.security (order_at c.args.book.now c.loop-i.i)) c.loop-i.keys c.loop-i.count (key_of c.loop-i.i (order_at c.args.book.now c.loop-i.i)) _ (omega arith)
          ∙ ap (λ ks. take c.loop-i.count c.loop-i.keys ++ ks) (sym h) ∙ c.loop-i.invariant.3),
    )

pub returns : goal.returns
returns c =
    let d = keys_done c.args.security c.args.book.now c.loop-i.i (omega (arith, c.requires.1)) in
    (omega arith, sym (append-nil (take c.loop-i.count c.loop-i.keys)) ∙ rw d at c.loop-i.invariant.3)

pub overflow_mul-i : goal.overflow_mul-i
overflow_mul-i c = omega (arith, sound_fits c.args.book.now c.requires.0, c.requires.1)
