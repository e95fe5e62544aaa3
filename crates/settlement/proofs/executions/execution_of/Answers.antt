-- `settlement::executions::execution_of` meets its contract: the record lies in the book, and each number is read from it or from the fill.
use native.Mathlib.Omega.{arith}
use Rattle.book.proofs.Checking.{sound_fits}
use Rattle.settlement.proofs.executions.execution_of.Goals as goal

pub order_at-order-requires : goal.order_at-order-requires
order_at-order-requires c =
    let f = sound_fits c.args.book.now c.requires.0 in
    omega (arith, c.place.ensures, c.requires.1)
