-- `moves::settle` is safe: settling is asked for a book that was checked, with a loss for each of its orders.
use native.Mathlib.Omega.{arith}
use Rattle.book.proofs.Checking.{sound_fits}
use Rattle.moves.proofs.settle.Goals as goal

pub settle-moves-requires : goal.settle-moves-requires
settle-moves-requires g c =
    let a = c.in-Ok.ensures in
    let f = sound_fits c.fill.new.book a.0 in
    (a.0, a.1, omega (arith, f.1), omega (arith, f.1))
