-- `lookup::locate_checked` meets its contract: the order has a place in the book, or none.
use mathlib.Core.Path.{sym}
use native.Mathlib.Omega.{arith}
use native.Mathlib.Numerals.{lt_of_le_of_ne}
use Rattle.book.proofs.Checking.{sound_fits}
use Rattle.book.proofs.Finding.{computed_missing, computed_found}
use Rattle.lookup.proofs.locate_checked.Goals as goal

pub place_of-place-requires : goal.place_of-place-requires
place_of-place-requires c =
    omega (arith, sound_fits c.args.book.now c.requires.1)

pub returns-then-place-n-clause-answer : goal.returns-then-place-n-clause-answer
returns-then-place-n-clause-answer c =
    sym (computed_missing c.args.security c.args.number c.args.book.now c.requires.0 c.requires.1 _ _ c.requires.2 c.place_of-place.ensures.0 c.if-place-n.true)

pub returns-clause-answer : goal.returns-clause-answer
returns-clause-answer c =
    sym (computed_found c.args.security c.args.number c.args.book.now c.requires.0 c.requires.1 _ _ c.requires.2 c.place_of-place.ensures.0 c.if-place-n.false)

pub returns-clause-within : goal.returns-clause-within
returns-clause-within c =
    omega (arith, sound_fits c.args.book.now c.requires.1, lt_of_le_of_ne c.place_of-place.ensures.1 c.if-place-n.false)

pub overflow_mul-result : goal.overflow_mul-result
overflow_mul-result c = omega (arith, sound_fits c.args.book.now c.requires.1, c.place_of-place.ensures.1)
