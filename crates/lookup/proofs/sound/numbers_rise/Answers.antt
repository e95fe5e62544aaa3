-- `lookup::sound::numbers_rise` meets its contract: those that were read rise, and what is left rises above the last, where all rise.
use Rattle.std.proofs.Common.{◌∙◌, sym}
use mathlib.Core.Bool.{and-true, and_assoc}
use Rattle.book.proofs.Walking.{orders_next, orders_end}
use Rattle.lookup.proofs.sound.numbers_rise.Goals as goal

pub loop-rec-preserved : goal.loop-rec-preserved
loop-rec-preserved c = rw and_assoc (rw (orders_next _ _ c.loop-rec-test.true _ c.read-number.ensures) at c.loop-rec.invariant)

pub returns : goal.returns
returns c = sym (and-true c.loop-rec.rising) ∙ (rw (orders_end _ _ c.loop-rec-test.false) at c.loop-rec.invariant)
