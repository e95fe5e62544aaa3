-- `allocation::stretch::whole` meets its contract: all keys are filled, or the group of the first that isn't is the next.
use native.Mathlib.Numerals.{lt_of_le_of_ne}
use Rattle.allocation.proofs.Parting.{whole_before}
use Rattle.allocation.proofs.stretch.whole.Goals as goal

pub returns : goal.returns
returns c =
    let h = lt_of_le_of_ne c.filled-filled.ensures.0 c.if-filled-keys.false in
    whole_before c.args.keys.now c.requires h (c.filled-filled.ensures.2 h) c.filled-filled.ensures.1 c.group_start.ensures.0 c.group_start.ensures.1 c.group_start.ensures.2
