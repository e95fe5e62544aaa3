-- `allocation::stretch::group_end` meets its contract: the keys passed are of the group.
use mathlib.Core.Path.{sym, ◌∙◌}
use Rattle.allocation.proofs.Parting.{ends_at}
use Rattle.allocation.proofs.stretch.group_end.Goals as goal

pub returns-then-group : goal.returns-then-group
returns-then-group c =
    ends_at c.args.keys.now c.requires.0 c.loop-k.invariant.0 c.loop-k.invariant.1 (λ j h n. c.loop-k.invariant.2 j n h)
    (λ h e. c.if-group.true (c.group.ensures ∙ e ∙ sym c.group-group.ensures))
