-- `allocation::credit::note_part` meets its contract: the paragraph says of which visibility the part is.
use mathlib.Core.Path.{◌≡◌}
use mathlib.Core.Bool.{true, false}
use lib.Dec.{leb}
use Rattle.orders.specs.Order.{shown, hidden}
use Rattle.parts.specs.Key.{group_in, paragraph_in}
use Rattle.parts.specs.Visible.{last_shown}
use Rattle.allocation.proofs.Crediting.{noted_shown, noted_hidden}
use Rattle.allocation.proofs.credit.note_part.Goals as goal

pub note-requires : goal.note-requires
note-requires c =
    rw c.place-place.ensures (c.requires shown)

pub note-requires-else-stands_up_to : goal.note-requires-else-stands_up_to
note-requires-else-stands_up_to c =
    rw c.place-place.ensures (c.requires hidden)

pub returns-then-stands_up_to : goal.returns-then-stands_up_to
returns-then-stands_up_to c =
    λ alg v e.
    let l : leb (paragraph_in (group_in c.args.key)) (last_shown alg) ≡ true = rw (← e, ← c.stands_up_to.ensures) c.if-stands_up_to.true in
    rw c.note.ensures (noted_shown alg c.args.key c.args.shares.0 c.args.shown.now c.args.hidden.now c.place-place.ensures l v)

pub returns-else-stands_up_to : goal.returns-else-stands_up_to
returns-else-stands_up_to c =
    λ alg v e.
    let l : leb (paragraph_in (group_in c.args.key)) (last_shown alg) ≡ false = rw (← e, ← c.stands_up_to.ensures) c.if-stands_up_to.false in
    rw c.note-else-stands_up_to.ensures (noted_hidden alg c.args.key c.args.shares.0 c.args.shown.now c.args.hidden.now c.place-place.ensures l v)
