-- `ladder::see` meets its contract, refusal by refusal.
use mathlib.Core.Path.{sym, ◌∙◌}
use Rattle.std.proofs.lemmas.Result.{err_from_is_err_and}
use Rattle.ladder.proofs.Keeping.{kept_unsound, kept_length, kept_other, kept_own}
use Rattle.ladder.proofs.Making.{some_if, none_if}
use Rattle.ladder.proofs.see.Goals as goal

pub returns-in_err-records : goal.returns-in_err-records
returns-in_err-records c =
    let p = err_from_is_err_and c.from_residual.result c.from_residual.ensures.1 in
    rw (p.1, p.2, c.in_err-records.ensures.1) (kept_unsound c.args.security c.args.book.now c.args.ladder.now c.in_err-records.ensures.0)

pub returns-then-ladder-ne-LADDER_BYTES : goal.returns-then-ladder-ne-LADDER_BYTES
returns-then-ladder-ne-LADDER_BYTES c =
    kept_length c.args.security c.args.book.now c.args.ladder.now c.in_ok-records.ensures.0 c.if-ladder-ne-LADDER_BYTES.true

pub hold-requires : goal.hold-requires
hold-requires c =
    (c.in_ok-records.ensures.0, c.in_ok-records.ensures.1, c.if-ladder-ne-LADDER_BYTES.false)

pub returns-in_default : goal.returns-in_default
returns-in_default c =
    kept_other c.args.security c.args.book.now c.args.ladder.now c.in_ok-records.ensures.0 c.if-ladder-ne-LADDER_BYTES.false (none_if _ _ c.in_default.ensures)

pub returns : goal.returns
returns c =
    let h = some_if _ c.in-Some.ensures in
    rw (c.in_ok-records.ensures.1, h.1)
    (kept_own c.args.security c.args.book.now c.args.ladder.now c.in_ok-records.ensures.0 c.if-ladder-ne-LADDER_BYTES.false h.0)
