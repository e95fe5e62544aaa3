-- `lookup::locate` meets its contract, refusal by refusal, and as a checked one does.
use mathlib.Core.Path.{sym, ◌∙◌}
use Rattle.std.proofs.lemmas.Result.{err_from_is_err_and}
use Rattle.book.proofs.Finding.{find_range, find_unsound}
use Rattle.lookup.proofs.locate.Goals as goal

pub returns-else-in_range-clause-answer : goal.returns-else-in_range-clause-answer
returns-else-in_range-clause-answer c =
    sym (find_range c.args.security c.args.number c.args.book.now (sym c.in_range.ensures ∙ c.if-in_range.false))

pub returns-in_err-occupancy-clause-answer : goal.returns-in_err-occupancy-clause-answer
returns-in_err-occupancy-clause-answer c =
    let f = find_unsound c.args.security c.args.number c.args.book.now (sym c.in_range.ensures ∙ c.if-in_range.true) c.in_err-occupancy.ensures.0 in
    let p = err_from_is_err_and c.from_residual.result c.from_residual.ensures.1 in
    rw (p.1, p.2, c.in_err-occupancy.ensures.1) (sym f)
