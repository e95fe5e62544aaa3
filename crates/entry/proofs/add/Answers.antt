-- `entry::add` meets its contract: it is refused before anything is decided, or answers as one that is checked.
use mathlib.Core.Path.{sym, ◌∙◌}
use Rattle.std.proofs.lemmas.Result.{err_from_is_err_and}
use Rattle.book.proofs.Committing.{refusal_answer}
use Rattle.entry.specs.Add.{add_call}
use Rattle.entry.proofs.Adding.{add_sound}
use Rattle.entry.proofs.AddPlan.{add_unsound}
use Rattle.entry.proofs.add.Goals as goal

pub returns-in_err-n : goal.returns-in_err-n
returns-in_err-n c =
    let p = err_from_is_err_and c.from_residual.result c.from_residual.ensures.1 in
    let e = sym c.in_range.ensures ∙ c.if-not-in_range.false in
    let a = refusal_answer (add_call c.args.request c.args.book.now) c.args.book.now (add_sound c.args.request c.args.book.now) _ (add_unsound c.args.request c.args.book.now e c.in_err-n.ensures.0) in
    rw (p.1, p.2, c.in_err-n.ensures.1) (record { refused = a.0; bytes = a.1.0; kept_sound = a.1.1 })
