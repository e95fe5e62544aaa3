-- `entry::reduce` meets its contract: it is refused before anything is decided, or answers as one that is checked.
use mathlib.Core.Path.{sym, ◌∙◌}
use Rattle.std.proofs.lemmas.Result.{err_from_is_err_and}
use Rattle.book.proofs.Committing.{refusal_answer}
use Rattle.entry.specs.Reduce.{reduce_call}
use Rattle.entry.proofs.Reducing.{reduce_sound}
use Rattle.entry.proofs.ReducePlan.{reduce_range, reduce_unsound}
use Rattle.entry.proofs.reduce.Goals as goal

pub returns-then-not-in_range : goal.returns-then-not-in_range
returns-then-not-in_range c =
    let a = refusal_answer (reduce_call c.args.security c.args.number c.args.shares c.args.book.now) c.args.book.now (reduce_sound c.args.security c.args.number c.args.shares c.args.book.now) _
    (reduce_range c.args.security c.args.number c.args.shares c.args.book.now (sym c.in_range.ensures ∙ c.if-not-in_range.true)) in
    record { refused = a.0; bytes = a.1.0; kept_sound = a.1.1 }

pub returns-in_err-n : goal.returns-in_err-n
returns-in_err-n c =
    let p = err_from_is_err_and c.from_residual.result c.from_residual.ensures.1 in
    let e = sym c.in_range.ensures ∙ c.if-not-in_range.false in
    let a = refusal_answer (reduce_call c.args.security c.args.number c.args.shares c.args.book.now) c.args.book.now (reduce_sound c.args.security c.args.number c.args.shares c.args.book.now) _
    (reduce_unsound c.args.security c.args.number c.args.shares c.args.book.now e c.in_err-n.ensures.0) in
    rw (p.1, p.2, c.in_err-n.ensures.1) (record { refused = a.0; bytes = a.1.0; kept_sound = a.1.1 })
