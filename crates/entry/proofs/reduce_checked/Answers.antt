-- `entry::reduce_checked` meets its contract: what was decided is what the call comes to.
use mathlib.Core.Path.{sym, ap, ◌∙◌}
use native.Mathlib.Omega.{arith}
use Rattle.std.specs.Prelude.{Ok}
use Rattle.std.proofs.lemmas.Result.{err_from_is_err_and}
use Rattle.record.proofs.Numbers.{are_bytes}
use Rattle.book.proofs.Committing.{refusal_answer, written_answer, removed_answer}
use Rattle.entry.specs.Reduce.{reduce_call}
use Rattle.entry.proofs.Reducing.{reduce_sound}
use Rattle.entry.proofs.ReducePlan.{plan_refused, plan_kept, plan_gone}
use Rattle.entry.proofs.reduce_checked.Goals as goal

pub write_order-requires : goal.write_order-requires
write_order-requires c =
    (plan_kept c.args.security c.args.number c.args.shares c.args.book.now _ _ (ap Ok (sym c.in-Kept.is) ∙ c.in_ok-reduction.ensures)).inside

pub remove-requires : goal.remove-requires
remove-requires c =
    (plan_gone c.args.security c.args.number c.args.shares c.args.book.now _ (ap Ok (sym c.in-Gone.is) ∙ c.in_ok-reduction.ensures)).inside

pub returns-in_err-reduction : goal.returns-in_err-reduction
returns-in_err-reduction c =
    let p = err_from_is_err_and c.from_residual.result c.from_residual.ensures.1 in
    let a = refusal_answer (reduce_call c.args.security c.args.number c.args.shares c.args.book.now) c.args.book.now (reduce_sound c.args.security c.args.number c.args.shares c.args.book.now) _
    (plan_refused c.args.security c.args.number c.args.shares c.args.book.now _ c.in_err-reduction.ensures) in
    rw (p.1, p.2) (record { refused = a.0; bytes = a.1.0; kept_sound = a.1.1 })

pub returns-in-Kept : goal.returns-in-Kept
returns-in-Kept c =
    let a = written_answer (reduce_call c.args.security c.args.number c.args.shares c.args.book.now) c.args.book.now (reduce_sound c.args.security c.args.number c.args.shares c.args.book.now)
    (are_bytes c.args.book.now (λ k. omega (arith, c.slice_known-1.given k))) _ _ _
    (plan_kept c.args.security c.args.number c.args.shares c.args.book.now _ _ (ap Ok (sym c.in-Kept.is) ∙ c.in_ok-reduction.ensures)) c.write_order.ensures in
    record { refused = a.0; bytes = a.1.0; kept_sound = a.1.1 }

pub returns-in-Gone : goal.returns-in-Gone
returns-in-Gone c =
    let a = removed_answer (reduce_call c.args.security c.args.number c.args.shares c.args.book.now) c.args.book.now (reduce_sound c.args.security c.args.number c.args.shares c.args.book.now)
    (are_bytes c.args.book.now (λ k. omega (arith, c.slice_known-1.given k))) _ _
    (plan_gone c.args.security c.args.number c.args.shares c.args.book.now _ (ap Ok (sym c.in-Gone.is) ∙ c.in_ok-reduction.ensures)) c.remove.ensures in
    record { refused = a.0; bytes = a.1.0; kept_sound = a.1.1 }
