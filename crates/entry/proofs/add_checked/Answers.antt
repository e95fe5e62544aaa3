-- `entry::add_checked` meets its contract: what was decided is what the call comes to.
use native.Mathlib.Omega.{arith}
use Rattle.std.proofs.lemmas.Result.{err_from_is_err_and}
use Rattle.record.proofs.Numbers.{are_bytes}
use Rattle.book.proofs.Committing.{refusal_answer, written_answer}
use Rattle.entry.specs.Add.{add_call}
use Rattle.entry.proofs.Adding.{add_sound}
use Rattle.entry.proofs.AddPlan.{plan_refused, plan_admitted}
use Rattle.entry.proofs.add_checked.Goals as goal

pub write_order-requires : goal.write_order-requires
write_order-requires c =
    (plan_admitted _ c.args.book.now _ _ c.in_ok-start.ensures).inside

pub returns-in_err-start : goal.returns-in_err-start
returns-in_err-start c =
    let p = err_from_is_err_and c.from_residual.result c.from_residual.ensures.1 in
    let a = refusal_answer (add_call c.args.request c.args.book.now) c.args.book.now (add_sound c.args.request c.args.book.now) _ (plan_refused c.args.request c.args.book.now _ c.in_err-start.ensures) in
    rw (p.1, p.2) (record { refused = a.0; bytes = a.1.0; kept_sound = a.1.1 })

pub returns : goal.returns
returns c =
    let a = written_answer (add_call c.args.request c.args.book.now) c.args.book.now (add_sound c.args.request c.args.book.now) (are_bytes c.args.book.now (λ k. omega (arith, c.slice_known-1.given k))) _ _ _
    (plan_admitted c.args.request c.args.book.now _ _ c.in_ok-start.ensures) c.write_order.ensures in
    record { refused = a.0; bytes = a.1.0; kept_sound = a.1.1 }
