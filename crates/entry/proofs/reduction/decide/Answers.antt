-- `entry::reduction::decide` meets its contract, refusal by refusal.
use mathlib.Core.Path.{refl, sym, ap, ◌∙◌}
use borrow.Author.Tests.{leb-true}
use Rattle.std.specs.Prelude.{Ok}
use Rattle.std.proofs.lemmas.Result.{err_from_is_err_and}
use Rattle.book.proofs.Committing.{above}
use Rattle.orders.specs.Order.{interest_of, all_shares}
use Rattle.entry.proofs.ReducePlan.{find_refused, order_inside, order_reduced}
use Rattle.entry.proofs.reduction.decide.Goals as goal

pub returns-in_err-start : goal.returns-in_err-start
returns-in_err-start c =
    let p = err_from_is_err_and c.from_residual.result c.from_residual.ensures.1 in
    rw (p.1, p.2) (find_refused c.args.security c.args.number c.args.shares c.args.book.now c.requires.0 _ c.in_err-start.ensures.answer (above _))

pub order_at-order-requires : goal.order_at-order-requires
order_at-order-requires c =
    order_inside c.args.security c.args.number c.args.shares c.args.book.now c.requires.0 _ c.in_ok-start.ensures.answer refl

pub returns : goal.returns
returns c =
    let l = leb-true c.args.shares (all_shares (interest_of c.order_at-order.result)) (sym c.has.ensures ∙ c.if-not-has.false) in
    ap Ok c.outcome.ensures
    ∙ order_reduced c.args.security c.args.number c.args.shares c.args.book.now c.requires.0 _ c.in_ok-start.ensures.answer refl _
    c.order_at-order.ensures l _ c.reduced.ensures
