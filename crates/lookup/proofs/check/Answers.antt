-- `lookup::check` meets its contract, refusal by refusal, and by the orders counted.
use mathlib.Core.Path.{sym, ap, ◌∙◌}
use native.Mathlib.Omega.{arith}
use Rattle.std.proofs.lemmas.Result.{err_from_is_err_and}
use Rattle.orders.specs.Trading.{of_security}
use Rattle.book.specs.Sound.{first_orders}
use Rattle.book.proofs.Checking.{orders_first, sound_fits, check_range, check_unsound, check_sound}
use Rattle.lookup.specs.Setters.{count_of}
use Rattle.lookup.proofs.check.Goals as goal

pub returns-then-not-security_in_range : goal.returns-then-not-security_in_range
returns-then-not-security_in_range c =
    check_range c.args.book.now c.args.security (sym c.security_in_range.ensures ∙ c.if-not-security_in_range.true)

pub returns-in_err-occupancy : goal.returns-in_err-occupancy
returns-in_err-occupancy c =
    let r = sym c.security_in_range.ensures ∙ c.if-not-security_in_range.false in
    let p = err_from_is_err_and c.from_residual.result c.from_residual.ensures.1 in
    rw (p.1, p.2, c.in_err-occupancy.ensures.1) (check_unsound c.args.book.now c.args.security r c.in_err-occupancy.ensures.0)

pub count_of-requires : goal.count_of-requires
count_of-requires c =
    omega (arith, c.in_ok-occupancy.ensures.1, sound_fits c.args.book.now c.in_ok-occupancy.ensures.0)

pub returns : goal.returns
returns c =
    let r = sym c.security_in_range.ensures ∙ c.if-not-security_in_range.false in
    let b = c.in_ok-occupancy.ensures in
    let n = c.count_of.ensures ∙ ap (λ i. count_of (of_security c.args.security) (first_orders i c.args.book.now)) b.1 ∙ ap (count_of (of_security c.args.security)) (sym (orders_first c.args.book.now)) in
    ap (λ i. record { refusal = 0; orders = i }) n ∙ check_sound c.args.book.now c.args.security r b.0
