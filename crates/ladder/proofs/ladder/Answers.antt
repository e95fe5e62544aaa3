-- `ladder::ladder` meets its contract, refusal by refusal, and for a sound book.
use Prim.Native.Nat.{◌*◌}
use mathlib.Core.Path.{refl, sym, ◌∙◌}
use native.Mathlib.Omega.{arith}
use borrow.Author.Rules.{rules}
use lib.ListN.{drop_of_length-le}
use Rattle.std.proofs.lemmas.Result.{err_from_is_err_and}
use Rattle.ladder.proofs.New.{new_range, new_unsound, new_length, new_made}
use Rattle.ladder.proofs.ladder.Goals as goal

pub returns-then-not-security_in_range : goal.returns-then-not-security_in_range
returns-then-not-security_in_range c =
    let a = new_range c.args.security c.args.book.now c.args.ladder.now (sym c.security_in_range.ensures ∙ c.if-not-security_in_range.true) in
    record { refused = a.0; ladder_bytes = a.1.0; tells = a.1.1 }

pub returns-in_err-n : goal.returns-in_err-n
returns-in_err-n c =
    let e = err_from_is_err_and c.from_residual.result c.from_residual.ensures.1 in
    let a = new_unsound c.args.security c.args.book.now c.args.ladder.now (sym c.security_in_range.ensures ∙ c.if-not-security_in_range.false) c.in_err-n.ensures.0 refl in
    rw (e.1, e.2, c.in_err-n.ensures.1) (record { refused = a.0; ladder_bytes = a.1.0; tells = a.1.1 })

pub returns-else-ladder-eq-LADDER_BYTES : goal.returns-else-ladder-eq-LADDER_BYTES
returns-else-ladder-eq-LADDER_BYTES c =
    let a = new_length c.args.security c.args.book.now c.args.ladder.now (sym c.security_in_range.ensures ∙ c.if-not-security_in_range.false)
    c.in_ok-n.ensures.0 c.if-ladder-eq-LADDER_BYTES.false in
    record { refused = a.0; ladder_bytes = a.1.0; tells = a.1.1 }

pub renew-requires : goal.renew-requires
renew-requires c =
    (c.in_ok-n.ensures.0, c.in_ok-n.ensures.1, c.if-ladder-eq-LADDER_BYTES.true, search rules, drop_of_length-le c.args.ladder.now {i = 24 * 256} (omega (arith, c.if-ladder-eq-LADDER_BYTES.true)))

pub returns-then-ladder-eq-LADDER_BYTES : goal.returns-then-ladder-eq-LADDER_BYTES
returns-then-ladder-eq-LADDER_BYTES c =
    let a = new_made c.args.security c.args.book.now c.args.ladder.now (sym c.security_in_range.ensures ∙ c.if-not-security_in_range.false) c.in_ok-n.ensures.0 c.if-ladder-eq-LADDER_BYTES.true c.renew.ensures in
    record { refused = a.0; ladder_bytes = a.1.0; tells = a.1.1 }
