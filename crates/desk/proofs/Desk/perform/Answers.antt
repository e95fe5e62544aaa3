-- `desk::Desk::perform` meets its contract, command by command.
use borrow.Author.Tests.{ne_eqb}
use Rattle.std.proofs.lemmas.Result.{err_from_is_err_and}
use Rattle.book.proofs.Committing.{above}
use Rattle.desk.specs.Desk.{performed}
use Rattle.desk.proofs.Desk.perform.Goals as goal

pub returns-in_default-clause-answer : goal.returns-in_default-clause-answer
unfolding performed
returns-in_default-clause-answer c = rw c.in_default.is

pub returns-in-Choose-clause-answer : goal.returns-in-Choose-clause-answer
unfolding performed
returns-in-Choose-clause-answer c = rw (c.in-Some.is, c.in-Choose.is)

pub returns-in_ok-add-in-Add-clause-answer : goal.returns-in_ok-add-in-Add-clause-answer
unfolding performed
returns-in_ok-add-in-Add-clause-answer c =
    let e = c.in_ok-add-in-Add.ensures in
    rw (c.in-Some.is, c.in-Add.is, ← e.refused, e.bytes)

pub returns-in_err-add-in-Add-clause-answer : goal.returns-in_err-add-in-Add-clause-answer
unfolding performed
returns-in_err-add-in-Add-clause-answer c =
    let p = err_from_is_err_and c.from_residual.result c.from_residual.ensures.1 in
    let e = c.in_err-add-in-Add.ensures in
    rw (p.1, p.2, c.in-Some.is, c.in-Add.is, ← e.refused, ne_eqb _ 0 (above c.in_err-add-in-Add.field-0.0), e.bytes)

pub returns-in_ok-reduce-in-Reduce-clause-answer : goal.returns-in_ok-reduce-in-Reduce-clause-answer
unfolding performed
returns-in_ok-reduce-in-Reduce-clause-answer c =
    let e = c.in_ok-reduce-in-Reduce.ensures in
    rw (c.in-Some.is, c.in-Reduce.is, ← e.refused, e.bytes)

pub returns-in_err-reduce-in-Reduce-clause-answer : goal.returns-in_err-reduce-in-Reduce-clause-answer
unfolding performed
returns-in_err-reduce-in-Reduce-clause-answer c =
    let p = err_from_is_err_and c.from_residual-in_err-reduce-in-Reduce.result c.from_residual-in_err-reduce-in-Reduce.ensures.1 in
    let e = c.in_err-reduce-in-Reduce.ensures in
    rw (p.1, p.2, c.in-Some.is, c.in-Reduce.is, ← e.refused, ne_eqb _ 0 (above c.in_err-reduce-in-Reduce.field-0.0), e.bytes)

pub returns-in_ok-filled-in-Take-clause-answer : goal.returns-in_ok-filled-in-Take-clause-answer
unfolding performed
returns-in_ok-filled-in-Take-clause-answer c =
    let e = c.in_ok-filled-in-Take.ensures in
    rw (c.in-Some.is, c.in-Take.is, ← e.taken, e.book_bytes, e.execution_bytes)

pub returns-in_err-filled-in-Take-clause-answer : goal.returns-in_err-filled-in-Take-clause-answer
unfolding performed
returns-in_err-filled-in-Take-clause-answer c =
    let p = err_from_is_err_and c.from_residual-in_err-filled-in-Take.result c.from_residual-in_err-filled-in-Take.ensures.1 in
    let e = c.in_err-filled-in-Take.ensures in
    rw (p.1, p.2, c.in-Some.is, c.in-Take.is, ← e.taken, ne_eqb _ 0 (above c.in_err-filled-in-Take.field-0.0), e.book_bytes, e.execution_bytes)
