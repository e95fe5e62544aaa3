-- `take::take` meets its contract, refusal by refusal, and as a checked take does.
use mathlib.Core.Path.{refl, sym, ◌∙◌}
use Rattle.std.proofs.lemmas.Result.{err_from_is_err_and}
use Rattle.take.proofs.Answers.{refused_range, refused_book}
use Rattle.take.proofs.take.Goals as goal

pub returns-then-not-in_range : goal.returns-then-not-in_range
returns-then-not-in_range c =
    let a = refused_range c.args.request c.args.book.now c.args.executions.now (sym c.in_range.ensures ∙ c.if-not-in_range.true) in
    record { taken = a.0; book_bytes = a.1.0; execution_bytes = a.1.1.0; fair = a.1.1.1.0; kept_sound = a.1.1.1.1 }

pub returns-in_err-n : goal.returns-in_err-n
returns-in_err-n c =
    let p = err_from_is_err_and c.from_residual.result c.from_residual.ensures.1 in
    let a = refused_book c.args.request c.args.book.now c.args.executions.now (sym c.in_range.ensures ∙ c.if-not-in_range.false) refl c.in_err-n.ensures.0 in
    rw (p.1, p.2, c.in_err-n.ensures.1) (record { taken = a.0; book_bytes = a.1.0; execution_bytes = a.1.1.0; fair = a.1.1.1.0; kept_sound = a.1.1.1.1 })

-- what was seen: the numbers are in range, the book is sound and has so many orders
pub take_checked-requires : goal.take_checked-requires
take_checked-requires c =
    record { in_range = sym c.in_range.ensures ∙ c.if-not-in_range.false; is_sound = c.in_ok-n.ensures.0; counted = c.in_ok-n.ensures.1 }
