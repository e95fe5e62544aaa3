-- `ladder::take` meets its contract: refused before it is decided, or decided as the plain take, with the ladder kept.
use mathlib.Core.Path.{refl, sym, ◌∙◌}
use Rattle.std.proofs.lemmas.Result.{err_from_is_err_and}
use Rattle.book.proofs.Committing.{above}
use Rattle.ladder.proofs.Keeping.{kept_accepted}
use Rattle.ladder.proofs.Forms.{kept_refused}
use Rattle.ladder.proofs.TakeForm.{take_range, take_seen, take_made}
use Rattle.ladder.proofs.take.Goals as goal

pub returns-then-not-in_range : goal.returns-then-not-in_range
returns-then-not-in_range c =
    let a = take_range c.args.request c.args.book.now c.args.executions.now c.args.ladder.now (sym c.in_range.ensures ∙ c.if-not-in_range.true) in
    record { taken = a.0; book_bytes = a.1.0; execution_bytes = a.1.1.0; ladder_bytes = a.1.1.1.0; fair = a.1.1.1.1.0; kept_sound = a.1.1.1.1.1.0; kept_ladder = a.1.1.1.1.1.1.0; unchanged = a.1.1.1.1.1.1.1.0; as_plain = a.1.1.1.1.1.1.1.1 }

pub returns-in_err-seen : goal.returns-in_err-seen
returns-in_err-seen c =
    let e = err_from_is_err_and c.from_residual.result c.from_residual.ensures.1 in
    let a = take_seen c.args.request c.args.book.now c.args.executions.now c.args.ladder.now (sym c.in_range.ensures ∙ c.if-not-in_range.false) _
    c.in_err-seen.ensures (above _) in
    rw (e.1, e.2) (record { taken = a.0; book_bytes = a.1.0; execution_bytes = a.1.1.0; ladder_bytes = a.1.1.1.0; fair = a.1.1.1.1.0; kept_sound = a.1.1.1.1.1.0; kept_ladder = a.1.1.1.1.1.1.0; unchanged = a.1.1.1.1.1.1.1.0; as_plain = a.1.1.1.1.1.1.1.1 })

pub take_checked-requires : goal.take_checked-requires
take_checked-requires c =
    let b = kept_accepted c.args.request.security c.args.book.now c.args.ladder.now _ c.in_ok-seen.ensures refl in
    record { in_range = sym c.in_range.ensures ∙ c.if-not-in_range.false; is_sound = b.is_sound; counted = b.counted }

pub returns-in_err-filled : goal.returns-in_err-filled
returns-in_err-filled c =
    let e = err_from_is_err_and c.from_residual-in_err-filled.result c.from_residual-in_err-filled.ensures.1 in
    let t = c.in_err-filled.ensures in
    let a = take_made c.args.request c.args.book.now c.args.executions.now c.args.ladder.now (sym c.in_range.ensures ∙ c.if-not-in_range.false) _
    c.in_ok-seen.ensures refl t.0 t.1.0 t.1.1.0 (kept_refused c.args.request.security _ _ _ (above _)) in
    rw (e.1, e.2) (record { taken = a.0; book_bytes = a.1.0; execution_bytes = a.1.1.0; ladder_bytes = a.1.1.1.0; fair = a.1.1.1.1.0; kept_sound = a.1.1.1.1.1.0; kept_ladder = a.1.1.1.1.1.1.0; unchanged = a.1.1.1.1.1.1.1.0; as_plain = a.1.1.1.1.1.1.1.1 })

pub keep-requires : goal.keep-requires
keep-requires c =
    let b = kept_accepted c.args.request.security c.args.book.now c.args.ladder.now _ c.in_ok-seen.ensures refl in
    (c.in_ok-filled.ensures.1.1.1.1 refl, b.long, b.few, b.clear)

pub returns : goal.returns
returns c =
    let t = c.in_ok-filled.ensures in
    let a = take_made c.args.request c.args.book.now c.args.executions.now c.args.ladder.now (sym c.in_range.ensures ∙ c.if-not-in_range.false) _
    c.in_ok-seen.ensures refl t.0 t.1.0 t.1.1.0 c.keep.ensures in
    record { taken = a.0; book_bytes = a.1.0; execution_bytes = a.1.1.0; ladder_bytes = a.1.1.1.0; fair = a.1.1.1.1.0; kept_sound = a.1.1.1.1.1.0; kept_ladder = a.1.1.1.1.1.1.0; unchanged = a.1.1.1.1.1.1.1.0; as_plain = a.1.1.1.1.1.1.1.1 }
