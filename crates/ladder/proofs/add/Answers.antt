-- `ladder::add` meets its contract: refused before it is decided, or decided as the plain call, with the ladder kept.
use mathlib.Core.Path.{refl, sym, ◌∙◌}
use Rattle.std.proofs.lemmas.Result.{err_from_is_err_and}
use Rattle.book.proofs.Committing.{above}
use Rattle.ladder.specs.Ladder.{add_ladder_call}
use Rattle.ladder.proofs.Keeping.{kept_accepted}
use Rattle.ladder.proofs.Forms.{form_range, form_seen, form_made, kept_refused, answers}
use Rattle.ladder.proofs.EntryForms.{add_plain}
use Rattle.ladder.proofs.add.Goals as goal

pub returns-then-not-in_range : goal.returns-then-not-in_range
unfolding add_ladder_call
returns-then-not-in_range c =
    let p = add_plain c.args.request c.args.book.now in
    let a = answers c.args.request.security p c.args.ladder.now
    (form_range c.args.request.security p c.args.ladder.now (sym c.in_range.ensures ∙ c.if-not-in_range.true)) in
    record { refused = a.0; bytes = a.1.0; ladder_bytes = a.1.1.0; kept_sound = a.1.1.1.0; kept_ladder = a.1.1.1.1.0; unchanged = a.1.1.1.1.1.0; as_plain = a.1.1.1.1.1.1 }

pub returns-in_err-seen : goal.returns-in_err-seen
unfolding add_ladder_call
returns-in_err-seen c =
    let e = err_from_is_err_and c.from_residual.result c.from_residual.ensures.1 in
    let p = add_plain c.args.request c.args.book.now in
    let a = answers c.args.request.security p c.args.ladder.now
    (form_seen c.args.request.security p c.args.ladder.now (sym c.in_range.ensures ∙ c.if-not-in_range.false) _ c.in_err-seen.ensures (above _)) in
    rw (e.1, e.2) (record { refused = a.0; bytes = a.1.0; ladder_bytes = a.1.1.0; kept_sound = a.1.1.1.0; kept_ladder = a.1.1.1.1.0; unchanged = a.1.1.1.1.1.0; as_plain = a.1.1.1.1.1.1 })

pub add_checked-requires : goal.add_checked-requires
add_checked-requires c =
    let b = kept_accepted c.args.request.security c.args.book.now c.args.ladder.now _ c.in_ok-seen.ensures refl in
    (sym c.in_range.ensures ∙ c.if-not-in_range.false, b.is_sound, b.counted)

pub returns-in_err-add_checked : goal.returns-in_err-add_checked
unfolding add_ladder_call
returns-in_err-add_checked c =
    let e = err_from_is_err_and c.from_residual-in_err-add_checked.result c.from_residual-in_err-add_checked.ensures.1 in
    let p = add_plain c.args.request c.args.book.now in
    let a = answers c.args.request.security p c.args.ladder.now
    (form_made c.args.request.security p c.args.ladder.now (sym c.in_range.ensures ∙ c.if-not-in_range.false) _ c.in_ok-seen.ensures refl
    c.in_err-add_checked.ensures.refused c.in_err-add_checked.ensures.bytes (kept_refused c.args.request.security _ _ _ (above _))) in
    rw (e.1, e.2) (record { refused = a.0; bytes = a.1.0; ladder_bytes = a.1.1.0; kept_sound = a.1.1.1.0; kept_ladder = a.1.1.1.1.0; unchanged = a.1.1.1.1.1.0; as_plain = a.1.1.1.1.1.1 })

pub keep-requires : goal.keep-requires
keep-requires c =
    let b = kept_accepted c.args.request.security c.args.book.now c.args.ladder.now _ c.in_ok-seen.ensures refl in
    (c.in_ok-add_checked.ensures.kept_sound refl, b.long, b.few, b.clear)

pub returns : goal.returns
unfolding add_ladder_call
returns c =
    let p = add_plain c.args.request c.args.book.now in
    let a = answers c.args.request.security p c.args.ladder.now
    (form_made c.args.request.security p c.args.ladder.now (sym c.in_range.ensures ∙ c.if-not-in_range.false) _ c.in_ok-seen.ensures refl
    c.in_ok-add_checked.ensures.refused c.in_ok-add_checked.ensures.bytes c.keep.ensures) in
    record { refused = a.0; bytes = a.1.0; ladder_bytes = a.1.1.0; kept_sound = a.1.1.1.0; kept_ladder = a.1.1.1.1.0; unchanged = a.1.1.1.1.1.0; as_plain = a.1.1.1.1.1.1 }
