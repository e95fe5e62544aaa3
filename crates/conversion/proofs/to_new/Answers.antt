-- `conversion::to_new` meets its contract, refusal by refusal, and for a book that is turned.
use mathlib.Core.Path.{sym, ◌∙◌}
use native.Mathlib.Omega.{arith}
use Rattle.record.specs.declared.form.RecordForm.TheVariants.{New}
use Rattle.record.specs.Record.{new_form, old_form}
use Rattle.record.proofs.Numbers.{are_bytes}
use Rattle.book.proofs.Checking.{sound_length_in}
use Rattle.conversion.proofs.Refused.{refuses_unsound, refuses_unfit}
use Rattle.conversion.proofs.Answering.{old_told, count_orders, refusal_answer, filled_answer}
use Rattle.conversion.proofs.to_new.Goals as goal

pub returns-then-not-is_whole : goal.returns-then-not-is_whole
returns-then-not-is_whole c =
    let a = refusal_answer New c.args.old.now c.args.target.now 2
    (refuses_unsound old_form new_form c.args.old.now c.args.target.now
    (sound_length_in old_form c.args.old.now (sym c.is_whole.ensures ∙ c.if-not-is_whole.true))) in
    record { refused = a.0; bytes = a.1.0; made_sound = a.1.1.0; same_orders = a.1.1.1 }

pub returns-then-not-is_sound : goal.returns-then-not-is_sound
returns-then-not-is_sound c =
    let a = refusal_answer New c.args.old.now c.args.target.now 2
    (refuses_unsound old_form new_form c.args.old.now c.args.target.now (sym c.is_sound.ensures ∙ c.if-not-is_sound.true)) in
    record { refused = a.0; bytes = a.1.0; made_sound = a.1.1.0; same_orders = a.1.1.1 }

pub returns-then-is_unfit : goal.returns-then-is_unfit
returns-then-is_unfit c =
    let s = c.args.old.now in
    let t = c.args.target.now in
    let sound = sym c.is_sound.ensures ∙ c.if-not-is_sound.false in
    let n = count_orders New s t _ c.count_occupied-n.ensures.0 in
    let a = refusal_answer New s t 12
    (refuses_unfit old_form new_form s t sound (old_told s sound) (rw n at (sym c.is_unfit.ensures ∙ c.if-is_unfit.true))) in
    record { refused = a.0; bytes = a.1.0; made_sound = a.1.1.0; same_orders = a.1.1.1 }

pub returns : goal.returns
returns c =
    let s = c.args.old.now in
    let t = c.args.target.now in
    let sound = sym c.is_sound.ensures ∙ c.if-not-is_sound.false in
    let a = filled_answer New s t _ c.count_occupied-n.ensures.0 (are_bytes s (λ j. omega (arith, c.type_inv.old j)))
    sound (old_told s sound) (sym c.is_unfit.ensures ∙ c.if-is_unfit.false) c.fill.ensures in
    record { refused = a.0; bytes = a.1.0; made_sound = a.1.1.0; same_orders = a.1.1.1 }
