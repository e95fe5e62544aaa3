-- `conversion::to_old` meets its contract, refusal by refusal, and for a book that is turned.
use Prim.Native.Nat.{ℕ, ◌*◌, ◌≤◌}
use mathlib.Core.Path.{◌≡◌, sym, ap, ◌∙◌}
use mathlib.Core.Bool.{Bool, true, not}
use mathlib.Core.List.{List}
use native.Mathlib.Omega.{arith}
use lib.ListN.{length}
use Rattle.std.proofs.lemmas.Result.{err_from_is_err_and}
use Rattle.units.specs.Lists.{all}
use Rattle.record.specs.declared.form.RecordForm.TheVariants.{Old}
use Rattle.record.specs.Record.{new_form, old_form}
use Rattle.record.proofs.Numbers.{are_bytes}
use Rattle.book.specs.Sound.{occupied, records_in, first_records, orders_in, sound_in, sound, orders_of}
use Rattle.book.proofs.Checking.{orders_count, sound_fits}
use Rattle.conversion.specs.Conversion.{is_untold}
use Rattle.conversion.specs.Plain.{is_plain}
use Rattle.conversion.proofs.Refused.{refuses_unsound, refuses_untold, refuses_unfit}
use Rattle.conversion.proofs.Accepted.{target_holds}
use Rattle.conversion.proofs.Answering.{untold_plain, count_orders, refusal_answer, filled_answer}
use Rattle.conversion.proofs.to_old.Goals as goal

-- A book that was found sound.
module _ (source : List ℕ) (orders : ℕ) (accepted_here : (sound source ≡ true) × (orders ≡ length (orders_of source))) where
  sound_here : sound_in new_form source ≡ true
  unfolding sound
  sound_here = accepted_here.0

  count_here : orders ≡ length (occupied (records_in new_form source))
  count_here = accepted_here.1 ∙ orders_count source

  -- its orders lie in its bytes
  inside : 40 * orders ≤ length source
  inside = omega (arith, accepted_here.1, sound_fits source accepted_here.0)

  -- the old form tells its orders where its records were found plain
  told_by_plain : {b : Bool} → b ≡ all (is_plain new_form) (first_records new_form orders source) → is_untold old_form (orders_in new_form source) ≡ not b
  told_by_plain = untold_plain source sound_here orders count_here

pub returns-in_err-n : goal.returns-in_err-n
unfolding sound
returns-in_err-n c =
    let e = err_from_is_err_and c.from_residual.result c.from_residual.ensures.1 in
    let s = c.args.book.now in
    let a = refusal_answer Old s c.args.target.now 2 (refuses_unsound new_form old_form s c.args.target.now c.in_err-n.ensures.0) in
    rw (e.1, e.2, c.in_err-n.ensures.1) (record { refused = a.0; bytes = a.1.0; made_sound = a.1.1.0; same_orders = a.1.1.1 })

pub are_plain-requires : goal.are_plain-requires
are_plain-requires c = inside c.args.book.now _ c.in_ok-n.ensures

pub returns-then-not-are_plain : goal.returns-then-not-are_plain
returns-then-not-are_plain c =
    let s = c.args.book.now in
    let q = c.in_ok-n.ensures in
    let a = refusal_answer Old s c.args.target.now 11
    (refuses_untold new_form old_form s c.args.target.now (sound_here s _ q)
    (told_by_plain s _ q c.are_plain.ensures ∙ ap not c.if-not-are_plain.true)) in
    record { refused = a.0; bytes = a.1.0; made_sound = a.1.1.0; same_orders = a.1.1.1 }

pub returns-then-is_unfit : goal.returns-then-is_unfit
returns-then-is_unfit c =
    let s = c.args.book.now in
    let q = c.in_ok-n.ensures in
    let told = told_by_plain s _ q c.are_plain.ensures ∙ ap not c.if-not-are_plain.false in
    let n = count_orders Old s c.args.target.now _ (count_here s _ q) in
    let a = refusal_answer Old s c.args.target.now 12
    (refuses_unfit new_form old_form s c.args.target.now (sound_here s _ q) told (rw n at (sym c.is_unfit.ensures ∙ c.if-is_unfit.true))) in
    record { refused = a.0; bytes = a.1.0; made_sound = a.1.1.0; same_orders = a.1.1.1 }

pub fill-requires : goal.fill-requires
fill-requires c =
    let h = target_holds old_form (length c.args.target.now) _ (sym c.is_unfit.ensures ∙ c.if-is_unfit.false) in
    (inside c.args.book.now _ c.in_ok-n.ensures, omega (arith, h.0, h.2))

pub returns : goal.returns
returns c =
    let s = c.args.book.now in
    let q = c.in_ok-n.ensures in
    let told = told_by_plain s _ q c.are_plain.ensures ∙ ap not c.if-not-are_plain.false in
    let a = filled_answer Old s c.args.target.now _ (count_here s _ q) (are_bytes s (λ j. omega (arith, c.type_inv.book j)))
    (sound_here s _ q) told (sym c.is_unfit.ensures ∙ c.if-is_unfit.false) c.fill.ensures in
    record { refused = a.0; bytes = a.1.0; made_sound = a.1.1.0; same_orders = a.1.1.1 }
