-- `conversion::old::is_sound` meets its contract: the three tests of the records that were counted.
use Prim.Native.Nat.{◌*◌}
use mathlib.Core.Path.{◌≡◌, sym, ap, ◌∙◌}
use lib.ListN.{length, take}
use lib.Seq.{take_at}
use Rattle.units.specs.Lists.{all, flat_map, is_zero}
use Rattle.units.proofs.Scanning.{take_rest}
use Rattle.record.specs.declared.form.RecordForm.TheVariants.{Old, New}
use Rattle.record.specs.Record.{new_form, old_form}
use Rattle.book.specs.Sound.{first_records, sound}
use Rattle.book.proofs.Checking.{known_test}
use Rattle.conversion.specs.Conversion.{turned}
use Rattle.conversion.proofs.Turned.{length_all_turned}
use Rattle.conversion.proofs.OldBooks.{few_records, old_sound}
use Rattle.conversion.proofs.old.is_sound.Goals as goal

pub returns : goal.returns
unfolding sound
returns c =
    let s = c.args.book.now in
    let n = c.args.n in
    let front = flat_map (turned new_form) (first_records old_form n s) in
    let l : length front ≡ c.turn-end.result = length_all_turned Old New n s c.requires.2 ∙ sym c.turn-end.ensures.0 in
    let made = ap (take c.turn-end.result) c.turn-end.ensures.1 ∙ take_at front _ c.turn-end.result l in
    let checked = c.is_ok.ensures.value ∙ known_test (take c.turn-end.result c.turn-end.new.target) c.occupancy.result c.occupancy.ensures ∙ ap sound made in
    rw (
      c.are_plain.ensures,
      c.zeros.ensures ∙ ap (all is_zero) (take_rest (32 * n) s),
      checked,
    )
    (sym (old_sound s n c.requires.2 (few_records s n c.requires.0 c.requires.2) c.requires.1 c.requires.0))
