-- What the old form tells, read from a record's bytes: they stand at the same places in both forms.
use Prim.Native.Nat.{ℕ}
use mathlib.Core.Path.{◌≡◌}
use mathlib.Core.Bool.{◌&&◌}
use mathlib.Core.List.{List}
use lib.ListN.{get_or, take}
use Rattle.units.specs.Lists.{in_range, is_zero, same_numbers}
use Rattle.record.specs.declared.form.RecordForm.{RecordForm}
use Rattle.record.specs.declared.form.RecordForm.TheVariants.{Old, New}
use Rattle.record.specs.Record.{new_form, old_form, old_tells}
use Rattle.record.specs.Names.{form_of}
use Rattle.record.proofs.Reading.{from_one, zero_parts, decode_at}
use Rattle.conversion.specs.Plain.{is_plain}

module _ (s : List ℕ) where
  pub plain_bytes : (f : RecordForm)
      → (same_numbers (take 2 s) (form_of f).layout.mark && (in_range 1 3 (get_or s 3 0) && is_zero (get_or s 21 0) && (is_zero (get_or s 22 0) && is_zero (get_or s 23 0))))
      ≡ is_plain (form_of f) s
  unfolding old_tells
  plain_bytes Old = rw (decode_at old_form.layout s, from_one 3 s, from_one 21 s, zero_parts 1 1 22 s, from_one 22 s, from_one 23 s)
  plain_bytes New = rw (decode_at new_form.layout s, from_one 3 s, from_one 21 s, zero_parts 1 1 22 s, from_one 22 s, from_one 23 s)
