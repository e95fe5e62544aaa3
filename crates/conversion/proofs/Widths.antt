-- The two forms by name: their laws, their widths, and records read one behind the other.
use Prim.Native.Nat.{◌≤◌}
use mathlib.Core.Path.{◌≡◌, refl}
use native.Mathlib.Omega.{arith}
use lib.ListN.{length}
use Rattle.record.specs.declared.form.RecordForm.{RecordForm}
use Rattle.record.specs.declared.form.RecordForm.TheVariants.{Old, New}
use Rattle.record.specs.Record.{order_bytes}
use Rattle.record.specs.Names.{form_of}
use Rattle.record.proofs.Records.{FormLaws, new_laws, old_laws}

pub form_laws : (f : RecordForm) → FormLaws (form_of f)
form_laws Old = old_laws
form_laws New = new_laws

-- a record has the 32 bytes that are common to both, and at most 40
pub width : (f : RecordForm) → (32 ≤ order_bytes (form_of f)) × (order_bytes (form_of f) ≤ 40)
width Old = omega arith
width New = omega arith

-- two of them are its mark
pub length_mark : (f : RecordForm) → length (form_of f).layout.mark ≡ 2
length_mark Old = refl
length_mark New = refl
