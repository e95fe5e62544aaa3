-- A record in another form: its bytes, and that it is put in part by part.
use Prim.Native.Nat.{ℕ, zero, suc, ◌+◌, ◌-◌, ◌*◌, ◌≤◌}
use mathlib.Core.Path.{◌≡◌, sym, ap, ◌∙◌}
use mathlib.Core.List.{List, ◌++◌, append_assoc}
use native.Mathlib.Omega.{arith}
use native.Mathlib.Nat.{mul-zero, mul-suc}
use lib.ListN.{length, take, drop, replicate, length-append, length-drop, length-replicate}
use lib.Seq.{length-take-le}
use Rattle.units.specs.Lists.{flat_map}
use Rattle.units.proofs.Members.{Every}
use Rattle.record.specs.declared.form.RecordForm.{RecordForm}
use Rattle.record.specs.Codec.{replaced}
use Rattle.record.specs.Record.{order_bytes}
use Rattle.record.specs.Names.{form_of}
use Rattle.record.proofs.Pasting.{replaced_next}
use Rattle.book.specs.Sound.{first_records}
use Rattle.conversion.specs.Conversion.{turned}
use Rattle.conversion.proofs.Widths.{width, length_mark}

-- A record of 32 bytes or more.
module _ (f : RecordForm) (r : List ℕ) (h : 32 ≤ length r) where
  abbrev mark : List ℕ
  mark = (form_of f).layout.mark

  abbrev kept : List ℕ
  kept = take 30 (drop 2 r)

  abbrev rest : List ℕ
  rest = replicate (order_bytes (form_of f) - 32) 0

  pub length_kept : length kept ≡ 30
  length_kept = length-take-le 30 (drop 2 r) (omega (arith, length-drop 2 r))

  length_rest : length rest ≡ order_bytes (form_of f) - 32
  length_rest = length-replicate (order_bytes (form_of f) - 32) 0

  -- it has the bytes of the other form
  pub length_turned : length (turned (form_of f) r) ≡ order_bytes (form_of f)
  length_turned =
      length-append mark (kept ++ rest) ∙ omega (arith, length-append kept rest, length_mark f, length_kept, length_rest, width f)

  -- the mark, bytes 2 to 31 and zeros put in one behind the other are the record
  pub put_parts : (at : ℕ) (t : List ℕ) → at + order_bytes (form_of f) ≤ length t
      → replaced (at + 32) rest (replaced (at + 2) kept (replaced at mark t)) ≡ replaced at (turned (form_of f) r) t
  put_parts at t k =
      let m = length_mark f in
      let a : at + 2 ≡ at + length mark = omega arith in
      let n : length (mark ++ kept) ≡ 32 = length-append mark kept ∙ omega (arith, length_kept) in
      let b : at + 32 ≡ at + length (mark ++ kept) = omega arith in
      ap (λ x. replaced (at + 32) rest x)
      (ap (λ i. replaced i kept (replaced at mark t)) a ∙ replaced_next at mark kept t (omega (arith, length_kept, width f)))
      ∙ ap (λ i. replaced i rest (replaced at (mark ++ kept) t)) b
      ∙ replaced_next at (mark ++ kept) rest t (omega (arith, length_rest, width f))
      ∙ ap (λ x. replaced at x t) (append_assoc mark kept rest)

-- The records of a book of one form, turned into the other.
module _ (from to : RecordForm) where
  abbrev own : ℕ
  own = order_bytes (form_of from)

  -- each has the bytes of its form, and so those that both have
  pub records_common : (n : ℕ) (s : List ℕ) → own * n ≤ length s → Every (λ r. length r ≡ own) (first_records (form_of from) n s)
  records_common zero s h = tt
  records_common (suc n) s h =
      let m = mul-suc own n in
      (length-take-le own s (omega arith), records_common n (drop own s) (omega (arith, length-drop own s)))

  -- they have the bytes of the other form
  pub length_all_turned : (n : ℕ) (s : List ℕ) → own * n ≤ length s
      → length (flat_map (turned (form_of to)) (first_records (form_of from) n s)) ≡ order_bytes (form_of to) * n
  length_all_turned zero s h = sym (mul-zero (order_bytes (form_of to)))
  length_all_turned (suc n) s h =
      let m = mul-suc own n in
      let r = take own s in
      let l : length r ≡ own = length-take-le own s (omega arith) in
      let i = length_all_turned n (drop own s) (omega (arith, length-drop own s)) in
      length-append (turned (form_of to) r) (flat_map (turned (form_of to)) (first_records (form_of from) n (drop own s)))
      ∙ omega (arith, length_turned to r (omega (arith, width from)), i, mul-suc (order_bytes (form_of to)) n)
