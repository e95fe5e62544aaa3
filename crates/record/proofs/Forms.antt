-- The bytes of a form of record, both ways: one law for every form.
use Prim.Native.Nat.{ℕ, ◌≤◌}
use mathlib.Core.Path.{◌≡◌, sym, ap, ◌∙◌}
use mathlib.Core.Bool.{true}
use mathlib.Core.List.{List, [], ◌++◌, append-nil, append_assoc}
use native.Mathlib.Omega.{arith}
use lib.ListN.{length, take, drop, length-append, length-drop, take-append-drop}
use lib.Seq.{take-append_seam, drop-append_seam, length-take-le}
use Rattle.units.proofs.Facts.{same_numbers_lem, numbers_same}
use Rattle.record.specs.Codec.{Form, form_bytes, join, encode, decode, has_mark}
use Rattle.record.proofs.Numbers.{Fits, AreBytes, bytes_drop, length_join, length_split, join_first, split_join, join_split}

module _ (f : Form) where
  -- a record has the bytes of its form
  pub length_encode : (ns : List ℕ) → length ns ≡ length f.widths → length (encode f ns) ≡ form_bytes f
  unfolding encode
  length_encode ns e = length-append f.mark (join f.widths ns) ∙ omega (arith, length_join f.widths ns e)

  -- it is that of as many numbers as it has
  pub encode_first : (ns : List ℕ) → encode f (take (length f.widths) ns) ≡ encode f ns
  unfolding encode
  encode_first ns = ap (λ l. f.mark ++ l) (join_first f.widths ns)

  -- of more it has its bytes too
  pub length_first : (ns : List ℕ) → length f.widths ≤ length ns → length (encode f ns) ≡ form_bytes f
  length_first ns h =
      let n = length f.widths in
      ap length (sym (encode_first ns)) ∙ length_encode (take n ns) (length-take-le n ns h)

  -- a record has a number for every width
  pub length_decode : (s : List ℕ) → length (decode f s) ≡ length f.widths
  unfolding decode
  length_decode s = length_split f.widths (drop (length f.mark) s)

  -- a record has its form's mark
  pub mark_encode : (ns : List ℕ) → has_mark f (encode f ns) ≡ true
  unfolding encode
  mark_encode ns = rw (take-append_seam f.mark (join f.widths ns)) (same_numbers_lem f.mark)

  -- numbers that fit are read back as they were written, whatever stands behind them
  pub decode_front : (ns t : List ℕ) → Fits f.widths ns → decode f (encode f ns ++ t) ≡ ns
  unfolding encode decode
  decode_front ns t h = rw (append_assoc, drop-append_seam f.mark (join f.widths ns ++ t)) (split_join f.widths ns t h)

  -- numbers that fit are read back as they were written
  pub decode_encode : (ns : List ℕ) → Fits f.widths ns → decode f (encode f ns) ≡ ns
  decode_encode ns h = ap (decode f) (sym (append-nil (encode f ns))) ∙ decode_front ns [] h

  -- and of more numbers than it has as many as it has
  pub decode_first : (ns : List ℕ) → Fits f.widths (take (length f.widths) ns) → decode f (encode f ns) ≡ take (length f.widths) ns
  decode_first ns h = ap (decode f) (sym (encode_first ns)) ∙ decode_encode (take (length f.widths) ns) h

  -- a marked record is written back as it was
  pub encode_decode : (s : List ℕ) → has_mark f s ≡ true → AreBytes s → length s ≡ form_bytes f → encode f (decode f s) ≡ s
  unfolding encode decode
  encode_decode s m b e =
      let n = length f.mark in
      let j = join_split f.widths (drop n s) (bytes_drop n s b) (length-drop n s ∙ omega arith) in
      rw j (ap (λ l. l ++ drop n s) (sym (numbers_same (take n s) f.mark m)) ∙ take-append-drop n s)
