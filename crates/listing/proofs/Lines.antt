-- Texts put into a buffer one behind the other, and the fields of a line.
use Prim.Native.Nat.{ℕ, ◌+◌, ◌^◌, ◌≤◌, ◌<◌}
use mathlib.Core.Path.{◌≡◌, sym, ap, ap₂, ◌∙◌}
use mathlib.Core.List.{List, [], ◌∷◌, ◌++◌, append_assoc}
use Rattle.std.proofs.Common.{rules}
use native.Mathlib.Omega.{arith}
use lib.ListN.{length, take, drop, length-append}
use lib.Seq.{length-take-le, drop-drop, drop-append-add}
use Rattle.record.specs.Codec.{from_bytes, replaced, decode}
use Rattle.record.specs.Execution.{execution_of, decode_execution}
use Rattle.record.proofs.Pasting.{take_replaced}
use Rattle.std.specs.Fmt.{decimal}
use Rattle.std.proofs.lemmas.Fmt.{PrependsLastDigit, decimal_from_prepends, length-decimal-le}
use Rattle.listing.specs.Listing.{Placed, digits_before, field, execution_line}

-- bytes put behind others that were put in are put in with them
module _ (at : ℕ) (a b s : List ℕ) (h : at + length a + length b ≤ length s) where
  -- what stands behind both
  abbrev rest : List ℕ
  rest = drop (at + length a + length b) s

  behind_both : drop (at + length a + length b) (replaced at a s) ≡ rest
  behind_both =
      let x = take at s ++ a in
      let y = drop (at + length a) s in
      let n : at + length a + length b ≡ length x + length b = omega (arith, length-append (take at s) a, length-take-le at s (omega arith)) in
      ap₂ drop n (sym (append_assoc (take at s) a y)) ∙ drop-append-add x y (length b) ∙ drop-drop (length b) (at + length a) s

  joined : replaced (at + length a) b (replaced at a s) ≡ replaced at (a ++ b) s
  joined =
      let e : at + length a + length b ≡ at + length (a ++ b) = omega (arith, length-append a b) in
      ap₂ (λ u v. u ++ (b ++ v)) (take_replaced at a s (omega arith)) behind_both
      ∙ append_assoc (take at s) a (b ++ rest)
      ∙ ap (λ t. take at s ++ t) (sym (append_assoc a b rest) ∙ ap (λ j. (a ++ b) ++ drop j s) e)

-- a text behind another
pub placed_behind : {at : ℕ} {a b s m x : List ℕ} {r q : ℕ} → at + length a + length b ≤ length s → Placed at a s m r → Placed r b m x q
    → Placed at (a ++ b) s x q
placed_behind {at} {a} {b} {s} h p w = record {
  ends = omega (arith, p.ends, w.ends, length-append a b);
  bytes = w.bytes ∙ ap₂ (λ k t. replaced k b t) p.ends p.bytes ∙ joined at a b s h;
}

-- a text was put: where it ends, and the bytes
pub placed : {at : ℕ} {a s x : List ℕ} {r : ℕ} → r ≡ at + length a → x ≡ replaced at a s → Placed at a s x r
placed e b = record { ends = e; bytes = b }

-- the same text, said another way
pub placed_as : {at : ℕ} {a b s x : List ℕ} {r : ℕ} → a ≡ b → Placed at a s x r → Placed at b s x r
placed_as e p = rw e at p

-- the last digit is written in front of those behind it
prepends : PrependsLastDigit digits_before
unfolding digits_before
prepends = search rules

-- what the library writes of a number, and the byte behind it, are a field
pub field_of : {digits : List ℕ} {n : ℕ} (b : ℕ) → n < 2 ^ 32 → digits ≡ decimal n → digits ++ (b ∷ []) ≡ field n b
field_of {digits} {n} b h e =
    let l : length (decimal n) ≤ 10 = length-decimal-le 10 n (omega arith) (omega arith) (omega arith) in
    ap (λ ds. ds ++ (b ∷ [])) e ∙ sym (decimal_from_prepends digits_before prepends 10 n (b ∷ []) (omega arith) l)

-- the numbers of an execution stand at its bytes 4, 8 and 12
line_of : (s : List ℕ) (at : ℕ)
    → execution_line (decode_execution (drop at s))
    ≡ field (from_bytes (take 4 (drop (at + 4) s))) 32
    ++ (field (from_bytes (take 4 (drop (at + 8) s))) 32 ++ field (from_bytes (take 4 (drop (at + 12) s))) 10)
unfolding execution_of decode
line_of s at =
    let four : at + 2 + 1 + 1 ≡ at + 4 = omega arith in
    let eight : at + 4 + 4 ≡ at + 8 = omega arith in
    let twelve : at + 8 + 4 ≡ at + 12 = omega arith in
    rw (drop-drop 2 at s, drop-drop 1 (at + 2) s, drop-drop 1 (at + 2 + 1) s, four, drop-drop 4 (at + 4) s, eight, drop-drop 4 (at + 8) s, twelve)

-- the fields of an execution's numbers are its line
pub fields_line : (s : List ℕ) (at n p q : ℕ)
    → n ≡ from_bytes (take 4 (drop (at + 4) s)) → p ≡ from_bytes (take 4 (drop (at + 8) s)) → q ≡ from_bytes (take 4 (drop (at + 12) s))
    → (field n 32 ++ field p 32) ++ field q 10 ≡ execution_line (decode_execution (drop at s))
fields_line s at n p q en ep eq = append_assoc (field n 32) (field p 32) (field q 10) ∙ rw (en, ep, eq) (sym (line_of s at))
