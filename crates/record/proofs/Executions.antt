-- Executions and their bytes: what stands where, and that they are read back, one and many.
use Prim.Native.Nat.{ℕ, zero, suc, ◌+◌, ◌*◌, ◌^◌, ◌<◌}
use mathlib.Core.Path.{◌≡◌, refl, sym, ap}
use mathlib.Core.List.{List, [], ◌∷◌, ◌++◌, append_assoc}
use native.Mathlib.Omega.{arith}
use lib.ListN.{length, get_or, drop}
use lib.Seq.{drop_at, drop-drop}
use Rattle.units.specs.Lists.{flat_map}
use Rattle.units.proofs.Members.{Every}
use Rattle.record.specs.declared.execution.Execution.{Execution}
use Rattle.record.specs.Codec.{encode}
use Rattle.record.specs.Execution.{execution_form, execution_bytes, encode_execution, execution_of, decode_execution, executions_in}
use Rattle.record.proofs.Forms.{length_encode, decode_front}

-- an execution's numbers fit their widths: the paragraph one byte, the others four
pub record ExecutionFits (e : Execution) : Type 0 where
  pub number : e.number < 2 ^ 32
  pub price : e.price.0 < 2 ^ 32
  pub shares : e.shares.0 < 2 ^ 32
  pub paragraph : e.paragraph < 2 ^ 8

abbrev numbers : Execution → List ℕ
numbers e = e.paragraph ∷ 0 ∷ e.number ∷ e.price.0 ∷ e.shares.0 ∷ []

-- an execution has 16 bytes
pub length_execution : (e : Execution) → length (encode_execution e) ≡ execution_bytes
length_execution e = length_encode execution_form (numbers e) refl

-- an execution is read back, whatever stands behind it
pub decode_execution_lem : (e : Execution) (t : List ℕ) → ExecutionFits e → decode_execution (encode_execution e ++ t) ≡ e
unfolding execution_of
decode_execution_lem e t h =
    ap execution_of (decode_front execution_form (numbers e) t (omega arith, (omega arith, (omega arith, (omega arith, (omega arith, tt))))))

-- executions one behind the other are read back, whatever stands behind them
pub executions_in_lem : (es : List Execution) (t : List ℕ) → Every ExecutionFits es
    → executions_in (length es) (flat_map encode_execution es ++ t) ≡ es
executions_in_lem [] t h = refl
executions_in_lem (e ∷ es) t h =
    let r = flat_map encode_execution es ++ t in
    rw (
      append_assoc,
      decode_execution_lem e r h.0,
      drop_at (encode_execution e) r execution_bytes (length_execution e),
      executions_in_lem es t h.1,
    )

-- the paragraph stands in byte 2
pub execution_byte2 : (e : Execution) (t : List ℕ) → ExecutionFits e → get_or (encode_execution e ++ t) 2 0 ≡ e.paragraph
unfolding encode
execution_byte2 e t h = let l = h.paragraph in omega arith

-- byte 3 is zero
pub execution_byte3 : (e : Execution) (t : List ℕ) → get_or (encode_execution e ++ t) 3 0 ≡ 0
unfolding encode
execution_byte3 e t = refl

-- Bytes that begin with an execution of which something holds.
pub record Begins (P : Execution → Type 0) (bytes : List ℕ) : Type 0 where
  pub execution : Execution
  pub holds : P execution
  pub behind : List ℕ
  pub are : bytes ≡ encode_execution execution ++ behind

-- each of executions one behind the other begins 16 bytes behind the one before it
pub executions_at : (P : Execution → Type 0) (es : List Execution) (t : List ℕ) → Every P es → (k : ℕ) → k < length es
    → Begins P (drop (execution_bytes * k) (flat_map encode_execution es ++ t))
executions_at P [] t h k l = absurd (omega arith)
executions_at P (e ∷ es) t h zero l =
    record { execution = e; holds = h.0; behind = flat_map encode_execution es ++ t; are = append_assoc (encode_execution e) (flat_map encode_execution es) t }
executions_at P (e ∷ es) t h (suc k) l =
    let r = flat_map encode_execution es ++ t in
    let n : execution_bytes * suc k ≡ execution_bytes + execution_bytes * k = omega arith in
    rw (
      append_assoc (encode_execution e) (flat_map encode_execution es) t,
      n,
      sym (drop-drop (execution_bytes * k) execution_bytes (encode_execution e ++ r)),
      drop_at (encode_execution e) r execution_bytes (length_execution e),
    ) (executions_at P es t h.1 k (omega arith))
