-- The execution as 16 bytes, both ways.
use Rattle.std.specs.Prelude.{ℕ, zero, suc, List, [], ◌∷◌, get_or, drop}
use Rattle.record.specs.declared.execution.Execution.{Execution}
use Rattle.record.specs.Codec.{Form, form_bytes, encode, decode}

-- mark 45 58 hex, the paragraph of the rule that gave the shares, a zero byte, then order number, price and shares
abbrev pub execution_form : Form
execution_form = record { mark = 0x45 ∷ 0x58 ∷ []; widths = 1 ∷ 1 ∷ 4 ∷ 4 ∷ 4 ∷ [] }

abbrev pub execution_bytes : ℕ
execution_bytes = form_bytes execution_form

-- its bytes
abbrev pub encode_execution : Execution → List ℕ
encode_execution e = encode execution_form (e.paragraph ∷ 0 ∷ e.number ∷ e.price.0 ∷ e.shares.0 ∷ [])

-- the execution that its numbers say
unfoldable pub execution_of : List ℕ → Execution
execution_of ns = record {
  number = get_or ns 2 0;
  price = record { 0 = get_or ns 3 0 };
  shares = record { 0 = get_or ns 4 0 };
  paragraph = get_or ns 0 0;
}

-- the execution at the start of a buffer
abbrev pub decode_execution : List ℕ → Execution
decode_execution s = execution_of (decode execution_form s)

-- the first n executions of a buffer
abbrev pub executions_in : ℕ → List ℕ → List Execution
executions_in zero s = []
executions_in (suc n) s = decode_execution s ∷ executions_in n (drop execution_bytes s)
