-- The lines that a fillsheet writes.
use Rattle.std.specs.Prelude.{ℕ, zero, suc, ◌+◌, ◌/◌, ◌%◌, ◌≡◌, cond, List, [], ◌∷◌, ◌++◌, leb, length}
use Rattle.units.specs.Text.{ascii, digit_zero, line_feed, space}
use Rattle.record.specs.Codec.{replaced}
use Rattle.record.specs.declared.execution.Execution.{Execution}

-- a text was put into a buffer from a place on, and ends at r; no other byte is changed
pub record Placed (at : ℕ) (text before after : List ℕ) (r : ℕ) : Type 0 where
  pub ends : r ≡ at + length text
  pub bytes : after ≡ replaced at text before

-- the last k decimal digits of n at most, without leading zeros, in front of other bytes
unfoldable pub digits_before : ℕ → ℕ → List ℕ → List ℕ
digits_before zero n text = text
digits_before (suc k) n text = cond (leb 10 n) (digits_before k (n / 10) ((digit_zero + n % 10) ∷ text)) ((digit_zero + n % 10) ∷ text)

-- a number and the byte behind it; a number of four bytes has ten digits at most
abbrev pub field : ℕ → ℕ → List ℕ
field n b = digits_before 10 n (b ∷ [])

-- order number, price in ten-thousandths and shares, with a space between them, and a line feed
abbrev pub execution_line : Execution → List ℕ
execution_line e = field e.number space ++ (field e.price.0 space ++ field e.shares.0 line_feed)

-- `left ` and the shares left
abbrev pub left_line : ℕ → List ℕ
left_line n = ascii "left " ++ field n line_feed

-- `refused ` and the refusal number
abbrev pub refusal_line : ℕ → List ℕ
refusal_line n = ascii "refused " ++ field n line_feed
