-- The paragraph that an execution names, in the buffer that a take wrote.
use Rattle.std.specs.Prelude.{ℕ, ◌*◌, ◌<◌, ◌≡◌, get_or, drop, T}
use mathlib.Core.List.{List, Memᴰ}
use Rattle.units.specs.Lots.{round_lot}
use Rattle.orders.specs.declared.order.Order.{Order}
use Rattle.record.specs.Execution.{execution_bytes, decode_execution}
use Rattle.book.specs.Sound.{orders_of}
use Rattle.matching.specs.declared.Algorithm.{Algorithm}
use Rattle.matching.specs.declared.Paragraph.{Paragraph}
use Rattle.matching.specs.declared.TakeRequest.{TakeRequest}
use Rattle.matching.specs.Paragraph.{algorithm_of, paragraph_number, group_of, in_group}
use Rattle.matching.specs.TakeCall.{TakeAnswer}

-- The execution at the start of these bytes is of one of the orders. Byte 2 is the number of the paragraph in whose group the order is
-- with its shares of the group's visibility, which are in no other's, and byte 3 is zero.
pub record Named (lot : ℕ) (alg : Algorithm) (os : List Order) (bytes : List ℕ) : Type 0 where
  pub order : Order
  pub member : Memᴰ order os
  pub number : (decode_execution bytes).number ≡ order.number
  pub paragraph : Paragraph
  pub inside : T (in_group (group_of lot alg paragraph) order)
  pub alone : (g : Paragraph) → (group_of lot alg g).visibility ≡ (group_of lot alg paragraph).visibility → T (in_group (group_of lot alg g) order)
      → g ≡ paragraph
  pub byte2 : get_or bytes 2 0 ≡ paragraph_number paragraph
  pub byte3 : get_or bytes 3 0 ≡ 0

-- So is each execution that an accepted take counts, of the orders in the book at entry.
abbrev pub NamedTake : TakeRequest → List ℕ → TakeAnswer → Type 0
NamedTake q s a =
    a.taken.refusal ≡ 0 → (k : ℕ) → k < a.taken.count
    → Named round_lot (algorithm_of q.algorithm) (orders_of s) (drop (execution_bytes * k) a.executions)
