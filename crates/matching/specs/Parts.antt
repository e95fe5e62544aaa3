-- The parts of an order, and that a take gives each of them one execution at most: of the orders at entry and the executions in the
-- buffer.
use Rattle.std.specs.Prelude.{ℕ, ◌+◌, ◌*◌, ◌≤◌, ◌<◌, ◌≡◌, Bool, true, not, length, drop, ltb, eqb}
use mathlib.Core.List.{List, Memᴰ}
use Rattle.units.specs.Lists.{all, total, or_zero}
use Rattle.orders.specs.declared.order.Order.{Order}
use Rattle.orders.specs.Order.{interest_of, is_reserve}
use Rattle.record.specs.declared.execution.Execution.{Execution}
use Rattle.record.specs.Execution.{execution_bytes, decode_execution, executions_in}
use Rattle.book.specs.Sound.{orders_of}
use Rattle.matching.specs.declared.TakeRequest.{TakeRequest}
use Rattle.matching.specs.TakeCall.{TakeAnswer}

-- how many elements pass a test
abbrev pub how_many : {A : Type 0} → (A → Bool) → List A → ℕ
how_many p xs = total (λ x. or_zero (p x) 1) xs

-- how many parts an order has: the shares that it displays are one, if there are any, and those that it doesn't another
abbrev pub parts_of : Order → ℕ
parts_of o = or_zero (ltb 0 (interest_of o).displayed) 1 + or_zero (ltb 0 (interest_of o).non_displayed) 1

-- the execution is of the order
abbrev pub is_of : Order → Execution → Bool
is_of o e = eqb e.number o.number

-- execution k of a buffer, counted from 0
abbrev pub execution_at : List ℕ → ℕ → Execution
execution_at x k = decode_execution (drop (execution_bytes * k) x)

abbrev pub without_reserve : List Order → Bool
without_reserve os = all (λ o. not (is_reserve o.kind)) os

-- The first `count` executions of a buffer are at most one for each part of the orders.
pub record OnePerPart (os : List Order) (count : ℕ) (x : List ℕ) : Type 0 where
  -- no two have the same number and the same paragraph
  pub apart : (j k : ℕ) → j < count → k < count → (execution_at x j).number ≡ (execution_at x k).number
      → (execution_at x j).paragraph ≡ (execution_at x k).paragraph → j ≡ k
  -- an order has no more of them than parts, and all orders together have not
  pub of_order : (o : Order) → Memᴰ o os → how_many (is_of o) (executions_in count x) ≤ parts_of o
  pub of_all : count ≤ total parts_of os
  -- so no number has more than two, and there are at most two an order
  pub two : (n : ℕ) → how_many (λ e. eqb e.number n) (executions_in count x) ≤ 2
  pub twice : count ≤ 2 * length os
  -- where no order is a reserve order, no two have the same number, and there is at most one an order
  pub numbers_apart : without_reserve os ≡ true → (j k : ℕ) → j < count → k < count → (execution_at x j).number ≡ (execution_at x k).number → j ≡ k
  pub once : without_reserve os ≡ true → count ≤ length os

-- So are those of an accepted take.
abbrev pub OnePerPartTake : TakeRequest → List ℕ → TakeAnswer → Type 0
OnePerPartTake q s a = a.taken.refusal ≡ 0 → OnePerPart (orders_of s) a.taken.count a.executions
