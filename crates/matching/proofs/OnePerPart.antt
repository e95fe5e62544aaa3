-- The executions in the buffer of an accepted take are at most one for each part of the book's orders.
use Prim.Native.Nat.{ℕ, zero, suc, ◌+◌, ◌*◌, ◌≤◌, ◌<◌}
use mathlib.Core.Path.{◌≡◌, refl, sym, ap, ◌∙◌}
use mathlib.Core.Bool.{Bool, true, ◌&&◌}
use mathlib.Core.List.{List}
use native.Mathlib.Omega.{arith}
use lib.Dec.{eqb}
use lib.ListN.{length, drop}
use lib.Seq.{drop-drop}
use borrow.Author.Tests.{eq-eqb}
use Rattle.units.specs.Lists.{or_zero}
use Rattle.units.specs.Lots.{round_lot}
use Rattle.units.proofs.Tests.{true_and}
use Rattle.orders.specs.declared.order.Order.{Order}
use Rattle.record.specs.declared.execution.Execution.{Execution}
use Rattle.record.specs.Execution.{execution_bytes, decode_execution, executions_in}
use Rattle.book.specs.Sound.{orders_of, rising}
use Rattle.matching.specs.declared.Algorithm.{Algorithm}
use Rattle.matching.specs.declared.TakeRequest.{TakeRequest}
use Rattle.matching.specs.declared.incoming.Incoming.{Incoming}
use Rattle.matching.specs.Paragraph.{algorithm_of}
use Rattle.matching.specs.Take.{outcome}
use Rattle.matching.specs.TakeCall.{incoming_of, outcome_of, take_call}
use Rattle.matching.specs.Parts.{how_many, execution_at, OnePerPart, OnePerPartTake}
use Rattle.matching.proofs.Counting.{executions_parts, executions_twice, executions_most, part_alone, order_parts, number_parts, numbers_alone}
use Rattle.matching.proofs.Taking.{sound_orders, take_count, take_executions}

-- an execution of a buffer stands as many records behind the first as there are before it
next_at : (x : List ℕ) (k : ℕ) → execution_at x (suc k) ≡ execution_at (drop execution_bytes x) k
next_at x k =
    let n : execution_bytes * suc k ≡ execution_bytes + execution_bytes * k = omega arith in
    rw n (ap decode_execution (sym (drop-drop (execution_bytes * k) execution_bytes x)))

-- Executions of a buffer that pass a test.
module _ (p : Execution → Bool) where
  none_at : (n : ℕ) (x : List ℕ) → how_many p (executions_in n x) ≡ 0 → (k : ℕ) → k < n → p (execution_at x k) ≡ true → ⊥
  none_at zero x h k l e = elim l [ ]
  none_at (suc n) x h zero l e = omega (arith, ap (λ b. or_zero b 1) e)
  none_at (suc n) x h (suc k) l e = none_at n (drop execution_bytes x) (omega arith) k (omega arith) (ap p (sym (next_at x k)) ∙ e)

  -- where one at most does, two that do are one
  one_at : (n : ℕ) (x : List ℕ) → how_many p (executions_in n x) ≤ 1 → (j k : ℕ) → j < n → k < n → p (execution_at x j) ≡ true → p (execution_at x k) ≡ true → j ≡ k
  one_at zero x h j k a b e f = elim a [ ]
  one_at (suc n) x h zero zero a b e f = refl
  one_at (suc n) x h zero (suc k) a b e f =
      absurd (none_at n (drop execution_bytes x) (omega (arith, ap (λ b. or_zero b 1) e)) k (omega arith) (ap p (sym (next_at x k)) ∙ f))
  one_at (suc n) x h (suc j) zero a b e f =
      absurd (none_at n (drop execution_bytes x) (omega (arith, ap (λ b. or_zero b 1) f)) j (omega arith) (ap p (sym (next_at x j)) ∙ e))
  one_at (suc n) x h (suc j) (suc k) a b e f =
      ap suc (one_at n (drop execution_bytes x) (omega arith) j k (omega arith) (omega arith) (ap p (sym (next_at x j)) ∙ e) (ap p (sym (next_at x k)) ∙ f))

-- where a buffer's executions are those of an outcome
one_per_part : (lot : ℕ) (alg : Algorithm) (i : Incoming) (os : List Order) → rising 0 os ≡ true → (count : ℕ) (x : List ℕ)
    → count ≡ length (outcome lot alg i os).executions → executions_in count x ≡ (outcome lot alg i os).executions → OnePerPart os count x
unfolding outcome
one_per_part lot alg i os rise count x c e = record {
  apart = λ j k a b n g.
      let m = (execution_at x j).number in
      let p = (execution_at x j).paragraph in
      one_at (λ e. eqb e.number m && eqb e.paragraph p) count x (rw e (part_alone lot alg i os rise m p)) j k a b
      (true_and (eq-eqb m m refl) (eq-eqb p p refl)) (true_and (eq-eqb _ m (sym n)) (eq-eqb _ p (sym g)));
  of_order = λ o m. rw e (order_parts lot alg i os rise o m);
  of_all = rw c (executions_parts lot alg i os rise);
  two = λ n. rw e (number_parts lot alg i os rise n);
  twice = rw c (executions_twice lot alg i os rise);
  numbers_apart = λ h j k a b n.
      let m = (execution_at x j).number in
      one_at (λ e. eqb e.number m) count x (rw e (numbers_alone lot alg i os rise h m)) j k a b (eq-eqb m m refl) (eq-eqb _ m (sym n));
  once = λ h. rw c (executions_most lot alg i os rise h);
}

-- as those of an accepted take are
pub take_one_per_part : (q : TakeRequest) (s x : List ℕ) → OnePerPartTake q s (take_call q s x)
unfolding outcome_of
take_one_per_part q s x e =
    one_per_part round_lot (algorithm_of q.algorithm) (incoming_of q) (orders_of s) (sound_orders q s x e).rise (take_call q s x).taken.count
    (take_call q s x).executions (take_count q s x e) (take_executions q s x e)
