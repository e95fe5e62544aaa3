-- The executions of fills, written one behind another from the start of a buffer.
use Prim.Native.Nat.{ℕ, ◌+◌, ◌*◌, ◌≤◌, ◌<◌}
use mathlib.Core.Path.{◌≡◌, sym, ap, ◌∙◌}
use mathlib.Core.List.{List, [], ◌∷◌, ◌++◌, map, map-append}
use native.Mathlib.Omega.{arith}
use native.Mathlib.Numerals.{add-one}
use lib.ListN.{length, get_or, take, drop, length-map}
use lib.Seq.{take-suc, take_all, length-take-le}
use Rattle.units.specs.Lists.{flat_map}
use Rattle.units.proofs.Totals.{flat_last, length_flat}
use Rattle.units.specs.declared.Shares.{Shares}
use Rattle.units.proofs.Facts.{shares_are}
use Rattle.orders.specs.declared.order.Order.{Order}
use Rattle.record.specs.declared.execution.Execution.{Execution}
use Rattle.record.specs.Codec.{replaced}
use Rattle.record.specs.Execution.{encode_execution}
use Rattle.record.proofs.Executions.{length_execution}
use Rattle.matching.specs.TakeCall.{written}
use Rattle.parts.specs.Key.{group_in, paragraph_in, place_in, shares_in}
use Rattle.parts.specs.Execution.{execution_of}
use Rattle.record.proofs.Filling.{Filled, filled_none, filled_more, filled_done}

-- an execution, as its numbers were read
pub execution_is : (at : ℕ → Order) (fill : ℕ) {o : Order} {g : ℕ} {s : Shares} → o ≡ at (place_in fill) → g ≡ paragraph_in (group_in fill)
    → s.0 ≡ shares_in fill → record { number = o.number; price = o.price; shares = s; paragraph = g } ≡ execution_of at fill
execution_is at fill {s = s} a b c = rw (a, b, shares_are s c)

-- Fills, and the execution of each.
module _ (one : ℕ → Execution) (fills : List ℕ) where
  -- the executions of the first k
  abbrev executions_to : ℕ → List Execution
  executions_to k = map one (take k fills)

  -- their bytes stand at the front of the buffer, which is as it was behind them
  abbrev pub Writing : List ℕ → List ℕ → ℕ → Type 0
  Writing x y k = (k ≤ length fills) × Filled (flat_map encode_execution (executions_to k)) (16 * k) x y

  pub writing_none : (x : List ℕ) → Writing x x 0
  writing_none x = (omega arith, filled_none x)

  front_long : (k : ℕ) → k ≤ length fills → length (flat_map encode_execution (executions_to k)) ≡ 16 * k
  front_long k h =
      length_flat encode_execution 16 length_execution (executions_to k)
      ∙ ap (λ n. 16 * n) (length-map (take k fills) one ∙ length-take-le k fills h)

  -- one more
  pub writing_more : {x y : List ℕ} {k : ℕ} → Writing x y k → k < length fills → 16 * length fills ≤ length x → {new : List ℕ}
      → new ≡ encode_execution (one (get_or fills k 0)) → Writing x (replaced (16 * k) new y) (k + 1)
  writing_more {x} {y} {k} w h room {new} e =
      let l = front_long k w.0 in
      let n : length new ≡ 16 = ap length e ∙ length_execution (one (get_or fills k 0)) in
      let next : executions_to (k + 1) ≡ executions_to k ++ (one (get_or fills k 0) ∷ []) =
      rw (add-one, take-suc fills k 0 h) (map-append one (take k fills) (get_or fills k 0 ∷ [])) in (
        omega arith,
        rw (next, flat_last encode_execution (executions_to k) (one (get_or fills k 0)), sym e)
            (filled_more w.1 new (16 * (k + 1)) (omega arith) (omega arith) (omega arith) (sym l)),
      )

  -- all of them
  pub writing_done : {x y : List ℕ} {k : ℕ} → Writing x y k → length fills ≤ k → y ≡ written (map one fills) x
  unfolding written
  writing_done {x} {y} {k} w h =
      let a = take_all k fills h in
      let l = length-map fills one in
      let n : 16 * k ≡ 16 * length (map one fills) = omega (arith, w.0) in
      filled_done w.1 (front_long k w.0) ∙ rw a (ap (λ n. flat_map encode_execution (map one fills) ++ drop n x) n)
