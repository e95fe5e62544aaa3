-- Each execution that an accepted take writes names the paragraph in whose group its order is; under price/time that is 2 or 3.
use Prim.Native.Nat.{ℕ, ◌*◌, ◌<◌}
use mathlib.Core.Path.{◌≡◌, refl, subst, ◌∙◌}
use mathlib.Core.Bool.{Bool, true, false, ◌&&◌}
use mathlib.Core.Logic.{◌⊎◌, inl, inr}
use mathlib.Core.List.{List}
use native.Mathlib.Omega.{arith}
use lib.Dec.{T, ltb}
use lib.ListN.{length, get_or, drop}
use Rattle.units.specs.Lots.{round_lot}
use Rattle.units.proofs.Tests.{T_true}
use Rattle.units.proofs.Members.{every_both}
use Rattle.orders.specs.declared.order.Order.{Order}
use Rattle.orders.specs.Order.{interest_of}
use Rattle.record.specs.declared.execution.Execution.{Execution}
use Rattle.record.specs.Execution.{execution_bytes}
use Rattle.record.proofs.Executions.{ExecutionFits, decode_execution_lem, execution_byte2, execution_byte3, Begins, executions_at}
use Rattle.book.specs.Sound.{orders_of}
use Rattle.matching.specs.declared.Algorithm.{Algorithm}
use Rattle.matching.specs.declared.Paragraph.{Paragraph}
use Rattle.matching.specs.declared.Paragraph.TheVariants.{Two, Three, Four, Five, Six}
use Rattle.matching.specs.declared.TakeRequest.{TakeRequest}
use Rattle.matching.specs.Paragraph.{algorithm_of, paragraph_number, group_of, in_group, time_group}
use Rattle.matching.specs.TakeCall.{incoming_of, outcome_of, written, take_call}
use Rattle.matching.specs.Naming.{Named, NamedTake}
use Rattle.matching.proofs.Places.{group_alone}
use Rattle.matching.proofs.Executed.{Placed, executions_placed}
use Rattle.matching.proofs.Taking.{sound_orders, take_count, take_written, take_fits}

-- the bytes of an execution that is placed among the orders name its paragraph
execution_named : (lot : ℕ) (alg : Algorithm) (os : List Order) (bytes : List ℕ) → Begins (λ e. Placed lot alg os e × ExecutionFits e) bytes
    → Named lot alg os bytes
execution_named lot alg os bytes b =
    let p = b.holds.0 in
    let e = b.execution in
    record {
      order = p.order;
      member = p.member;
      number = rw (b.are, decode_execution_lem e b.behind b.holds.1) p.number;
      paragraph = p.paragraph;
      inside = rw p.inside tt;
      alone = λ g v i. group_alone lot alg p.order p.paragraph g v p.inside (T_true (in_group (group_of lot alg g) p.order) i);
      byte2 = rw b.are (execution_byte2 e b.behind b.holds.1 ∙ p.names);
      byte3 = rw b.are (execution_byte3 e b.behind);
    }

-- so do all that a take writes
pub take_named : (q : TakeRequest) (s x : List ℕ) → NamedTake q s (take_call q s x)
unfolding outcome_of written
take_named q s x e k l =
    let alg = algorithm_of q.algorithm in
    let es = (outcome_of q (orders_of s)).executions in
    let Each : Execution → Type 0 = λ e. Placed round_lot alg (orders_of s) e × ExecutionFits e in
    let each = every_both {R = Each} (λ e p f. (p, f)) es (executions_placed round_lot alg (incoming_of q) (orders_of s) (sound_orders q s x e).rise) (take_fits q s x e) in
    rw (take_written q s x e)
    (execution_named round_lot alg (orders_of s) _
    (executions_at Each es (drop (execution_bytes * length es) x) each k (omega (arith, take_count q s x e))))

-- price/time has nobody behind paragraph 3
nobody : (b : Bool) → T (b && false) → ⊥
nobody true i = i
nobody false i = i

time_paragraph_lem : (g : Paragraph) (o : Order) → T (in_group (time_group g) o) → (paragraph_number g ≡ 2) ⊎ (paragraph_number g ≡ 3)
time_paragraph_lem Two o i = inl refl
time_paragraph_lem Three o i = inr refl
time_paragraph_lem Four o i = absurd (nobody (ltb 0 (interest_of o).non_displayed) i)
time_paragraph_lem Five o i = absurd (nobody (ltb 0 (interest_of o).non_displayed) i)
time_paragraph_lem Six o i = absurd (nobody (ltb 0 (interest_of o).non_displayed) i)

-- under algorithm 1 byte 2 is 2 or 3
pub take_named_time : (q : TakeRequest) (s x : List ℕ) → q.algorithm ≡ 1 → (take_call q s x).taken.refusal ≡ 0 → (k : ℕ) → k < (take_call q s x).taken.count
    → let b = get_or (drop (execution_bytes * k) (take_call q s x).executions) 2 0 in (b ≡ 2) ⊎ (b ≡ 3)
take_named_time q s x a e k l =
    let n = take_named q s x e k l in
    let i = subst (λ (m : ℕ). T (in_group (group_of round_lot (algorithm_of m) n.paragraph) n.order)) a n.inside in
    rw n.byte2 (time_paragraph_lem n.paragraph n.order i)
