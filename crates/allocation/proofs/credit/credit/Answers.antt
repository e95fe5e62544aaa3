-- `allocation::credit::credit` meets its contract: the first k parts have got their shares.
use Prim.Native.Nat.{◌+◌}
use mathlib.Core.Path.{refl, ap, ◌∙◌}
use Rattle.parts.proofs.Keeping.{as_one}
use native.Mathlib.Omega.{arith}
use Rattle.allocation.proofs.Crediting.{begun_next, begun_note, begun_more}
use Rattle.allocation.proofs.credit.credit.Goals as goal

pub with_shares-requires : goal.with_shares-requires
with_shares-requires c =
    let n = begun_next (c.loop-k.invariant c.args.algorithm c.last_shown-last.ensures) c.loop-k-test.true in
    omega (arith, n.sum)

pub bounds-fills-count : goal.bounds-fills-count
bounds-fills-count c =
    let n = begun_next (c.loop-k.invariant c.args.algorithm c.last_shown-last.ensures) c.loop-k-test.true in
    omega arith

pub note_part-requires : goal.note_part-requires
note_part-requires c =
    begun_note (c.loop-k.invariant c.args.algorithm c.last_shown-last.ensures) c.loop-k-test.true refl refl

pub sum-used-requires : goal.sum-used-requires
sum-used-requires c =
    let n = begun_next (c.loop-k.invariant c.args.algorithm c.last_shown-last.ensures) c.loop-k-test.true in
    omega (arith, n.sum)

pub loop-k-preserved : goal.loop-k-preserved
loop-k-preserved c =
    λ alg q.
    begun_more (c.loop-k.invariant alg q) c.loop-k-test.true c.with_shares.ensures refl refl
    c.sum-used.ensures (ap (λ n. c.loop-k.count + n) (c.from-count.ensures ∙ as_one _)) (λ v. c.note_part.ensures alg v q)
