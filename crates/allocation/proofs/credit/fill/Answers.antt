-- `allocation::credit::fill` meets its contract: the first k parts are filled.
use Prim.Native.Nat.{◌<◌}
use mathlib.Core.Path.{refl, sym, ap, ◌∙◌}
use native.Mathlib.Omega.{arith}
use native.Mathlib.Nat.{add-zero}
use borrow.Author.Tests.{lt-ltb}
use lib.ListN.{length-map, get_or, get_or-map}
use Rattle.units.proofs.Totals.{total_map}
use Rattle.units.proofs.Members.{every_at}
use Rattle.parts.specs.Key.{shares_in, with_shares}
use Rattle.parts.proofs.Keys.{with_own}
use Rattle.allocation.proofs.Crediting.{begun_none, begun_next, begun_note, begun_more}
use Rattle.allocation.proofs.credit.fill.Goals as goal

pub loop-k-init : goal.loop-k-init
loop-k-init c =
    λ alg e. rw add-zero (begun_none c.requires.0 (length-map c.args.keys.now shares_in) (omega (arith, c.requires.1, total_map (λ n. n) shares_in c.args.keys.now)))

pub note_part-requires : goal.note_part-requires
note_part-requires c =
    begun_note (c.loop-k.invariant c.args.algorithm c.last_shown-last.ensures) c.loop-k-test.true refl (c.shares-shares.ensures ∙ sym (get_or-map shares_in c.args.keys.now c.loop-k.k 0))

pub sum-used-requires : goal.sum-used-requires
sum-used-requires c =
    let n = begun_next (c.loop-k.invariant c.args.algorithm c.last_shown-last.ensures) c.loop-k-test.true in
    omega (arith, c.shares-shares.ensures, get_or-map shares_in c.args.keys.now c.loop-k.k 0, n.sum)

pub loop-k-preserved : goal.loop-k-preserved
loop-k-preserved c =
    let ks = c.args.keys.now in
    let key = get_or ks c.loop-k.k 0 in
    let e = get_or-map shares_in c.args.keys.now c.loop-k.k 0 in
    let some = every_at (λ k. 0 < shares_in k) ks c.requires.2 c.loop-k.k c.loop-k-test.true in
    λ alg q.
    begun_more (c.loop-k.invariant alg q) c.loop-k-test.true (sym (ap (λ n. with_shares n key) e ∙ with_own key)) refl
    (c.shares-shares.ensures ∙ sym e) c.sum-used.ensures (rw (e, lt-ltb 0 (shares_in key) some) (omega arith)) (λ v. c.note_part.ensures alg v q)
