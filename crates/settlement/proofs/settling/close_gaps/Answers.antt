-- `settlement::settling::close_gaps` meets its contract: the first i orders have lost their shares, and one of them has left.
use mathlib.Core.Path.{sym, ◌∙◌}
use native.Mathlib.Omega.{arith}
use borrow.Author.Rules.{rules}
use Rattle.settlement.proofs.Passing.{passed_none, passed_gone, record_next, passed_moved, moved_done, passed_done}
use Rattle.settlement.proofs.settling.close_gaps.Goals as goal
use Rattle.settlement.proofs.settling.close_gaps.Goals.{else-stays, then-stays}

pub loop-i-init : goal.loop-i-init
loop-i-init c =
    (passed_gone (passed_none c.requires.0) c.requires.1 0 0 c.requires.2, omega arith)

pub stays-requires : goal.stays-requires
stays-requires c = record_next c.loop-i.invariant.0 (search rules) 0 0

pub move_up-requires : goal.move_up-requires
move_up-requires c =
    (record_next c.loop-i.invariant.0 (search rules) 0 0, omega (arith, c.loop-i.invariant.0.begun.room, c.loop-i.invariant.0.bytes.long, c.loop-i.invariant.1))

pub loop-i-preserved : goal.loop-i-preserved
loop-i-preserved c =
    let e = sym c.stays.ensures in
    elim c.if-stays.branch [
      | then-stays w ↦ (
        rw (w.part-is, w.kept-is) (passed_moved c.loop-i.invariant.0 (search rules) _ _ (e ∙ w.if-stays.true) c.loop-i.invariant.1 w.move_up.ensures),
        omega (arith, w.kept-is, c.loop-i.invariant.1),
      )
      | else-stays w ↦ (
        rw (w.part-is, w.kept-is) (passed_gone c.loop-i.invariant.0 (search rules) _ _ (e ∙ w.if-stays.false)),
        omega (arith, w.kept-is, c.loop-i.invariant.1),
      )
    ]

pub returns : goal.returns
returns c =
    record { bytes = c.clear.ensures ∙ passed_done c.loop-i.invariant.0 (omega (arith, c.loop-i.invariant.0.within)); moves = moved_done c.loop-i.invariant.0 (omega (arith, c.loop-i.invariant.0.within)) }
