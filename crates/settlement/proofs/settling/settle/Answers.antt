-- `settlement::settling::settle` meets its contract: the first i orders have lost their shares where they stand, and all of them still rest.
use Prim.Native.Nat.{ℕ, ◌-◌, ◌*◌, ◌≤◌, ◌<◌}
use mathlib.Core.Path.{◌≡◌, sym, ap, ◌∙◌}
use mathlib.Core.List.{List, ◌++◌, append-nil}
use native.Mathlib.Omega.{arith}
use borrow.Author.Rules.{rules}
use borrow.Rule.Slice.PartMut.{put_mid, Post-is}
use lib.ListN.{length, take}
use lib.Seq.{drop-length}
use Rattle.units.proofs.Scanning.{take_rest}
use Rattle.orders.specs.Order.{is_resting}
use Rattle.record.proofs.Numbers.{are_bytes}
use Rattle.settlement.proofs.Passing.{passed_none, passed_same, record_next, moved_done}
use Rattle.settlement.proofs.Closing.{book_records, records_behind, first_behind_left, moves_behind_all, closed_both, closed_none, closed_book}
use Rattle.settlement.proofs.settling.settle.Goals as goal

-- bytes in the place of all from a place on
put_rest : (at : ℕ) (b new : List ℕ) → at ≤ length b → put_mid at (length b - at) b new ≡ take at b ++ new
put_rest at b new h = rw (Post-is at (length b) b h, drop-length b, append-nil new)

pub loop-i-init : goal.loop-i-init
loop-i-init c =
    passed_none (book_records c.args.book.now c.requires.0 c.args.n c.requires.1 c.requires.2 c.requires.3)

pub stays-requires : goal.stays-requires
stays-requires c = record_next c.loop-i.invariant (search rules) 0 0

pub close_gaps-requires : goal.close_gaps-requires
close_gaps-requires c =
    let h : c.loop-i.i < c.args.n = search rules in
    rw (take_rest (40 * c.loop-i.i) c.loop-i.book, take_rest c.loop-i.i c.args.shown.now, take_rest c.loop-i.i c.args.hidden.now)
    (records_behind c.loop-i.invariant h, omega arith, ap is_resting (first_behind_left c.loop-i.invariant h) ∙ sym c.stays.ensures ∙ c.if-not-stays.true)

pub returns-then-not-stays : goal.returns-then-not-stays
returns-then-not-stays c =
    let at = 40 * c.loop-i.i in
    let e = rw (take_rest at c.loop-i.book, take_rest c.loop-i.i c.args.shown.now, take_rest c.loop-i.i c.args.hidden.now) at c.close_gaps.ensures in
    let z = are_bytes c.args.book.now (search rules) in
    let a = closed_book c.args.book.now c.requires.0 c.args.n c.requires.1 z c.args.shown.now c.args.hidden.now
    (put_rest at c.loop-i.book c.close_gaps.new.part (omega (arith, c.loop-i.invariant.begun.room, c.loop-i.invariant.bytes.long)) ∙ ap (λ x. take at c.loop-i.book ++ x) e.bytes ∙ closed_both c.loop-i.invariant c.loop-i-test.true)
    (e.moves ∙ moves_behind_all c.loop-i.invariant c.loop-i-test.true) in
    record { bytes = a.0; moves = a.1.0; places = a.1.1 }

pub lose-requires : goal.lose-requires
lose-requires c = record_next c.loop-i.invariant (search rules) 0 0

pub loop-i-preserved : goal.loop-i-preserved
loop-i-preserved c =
    passed_same c.loop-i.invariant (search rules) _ _ (sym c.stays.ensures ∙ c.if-not-stays.false) (omega arith) c.lose.ensures

pub returns : goal.returns
returns c =
    let e : c.loop-i.i ≡ c.args.n = omega (arith, c.loop-i.invariant.within) in
    let z = are_bytes c.args.book.now (search rules) in
    let a = closed_book c.args.book.now c.requires.0 c.args.n c.requires.1 z c.args.shown.now c.args.hidden.now {m = 0} (closed_none c.loop-i.invariant e) (moved_done c.loop-i.invariant e) in
    record { bytes = a.0; moves = a.1.0; places = a.1.1 }
