-- `book::records::count_occupied` meets its contract: what is counted and what the rest counts is the whole count.
use Rattle.std.proofs.Common.{◌≡◌, ◌∙◌, ◌+◌, arith, length, ap}
use lib.ListN.{length-append}
use native.Mathlib.Nat.{mul-suc}
use Rattle.record.specs.Record.{order_bytes}
use Rattle.record.specs.Names.{form_of}
use Rattle.book.specs.Sound.{occupied}
use Rattle.book.proofs.Walking.{has_bytes, occupied_next, occupied_stop, records_end}
use Rattle.book.proofs.records.count_occupied.Goals as goal

pub loop-rec-init : goal.loop-rec-init
loop-rec-init c = rw (c.into_iter-rec-iterator.ensures.into_iter_gives, c.chunks_exact-rec-items.ensures.rest)
    record { size = c.chunks_exact-rec-items.ensures.size ∙ c.bytes.ensures; within = omega arith; count = omega arith }

pub returns-then-rec-eq0-clause-count : goal.returns-then-rec-eq0-clause-count
returns-then-rec-eq0-clause-count c =
    let step = c.in-Some.ensures.steps in
    let stop = occupied_stop (form_of c.args.form) (has_bytes c.args.form) _ _ _ step.1.0 (step.1.1 ∙ c.loop-rec.invariant.size) c.if-rec-eq0.true in
    omega (arith, stop, c.loop-rec.invariant.count)

pub loop-rec-preserved : goal.loop-rec-preserved
loop-rec-preserved c =
    let f = form_of c.args.form in
    let step = c.in-Some.ensures.steps in
    let next = occupied_next f (has_bytes c.args.form) _ _ _ step.1.0 (step.1.1 ∙ c.loop-rec.invariant.size) c.if-rec-eq0.false in
    let long : length c.loop-rec.rec-iterator.rest.now ≡ order_bytes f + length c.next.new.self.rest.now =
    ap length step.1.0 ∙ length-append c.in-Some.rec.now c.next.new.self.rest.now ∙ ap (λ k. k + length c.next.new.self.rest.now) (step.1.1 ∙ c.loop-rec.invariant.size) in
    record {
      size = step.0 ∙ c.loop-rec.invariant.size;
      within = omega (arith, long, mul-suc (order_bytes f) c.loop-rec.n);
      count = omega (arith, next, c.loop-rec.invariant.count);
    }

pub returns-clause-count : goal.returns-clause-count
returns-clause-count c =
    let f = form_of c.args.form in
    let end = records_end f (has_bytes c.args.form) c.loop-rec.rec-iterator.rest.now (omega (arith, c.in-None.ensures.steps.1.0)) in
    omega (arith, ap (λ rs. length (occupied rs)) end, c.loop-rec.invariant.count)
