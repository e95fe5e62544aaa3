-- `conversion::turning::turn` meets its contract: records are turned one by one.
use Rattle.std.proofs.Common.{◌∙◌, length, arith}
use native.Mathlib.Nat.{mul-suc}
use Rattle.record.specs.Record.{order_bytes}
use Rattle.record.specs.Names.{form_of}
use Rattle.book.specs.Sound.{records_in}
use Rattle.book.proofs.Soundness.{length_records}
use Rattle.book.proofs.Walking.{has_bytes, records_front, records_next, records_end}
use Rattle.conversion.proofs.Widths.{width}
use Rattle.conversion.proofs.Filling.{going_none, going_more, going_done}
use Rattle.conversion.proofs.turning.turn.Goals as goal

pub loop-rec-init : goal.loop-rec-init
loop-rec-init c =
    let f = form_of c.args.from in
    let front = (records_front f (has_bytes c.args.from) c.args.n c.args.book.now c.requires.0).1 in
    rw (c.into_iter-rec-iterator.ensures.into_iter_gives, c.chunks_exact-rec-items.ensures.rest, c.bytes-width.ensures, front)
    record {
      size = c.chunks_exact-rec-items.ensures.size ∙ c.bytes-width.ensures;
      room = rw (length_records f c.args.n c.args.book.now) (omega arith);
      going = going_none c.args.to c.args.target.now _;
    }

pub put_turned-requires : goal.put_turned-requires
put_turned-requires c =
    let to = order_bytes (form_of c.args.to) in
    let step = c.in-Some.ensures.steps in
    let next = records_next (form_of c.args.from) (has_bytes c.args.from) _ _ _ step.1.0 (step.1.1 ∙ c.loop-rec.invariant.size) in
    let room = rw next at c.loop-rec.invariant.room in (
      omega (arith, room, mul-suc to (length (records_in (form_of c.args.from) c.next.new.self.rest.now)), c.requires.1),
      omega (arith, step.1.1, c.loop-rec.invariant.size, width c.args.from),
    )

pub loop-rec-preserved : goal.loop-rec-preserved
loop-rec-preserved c =
    let to = order_bytes (form_of c.args.to) in
    let step = c.in-Some.ensures.steps in
    let next = records_next (form_of c.args.from) (has_bytes c.args.from) _ _ _ step.1.0 (step.1.1 ∙ c.loop-rec.invariant.size) in
    let more = mul-suc to (length (records_in (form_of c.args.from) c.next.new.self.rest.now)) in
    let room = rw next at c.loop-rec.invariant.room in
    rw c.bytes-step.ensures record {
      size = step.0 ∙ c.loop-rec.invariant.size;
      room = omega (arith, room, more);
      going = going_more c.args.to c.args.target.now c.loop-rec.invariant.going (omega (arith, room, more, c.requires.1)) next
          (omega (arith, step.1.1, c.loop-rec.invariant.size, width c.args.from)) (omega (arith, room, more, c.requires.1)) c.put_turned.ensures;
    }

pub returns : goal.returns
returns c =
    let end = records_end (form_of c.args.from) (has_bytes c.args.from) c.loop-rec.rec-iterator.rest.now (omega (arith, c.in-None.ensures.steps.1.0)) in
    let room = rw end at c.loop-rec.invariant.room in
    (omega (arith, room), going_done c.args.to c.args.target.now c.loop-rec.invariant.going (omega (arith, room, c.requires.1)) end)
