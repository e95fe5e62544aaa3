-- `conversion::turning::are_plain` meets its contract: what was read and what is left are plain where all the records are.
use Rattle.std.proofs.Common.{◌∙◌, arith, sym, ap}
use mathlib.Core.Bool.{and-true, and_assoc}
use Rattle.units.specs.Lists.{all}
use Rattle.record.specs.Names.{form_of}
use Rattle.book.proofs.Walking.{has_bytes, records_front, records_next, records_end}
use Rattle.conversion.specs.Plain.{is_plain}
use Rattle.conversion.proofs.turning.are_plain.Goals as goal

pub loop-rec-init : goal.loop-rec-init
loop-rec-init c =
    let f = form_of c.args.form in
    rw (c.into_iter-rec-iterator.ensures.into_iter_gives, c.chunks_exact-rec-items.ensures.rest, c.bytes-width.ensures)
    record {
      size = c.chunks_exact-rec-items.ensures.size ∙ c.bytes-width.ensures;
      plain = ap (all (is_plain f)) (records_front f (has_bytes c.args.form) c.args.n c.args.book.now c.requires).1;
    }

pub loop-rec-preserved : goal.loop-rec-preserved
loop-rec-preserved c =
    let step = c.in-Some.ensures.steps in
    let next = records_next (form_of c.args.form) (has_bytes c.args.form) _ _ _ step.1.0 (step.1.1 ∙ c.loop-rec.invariant.size) in
    record { size = step.0 ∙ c.loop-rec.invariant.size; plain = rw (c.is_plain-plain.ensures, and_assoc) (rw next at c.loop-rec.invariant.plain) }

pub returns : goal.returns
returns c =
    let end = records_end (form_of c.args.form) (has_bytes c.args.form) c.loop-rec.rec-iterator.rest.now (omega (arith, c.in-None.ensures.steps.1.0)) in
    sym (and-true c.loop-rec.plain) ∙ (rw end at c.loop-rec.invariant.plain)
