-- `conversion::turning::are_plain` meets its contract: what was read and what is left are plain where all the records are.
use Rattle.std.proofs.Common.{◌≡◌, ◌&&◌}
use Rattle.units.specs.Lists.{all}
use Rattle.record.specs.Record.{order_bytes}
use Rattle.record.specs.Names.{form_of}
use Rattle.book.specs.Sound.{first_records, records_in}
use Rattle.conversion.specs.Plain.{is_plain}
use Rattle.conversion.proofs.turning.are_plain.Given as goal

abbrev pub invariant-loop-rec : goal.invariant-loop-rec
invariant-loop-rec l = record {
  size : l.rec-iterator.size ≡ order_bytes (form_of l.form);
  plain : (l.plain && all (is_plain (form_of l.form)) (records_in (form_of l.form) l.rec-iterator.rest.now))
      ≡ all (is_plain (form_of l.form)) (first_records (form_of l.form) l.n l.book);
}
