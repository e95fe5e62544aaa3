-- `book::records::count_occupied` meets its contract: what is counted and what the rest counts is the whole count.
use Rattle.std.proofs.Common.{◌≡◌, ◌+◌, ◌*◌, ◌≤◌, length}
use Rattle.record.specs.Record.{order_bytes}
use Rattle.record.specs.Names.{form_of}
use Rattle.book.specs.Sound.{occupied, records_in}
use Rattle.book.proofs.records.count_occupied.Given as goal

abbrev pub invariant-loop-rec : goal.invariant-loop-rec
invariant-loop-rec l = record {
  size : l.rec-iterator.size ≡ order_bytes (form_of l.fn.form);
  within : order_bytes (form_of l.fn.form) * l.n + length l.rec-iterator.rest.now ≤ length l.book;
  count : l.n + length (occupied (records_in (form_of l.fn.form) l.rec-iterator.rest.now)) ≡ length (occupied (records_in (form_of l.fn.form) l.book));
}
