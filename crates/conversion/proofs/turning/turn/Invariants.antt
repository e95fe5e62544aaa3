-- `conversion::turning::turn` meets its contract: records are turned one by one.
use Rattle.std.proofs.Common.{◌≡◌, ◌+◌, ◌*◌, length}
use Rattle.record.specs.Record.{order_bytes}
use Rattle.record.specs.Names.{form_of}
use Rattle.book.specs.Sound.{first_records, records_in}
use Rattle.conversion.proofs.Filling.{Going}
use Rattle.conversion.proofs.turning.turn.Given as goal

abbrev pub invariant-loop-rec : goal.invariant-loop-rec
invariant-loop-rec l = record {
  size : l.rec-iterator.size ≡ order_bytes (form_of l.fn.from);
  room : l.write + order_bytes (form_of l.to) * length (records_in (form_of l.fn.from) l.rec-iterator.rest.now) ≡ order_bytes (form_of l.to) * l.n;
  going : Going l.to l.initial.target l.target l.write (records_in (form_of l.fn.from) l.rec-iterator.rest.now) (first_records (form_of l.fn.from) l.n l.book);
}
