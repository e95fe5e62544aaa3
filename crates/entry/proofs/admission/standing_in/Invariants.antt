-- `entry::admission::standing_in` meets its contract: what is gathered so far, with what the rest says, is what all say.
use lib.ListN.{drop}
use mathlib.Core.List.{map}
use Rattle.record.specs.Record.{decode_order}
use Rattle.book.specs.Sound.{form, first_orders}
use Rattle.entry.proofs.Comparing.{Compared}
use Rattle.entry.proofs.admission.standing_in.Given as goal

abbrev pub invariant-loop-rec : goal.invariant-loop-rec
invariant-loop-rec l = Compared (first_orders l.n l.book) l.new l.stale l.trades l.best (map (decode_order form) (drop l.rec-index l.rec-items))
