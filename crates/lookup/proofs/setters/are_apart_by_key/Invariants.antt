-- `lookup::setters::are_apart_by_key` meets its contract: the keys of the marked orders that were read are gathered.
use lib.ListN.{drop}
use mathlib.Core.List.{map}
use Rattle.record.specs.Record.{decode_order}
use Rattle.book.specs.Sound.{form, first_orders}
use Rattle.lookup.proofs.Gathering.{Gathered}
use Rattle.lookup.proofs.setters.are_apart_by_key.Given as goal

abbrev pub invariant-loop-rec : goal.invariant-loop-rec
invariant-loop-rec l = Gathered (first_orders l.n l.book) l.keys l.marked (map (decode_order form) (drop l.rec-index l.rec-items))
