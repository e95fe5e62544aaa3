-- `lookup::sound::numbers_rise` meets its contract: those that were read rise, and what is left rises above the last, where all rise.
use Rattle.std.proofs.Common.{◌≡◌, ◌&&◌, drop}
use mathlib.Core.List.{map}
use Rattle.record.specs.Record.{decode_order}
use Rattle.book.specs.Sound.{form, rising, first_orders}
use Rattle.lookup.proofs.sound.numbers_rise.Given as goal

abbrev pub invariant-loop-rec : goal.invariant-loop-rec
invariant-loop-rec l = (l.rising && rising l.last (map (decode_order form) (drop l.rec-index l.rec-items))) ≡ rising 0 (first_orders l.n l.book)
