-- `allocation::share::setter_place` meets its contract: none of the parts before is a setter.
use mathlib.Core.List.{map}
use Rattle.book.specs.Sound.{order_at}
use Rattle.allocation.specs.Walk.{part_in}
use Rattle.allocation.proofs.Setters.{NoneBefore}
use Rattle.allocation.proofs.share.setter_place.Given as goal

abbrev pub invariant-loop-k : goal.invariant-loop-k
invariant-loop-k l = NoneBefore (map (part_in (order_at l.book)) l.keys) l.k
