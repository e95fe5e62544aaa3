-- `dividing::turns::turn_over` meets its contract: the column is written from the front.
use Prim.Native.Nat.{◌-◌}
use mathlib.Core.List.{map}
use lib.ListN.{drop}
use Rattle.units.proofs.Columns.{Put}
use Rattle.dividing.proofs.turns.turn_over.Given as goal

abbrev pub invariant-loop-x : goal.invariant-loop-x
invariant-loop-x l = Put l.initial.column (map (λ x. l.top - x) l.initial.column) l.column l.x-index (map (λ x. l.top - x) (drop l.x-index l.initial.column))
