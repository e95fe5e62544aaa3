-- `dividing::turns::by_time` meets its contract: the column is written from the front.
use lib.ListN.{drop}
use Rattle.dividing.specs.Columns.{may_take, in_order}
use Rattle.units.proofs.Columns.{Put}
use Rattle.dividing.proofs.turns.by_time.Given as goal

abbrev pub invariant-loop-j : goal.invariant-loop-j
invariant-loop-j l =
    Put l.initial.gets (in_order may_take l.initial.remains.0 l.minimums l.sizes) l.gets l.j (in_order may_take l.remains.0 (drop l.j l.minimums) (drop l.j l.sizes))
