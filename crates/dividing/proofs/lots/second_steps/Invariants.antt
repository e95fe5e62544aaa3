-- `dividing::lots::second_steps` meets its contract: the column is written from the front.
use lib.ListN.{drop}
use Rattle.units.specs.Lists.{zip_with}
use Rattle.dividing.specs.Columns.{second_of}
use Rattle.units.proofs.Columns.{Put}
use Rattle.dividing.proofs.lots.second_steps.Given as goal

abbrev pub invariant-loop-j : goal.invariant-loop-j
invariant-loop-j l =
    Put l.initial.wants (zip_with (second_of l.lot.0) l.sizes l.gets) l.wants l.j (zip_with (second_of l.lot.0) (drop l.j l.sizes) (drop l.j l.gets))
