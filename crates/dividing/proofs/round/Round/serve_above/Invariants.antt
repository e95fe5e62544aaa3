-- `dividing::round::Round::serve_above` meets its contract: the column is written from the front.
use Prim.Native.Nat.{◌+◌}
use lib.ListN.{drop}
use Rattle.units.specs.Lists.{zip_with}
use Rattle.dividing.specs.Columns.{want_above}
use Rattle.units.proofs.Columns.{Put}
use Rattle.dividing.proofs.round.Round.serve_above.Given as goal

abbrev pub invariant-loop-j : goal.invariant-loop-j
invariant-loop-j l =
    Put l.initial.gets (zip_with ◌+◌ l.initial.gets (zip_with (want_above l.t) l.self.keys.now l.self.wants.now)) l.gets l.j
    (zip_with ◌+◌ (drop l.j l.initial.gets) (zip_with (want_above l.t) (drop l.j l.self.keys.now) (drop l.j l.self.wants.now)))
