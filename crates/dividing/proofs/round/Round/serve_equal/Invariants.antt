-- `dividing::round::Round::serve_equal` meets its contract: the column is written from the front, at those of key t.
use Prim.Native.Nat.{◌+◌}
use lib.ListN.{drop}
use Rattle.units.specs.Lists.{zip_with}
use Rattle.dividing.specs.Columns.{takes_at, in_order}
use Rattle.units.proofs.Columns.{Put}
use Rattle.dividing.proofs.round.Round.serve_equal.Given as goal

abbrev pub invariant-loop-j : goal.invariant-loop-j
invariant-loop-j l =
    Put l.initial.gets (zip_with ◌+◌ l.initial.gets (in_order (takes_at l.t l.minimum.0) l.initial.left.0 l.self.keys.now l.self.wants.now)) l.gets l.j
    (zip_with ◌+◌ (drop l.j l.initial.gets) (in_order (takes_at l.t l.minimum.0) l.left.0 (drop l.j l.self.keys.now) (drop l.j l.self.wants.now)))
