-- `dividing::round::Round::serve_few` meets its contract: the round is served place by place.
use Rattle.dividing.proofs.Places.{ServedTo}
use Rattle.dividing.proofs.round.Round.serve_few.Given as goal

abbrev pub invariant-loop-j : goal.invariant-loop-j
invariant-loop-j l = ServedTo l.top.0 l.rest.0 l.self.keys.now l.self.wants.now l.initial.gets l.gets l.j
