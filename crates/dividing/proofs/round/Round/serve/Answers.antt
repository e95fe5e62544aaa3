-- `dividing::round::Round::serve` meets its contract: the round of few, or that by the threshold that is found.
use Prim.Native.Nat.{◌^◌}
use mathlib.Core.Path.{◌∙◌}
use native.Mathlib.Omega.{arith}
use borrow.Author.Rules.{rules}
use Rattle.dividing.proofs.Serving.{above_top, room_at, served}
use Rattle.dividing.proofs.round.Round.serve.Goals as goal

pub cut-t-requires : goal.cut-t-requires
cut-t-requires c =
    omega (arith, above_top c.largest.result c.args.self.keys.now c.args.self.wants.now c.largest.ensures)

pub serve_equal-requires : goal.serve_equal-requires
serve_equal-requires c =
    (search rules, room_at c.cut-t.result c.args.gets.now c.args.self.keys.now c.args.self.wants.now (2 ^ 32) c.requires.1 c.serve_above.ensures)

pub returns : goal.returns
returns c =
    served c.args.top.0 c.args.rest.0 c.cut-t.result c.args.self.keys.now c.args.self.wants.now c.args.self.as_many c.cut-t.ensures.0 c.cut-t.ensures.1 c.requires.2
    c.args.gets.now c.requires.0 c.serve_above.ensures (c.difference-remains.ensures ∙ rw c.above.ensures)
    c.difference.ensures c.serve_equal.ensures
