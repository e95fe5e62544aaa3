-- `dividing::turns::by_minimum` meets its contract: the round by keys turned over, on top of nothing.
use native.Mathlib.Omega.{arith}
use borrow.Author.Rules.{rules}
use lib.ListN.{length, get_or}
use Rattle.dividing.proofs.Walking.{nothing_at}
use Rattle.dividing.proofs.Turning.{turned_fits, minimum_alone}
use Rattle.dividing.proofs.turns.by_minimum.Goals as goal

pub serve-requires : goal.serve-requires
serve-requires c = (
  search rules,
  λ i. rw (c.fill.ensures.after (λ y e. e), nothing_at (length c.args.gets.now) i) (omega (arith, c.type_inv.sizes i)),
  turned_fits c.largest-top.result c.args.minimums.now (λ i. get_or c.args.sizes.now i 0) c.largest-top.ensures c.requires.3 c.turn_over.ensures,
)

pub returns : goal.returns
returns c =
    λ k ps g.
    minimum_alone c.largest-top.result k ps c.args.left.0 (length c.args.gets.now) g c.largest-top.ensures c.requires.1
    (rw (c.fill.ensures.after (λ y e. e), c.turn_over.ensures) at c.serve.ensures)
