-- `dividing::turns::by_size` meets its contract: the round on top of nothing.
use native.Mathlib.Omega.{arith}
use borrow.Author.Rules.{rules}
use lib.ListN.{length}
use Rattle.dividing.proofs.Walking.{nothing_at}
use Rattle.dividing.proofs.Turning.{size_alone}
use Rattle.dividing.proofs.turns.by_size.Goals as goal

pub serve-requires : goal.serve-requires
serve-requires c = (
  search rules,
  λ i. rw (c.fill.ensures.after (λ y e. e), nothing_at (length c.args.gets.now) i) (omega (arith, c.type_inv.sizes i)),
  λ i h. omega arith,
)

pub returns : goal.returns
returns c = λ ps z. size_alone ps c.args.left.0 (length c.args.gets.now) z c.requires.0 (rw (c.fill.ensures.after (λ y e. e)) at c.serve.ensures)
