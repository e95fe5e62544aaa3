-- `dividing::lots::lot_sharing` meets its contract: what the first steps leave goes round once, on top of them.
use native.Mathlib.Omega.{arith}
use borrow.Author.Rules.{rules}
use Rattle.dividing.proofs.LotSteps.{wanted, room, put_together}
use Rattle.dividing.proofs.lots.lot_sharing.Goals as goal

pub invariant_of-round : goal.invariant_of-round
invariant_of-round c = record {
  as_many = search rules;
  countable = omega (arith, wanted c.steps-rest.ensures);
}

pub serve-requires : goal.serve-requires
serve-requires c = (
  search rules,
  λ i. omega (arith, room c.steps-rest.ensures (omega arith) i, c.type_inv.sizes i),
  λ i h. omega arith,
)

pub returns : goal.returns
returns c = λ ps z. put_together c.steps-rest.ensures c.requires.totals ps z c.serve.ensures
