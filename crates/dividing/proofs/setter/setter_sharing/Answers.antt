-- `dividing::setter::setter_sharing` meets its contract: by the setter's plain share sharing is plain, or beside the setter.
use mathlib.Core.Path.{◌∙◌}
use native.Mathlib.Omega.{arith}
use borrow.Author.Rules.{rules}
use lib.ListN.{length}
use Rattle.dividing.proofs.LotSteps.{wanted, room, put_together}
use Rattle.dividing.proofs.Walking.{bound_done}
use Rattle.dividing.proofs.SetterPlace.{sum_set, sizes_length, none_holds, plain_holds, room_is, beside_holds}
use Rattle.dividing.proofs.setter.setter_sharing.Goals as goal

pub returns-then-sizes-place : goal.returns-then-sizes-place
returns-then-sizes-place c =
    λ ps z at. c.lot_sharing.ensures ps z ∙ none_holds c.args.amounts.lot.0 c.args.amounts.left.0 ps c.args.place at (omega (arith, sizes_length ps z))

pub invariant_of-round : goal.invariant_of-round
invariant_of-round c = record {
  as_many = search rules;
  countable = omega (arith, wanted c.steps-rest.ensures);
}

pub serve-requires : goal.serve-requires
serve-requires c = (
  search rules,
  λ i. omega (
    arith,
    room c.steps-rest.ensures c.requires.within i,
    bound_done c.args.sizes.now (length c.args.sizes.now) c.args.amounts.total.0 (λ k h. omega (arith, sum_set c.args.sizes.now k h)) (omega arith) i,
  ),
  λ i h. omega arith,
)

pub returns-then-guaranteed-share : goal.returns-then-guaranteed-share
returns-then-guaranteed-share c =
    λ ps z at.
    put_together c.steps-rest.ensures c.requires.totals ps z c.serve.ensures
    ∙ plain_holds c.steps-rest.ensures c.requires.totals c.args.place c.if-sizes-place.false (c.sum-share.ensures ∙ rw c.turn_at-more.ensures)
    c.guarantee-guaranteed.ensures ps z at c.if-guaranteed-share.true

pub beside_setter-requires : goal.beside_setter-requires
beside_setter-requires c = (
  record {
    wanting = omega arith;
    getting = omega arith;
    totals = c.requires.totals;
    within = c.requires.within;
    some = c.requires.some;
    lots = c.requires.lots;
  },
  c.if-sizes-place.false,
  c.guarantee-guaranteed.ensures,
  room_is c.steps-rest.ensures c.requires.totals c.args.place c.if-sizes-place.false (c.sum-share.ensures ∙ rw c.turn_at-more.ensures)
      c.guarantee-guaranteed.ensures c.requires.lots c.requires.within c.if-guaranteed-share.false,
)

pub returns : goal.returns
returns c =
    λ ps z at.
    c.beside_setter.ensures ps z at
    ∙ beside_holds c.steps-rest.ensures c.requires.totals c.args.place c.if-sizes-place.false (c.sum-share.ensures ∙ rw c.turn_at-more.ensures)
    c.guarantee-guaranteed.ensures ps z at c.if-guaranteed-share.false
