-- `parts::write_parts` meets its contract: the part of the order's size goes behind the first keys, and that of what it hides behind it.
use mathlib.Core.Path.{refl, ap, ◌∙◌}
use mathlib.Core.List.{◌++◌}
use native.Mathlib.Omega.{arith}
use borrow.Author.Rules.{rules}
use lib.ListN.{take}
use Rattle.units.specs.Lists.{or_zero}
use Rattle.orders.specs.declared.order.Kind.TheVariants.{NonDisplayed}
use Rattle.parts.specs.Parts.{may_meet}
use Rattle.units.proofs.Columns.{kept_more}
use Rattle.parts.proofs.Keeping.{as_one, one_most, kept_two}
use Rattle.parts.proofs.Reading.{numbers_fit, parts_one, parts_two}
use Rattle.parts.proofs.write_parts.Goals as goal

pub part_of-requires : goal.part_of-requires
part_of-requires c =
    let f = numbers_fit c.args.numbers c.requires.1.0 c.requires.1.2 c.requires.1.1 in
    (f.0, f.1, c.requires.0)

pub returns-then-numbers-eq0 : goal.returns-then-numbers-eq0
returns-then-numbers-eq0 c = (
  search rules,
  omega (arith, one_most _ c.from-met.ensures),
  λ o alg others h e t.
      rw (c.from-met.ensures ∙ as_one _ ∙ ap (λ b. or_zero b 1) (c.may_meet.ensures o h e))
      (kept_more (may_meet c.args.incoming o) c.args.keys.now c.args.count c.part_of.result others (omega arith)
      ∙ ap (λ ks. take c.args.count c.args.keys.now ++ ks)
      (parts_one c.args.numbers o e h c.args.groups.now.lot.0 alg c.args.incoming c.args.place c.part_of.result others (λ k q. c.part_of.ensures k alg q t) c.if-numbers-eq0.true)),
)

pub part_of-requires-2 : goal.part_of-requires-2
part_of-requires-2 c =
    let f = numbers_fit c.args.numbers c.requires.1.0 c.requires.1.2 c.requires.1.1 in
    (omega arith, f.2, c.requires.0)

pub returns : goal.returns
returns c = (
  search rules,
  omega (arith, one_most _ c.from-met.ensures),
  λ o alg others h e t.
      rw (c.from-met.ensures ∙ as_one _ ∙ ap (λ b. or_zero b 1) (c.may_meet.ensures o h e))
      (kept_two (may_meet c.args.incoming o) c.args.keys.now c.args.count c.part_of.result c.part_of-2.result others (omega arith)
      ∙ ap (λ ks. take c.args.count c.args.keys.now ++ ks)
      (parts_two c.args.numbers o e h c.args.groups.now.lot.0 alg c.args.incoming c.args.place c.part_of.result c.part_of-2.result others
      (λ k q. c.part_of.ensures k alg q t) (c.part_of-2.ensures NonDisplayed alg refl t) c.if-numbers-eq0.false)),
)
