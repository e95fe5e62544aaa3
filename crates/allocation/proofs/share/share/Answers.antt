-- `allocation::share::share` meets its contract: the columns are those of the group, and what they get is credited.
use mathlib.Core.Path.{◌≡◌, sym, ap, ◌∙◌}
use native.Mathlib.Omega.{arith}
use lib.ListN.{get_or}
use Rattle.units.specs.Lists.{sum}
use Rattle.matching.specs.Paragraph.{method_of}
use Rattle.matching.specs.Numbered.{paragraph_numbered}
use Rattle.parts.specs.Key.{group_in}
use Rattle.allocation.specs.Walk.{paragraph_of}
use Rattle.allocation.proofs.Dividing.{shared_within, divide_ready, divide_gives}
use Rattle.allocation.proofs.share.share.Goals as goal

pub divide-requires : goal.divide-requires
divide-requires c =
    let way : c.method-method.result ≡ method_of c.args.algorithm (paragraph_of (group_in (get_or c.args.keys.now 0 0))) =
    c.method-method.ensures ∙ ap (method_of c.args.algorithm) (c.from-paragraph.ensures ∙ ap paragraph_numbered c.paragraph.ensures) in
    divide_ready c.args.from.incoming.taker c.requires.0 c.requires.2 c.method-method.result way c.needs-setter.new.minimums c.needs-setter.result c.needs-setter.ensures
    c.sizes_of-total.ensures.0 c.sizes_of-total.ensures.1 (c.needs-setter.auto.minimums ∙ c.requires.1.for_minimums) c.requires.1.for_gets

pub credit-requires : goal.credit-requires
credit-requires c =
    let way : c.method-method.result ≡ method_of c.args.algorithm (paragraph_of (group_in (get_or c.args.keys.now 0 0))) =
    c.method-method.ensures ∙ ap (method_of c.args.algorithm) (c.from-paragraph.ensures ∙ ap paragraph_numbered c.paragraph.ensures) in
    let got =
    divide_gives c.args.from.incoming.taker c.requires.0 c.requires.2 c.method-method.result way c.needs-setter.new.minimums c.needs-setter.result c.needs-setter.ensures
    c.sizes_of-total.ensures.0 c.divide.ensures in (
      c.requires.3,
      c.divide.auto.gets ∙ c.requires.1.for_gets,
      omega (arith, ap sum got, shared_within c.args.from.incoming.taker c.requires.0 c.requires.2),
    )

pub returns : goal.returns
returns c =
    let way : c.method-method.result ≡ method_of c.args.algorithm (paragraph_of (group_in (get_or c.args.keys.now 0 0))) =
    c.method-method.ensures ∙ ap (method_of c.args.algorithm) (c.from-paragraph.ensures ∙ ap paragraph_numbered c.paragraph.ensures) in
    let got =
    divide_gives c.args.from.incoming.taker c.requires.0 c.requires.2 c.method-method.result way c.needs-setter.new.minimums c.needs-setter.result c.needs-setter.ensures
    c.sizes_of-total.ensures.0 c.divide.ensures in
    rw (sym got) c.credit.ensures
