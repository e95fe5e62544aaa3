-- `lookup::setters::contains` meets its contract: the fold asks every key.
use Rattle.std.proofs.Common.{rules, ◌≡◌, ◌∙◌, ◌||◌, false, ap, eqb}
use mathlib.Core.List.{map}
use Rattle.units.specs.Lists.{any}
use Rattle.book.proofs.Walking.{any_folded}
use Rattle.lookup.proofs.setters.contains.Goals as goal

pub returns : goal.returns
returns c =
    let run = c.fold.ensures.runs.0 in
    let items : map (λ x. x.now) run.items ≡ c.args.keys.now = search rules in
    c.fold.ensures.runs.3 (λ a x. a || eqb c.args.key x.now) (search rules)
    ∙ any_folded (λ x. x.now) (eqb c.args.key) false run.items
    ∙ ap (any (eqb c.args.key)) items
