-- `lookup::sound::records_sound` meets its contract: the fold asks every record.
use Rattle.std.proofs.Common.{rules, ◌≡◌, ◌∙◌, ◌&&◌, true, ap}
use mathlib.Core.List.{map}
use Rattle.units.specs.Lists.{all}
use Rattle.record.specs.Record.{record_sound}
use Rattle.book.specs.Sound.{form, first_records}
use Rattle.book.proofs.Walking.{all_folded}
use Rattle.lookup.proofs.sound.records_sound.Goals as goal

pub returns : goal.returns
returns c =
    let run = c.fold.ensures.runs.0 in
    let items : map (λ x. x.now) run.items ≡ first_records form c.args.n c.args.book.now = search rules in
    c.fold.ensures.runs.3 (λ a x. a && record_sound form x.now) (search rules)
    ∙ all_folded (λ x. x.now) (record_sound form) true run.items
    ∙ ap (all (record_sound form)) items
