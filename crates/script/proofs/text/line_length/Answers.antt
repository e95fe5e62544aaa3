-- `script::text::line_length` meets its contract.
use Rattle.std.proofs.Common.{rules, tests, ◌≡◌, sym, ◌∙◌}
use Rattle.std.proofs.lemmas.Iterator.{IsFirst-from_position, YieldsList-from_slice}
use Rattle.script.proofs.Cutting.{span_found}
use Rattle.script.proofs.text.line_length.Goals as goal

pub returns : goal.returns
returns c =
    let s = c.args.text.now in
    let first = IsFirst-from_position _ _ _ (λ x. x ≡ 10) (λ x. x ≡ 10 → ⊥) c.position.ensures.ran
    (YieldsList-from_slice s c.iter.ensures.rest) (λ x q k. search (rules, tests)) (λ x q k. search (rules, tests)) in
    (c.unwrap_or.ensures ∙ sym (span_found 10 s c.position.result first), search rules)
