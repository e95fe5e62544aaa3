-- `script::command::read_fields` meets its contract.
use Rattle.std.proofs.Common.{rules, tests, sym, ◌∙◌, ap, refl}
use Rattle.script.specs.declared.field.Field.TheVariants.{Number}
use Rattle.script.specs.Command.{fits}
use Rattle.script.proofs.Splitting.{first_left, none_left}
use Rattle.script.proofs.Forms.{fit_none, fit_stop, fit_more, values_more, fit_all, fit_more_fields, values_all}
use Rattle.script.proofs.command.read_fields.Goals as goal

pub loop-i-init : goal.loop-i-init
loop-i-init c =
    let s = c.split-fields.ensures in
    (c.requires, rw (s.rest, s.done) refl, rw (s.rest, s.done) refl)

pub returns-in_err-next : goal.returns-in_err-next
returns-in_err-next c =
    rw c.from_residual.ensures
    (sym c.loop-i.invariant.1
    ∙ ap (fits _) (none_left c.loop-i.fields c.in_err-next.ensures.steps.0)
    ∙ fit_none c.args.form.now c.loop-i.i Number (search rules))

pub returns-in_err-values : goal.returns-in_err-values
returns-in_err-values c =
    rw c.from_residual-in_err-values.ensures
    (sym c.loop-i.invariant.1
    ∙ ap (fits _) (first_left _ c.loop-i.fields c.next.new.self c.in_ok-next.field-0
    (λ x b q k. search (rules, tests)) c.in_ok-next.ensures.steps)
    ∙ fit_stop c.args.form.now c.loop-i.i _ (search rules) _ _ (sym c.in_err-values.ensures))

pub loop-i-preserved : goal.loop-i-preserved
loop-i-preserved c =
    let f =
    first_left _ c.loop-i.fields c.next.new.self c.in_ok-next.field-0 (λ x b q k. search (rules, tests)) c.in_ok-next.ensures.steps in (
      search rules,
      sym (fit_more c.args.form.now c.loop-i.i _ (search rules) _ _ _ (sym c.in_ok-values.ensures))
          ∙ sym (ap (fits _) f) ∙ c.loop-i.invariant.1,
      values_more c.args.form.now c.loop-i.i _ (search rules) _ _ _ (sym c.in_ok-values.ensures) c.loop-i.values (search rules)
          ∙ rw f at c.loop-i.invariant.2,
    )

pub returns-in-None : goal.returns-in-None
returns-in-None c =
    let n = none_left c.loop-i.fields c.in-None.ensures.steps.0 in (
      sym c.loop-i.invariant.1 ∙ ap (fits _) n ∙ fit_all c.args.form.now c.loop-i.i (search rules),
      sym (values_all c.args.form.now c.loop-i.i (search rules) c.loop-i.values _ (search rules)) ∙ c.loop-i.invariant.2,
    )

pub returns-in-Some : goal.returns-in-Some
returns-in-Some c =
    sym c.loop-i.invariant.1
    ∙ ap (fits _) (first_left _ c.loop-i.fields c.next-2.new.self c.in-Some.field-0
    (λ x b q k. search (rules, tests)) c.in-Some.ensures.steps)
    ∙ fit_more_fields c.args.form.now c.loop-i.i (search rules) _ _
