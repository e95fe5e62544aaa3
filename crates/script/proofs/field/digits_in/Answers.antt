-- `script::field::digits_in` meets its contract: behind one digit more.
use Rattle.std.proofs.Common.{rules, ◌≡◌, ◌+◌, ◌*◌, ◌-◌, get_or, true, sym, ◌∙◌}
use Rattle.script.specs.Field.{is_digit}
use Rattle.script.proofs.Digits.{more}
use Rattle.script.proofs.field.digits_in.Goals as goal

pub loop-b-preserved : goal.loop-b-preserved
loop-b-preserved c =
    let s = c.args.field.now in
    let i = c.loop-b.b-index in
    let d : is_digit (get_or s i 0) ≡ true = search rules in
    let e : c.in_ok-n.n ≡ 10 * c.loop-b.n + (get_or s i 0 - 48) = search rules in
    (search rules, rw e (sym (more s c.loop-b.n i (search rules) d) ∙ c.loop-b.invariant.1))
