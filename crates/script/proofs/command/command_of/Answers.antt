-- `script::command::command_of` meets its contract where a line is of no form.
use Rattle.std.proofs.Common.{◌∙◌}
use Rattle.script.specs.Command.{command_of, chosen, entered, reduced, taking, choose_form, add_form, reduce_form, take_form}
use Rattle.script.proofs.Commands.{passed}
use Rattle.script.proofs.command.command_of.Goals as goal

pub returns-in_err-side : goal.returns-in_err-side
unfolding command_of
returns-in_err-side c =
    c.from_residual.ensures
    ∙ passed taking _ take_form _ c.in_err-side.ensures
    ∙ passed reduced _ reduce_form _ c.in_default-read_as-2.ensures
    ∙ passed entered _ add_form _ c.in_default-read_as.ensures
    ∙ passed chosen _ choose_form _ c.in_default.ensures
