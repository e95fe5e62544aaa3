-- The numbers of an order's record and its forms by name, for the functions that read one. No call's meaning rests on it.
use Rattle.std.specs.Prelude.{ℕ, List, get_or}
use Rattle.record.specs.declared.order_record.Numbers.{Numbers}
use Rattle.record.specs.declared.form.RecordForm.{RecordForm}
use Rattle.record.specs.declared.form.RecordForm.TheVariants.{Old, New}
use Rattle.record.specs.Record.{OrderForm, old_form, new_form}

abbrev pub named_numbers : List ℕ → Numbers
named_numbers ns = record {
  side = get_or ns 0 0;
  kind = get_or ns 1 0;
  number = get_or ns 2 0;
  price = get_or ns 3 0;
  size = get_or ns 4 0;
  minimum = get_or ns 5 0;
  setter = get_or ns 6 0;
  hidden = get_or ns 10 0;
  refresh = get_or ns 11 0;
  security = get_or ns 7 0;
}

abbrev pub form_of : RecordForm → OrderForm
form_of Old = old_form
form_of New = new_form
