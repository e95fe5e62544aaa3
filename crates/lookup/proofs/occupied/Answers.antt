-- `lookup::occupied` meets its contract: there is an order for each occupied record.
use mathlib.Core.Path.{sym, ◌∙◌}
use Rattle.book.proofs.Checking.{orders_count}
use Rattle.lookup.proofs.occupied.Goals as goal

pub returns : goal.returns
returns c = c.count_occupied.ensures.0 ∙ sym (orders_count c.args.book.now)
