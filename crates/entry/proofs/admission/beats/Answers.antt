-- `entry::admission::beats` meets its contract: its four tests are those of the definition.
use lib.ListN.{get_or}
use Rattle.record.specs.Record.{order_of}
use Rattle.entry.proofs.admission.beats.Goals as goal

pub returns : goal.returns
unfolding order_of
returns c =
    λ ns e.
    rw (
      c.is_priced_better.ensures,
      c.is_displayed.ensures (get_or ns 5 0) (get_or ns 10 0) (get_or ns 11 0),
      c.is_opposite.ensures,
      c.from.ensures,
      e,
    )
