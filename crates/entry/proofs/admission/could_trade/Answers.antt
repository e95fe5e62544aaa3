-- `entry::admission::could_trade` meets its contract: its four tests are those of the definition.
use lib.ListN.{get_or}
use Rattle.record.specs.Record.{order_of}
use Rattle.orders.proofs.KindTests.{minimum_test}
use Rattle.entry.proofs.admission.could_trade.Goals as goal

pub returns : goal.returns
unfolding order_of
returns c =
    λ ns e s.
    rw (c.within_limit.ensures, c.is_opposite.ensures, c.from.ensures, e, s, minimum_test (get_or ns 1 0) (get_or ns 5 0) (get_or ns 10 0) (get_or ns 11 0) _)
