-- `parts::may_meet` meets its contract, test by test.
use native.Mathlib.Omega.{arith}
use Rattle.record.proofs.Orders.{order_facts}
use Rattle.parts.proofs.Reading.{meets_read}
use Rattle.parts.proofs.may_meet.Goals as goal

pub returns : goal.returns
returns c =
    λ o h e.
    rw (c.rank_on.ensures, c.rank_on-2.ensures, c.from-other.ensures, c.from.ensures)
    (meets_read c.args.numbers o e c.args.incoming (omega (arith, c.well_formed.1)) (omega (arith, (order_facts o h).price_most)))
