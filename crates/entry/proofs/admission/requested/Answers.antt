-- `entry::admission::requested` meets its contract, number by number.
use Rattle.entry.specs.Add.{requested}
use Rattle.entry.proofs.admission.requested.Goals as goal

pub returns : goal.returns
unfolding requested
returns c = rw (c.of.ensures, c.from.ensures)
