-- `dividing::setter::beside_setter` meets its contract: the setter's size is taken out, and its guarantee put in.
use mathlib.Core.Path.{◌∙◌}
use native.Mathlib.Omega.{arith}
use lib.ListN.{length-set}
use Rattle.sharing.specs.Setter.{others}
use Rattle.dividing.proofs.SetterPlace.{others_columns, beside_put, sum_set}
use Rattle.dividing.proofs.setter.beside_setter.Goals as goal

pub lot_sharing-requires : goal.lot_sharing-requires
lot_sharing-requires c =
    let e = sum_set c.args.sizes.now c.args.place (omega arith) in
    let l = length-set c.args.sizes.now c.args.place 0 in
    record { wanting = omega arith; getting = omega arith; totals = omega arith; within = omega arith; some = omega arith; lots = omega arith }

pub returns : goal.returns
returns c =
    λ ps z at.
    beside_put ps z c.args.place at c.args.amounts.left.0 c.requires.1 c.requires.2 c.args.amounts.lot.0
    (c.lot_sharing.ensures (others ps) (others_columns ps z c.args.place at) ∙ rw c.difference-2.ensures)
