-- `parts::arrange` meets its contract: keys that rise stay as they are, and of others the needed ones are put in order.
use native.Mathlib.Omega.{arith}
use lib.ListN.{take, length-take}
use Rattle.book.specs.Sound.{orders_of}
use Rattle.book.proofs.Checking.{sound_fits}
use Rattle.parts.proofs.Arranging.{arranged_rising}
use Rattle.parts.proofs.arrange.Goals as goal

pub returns-then-rises : goal.returns-then-rises
returns-then-rises c = (
  c.collect-all.ensures.0,
  arranged_rising c.args.lot.0 c.args.algorithm c.args.incoming (orders_of c.args.book.now) (take c.collect-all.result c.collect-all.new.keys)
      c.collect-all.ensures.1 (c.rises.ensures c.if-rises.true),
)

pub narrow-needed-requires : goal.narrow-needed-requires
narrow-needed-requires c =
    omega (arith, length-take c.collect-all.result c.collect-all.new.keys, sound_fits c.args.book.now c.requires.0)
