-- `allocation::share::minimums_of` meets its contract: the column is written from the front.
use Prim.Native.Nat.{◌<◌}
use native.Mathlib.Omega.{arith}
use lib.ListN.{length}
use Rattle.book.specs.Sound.{orders_of}
use Rattle.book.proofs.Checking.{sound_fits}
use Rattle.parts.specs.Key.{place_in}
use Rattle.units.proofs.Members.{every_at}
use Rattle.allocation.proofs.share.minimums_of.Goals as goal

pub order_at-order-requires : goal.order_at-order-requires
order_at-order-requires c =
    let inside : c.place.result < length (orders_of c.args.book.now) =
    omega (
      arith,
      c.place.ensures,
      every_at (λ k. place_in k < length (orders_of c.args.book.now)) c.args.keys.now c.requires.1 c.loop-k.k (omega arith),
    ) in
    omega (arith, inside, sound_fits c.args.book.now c.requires.2)
