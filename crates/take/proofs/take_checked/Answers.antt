-- `take::take_checked` meets its contract: few orders have memory for few, and a sound book has no more than all.
use mathlib.Core.Path.{refl}
use native.Mathlib.Omega.{arith}
use Rattle.book.proofs.Checking.{sound_fits}
use Rattle.take.proofs.take_checked.Goals as goal

pub take_with-requires : goal.take_with-requires
take_with-requires c = (c.requires, c.if-n-le32.true, omega arith, refl)

pub take_with-requires-else-n-le32 : goal.take_with-requires-else-n-le32
take_with-requires-else-n-le32 c =
    (c.requires, omega (arith, (sound_fits _ c.requires.is_sound).1, c.requires.counted), omega arith, refl)
