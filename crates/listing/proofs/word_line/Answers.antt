-- `listing::word_line` meets its contract.
use native.Mathlib.Omega.{arith}
use Rattle.listing.proofs.Lines.{placed_behind, placed}
use Rattle.listing.proofs.word_line.Goals as goal

pub returns : goal.returns
returns c =
    let number = c.put_field.ensures in
    (omega (arith, c.put_text-behind.ensures.ends), placed_behind (omega arith) c.put_text-behind.ensures (placed number.ends number.bytes))
