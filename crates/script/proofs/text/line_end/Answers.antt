-- `script::text::line_end` meets its contract.
use Rattle.std.proofs.Common.{arith, ◌≡◌, ◌-◌, drop, length, length-drop}
use lib.Seq.{take_all}
use Rattle.units.specs.Text.{line_feed}
use Rattle.script.specs.Text.{span}
use Rattle.script.proofs.Cutting.{line_here}
use Rattle.script.proofs.text.line_end.Goals as goal

pub returns : goal.returns
returns c =
    let s = c.args.text.now in
    let at = c.args.at in
    let n : c.line_length.result ≡ span line_feed (drop at s) =
    rw (take_all (length s - at) (drop at s) (omega (arith, length-drop at s))) at c.line_length.ensures.0 in
    line_here s at _ c.requires (omega (arith, n)) (omega (arith, c.line_length.ensures.1, length-drop at s))
