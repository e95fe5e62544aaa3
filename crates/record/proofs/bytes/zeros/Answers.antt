-- `record::bytes::zeros` meets its contract: the highest of the bytes is zero where all are.
use Rattle.std.proofs.Common.{rules, ◌≡◌, max}
use Rattle.std.specs.List.{fold}
use Rattle.record.proofs.Reading.{highest_zero}
use Rattle.record.proofs.bytes.zeros.Goals as goal

pub returns : goal.returns
returns c =
    let e : c.fold.result ≡ fold max 0 c.args.s.now = search rules in
    rw e (highest_zero 0 c.args.s.now)
