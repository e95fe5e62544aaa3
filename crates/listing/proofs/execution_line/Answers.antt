-- `listing::execution_line` meets its contract.
use native.Mathlib.Omega.{arith}
use Rattle.listing.proofs.Lines.{placed_behind, placed_as, placed, fields_line}
use Rattle.listing.proofs.execution_line.Goals as goal

pub returns : goal.returns
returns c =
    let t = fields_line c.args.executions.now c.args.at _ _ _ c.read_u32-number.ensures c.read_u32-price.ensures c.read_u32-shares.ensures in
    let first = c.put_field-first.ensures in
    let second = c.put_field-second.ensures in
    let third = c.put_field.ensures in
    let v = placed_behind (omega arith) (placed first.ends first.bytes) (placed second.ends second.bytes) in
    (omega arith, placed_as t (placed_behind (omega (arith, v.ends)) v (placed third.ends third.bytes)))
