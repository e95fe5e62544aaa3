-- `parts::best::free_total` meets its contract: what was added up, and the shares of the keys that are left, are those of all keys.
use native.Mathlib.Omega.{arith}
use Rattle.parts.specs.Narrowed.{free_shares}
use Rattle.parts.proofs.Narrowing.{total_most, total_more}
use Rattle.parts.proofs.best.free_total.Goals as goal

pub sum-total-requires : goal.sum-total-requires
sum-total-requires c =
    let f = free_shares c.args.algorithm c.args.rank in
    omega (
      arith,
      c.loop-key.invariant c.args.algorithm c.minimum_paragraph-excluded.ensures,
      c.free_shares.ensures c.args.algorithm c.minimum_paragraph-excluded.ensures,
      total_more f c.args.keys.now c.loop-key.key-index (omega arith),
      total_most c.args.algorithm c.args.rank c.args.keys.now,
    )
