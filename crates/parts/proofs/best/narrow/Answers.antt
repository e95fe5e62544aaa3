-- `parts::best::narrow` meets its contract: the keys of the lowest rank if they are enough, else all.
use native.Mathlib.Omega.{arith}
use borrow.Author.Rules.{rules}
use lib.ListN.{take}
use lib.Seq.{take-length}
use Rattle.parts.specs.Narrowed.{all}
use Rattle.parts.proofs.Narrowing.{narrowed_best}
use Rattle.parts.proofs.best.narrow.Goals as goal

pub returns-then-size-total : goal.returns-then-size-total
returns-then-size-total c = (
  c.keep.ensures.0,
  narrowed_best c.args.algorithm c.args.size.0 c.lowest.result c.rank-rank.result c.args.keys.now (take c.keep.result c.keep.new.keys) c.lowest.ensures
      c.rank-rank.ensures (omega (arith, c.free_total-total.ensures)) c.keep.ensures.1,
)

pub returns-else-size-total : goal.returns-else-size-total
returns-else-size-total c = (search rules, rw (take-length c.args.keys.now) all)
