-- `dividing::round::largest` meets its contract: what the chain yields is no less than each number.
use Rattle.std.proofs.Common.{rules, ◌≡◌, ℕ, ◌<◌, ◌≤◌, get_or, length}
use Rattle.std.proofs.iter.runs.Made.{chains}
use Rattle.std.specs.Option.{MatchOption}
use Rattle.dividing.proofs.Walking.{largest_done}
use Rattle.dividing.proofs.round.largest.Goals as goal

pub returns : goal.returns
returns c =
    let h : MatchOption c.max.result (length c.args.column.now ≡ 0) (λ m. (k : ℕ) → k < length c.args.column.now → get_or c.args.column.now k 0 ≤ m) = search (rules, chains) in
    rw c.unwrap_or.ensures (largest_done c.args.column.now c.max.result h)
