-- `parts::best::lowest` meets its contract: what the chain yields is no higher than each key.
use Rattle.std.proofs.Common.{rules, ◌≡◌, ℕ, ◌<◌, ◌≤◌, get_or, length}
use Rattle.std.proofs.iter.runs.Made.{chains}
use Rattle.std.specs.Option.{MatchOption}
use Rattle.parts.proofs.Narrowing.{lowest_done}
use Rattle.parts.proofs.best.lowest.Goals as goal

pub returns : goal.returns
returns c =
    let h : MatchOption c.min.result (length c.args.keys.now ≡ 0) (λ m. (k : ℕ) → k < length c.args.keys.now → m ≤ get_or c.args.keys.now k 0) = search (rules, chains) in
    rw c.unwrap_or.ensures (lowest_done _ c.args.keys.now c.min.result h)
