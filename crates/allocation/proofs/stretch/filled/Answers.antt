-- `allocation::stretch::filled` meets its contract: what is left of the shares and the parts before are the shares at the start.
use native.Mathlib.Omega.{arith}
use borrow.Author.Rules.{rules}
use Rattle.parts.specs.Key.{shares_in}
use Rattle.allocation.proofs.Places.{total_next}
use Rattle.allocation.proofs.stretch.filled.Goals as goal

pub returns-then-rest-shares : goal.returns-then-rest-shares
returns-then-rest-shares c =
    let n = total_next shares_in c.args.keys.now c.loop-k.k (search rules) in
    (search rules, omega arith, λ h. omega (arith, c.shares-shares.ensures))

pub loop-k-preserved : goal.loop-k-preserved
loop-k-preserved c =
    let n = total_next shares_in c.args.keys.now c.loop-k.k (search rules) in
    (search rules, omega (arith, c.shares-shares.ensures, c.difference-rest.ensures))
