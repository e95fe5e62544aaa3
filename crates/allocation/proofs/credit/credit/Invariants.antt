-- `allocation::credit::credit` meets its contract: the first k parts have got their shares.
use mathlib.Core.Path.{◌≡◌}
use Rattle.matching.specs.declared.Algorithm.{Algorithm}
use Rattle.parts.specs.Visible.{last_shown}
use Rattle.allocation.specs.Credit.{ledger}
use Rattle.allocation.proofs.Crediting.{Begun}
use Rattle.allocation.proofs.credit.credit.Given as goal

abbrev pub invariant-loop-k : goal.invariant-loop-k
invariant-loop-k l =
    (alg : Algorithm) → l.last ≡ last_shown alg
    → Begun alg l.keys l.gets (ledger (record { incoming = l.incoming; count = l.initial.count }) l.initial.fills l.initial.shown l.initial.hidden) l.k l.used.0 l.count l.fills l.shown l.hidden
