-- `allocation::credit::fill` meets its contract: the first k parts are filled.
use Prim.Native.Nat.{◌+◌}
use mathlib.Core.Path.{◌≡◌}
use mathlib.Core.List.{map}
use Rattle.matching.specs.declared.Algorithm.{Algorithm}
use Rattle.parts.specs.Key.{shares_in}
use Rattle.parts.specs.Visible.{last_shown}
use Rattle.allocation.specs.Credit.{ledger}
use Rattle.allocation.proofs.Crediting.{Begun}
use Rattle.allocation.proofs.credit.fill.Given as goal

abbrev pub invariant-loop-k : goal.invariant-loop-k
invariant-loop-k l =
    (alg : Algorithm) → l.last ≡ last_shown alg
    → Begun alg l.keys (map shares_in l.keys) (ledger l.from l.initial.fills l.initial.shown l.initial.hidden) l.k l.used.0 (l.from.count + l.k) l.fills l.shown l.hidden
