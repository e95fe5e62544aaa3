-- `parts::best::free_total` meets its contract: what was added up, and the shares of the keys that are left, are those of all keys.
use Prim.Native.Nat.{◌+◌}
use mathlib.Core.Path.{◌≡◌}
use lib.ListN.{drop}
use Rattle.units.specs.Lists.{total as total_of}
use Rattle.matching.specs.declared.Algorithm.{Algorithm}
use Rattle.parts.specs.Narrowed.{minimum_paragraph, free_shares}
use Rattle.parts.proofs.best.free_total.Given as goal

abbrev pub invariant-loop-key : goal.invariant-loop-key
invariant-loop-key l =
    (alg : Algorithm) → l.excluded ≡ minimum_paragraph alg → l.total.0 + total_of (free_shares alg l.rank) (drop l.key-index l.keys) ≡ total_of (free_shares alg l.rank) l.keys
