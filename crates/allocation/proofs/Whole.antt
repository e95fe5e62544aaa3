-- A group that fits into the shares left is filled whole.
use Prim.Native.Nat.{ℕ, ◌+◌, ◌-◌, ◌≤◌, ◌<◌}
use mathlib.Core.Path.{◌≡◌, refl, ap₂}
use mathlib.Core.List.{List, [], ◌∷◌, map}
use native.Mathlib.Omega.{arith}
use native.Mathlib.Decide.{dec_lt}
use Rattle.units.specs.Lists.{sum, total}
use Rattle.units.proofs.Members.{Every}
use Rattle.sharing.specs.Rank.{Part, part_size}
use Rattle.sharing.proofs.Filled.{Met, Each, Filled}

-- parts that get no more than their size get no more than the group's total
within : (ps : List Part) (ns : List ℕ) → Each (λ p n. n ≤ p.size) ps ns → sum ns ≤ total part_size ps
within [] (n ∷ ns) x'' = elim x'' [ ]
within (p ∷ ps) [] x3 = elim x3 [ ]
within [] [] Each.none = omega arith
within (p ∷ ps) (n ∷ ns) (Each.more h e) = omega (arith, within ps ns e)

-- where they get all of it, each gets its size
all_given : (ps : List Part) (ns : List ℕ) → Each (λ p n. n ≤ p.size) ps ns → total part_size ps ≤ sum ns → ns ≡ map part_size ps
all_given [] (n ∷ ns) x4 h = elim x4 [ ]
all_given (p ∷ ps) [] x4 h = elim x4 [ ]
all_given [] [] Each.none h = refl
all_given (p ∷ ps) (n ∷ ns) (Each.more f e) h =
    let w = within ps ns e in
    let s : n ≡ p.size = omega arith in
    ap₂ ◌∷◌ s (all_given ps ns e (omega arith))

-- where r remain that are no fewer than the group lacks, no part can have a minimum above them
met_given : (r : ℕ) (ps : List Part) (ns : List ℕ) → Every (λ p. p.minimum ≤ p.size) ps → Each (λ p n. n ≤ p.size) ps ns → Each (Met r) ps ns
    → total part_size ps ≤ r + sum ns → ns ≡ map part_size ps
met_given r [] (n ∷ ns) l x8 _ h = elim x8 [ ]
met_given r (p ∷ ps) [] l x7 _ h = elim x7 [ ]
met_given r [] [] l Each.none Each.none h = refl
met_given r (p ∷ ps) (n ∷ ns) l (Each.more f e) (Each.more (Met.full s) m) h = ap₂ ◌∷◌ s (met_given r ps ns l.1 e m (omega arith))
met_given r (p ∷ ps) (n ∷ ns) l (Each.more f e) (Each.more (Met.unmet z u) m) h =
    let k = l.0 in
    absurd (omega (arith, within ps ns e))

-- sharing fills a group that fits, each minimum being within the size
pub filled_whole : (left : ℕ) (ps : List Part) (ns : List ℕ) → Filled left ps ns → Every (λ p. p.minimum ≤ p.size) ps → total part_size ps ≤ left
    → ns ≡ map part_size ps
filled_whole left ps ns f l h = go (dec_lt (sum ns) left)
  where
    go : Dec (sum ns < left) → ns ≡ map part_size ps
    go (yes k) = met_given (left - sum ns) ps ns l f.fits (f.met k) (omega arith)
    go (no k) = all_given ps ns f.fits (omega arith)
