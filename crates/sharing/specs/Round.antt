-- Shares go round once: each part in its turn takes what it wants of what remains. Price/time, paragraphs 3, 5 and 6 of pro rata, and
-- the second step of lot sharing are this, each with its rank and its want.
use Rattle.std.specs.Prelude.{ℕ, ◌+◌, ◌-◌, min, Bool, List, [], ◌∷◌, map, leb, eqb}
use Rattle.units.specs.Lists.{or_zero}
use Rattle.sharing.specs.Rank.{Part, ranked}

-- what a part takes of what remains: the smaller of the two, or nothing, being passed over, while its minimum exceeds what remains
abbrev pub taking : (Part → ℕ) → ℕ → Part → ℕ
taking want left p = or_zero (leb p.minimum left) (min (want p) left)

-- what the part of number n takes while the shares left go to the parts in turn
unfoldable pub goes_round : (Part → ℕ) → ℕ → List Part → ℕ → ℕ
goes_round want left [] n = 0
goes_round want left (p ∷ ps) n =
    let x = taking want left p in
    or_zero (eqb p.number n) x + goes_round want (left - x) ps n

-- what each part takes, beside the parts
unfoldable pub round : (Part → Part → Bool) → (Part → ℕ) → ℕ → List Part → List ℕ
round before want left ps = map (λ p. goes_round want left (ranked before ps) p.number) ps
