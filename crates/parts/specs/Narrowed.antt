-- Fewer parts where they are enough: those of the best price, where those of them that have no minimum take all the shares that come in.
use Rattle.std.specs.Prelude.{ℕ, ◌≤◌, Bool, not, ◌&&◌, List, eqb}
use Rattle.units.specs.Lists.{filter, or_zero, total}
use Rattle.units.proofs.Members.{Every}
use Rattle.matching.specs.declared.Algorithm.{Algorithm}
use Rattle.matching.specs.declared.Algorithm.TheVariants.{PriceTime, ProRata, PriceSetter}
use Rattle.parts.specs.Key.{rank_in, group_in, paragraph_in, shares_in}

-- the number of the paragraph in whose group orders with a minimum stand
abbrev pub minimum_paragraph : Algorithm → ℕ
minimum_paragraph PriceTime = 3
minimum_paragraph ProRata = 5
minimum_paragraph PriceSetter = 5

-- of a rank
abbrev pub of_rank : ℕ → ℕ → Bool
of_rank rank key = eqb (rank_in key) rank

-- the shares of a part of this rank that has no minimum
abbrev pub free_shares : Algorithm → ℕ → ℕ → ℕ
free_shares alg rank key = or_zero (of_rank rank key && not (eqb (paragraph_in (group_in key)) (minimum_paragraph alg))) (shares_in key)

-- all parts, or those of the lowest rank if they are enough
pub data Narrowed (alg : Algorithm) (size : ℕ) (keys : List ℕ) : List ℕ → Type 0 where
  all : Narrowed alg size keys keys
  best : (rank : ℕ) → Every (λ k. rank ≤ rank_in k) keys → size ≤ total (free_shares alg rank) keys → Narrowed alg size keys (filter (of_rank rank) keys)
