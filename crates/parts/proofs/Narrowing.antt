-- Narrowing: the lowest of keys, and the shares of those of a rank.
use Prim.Native.Nat.{ℕ, zero, suc, ◌+◌, ◌*◌, ◌≤◌, ◌<◌}
use mathlib.Core.Path.{◌≡◌}
use mathlib.Core.Bool.{Bool, true, false, not, ◌&&◌}
use mathlib.Core.List.{List, [], ◌∷◌}
use native.Mathlib.Omega.{arith}
use native.Mathlib.Numerals.{add-one}
use lib.ListN.{length, get_or, drop}
use lib.Seq.{drop-cons}
use lib.Dec.{eqb}
use Rattle.std.proofs.Common.{Option, Some, None}
use Rattle.std.specs.Option.{MatchOption, unwrap_or}
use Rattle.units.specs.Lists.{filter, or_zero, total}
use Rattle.units.proofs.Tests.{pick_least}
use Rattle.units.proofs.Members.{Every, every_weaken}
use Rattle.matching.specs.declared.Algorithm.{Algorithm}
use Rattle.parts.specs.Key.{rank_in, group_in, paragraph_in, shares_in}
use Rattle.parts.specs.Narrowed.{minimum_paragraph, of_rank, free_shares, Narrowed, best}

-- what is no higher than the key at each place is no higher than any
lowest_at : (low : ℕ) (keys : List ℕ) → ((k : ℕ) → k < length keys → low ≤ get_or keys k 0) → Every (λ x. low ≤ x) keys
lowest_at low [] h = tt
lowest_at low (k ∷ ks) h = (h 0 (omega arith), lowest_at low ks (λ i l. h (suc i) (omega arith)))

-- a lowest key, or any number where there is none
pub lowest_done : (most : ℕ) (keys : List ℕ) (r : Option ℕ) → MatchOption r (length keys ≡ 0) (λ m. (k : ℕ) → k < length keys → m ≤ get_or keys k 0)
    → Every (λ x. unwrap_or r most ≤ x) keys
lowest_done most keys None h = lowest_at most keys (λ k l. absurd (omega arith))
lowest_done most keys (Some m) h = lowest_at m keys h

-- the lowest key has the lowest rank
lowest_rank : (low : ℕ) (keys : List ℕ) → Every (λ k. low ≤ k) keys → Every (λ k. rank_in low ≤ rank_in k) keys
lowest_rank low keys e = every_weaken (λ k h. omega arith) keys e

-- the keys of the lowest one's rank, where they are enough
pub narrowed_best : (alg : Algorithm) (size low rank : ℕ) (keys kept : List ℕ) → Every (λ k. low ≤ k) keys → rank ≡ rank_in low
    → size ≤ total (free_shares alg rank) keys → kept ≡ filter (of_rank rank) keys → Narrowed alg size keys kept
narrowed_best alg size low rank keys kept l r h e = rw e (best rank (rw r (lowest_rank low keys l)) h)

-- a number times one, if a test passes
pub one_times : (b : Bool) (n : ℕ) → or_zero b 1 * n ≡ or_zero b n
one_times true n = omega arith
one_times false n = omega arith

-- once at most is no more
pub once_below : (k n m : ℕ) → k ≤ 1 → n < m → k * n < m
once_below zero n m h l = omega arith
once_below (suc zero) n m h l = omega arith
once_below (suc (suc k)) n m h l = absurd (omega arith)

-- a part has fewer than 1,048,576 shares, and so has what counts of it
free_most : (alg : Algorithm) (rank key : ℕ) → free_shares alg rank key ≤ 1048575
free_most alg rank key =
    omega (arith, pick_least (of_rank rank key && not (eqb (paragraph_in (group_in key)) (minimum_paragraph alg))) (shares_in key))

pub total_most : (alg : Algorithm) (rank : ℕ) (keys : List ℕ) → total (free_shares alg rank) keys ≤ 1048575 * length keys
total_most alg rank [] = omega arith
total_most alg rank (k ∷ ks) = omega (arith, free_most alg rank k, total_most alg rank ks)

-- the shares of the keys from one on: its own, and those of the keys behind it
pub total_more : (f : ℕ → ℕ) (keys : List ℕ) (k : ℕ) → k < length keys → total f (drop k keys) ≡ f (get_or keys k 0) + total f (drop (k + 1) keys)
total_more f keys k h = rw (add-one, drop-cons keys k 0 h)
