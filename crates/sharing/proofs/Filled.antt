-- What sharing leaves: no more than the shares left are given, no part gets more than its size, and where shares remain every part
-- is filled, or has nothing and a minimum above what remains.
use Prim.Native.Nat.{ℕ, ◌-◌, ◌≤◌, ◌<◌, min}
use mathlib.Core.Path.{◌≡◌, refl}
use mathlib.Core.Bool.{Bool, true, false}
use mathlib.Core.List.{List, [], ◌∷◌, map, Memᴰ}
use native.Mathlib.Omega.{arith}
use lib.Dec.{leb}
use borrow.Author.Tests.{leb-false}
use Rattle.units.specs.Lists.{or_zero, sum, total}
use Rattle.units.proofs.Totals.{total_map, total_full}
use Rattle.sharing.specs.Rank.{Part, part_size, ranked, Rising}
use Rattle.sharing.specs.Round.{taking, goes_round, round}
use Rattle.sharing.proofs.Ranks.{mem_ranked, differ_ranked}
use Rattle.sharing.proofs.Turns.{remains, Turn, turn, taking_le, round_given}

-- a part's n shares where r remain
pub data Met (r : ℕ) (p : Part) (n : ℕ) : Type 0 where
  full : n ≡ p.size → Met r p n
  unmet : n ≡ 0 → r < p.minimum → Met r p n

-- where fewer remain it holds too
pub met_down : {r s : ℕ} {p : Part} {n : ℕ} → s ≤ r → Met r p n → Met s p n
met_down h (full e) = full e
met_down h (unmet e l) = unmet e (omega arith)

-- part by part
pub data Each (P : Part → ℕ → Type 0) : List Part → List ℕ → Type 0 where
  none : Each P [] []
  more : {p : Part} {ps : List Part} {n : ℕ} {ns : List ℕ} → P p n → Each P ps ns → Each P (p ∷ ps) (n ∷ ns)

-- numbers that are a function of the parts
pub each_map : {P : Part → ℕ → Type 0} (f : Part → ℕ) (ps : List Part) → ((p : Part) → Memᴰ p ps → P p (f p)) → Each P ps (map f ps)
each_map f [] h = none
each_map f (p ∷ ps) h = more (h p (Memᴰ.head refl)) (each_map f ps (λ q m. h q (Memᴰ.tail m)))

-- what sharing leaves, in three: the total, each part's size, and each part where shares remain
pub record Filled (left : ℕ) (ps : List Part) (ns : List ℕ) : Type 0 where
  pub within : sum ns ≤ left
  pub fits : Each (λ p n. n ≤ p.size) ps ns
  pub met : sum ns < left → Each (λ p n. Met (left - sum ns) p n) ps ns

-- a part that leaves r shares or more, r above 0
leaves : (p : Part) (l r : ℕ) → 0 < r → r ≤ l - taking part_size l p → Met r p (taking part_size l p)
leaves p l r h k = go (leb p.minimum l) refl k
  where
    go : (b : Bool) → leb p.minimum l ≡ b → r ≤ l - or_zero b (min p.size l) → Met r p (or_zero b (min p.size l))
    go true e k = full (omega arith)
    go false e k = unmet refl (omega (arith, leb-false p.minimum l e))

-- shares that go round, by any rank and with any minimums
pub round_filled : (before : Part → Part → Bool) (m : ℕ) (ps : List Part) → Rising m ps → (left : ℕ) → Filled left ps (round before part_size left ps)
unfolding round
round_filled before m ps r left =
    let a = round_given part_size m ps r before left in
    let b = total_map (λ n. n) share ps in
    record {
      within = omega arith;
      fits = each_map share ps (λ p k. let t = at p k in rw t.took (taking_le part_size t.met p).1);
      met = λ h. each_map share ps (λ p k. let t = at p k in let l = t.later in rw t.took (leaves p t.met (left - sum (map share ps)) (omega arith) (omega arith)));
    }
  where
    share : Part → ℕ
    share p = goes_round part_size left (ranked before ps) p.number

    at : (p : Part) → Memᴰ p ps → Turn part_size p (remains part_size left (ranked before ps)) (share p)
    at p k = turn part_size p (ranked before ps) (differ_ranked before m ps r) (mem_ranked before p ps k) left

-- shares given by a function of the parts, none above its size, and all that the group can take
pub map_filled : (f : Part → ℕ) (left : ℕ) (ps : List Part) → ((p : Part) → Memᴰ p ps → f p ≤ p.size) → total f ps ≡ min left (total part_size ps)
    → Filled left ps (map f ps)
map_filled f left ps h e =
    let a = total_map (λ n. n) f ps in
    record { within = omega arith; fits = each_map f ps h; met = λ k. each_map f ps (λ p i. full (total_full ps h (omega arith) p i)) }
