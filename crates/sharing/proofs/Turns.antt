-- Shares going round: what a part meets at its turn, what remains in the end, and what is given together.
use Prim.Native.Nat.{ℕ, ◌+◌, ◌-◌, ◌≤◌, ◌<◌, min}
use mathlib.Core.Path.{◌≡◌, refl, sym, subst⁻¹}
use mathlib.Core.Bool.{Bool, true, false}
use mathlib.Core.List.{List, [], ◌∷◌, Memᴰ}
use native.Mathlib.Omega.{arith}
use native.Mathlib.Nat.{zero-add, add-zero}
use lib.Dec.{leb, eqb}
use borrow.Author.Tests.{eq-eqb, ne_eqb, le-leb}
use Rattle.units.specs.Lists.{or_zero, total}
use Rattle.units.proofs.Members.{Every, every_member, member_every}
use Rattle.units.proofs.Totals.{total_add, total_none}
use Rattle.sharing.specs.Rank.{Part, ranked, Rising}
use Rattle.sharing.specs.Round.{taking, goes_round}
use Rattle.sharing.proofs.Ranks.{rising_above, total_ranked, every_ranked, Pairwise, Differ}

-- a part takes no more than remains, and no more than it wants
pub taking_le : (want : Part → ℕ) (left : ℕ) (p : Part) → (taking want left p ≤ left) × (taking want left p ≤ want p)
taking_le want left p = go (leb p.minimum left)
  where
    go : (b : Bool) → (or_zero b (min (want p) left) ≤ left) × (or_zero b (min (want p) left) ≤ want p)
    go true = (omega arith, omega arith)
    go false = (omega arith, omega arith)

-- without a minimum it takes the smaller of the two
pub takes : (want : Part → ℕ) (left : ℕ) (p : Part) → p.minimum ≡ 0 → taking want left p ≡ min (want p) left
takes want left p z = rw (z, le-leb 0 left (omega arith))

-- what remains when all the parts have had their turn
abbrev pub remains : (Part → ℕ) → ℕ → List Part → ℕ
remains want left [] = left
remains want left (p ∷ ps) = remains want (left - taking want left p) ps

remains_le : (want : Part → ℕ) (left : ℕ) (ps : List Part) → remains want left ps ≤ left
remains_le want left [] = omega arith
remains_le want left (p ∷ ps) = omega (arith, remains_le want (left - taking want left p) ps)

-- what a part of a round took, at its turn: met is what it met then
pub record Turn (want : Part → ℕ) (p : Part) (end n : ℕ) : Type 0 where
  pub met : ℕ
  pub took : n ≡ taking want met p
  pub later : end ≤ met - taking want met p

none_once : (n x : ℕ) (ps : List Part) → Every (λ p. n < p.number) ps → total (λ p. or_zero (eqb n p.number) x) ps ≡ 0
none_once n x [] a = refl
none_once n x (p ∷ ps) a = let h = a.0 in rw (ne_eqb n p.number (λ e. omega arith), zero-add) (none_once n x ps a.1)

-- where numbers rise, a number that stands at one of them stands there once
pub once : (m : ℕ) (ps : List Part) → Rising m ps → (q : Part) → Memᴰ q ps → (x : ℕ) → total (λ p. or_zero (eqb q.number p.number) x) ps ≡ x
once m [] r q k x = elim k [ ]
once m (y ∷ ys) r q (Memᴰ.head e) x =
    subst⁻¹ (λ (z : Part). total (λ p. or_zero (eqb z.number p.number) x) (y ∷ ys) ≡ x) e
    (rw (eq-eqb y.number y.number refl, none_once y.number x ys (rising_above y.number ys r.1)) (add-zero x))
once m (y ∷ ys) r q (Memᴰ.tail k) x =
    let l = every_member (λ p. y.number < p.number) ys (rising_above y.number ys r.1) q k in
    rw (ne_eqb q.number y.number (λ e. omega arith), zero-add) (once y.number ys r.1 q k x)

module _ (want : Part → ℕ) where
  -- a number that no part has takes nothing
  pub absent : (n : ℕ) (qs : List Part) → Every (λ q. n ≡ q.number → ⊥) qs → (left : ℕ) → goes_round want left qs n ≡ 0
  unfolding goes_round
  absent n [] a left = refl
  absent n (q ∷ qs) a left = rw (ne_eqb q.number n (λ e. a.0 (sym e)), zero-add) (absent n qs a.1 (left - taking want left q))

  -- a part of the round takes what it may of what it meets, and what remains in the end is no more than it leaves
  pub turn : (p : Part) (qs : List Part) → Pairwise Differ qs → Memᴰ p qs → (left : ℕ) → Turn want p (remains want left qs) (goes_round want left qs p.number)
  unfolding goes_round
  turn p [] d k left = elim k [ ]
  turn p (q ∷ qs) d (Memᴰ.head e) left =
      subst⁻¹ (λ (x : Part). Turn want x (remains want left (q ∷ qs)) (goes_round want left (q ∷ qs) x.number)) e
      (record {
        met = left;
        took = rw (eq-eqb q.number q.number refl, absent q.number qs d.0 (left - taking want left q)) (add-zero (taking want left q));
        later = remains_le want (left - taking want left q) qs;
      })
  turn p (q ∷ qs) d (Memᴰ.tail k) left =
      let t = turn p qs d.1 k (left - taking want left q) in
      record {
        met = t.met;
        took = rw (ne_eqb q.number p.number (every_member (Differ q) qs d.0 p k), zero-add) t.took;
        later = t.later;
      }

  module _ (m : ℕ) (ps : List Part) (r : Rising m ps) where
    given : (qs : List Part) → Every (λ q. Memᴰ q ps) qs → (left : ℕ) → total (λ p. goes_round want left qs p.number) ps + remains want left qs ≡ left
    unfolding goes_round
    given [] a left = rw (total_none ps) (zero-add left)
    given (q ∷ qs) a left =
        let x = taking want left q in
        let i = given qs a.1 (left - x) in
        let s = total_add (λ p. or_zero (eqb q.number p.number) x) (λ p. goes_round want (left - x) qs p.number) ps in
        omega (arith, once m ps r q a.0 x, (taking_le want left q).0)

    -- what is given and what remains are together the shares left
    pub round_given : (before : Part → Part → Bool) (left : ℕ)
        → total (λ p. goes_round want left (ranked before ps) p.number) ps + remains want left (ranked before ps) ≡ left
    round_given before left = given (ranked before ps) (every_ranked before (λ q. Memᴰ q ps) ps (member_every (λ q. Memᴰ q ps) ps (λ q k. k))) left

    free : (qs : List Part) → Every (λ q. q.minimum ≡ 0) qs → (left : ℕ) → remains want left qs ≡ left - total want qs
    free [] z left = omega arith
    free (q ∷ qs) z left = rw (takes want left q z.0) (omega (arith, free qs z.1 (left - min (want q) left)))

    -- without minimums all that is wanted is given, as far as it goes
    pub round_total : Every (λ q. q.minimum ≡ 0) ps → (before : Part → Part → Bool) (left : ℕ)
        → total (λ p. goes_round want left (ranked before ps) p.number) ps ≡ min left (total want ps)
    round_total z before left =
        let a = round_given before left in
        let b = free (ranked before ps) (every_ranked before (λ q. q.minimum ≡ 0) ps z) left in
        omega (arith, total_ranked before want ps)
