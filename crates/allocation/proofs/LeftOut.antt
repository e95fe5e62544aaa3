-- Parts that get nothing may be left out of a group: those that have no size, and those whose minimum is above all the shares that come in.
use Prim.Native.Nat.{ℕ, ◌-◌, ◌≤◌, ◌<◌}
use mathlib.Core.Path.{◌≡◌, refl, sym}
use mathlib.Core.Bool.{true}
use mathlib.Core.List.{List, ◌∷◌, map, Memᴰ}
use native.Mathlib.Omega.{arith}
use native.Mathlib.Nat.{zero-add}
use borrow.Author.Tests.{eq-eqb, ne_eqb, lt-leb}
use Rattle.units.proofs.Members.{Every, every_member}
use Rattle.units.proofs.Totals.{map_same}
use Rattle.sharing.specs.declared.Method.{Method}
use Rattle.sharing.specs.declared.Method.TheVariants.{InTurn, Lots, Setter}
use Rattle.sharing.specs.Rank.{Part, part_size, before_of, ranked, Rising}
use Rattle.sharing.specs.Round.{taking, goes_round, round}
use Rattle.sharing.specs.Method.{allot_by, is_by_lots}
use Rattle.sharing.proofs.Ranks.{Pairwise, Differ, by_rank, mem_ranked, differ_ranked}
use Rattle.sharing.proofs.Turns.{taking_le, absent}
use Rattle.sharing.proofs.Thin.{Thin, ranked_thin, round_thin}
use Rattle.sharing.proofs.Zeros.{Nothing, SameShares}
use Rattle.sharing.proofs.Methods.{by_zeros}

-- a part that gets none of so many shares
pub data Idle (bound : ℕ) (p : Part) : Type 0 where
  nothing : Nothing p → Idle bound p
  unmet : bound < p.minimum → Idle bound p

-- it takes none of them at its turn
idle_takes : {bound : ℕ} (p : Part) → Idle bound p → (x : ℕ) → x ≤ bound → taking part_size x p ≡ 0
idle_takes p (Idle.nothing z) x h = let e = z.0 in omega (arith, (taking_le part_size x p).1)
idle_takes p (Idle.unmet l) x h = rw (lt-leb p.minimum x (omega arith))

-- and so none in a round
idle_round : {bound : ℕ} (p : Part) → Idle bound p → (qs : List Part) → Pairwise Differ qs → Memᴰ p qs → (left : ℕ) → left ≤ bound
    → goes_round part_size left qs p.number ≡ 0
unfolding goes_round
idle_round {bound = bound} p i mathlib.Core.List.[] d x3 left h = elim x3 [ ]
idle_round p i (q ∷ qs) d (Memᴰ.head e) left h =
    rw (e) (rw (eq-eqb q.number q.number refl, absent part_size q.number qs d.0 (left - taking part_size left q), idle_takes q (rw e at i) left h))
idle_round p i (q ∷ qs) d (Memᴰ.tail k) left h =
    rw (ne_eqb q.number p.number (every_member (Differ q) qs d.0 p k), zero-add)
    (idle_round p i qs d.1 k (left - taking part_size left q) (omega (arith, (taking_le part_size left q).0)))

-- What each gets, beside a group and beside the same without parts that get nothing.
pub record Alike (bound : ℕ) (ps qs : List Part) (ns ks : List ℕ) : Type 0 where
  pub share : Part → ℕ
  pub whole : ns ≡ map share ps
  pub kept : ks ≡ map share qs
  pub none : (p : Part) → Memᴰ p ps → Idle bound p → share p ≡ 0

-- where no part has a minimum those left out have no size
only_nothing : {bound : ℕ} {ps qs : List Part} → Every (λ p. p.minimum ≡ 0) ps → Thin (Idle bound) ps qs → Thin Nothing ps qs
only_nothing z Thin.none = Thin.none
only_nothing z (Thin.keep t) = Thin.keep (only_nothing z.1 t)
only_nothing z (Thin.drop (Idle.nothing n) t) = Thin.drop n (only_nothing z.1 t)
only_nothing z (Thin.drop (Idle.unmet l) t) = let e = z.0 in absurd (omega arith)

-- there, those that get nothing are the same
by_nothing : {bound : ℕ} {ps qs : List Part} {ns ks : List ℕ} → Every (λ p. p.minimum ≡ 0) ps → SameShares ps qs ns ks → Alike bound ps qs ns ks
by_nothing {bound} {ps} z s = record { share = s.share; whole = s.whole; kept = s.kept; none = λ p i d. s.zero p i (no_size p i d) }
  where
    no_size : (p : Part) → Memᴰ p ps → Idle bound p → p.size ≡ 0
    no_size p i (Idle.nothing n) = n.0
    no_size p i (Idle.unmet l) = let e = every_member (λ p. p.minimum ≡ 0) ps z p i in absurd (omega arith)

module _ {bound : ℕ} {ps qs : List Part} (t : Thin (Idle bound) ps qs) (m : ℕ) (r : Rising m ps) (lot left : ℕ) (h : left ≤ bound) where
  -- a group shares as it does with them
  pub left_out : (way : Method) → (is_by_lots way ≡ true → Every (λ p. p.minimum ≡ 0) ps)
      → Alike bound ps qs (allot_by way lot left ps) (allot_by way lot left qs)
  unfolding round
  left_out (InTurn rank) free =
      let before = before_of rank in
      record {
        share = λ p. goes_round part_size left (ranked before ps) p.number;
        whole = refl;
        kept = map_same qs (λ p i. sym (round_thin part_size bound (λ q z x l. idle_takes q z x l) left p.number h (ranked_thin before (by_rank rank) m t r)));
        none = λ p i z. idle_round p z (ranked before ps) (differ_ranked before m ps r) (mem_ranked before p ps i) left h;
      }
  left_out Lots free = by_nothing (free refl) (by_zeros m ps r (only_nothing (free refl) t) Lots lot left)
  left_out Setter free = by_nothing (free refl) (by_zeros m ps r (only_nothing (free refl) t) Setter lot left)
