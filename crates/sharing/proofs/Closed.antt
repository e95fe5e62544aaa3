-- Closed forms, with no sort: a part takes of what those with an earlier turn leave.
use Prim.Native.Nat.{ℕ, ◌+◌, ◌-◌, ◌≤◌, ◌<◌, min}
use mathlib.Core.Path.{◌≡◌, refl, sym, ap, ◌∙◌, subst⁻¹}
use mathlib.Core.Bool.{Bool, true, false, cond, not, ◌&&◌, ◌||◌, true≢false}
use mathlib.Core.List.{List, [], ◌∷◌, map, Memᴰ}
use native.Mathlib.Omega.{arith}
use native.Mathlib.Nat.{zero-add, add-zero, sub-zero}
use lib.Dec.{leb, ltb}
use borrow.Author.Tests.{ltb-false, lt-ltb, le-ltb, eq-eqb, ne_eqb, lt-leb, leb-false}
use Rattle.units.specs.Lists.{any, or_zero, total, zip_with}
use Rattle.units.proofs.Tests.{or_true, and_false}
use Rattle.units.proofs.Members.{Every, every_member, member_every}
use Rattle.units.proofs.Totals.{map_same, zip_map}
use Rattle.sharing.specs.Rank.{Part, part_size, larger, smaller_minimum, ranked, Rising}
use Rattle.sharing.specs.Round.{taking, goes_round, round}
use Rattle.sharing.specs.Lots.{first_step, second_step, lot_sharing}
use Rattle.sharing.specs.Setter.{guarantee, is_setter, of_setter, others, beside_setter, setter_sharing}
use Rattle.sharing.proofs.Ranks.{Weak, by_size, by_minimum, Pairwise, Differ, total_ranked, every_ranked, mem_ranked, pairwise_ranked, differ_ranked}
use Rattle.sharing.proofs.Turns.{takes, absent}
use Rattle.sharing.proofs.SetterAndOthers.{others_rising, others_free}

-- a part whose minimum is above what it meets takes nothing
passed_over : (want : Part → ℕ) (left : ℕ) (p : Part) → left < p.minimum → taking want left p ≡ 0
passed_over want left p h = rw (lt-leb p.minimum left h)

module _ (before : Part → Part → Bool) where
  -- a has its turn before b
  abbrev pub sooner : Part → Part → Bool
  sooner a b = before a b || (not (before b a) && ltb a.number b.number)

  -- what those with an earlier turn may take
  abbrev pub ahead : (Part → ℕ) → Part → List Part → ℕ
  ahead want p ps = total (λ q. or_zero (sooner q p) (want q)) ps

  abbrev Behind : Part → Part → Type 0
  Behind q r = (sooner q r ≡ true) × (sooner r q ≡ false) × (before r q ≡ false)

  module _ (w : Weak before) where
    behind_key : (p q : Part) → before q p ≡ true → Behind q p
    behind_key p q e = (rw e, rw (w.apart q p e, e), w.apart q p e)

    behind_time : (p q : Part) → p.number < q.number → before q p ≡ false → Behind p q
    behind_time p q l e = (
      rw (e, lt-ltb p.number q.number l) (or_true (before p q) refl),
      rw (e, le-ltb q.number p.number (omega arith)) (and_false (not (before p q)) refl),
      e,
    )

    behind_ranked : (m : ℕ) (ps : List Part) → Rising m ps → Pairwise Behind (ranked before ps)
    behind_ranked =
        pairwise_ranked before Behind (λ p q l e. behind_key p q e) behind_time (λ p q r l e b. behind_time p r l (w.chain p q r e b.2))

    itself : (p : Part) → sooner p p ≡ false
    itself p = go (before p p) refl
      where
        go : (b : Bool) → before p p ≡ b → b || (not b && ltb p.number p.number) ≡ false
        go true e = absurd (true≢false (sym e ∙ w.apart p p e))
        go false e = le-ltb p.number p.number (omega arith)

    module _ (want : Part → ℕ) (P : Part → Type 0) (low : (q r : Part) → P q → P r → before r q ≡ false → q.minimum ≤ r.minimum) where
      none_ahead : (p : Part) (qs : List Part) → Every (Behind p) qs → ahead want p qs ≡ 0
      none_ahead p [] a = refl
      none_ahead p (q ∷ qs) a = rw (a.0.1, zero-add) (none_ahead p qs a.1)

      step : (p q : Part) (left a : ℕ) → q.minimum ≤ p.minimum → taking want (left - taking want left q - a) p ≡ taking want (left - (want q + a)) p
      step p q left a h = go (leb q.minimum left) refl
        where
          go : (b : Bool) → leb q.minimum left ≡ b → taking want (left - or_zero b (min (want q) left) - a) p ≡ taking want (left - (want q + a)) p
          go true e = let n : left - min (want q) left - a ≡ left - (want q + a) = omega arith in ap (λ (n : ℕ). taking want n p) n
          go false e =
              let k = leb-false q.minimum left e in
              passed_over want (left - 0 - a) p (omega arith) ∙ sym (passed_over want (left - (want q + a)) p (omega arith))

      takes_in : (p : Part) (qs : List Part) → Pairwise Behind qs → Pairwise Differ qs → Every P qs → Memᴰ p qs → (left : ℕ)
          → goes_round want left qs p.number ≡ taking want (left - ahead want p qs) p
      unfolding goes_round
      takes_in p [] s d z k left = elim k [ ]
      takes_in p (q ∷ qs) s d z (Memᴰ.head e) left =
          subst⁻¹ (λ (x : Part). goes_round want left (q ∷ qs) x.number ≡ taking want (left - ahead want x (q ∷ qs)) x) e
          (rw (eq-eqb q.number q.number refl, absent want q.number qs d.0 (left - taking want left q), itself q, none_ahead q qs s.0, sub-zero)
          (add-zero (taking want left q)))
      takes_in p (q ∷ qs) s d z (Memᴰ.tail k) left =
          let b = every_member (Behind q) qs s.0 p k in
          rw (ne_eqb q.number p.number (every_member (Differ q) qs d.0 p k), zero-add, b.0)
          (takes_in p qs s.1 d.1 z.1 k (left - taking want left q)
          ∙ step p q left (ahead want p qs) (low q p z.0 (every_member P qs z.1 p k) b.2))

      at_turn : (m : ℕ) (ps : List Part) → Rising m ps → Every P ps → (p : Part) → Memᴰ p ps → (left : ℕ)
          → goes_round want left (ranked before ps) p.number ≡ taking want (left - ahead want p ps) p
      at_turn m ps r z p i left =
          takes_in p (ranked before ps) (behind_ranked m ps r) (differ_ranked before m ps r) (every_ranked before P ps z) (mem_ranked before p ps i) left
          ∙ ap (λ n. taking want (left - n) p) (total_ranked before (λ q. or_zero (sooner q p) (want q)) ps)

    -- without minimums a part gets the smaller of what it wants and what those before it leave
    pub closed : (want : Part → ℕ) (m : ℕ) (ps : List Part) → Rising m ps → Every (λ q. q.minimum ≡ 0) ps → (p : Part) → Memᴰ p ps → (left : ℕ)
        → goes_round want left (ranked before ps) p.number ≡ min (want p) (left - ahead want p ps)
    closed want m ps r z p i left =
        at_turn want (λ q. q.minimum ≡ 0) (λ q r e f h. omega arith) m ps r z p i left
        ∙ takes want (left - ahead want p ps) p (every_member (λ q. q.minimum ≡ 0) ps z p i)

-- where smaller minimums go first, a part takes of what those before it leave, passed over or not: to pass one over is to stop
pub closed_by_minimum : (want : Part → ℕ) (m : ℕ) (ps : List Part) → Rising m ps → (p : Part) → Memᴰ p ps → (left : ℕ)
    → goes_round want left (ranked smaller_minimum ps) p.number ≡ taking want (left - ahead smaller_minimum want p ps) p
closed_by_minimum want m ps r p i left =
    at_turn smaller_minimum by_minimum want (λ q. Unit {0}) (λ q r e f h. ltb-false r.minimum q.minimum h) m ps r
    (member_every (λ q. Unit {0}) ps (λ q j. tt)) p i left

-- the list of a round without minimums
pub round_closed : (before : Part → Part → Bool) → Weak before → (want : Part → ℕ) (m : ℕ) (ps : List Part) → Rising m ps
    → Every (λ q. q.minimum ≡ 0) ps → (left : ℕ) → round before want left ps ≡ map (λ p. min (want p) (left - ahead before want p ps)) ps
unfolding round
round_closed before w want m ps r z left = map_same ps (λ p i. closed before w want m ps r z p i left)

-- the list of a round by minimum, with any minimums
pub minimum_closed : (want : Part → ℕ) (m : ℕ) (ps : List Part) → Rising m ps → (left : ℕ)
    → round smaller_minimum want left ps ≡ map (λ p. taking want (left - ahead smaller_minimum want p ps) p) ps
unfolding round
minimum_closed want m ps r left = map_same ps (λ p i. closed_by_minimum want m ps r p i left)

-- lot sharing, the second step with no sort
abbrev pub closed_lots : ℕ → ℕ → List Part → List ℕ
closed_lots lot q ps =
    let s = total part_size ps in
    let rest = q - total (first_step lot q s) ps in
    map (λ p. first_step lot q s p + min (second_step lot q s p) (rest - ahead larger (second_step lot q s) p ps)) ps

-- lot sharing is its closed form
pub lots_closed : (lot q m : ℕ) (ps : List Part) → Rising m ps → Every (λ q. q.minimum ≡ 0) ps → lot_sharing lot q ps ≡ closed_lots lot q ps
unfolding lot_sharing
lots_closed lot q m ps r z =
    let s = total part_size ps in
    rw (round_closed larger by_size (second_step lot q s) m ps r z (q - total (first_step lot q s) ps)) (zip_map _ _ _ ps)

-- beside the setter's guarantee, with lot sharing so put
abbrev pub closed_beside : ℕ → ℕ → List Part → List ℕ
closed_beside lot q ps =
    let rest = q - of_setter ps (map (guarantee q) ps) in
    zip_with (λ p n. cond p.setter (guarantee q p) n) ps (closed_lots lot rest (others ps))

-- the setter's variation, with lot sharing so put
abbrev pub closed_setter : ℕ → ℕ → List Part → List ℕ
closed_setter lot q ps =
    let plain = closed_lots lot q ps in
    cond (any is_setter ps && leb (of_setter ps plain) (of_setter ps (map (guarantee q) ps))) (closed_beside lot q ps) plain

module _ (lot q m : ℕ) (ps : List Part) (r : Rising m ps) (z : Every (λ q. q.minimum ≡ 0) ps) where
  -- sharing beside the setter is its closed form
  pub beside_closed : beside_setter lot q ps ≡ closed_beside lot q ps
  unfolding beside_setter
  beside_closed =
      ap (zip_with (λ p n. cond p.setter (guarantee q p) n) ps)
      (lots_closed lot (q - of_setter ps (map (guarantee q) ps)) m (others ps) (others_rising m ps r) (others_free ps z))

  -- the setter's variation is its closed form
  pub setter_closed : setter_sharing lot q ps ≡ closed_setter lot q ps
  unfolding setter_sharing
  setter_closed = go (lot_sharing lot q ps) (closed_lots lot q ps) (lots_closed lot q m ps r z)
    where
      go : (a b : List ℕ) → a ≡ b
          → cond (any is_setter ps && leb (of_setter ps a) (of_setter ps (map (guarantee q) ps))) (beside_setter lot q ps) a
          ≡ cond (any is_setter ps && leb (of_setter ps b) (of_setter ps (map (guarantee q) ps))) (closed_beside lot q ps) b
      go a b e = rw (e, beside_closed)
