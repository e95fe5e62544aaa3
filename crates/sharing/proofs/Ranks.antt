-- Numbers that rise along a group, what a rank must satisfy, and what putting the parts in rank keeps.
use Prim.Native.Nat.{ℕ, ◌+◌, ◌<◌}
use mathlib.Core.Path.{◌≡◌, refl, sym, ap, ◌∙◌}
use mathlib.Core.Bool.{Bool, true, false, cond}
use mathlib.Core.List.{List, [], ◌∷◌, map, Memᴰ}
use native.Mathlib.Omega.{arith}
use borrow.Author.Tests.{ltb-true, ltb-false, le-ltb}
use Rattle.units.specs.Lists.{total}
use Rattle.units.proofs.Members.{Every, every_member, every_weaken, every_both}
use Rattle.sharing.specs.declared.Rank.{Rank}
use Rattle.sharing.specs.declared.Rank.TheVariants.{Time, Size, Minimum}
use Rattle.sharing.specs.Rank.{Part, Rising, by_time, larger, smaller_minimum, before_of, place, ranked}

-- a map that keeps the numbers keeps them rising
pub rising_map : (f : Part → Part) → ((p : Part) → (f p).number ≡ p.number) → (m : ℕ) (ps : List Part) → Rising m ps → Rising m (map f ps)
rising_map f h m [] r = tt
rising_map f h m (p ∷ ps) r = rw (h p) (r.0, rising_map f h p.number ps r.1)

-- all the numbers are above m
pub rising_above : (m : ℕ) (ps : List Part) → Rising m ps → Every (λ q. m < q.number) ps
rising_above m [] r = tt
rising_above m (p ∷ ps) r =
    let h = r.0 in
    (h, every_weaken {P = λ q. p.number < q.number} {Q = λ q. m < q.number} (λ q l. omega arith) ps (rising_above p.number ps r.1))

-- what a rank must satisfy: no two parts each before the other, and not being before passes on
pub record Weak (before : Part → Part → Bool) : Type 0 where
  pub apart : (a b : Part) → before a b ≡ true → before b a ≡ false
  pub chain : (a b c : Part) → before b a ≡ false → before c b ≡ false → before c a ≡ false

-- the three ranks are such
pub by_time_lem : Weak by_time
by_time_lem = record { apart = λ a b e. refl; chain = λ a b c e f. refl }

pub by_size : Weak larger
by_size = record {
  apart = λ a b e. le-ltb a.size b.size (omega (arith, ltb-true b.size a.size e));
  chain = λ a b c e f. le-ltb a.size c.size (omega (arith, ltb-false a.size b.size e, ltb-false b.size c.size f));
}

pub by_minimum : Weak smaller_minimum
by_minimum = record {
  apart = λ a b e. le-ltb b.minimum a.minimum (omega (arith, ltb-true a.minimum b.minimum e));
  chain = λ a b c e f. le-ltb c.minimum a.minimum (omega (arith, ltb-false b.minimum a.minimum e, ltb-false c.minimum b.minimum f));
}

pub by_rank : (rank : Rank) → Weak (before_of rank)
by_rank Time = by_time_lem
by_rank Size = by_size
by_rank Minimum = by_minimum

-- each part in R to all that follow it
abbrev pub Pairwise : (Part → Part → Type 0) → List Part → Type 0
Pairwise R [] = Unit {0}
Pairwise R (q ∷ qs) = Every (R q) qs × Pairwise R qs

module _ (before : Part → Part → Bool) where
  total_place : (f : Part → ℕ) (p : Part) (qs : List Part) → total f (place before p qs) ≡ f p + total f qs
  total_place f p [] = refl
  total_place f p (q ∷ qs) = go (before q p) (total_place f p qs)
    where
      go : (b : Bool) → total f (place before p qs) ≡ f p + total f qs → total f (cond b (q ∷ place before p qs) (p ∷ q ∷ qs)) ≡ f p + (f q + total f qs)
      go true e = omega arith
      go false e = refl

  -- ranking keeps totals
  pub total_ranked : (f : Part → ℕ) (ps : List Part) → total f (ranked before ps) ≡ total f ps
  total_ranked f [] = refl
  total_ranked f (p ∷ ps) = omega (arith, total_place f p (ranked before ps), total_ranked f ps)

  every_place : (P : Part → Type 0) (p : Part) (qs : List Part) → P p → Every P qs → Every P (place before p qs)
  every_place P p [] h a = (h, tt)
  every_place P p (q ∷ qs) h a = go (before q p) (every_place P p qs h a.1)
    where
      go : (b : Bool) → Every P (place before p qs) → Every P (cond b (q ∷ place before p qs) (p ∷ q ∷ qs))
      go true r = (a.0, r)
      go false r = (h, a)

  -- ranking keeps what holds of every part
  pub every_ranked : (P : Part → Type 0) (ps : List Part) → Every P ps → Every P (ranked before ps)
  every_ranked P [] a = tt
  every_ranked P (p ∷ ps) a = every_place P p (ranked before ps) a.0 (every_ranked P ps a.1)

  mem_place : (x p : Part) (qs : List Part) → Memᴰ x (p ∷ qs) → Memᴰ x (place before p qs)
  mem_place x p [] m = m
  mem_place x p (q ∷ qs) m = go (before q p) (mem_place x p qs) m
    where
      go : (b : Bool) → (Memᴰ x (p ∷ qs) → Memᴰ x (place before p qs)) → Memᴰ x (p ∷ q ∷ qs)
          → Memᴰ x (cond b (q ∷ place before p qs) (p ∷ q ∷ qs))
      go true i (Memᴰ.head e) = Memᴰ.tail (i (Memᴰ.head e))
      go true i (Memᴰ.tail (Memᴰ.head e)) = Memᴰ.head e
      go true i (Memᴰ.tail (Memᴰ.tail k)) = Memᴰ.tail (i (Memᴰ.tail k))
      go false i k = k

  -- ranking keeps the members
  pub mem_ranked : (x : Part) (ps : List Part) → Memᴰ x ps → Memᴰ x (ranked before ps)
  mem_ranked x [] m = elim m [ ]
  mem_ranked x (p ∷ ps) (Memᴰ.head e) = mem_place x p (ranked before ps) (Memᴰ.head e)
  mem_ranked x (p ∷ ps) (Memᴰ.tail m) = mem_place x p (ranked before ps) (Memᴰ.tail (mem_ranked x ps m))

  module _ (R : Part → Part → Type 0)
      (first : (p q : Part) → p.number < q.number → before q p ≡ true → R q p)
      (then : (p q : Part) → p.number < q.number → before q p ≡ false → R p q)
      (after : (p q r : Part) → p.number < r.number → before q p ≡ false → R q r → R p r) where
    pairwise_place : (p : Part) (qs : List Part) → Every (λ q. p.number < q.number) qs → Pairwise R qs → Pairwise R (place before p qs)
    pairwise_place p [] l s = (tt, tt)
    pairwise_place p (q ∷ qs) l s = go (before q p) refl (pairwise_place p qs l.1 s.1)
      where
        go : (b : Bool) → before q p ≡ b → Pairwise R (place before p qs) → Pairwise R (cond b (q ∷ place before p qs) (p ∷ q ∷ qs))
        go true e t = (every_place (R q) p qs (first p q l.0 e) s.0, t)
        go false e t = ((then p q l.0 e, every_both (λ r m k. after p q r m e k) qs l.1 s.0), s)

    -- parts in rank stand in R, where the rank, and else the rising number, put them there
    pub pairwise_ranked : (m : ℕ) (ps : List Part) → Rising m ps → Pairwise R (ranked before ps)
    pairwise_ranked m [] r = tt
    pairwise_ranked m (p ∷ ps) r =
        pairwise_place p (ranked before ps) (every_ranked (λ q. p.number < q.number) ps (rising_above p.number ps r.1))
        (pairwise_ranked p.number ps r.1)

-- two different orders
abbrev pub Differ : Part → Part → Type 0
Differ p q = p.number ≡ q.number → ⊥

-- the numbers of parts in rank differ
pub differ_ranked : (before : Part → Part → Bool) (m : ℕ) (ps : List Part) → Rising m ps → Pairwise Differ (ranked before ps)
differ_ranked before = pairwise_ranked before Differ (λ p q l e f. omega arith) (λ p q l e f. omega arith) (λ p q r l e h f. omega arith)

-- where numbers rise, a number has one part
pub same_number : (m : ℕ) (ps : List Part) → Rising m ps → (p q : Part) → Memᴰ p ps → Memᴰ q ps → p.number ≡ q.number → p ≡ q
same_number m [] r p q i _ h = elim i [ ]
same_number m (x ∷ xs) r p q (Memᴰ.head e) (Memᴰ.head f) h = e ∙ sym f
same_number m (x ∷ xs) r p q (Memᴰ.head e) (Memᴰ.tail j) h =
    let l = every_member (λ y. x.number < y.number) xs (rising_above x.number xs r.1) q j in
    let n : p.number ≡ x.number = ap (λ (y : Part). y.number) e in
    absurd (omega arith)
same_number m (x ∷ xs) r p q (Memᴰ.tail i) (Memᴰ.head f) h =
    let l = every_member (λ y. x.number < y.number) xs (rising_above x.number xs r.1) p i in
    let n : q.number ≡ x.number = ap (λ (y : Part). y.number) f in
    absurd (omega arith)
same_number m (x ∷ xs) r p q (Memᴰ.tail i) (Memᴰ.tail j) h = same_number x.number xs r.1 p q i j h
