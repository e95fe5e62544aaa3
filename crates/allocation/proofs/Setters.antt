-- The first setter among parts, and where at most one is a setter, the only one.
use Prim.Native.Nat.{ℕ, zero, suc, ◌+◌, ◌≤◌, ◌<◌}
use mathlib.Core.Path.{◌≡◌, refl}
use mathlib.Core.Bool.{Bool, true, false}
use mathlib.Core.List.{List, [], ◌∷◌, map, Memᴰ}
use native.Mathlib.Omega.{arith}
use native.Mathlib.Numerals.{add-one}
use lib.ListN.{length, get_or}
use Rattle.units.proofs.Members.{Every}
use Rattle.sharing.specs.Rank.{Part, Rising}
use Rattle.sharing.specs.Setter.{OneSetter}
use Rattle.sharing.proofs.Ranks.{rising_above}
use Rattle.dividing.specs.Group.{SetterAt}
use Rattle.allocation.specs.Sharing.{FirstSetter}

-- none of the first k parts is a setter, and there are as many
abbrev pub NoneBefore : List Part → ℕ → Type 0
NoneBefore ps zero = Unit {0}
NoneBefore [] (suc k) = ⊥
NoneBefore (p ∷ ps) (suc k) = (p.setter ≡ false) × NoneBefore ps k

module _ (f : ℕ → Part) where
  -- nor is the next
  next_none : (keys : List ℕ) (k : ℕ) → NoneBefore (map f keys) k → k < length keys → (f (get_or keys k 0)).setter ≡ false → NoneBefore (map f keys) (suc k)
  next_none [] k n h e = absurd (omega arith)
  next_none (x ∷ keys) zero n h e = (e, tt)
  next_none (x ∷ keys) (suc k) n h e = (n.0, next_none keys k n.1 (omega arith) e)

  pub none_more : (keys : List ℕ) (k : ℕ) → NoneBefore (map f keys) k → k < length keys → (f (get_or keys k 0)).setter ≡ false → NoneBefore (map f keys) (k + 1)
  none_more keys k n h e = rw add-one (next_none keys k n h e)

  -- the next is one
  pub first_found : (keys : List ℕ) (k : ℕ) → NoneBefore (map f keys) k → k < length keys → (f (get_or keys k 0)).setter ≡ true → FirstSetter (map f keys) k
  first_found [] k n h e = absurd (omega arith)
  first_found (x ∷ keys) zero n h e = e
  first_found (x ∷ keys) (suc k) n h e = (n.0, first_found keys k n.1 (omega arith) e)

  -- no part is one
  pub first_none : (keys : List ℕ) (k : ℕ) → NoneBefore (map f keys) k → length keys ≤ k → FirstSetter (map f keys) k
  first_none [] zero n h = refl
  first_none [] (suc k) n h = absurd n
  first_none (x ∷ keys) zero n h = absurd (omega arith)
  first_none (x ∷ keys) (suc k) n h = (n.0, first_none keys k n.1 (omega arith))

-- none of the parts is a setter
none_at : (ps : List Part) → Every (λ p. p.setter ≡ false) ps → SetterAt (length ps) ps
none_at [] a = tt
none_at (p ∷ ps) a = (a.0, none_at ps a.1)

-- where at most one part is a setter, the first is the only one
pub first_only : (m : ℕ) (ps : List Part) → Rising m ps → OneSetter ps → (k : ℕ) → FirstSetter ps k → SetterAt k ps
first_only m [] r one k f = tt
first_only m (p ∷ ps) r one zero f = (f, none_at ps (go ps (λ q i. i) (rising_above p.number ps r.1)))
  where
    go : (qs : List Part) → ((q : Part) → Memᴰ q qs → Memᴰ q ps) → Every (λ q. p.number < q.number) qs → Every (λ q. q.setter ≡ false) qs
    go [] m a = tt
    go (q ∷ qs) m a = (mark q.setter refl, go qs (λ x i. m x (Memᴰ.tail i)) a.1)
      where
        mark : (b : Bool) → q.setter ≡ b → q.setter ≡ false
        mark true e =
            let n = one p q (Memᴰ.head refl) (Memᴰ.tail (m q (Memᴰ.head refl))) f e in
            let l = a.0 in
            absurd (omega arith)
        mark false e = e
first_only m (p ∷ ps) r one (suc k) f =
    (f.0, first_only p.number ps r.1 (λ x y i j. one x y (Memᴰ.tail i) (Memᴰ.tail j)) k f.1)
