-- The price levels: strictly best first, the price of every tradable order is among them, and no other is.
use Prim.Native.Nat.{ℕ}
use mathlib.Core.Path.{◌≡◌, refl, sym, ap, ◌∙◌}
use mathlib.Core.Bool.{Bool, true, false, cond, true≢false}
use mathlib.Core.List.{List, [], ◌∷◌, foldr, Memᴰ}
use native.Mathlib.Omega.{arith}
use lib.Dec.{eqb}
use borrow.Author.Tests.{ltb-true, ltb-false, lt-ltb, le-ltb, eqb-true, eqb-false}
use Rattle.units.specs.Lists.{filter}
use Rattle.units.proofs.Members.{Every, member_every, every_weaken, filter_member, member_filter}
use Rattle.orders.specs.declared.order.Side.{Side}
use Rattle.orders.specs.declared.order.Side.TheVariants.{Buy, Sell}
use Rattle.orders.specs.declared.order.Order.{Order}
use Rattle.orders.specs.declared.order.Taker.{Taker}
use Rattle.orders.specs.Order.{price_of}
use Rattle.orders.specs.Trading.{is_better, is_tradable}
use Rattle.matching.specs.Levels.{insert_price, price_levels}

-- a price better than a better one is better
pub better_transitive : (side : Side) (p q r : ℕ) → is_better side p q ≡ true → is_better side q r ≡ true → is_better side p r ≡ true
better_transitive Buy p q r h k = lt-ltb p r (omega (arith, ltb-true p q h, ltb-true q r k))
better_transitive Sell p q r h k = lt-ltb r p (omega (arith, ltb-true q p h, ltb-true r q k))

-- no price is better than itself
pub better_irreflexive : (side : Side) (p : ℕ) → is_better side p p ≡ false
better_irreflexive Buy p = le-ltb p p (omega arith)
better_irreflexive Sell p = le-ltb p p (omega arith)

-- a better price is another one
pub better_apart : (side : Side) (p q : ℕ) → is_better side p q ≡ true → ¬ (p ≡ q)
better_apart side p q b e = true≢false (sym b ∙ (ap (λ x. is_better side x q) e ∙ better_irreflexive side q))

-- of two prices only one is better
pub better_asymmetric : (side : Side) (p q : ℕ) → is_better side p q ≡ true → is_better side q p ≡ false
better_asymmetric Buy p q h = le-ltb q p (omega (arith, ltb-true p q h))
better_asymmetric Sell p q h = le-ltb p q (omega (arith, ltb-true q p h))

better_total : (side : Side) (p q : ℕ) → is_better side p q ≡ false → (p ≡ q → ⊥) → is_better side q p ≡ true
better_total Buy p q h n = lt-ltb q p (omega (arith, ltb-false p q h))
better_total Sell p q h n = lt-ltb p q (omega (arith, ltb-false q p h))

-- each price is better than all that follow it
abbrev pub Sorted : Side → List ℕ → Type 0
Sorted side [] = Unit {0}
Sorted side (p ∷ ps) = Every (λ q. is_better side p q ≡ true) ps × Sorted side ps

module _ (side : Side) (p : ℕ) where
  every_insert : (P : ℕ → Type 0) (qs : List ℕ) → P p → Every P qs → Every P (insert_price side p qs)
  every_insert P [] h a = (h, tt)
  every_insert P (q ∷ qs) h a = go (is_better side p q) (eqb p q) (every_insert P qs h a.1)
    where
      go : (b c : Bool) → Every P (insert_price side p qs) → Every P (cond b (p ∷ q ∷ qs) (cond c (q ∷ qs) (q ∷ insert_price side p qs)))
      go true c i = (h, a)
      go false true i = a
      go false false i = (a.0, i)

  insert_sorted : (qs : List ℕ) → Sorted side qs → Sorted side (insert_price side p qs)
  insert_sorted [] s = (tt, tt)
  insert_sorted (q ∷ qs) s = go (is_better side p q) refl (eqb p q) refl (insert_sorted qs s.1)
    where
      go : (b : Bool) → is_better side p q ≡ b → (c : Bool) → eqb p q ≡ c → Sorted side (insert_price side p qs)
          → Sorted side (cond b (p ∷ q ∷ qs) (cond c (q ∷ qs) (q ∷ insert_price side p qs)))
      go true e c f i = ((e, every_weaken (λ x h. better_transitive side p q x e h) qs s.0), s)
      go false e true f i = s
      go false e false f i = (every_insert (λ x. is_better side q x ≡ true) qs (better_total side p q e (eqb-false p q f)) s.0, i)

  insert_have : (x : ℕ) (qs : List ℕ) → Memᴰ x (p ∷ qs) → Memᴰ x (insert_price side p qs)
  insert_have x [] m = m
  insert_have x (q ∷ qs) m = go (is_better side p q) (eqb p q) refl (insert_have x qs) m
    where
      go : (b c : Bool) → eqb p q ≡ c → (Memᴰ x (p ∷ qs) → Memᴰ x (insert_price side p qs)) → Memᴰ x (p ∷ q ∷ qs)
          → Memᴰ x (cond b (p ∷ q ∷ qs) (cond c (q ∷ qs) (q ∷ insert_price side p qs)))
      go true c e i k = k
      go false true e i (Memᴰ.head k) = Memᴰ.head (k ∙ eqb-true p q e)
      go false true e i (Memᴰ.tail k) = k
      go false false e i (Memᴰ.head k) = Memᴰ.tail (i (Memᴰ.head k))
      go false false e i (Memᴰ.tail (Memᴰ.head k)) = Memᴰ.head k
      go false false e i (Memᴰ.tail (Memᴰ.tail k)) = Memᴰ.tail (i (Memᴰ.tail k))

module _ (t : Taker) (os : List Order) where
  -- the levels are strictly best first
  pub levels_sorted : Sorted t.side (price_levels t os)
  unfolding price_levels
  levels_sorted = go (filter (is_tradable t) os)
    where
      go : (xs : List Order) → Sorted t.side (foldr (λ o ps. insert_price t.side (price_of o) ps) [] xs)
      go [] = tt
      go (x ∷ xs) = insert_sorted t.side (price_of x) (foldr (λ o ps. insert_price t.side (price_of o) ps) [] xs) (go xs)

  -- an order that may trade has its price among them
  pub levels_have : (o : Order) → Memᴰ o os → is_tradable t o ≡ true → Memᴰ (price_of o) (price_levels t os)
  unfolding price_levels
  levels_have o m e = go (filter (is_tradable t) os) (member_filter (is_tradable t) os o m e)
    where
      go : (xs : List Order) → Memᴰ o xs → Memᴰ (price_of o) (foldr (λ o ps. insert_price t.side (price_of o) ps) [] xs)
      go [] x' = elim x' [ ]
      go (x ∷ xs) (Memᴰ.head k) =
          insert_have t.side (price_of x) (price_of o) (foldr (λ o ps. insert_price t.side (price_of o) ps) [] xs) (Memᴰ.head (ap price_of k))
      go (x ∷ xs) (Memᴰ.tail k) =
          insert_have t.side (price_of x) (price_of o) (foldr (λ o ps. insert_price t.side (price_of o) ps) [] xs) (Memᴰ.tail (go xs k))

  -- every level is the price of an order that may trade: what holds of those holds of the levels
  pub levels_only : (P : ℕ → Type 0) → ((o : Order) → Memᴰ o os → is_tradable t o ≡ true → P (price_of o)) → Every P (price_levels t os)
  unfolding price_levels
  levels_only P h =
      go (filter (is_tradable t) os) (member_every (λ o. P (price_of o)) (filter (is_tradable t) os)
      (λ o m. let k = filter_member (is_tradable t) os o m in h o k.0 k.1))
    where
      go : (xs : List Order) → Every (λ o. P (price_of o)) xs → Every P (foldr (λ o ps. insert_price t.side (price_of o) ps) [] xs)
      go [] k = tt
      go (x ∷ xs) k = every_insert t.side (price_of x) P (foldr (λ o ps. insert_price t.side (price_of o) ps) [] xs) k.0 (go xs k.1)
