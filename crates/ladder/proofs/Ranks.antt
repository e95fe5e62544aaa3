-- Rows by the rank of their level: the ladder's order is that of the ranks, and a level has a rank of its own.
use Prim.Native.Nat.{ℕ, ◌≤◌, ◌<◌}
use mathlib.Core.Path.{◌≡◌, refl, ap}
use mathlib.Core.Bool.{true, false, ◌&&◌}
use mathlib.Core.List.{List, ◌∷◌}
use native.Mathlib.Omega.{arith}
use lib.Dec.{eqb}
use borrow.Author.Tests.{lt-ltb, le-ltb, eq-eqb, ne_eqb}
use Rattle.orders.specs.declared.order.Side.{Side}
use Rattle.orders.specs.declared.order.Side.TheVariants.{Buy, Sell}
use Rattle.orders.specs.Order.{side_number}
use Rattle.units.specs.declared.Price.{Price}
use Rattle.ladder.specs.declared.row.Row.{Row}
use Rattle.ladder.specs.Rows.{same_level, comes_first, precedes, joined, insert_row}
use Rattle.ladder.specs.Key.{rank_of}

-- a row at a price that an order may have
abbrev pub Priced : Row → Type 0
Priced r = r.price.0 ≤ 2000000000

-- the rank of its level
abbrev pub rank : Row → ℕ
rank r = rank_of r.side r.price.0

-- one level, and one rank
side_price : (a b : Side) (p q : ℕ) → p ≤ 2000000000 → q ≤ 2000000000 → rank_of a p ≡ rank_of b q → (a ≡ b) × (p ≡ q)
side_price Buy Buy p q h k e = (refl, omega arith)
side_price Buy Sell p q h k e = absurd (omega arith)
side_price Sell Buy p q h k e = absurd (omega arith)
side_price Sell Sell p q h k e = (refl, e)

first_below : (a b : Side) (p q : ℕ) → p ≤ 2000000000 → q ≤ 2000000000 → rank_of a p < rank_of b q → comes_first a p b q ≡ true
first_below Buy Buy p q h k e = lt-ltb q p (omega arith)
first_below Buy Sell p q h k e = absurd (omega arith)
first_below Sell Buy p q h k e = refl
first_below Sell Sell p q h k e = lt-ltb p q e

not_first : (a b : Side) (p q : ℕ) → p ≤ 2000000000 → q ≤ 2000000000 → rank_of b q ≤ rank_of a p → comes_first a p b q ≡ false
not_first Buy Buy p q h k e = le-ltb q p (omega arith)
not_first Buy Sell p q h k e = refl
not_first Sell Buy p q h k e = absurd (omega arith)
not_first Sell Sell p q h k e = le-ltb p q e

-- Two rows at prices that orders may have.
module _ (a b : Row) (h : Priced a) (k : Priced b) where
  -- of one rank they are of one side and price
  pub level_same : rank a ≡ rank b → (a.side ≡ b.side) × (a.price ≡ b.price)
  level_same e =
      let x = side_price a.side b.side a.price.0 b.price.0 h k e in
      (x.0, ap (λ (n : ℕ). record { 0 = n }) x.1)

  pub rank_level : rank a ≡ rank b → same_level a b ≡ true
  rank_level e =
      let x = level_same e in
      rw (eq-eqb (side_number a.side) (side_number b.side) (ap side_number x.0)) (eq-eqb a.price.0 b.price.0 (ap (λ (p : Price). p.0) x.1))

  pub rank_apart : (rank a ≡ rank b → ⊥) → same_level a b ≡ false
  rank_apart n = go a.side b.side n
    where
      go : (s t : Side) → (rank_of s a.price.0 ≡ rank_of t b.price.0 → ⊥) → (eqb (side_number s) (side_number t) && eqb a.price.0 b.price.0) ≡ false
      go Buy Buy n = ne_eqb a.price.0 b.price.0 (λ e. n (ap (rank_of Buy) e))
      go Buy Sell n = refl
      go Sell Buy n = refl
      go Sell Sell n = ne_eqb a.price.0 b.price.0 n

  pub rank_first : rank a < rank b → precedes a b ≡ true
  rank_first = first_below a.side b.side a.price.0 b.price.0 h k

  pub rank_behind : rank b ≤ rank a → precedes a b ≡ false
  rank_behind = not_first a.side b.side a.price.0 b.price.0 h k

-- A row put in before others, by the rank of the first.
module _ (r q : Row) (qs : List Row) (h : Priced r) (k : Priced q) where
  pub insert_level : rank r ≡ rank q → insert_row r (q ∷ qs) ≡ joined r q ∷ qs
  insert_level e = rw (rank_level r q h k e)

  pub insert_before : rank r < rank q → insert_row r (q ∷ qs) ≡ r ∷ q ∷ qs
  insert_before e = rw (rank_apart r q h k (λ z. omega arith), rank_first r q h k e)

  pub insert_behind : rank q < rank r → insert_row r (q ∷ qs) ≡ q ∷ insert_row r qs
  insert_behind e = rw (rank_apart r q h k (λ z. omega arith), rank_behind r q h k (omega arith))
