-- The rows of orders: how they stand, how many there are, and what they add up to.
use Prim.Native.Nat.{ℕ, suc, ◌+◌, ◌≤◌, ◌<◌}
use mathlib.Core.Path.{◌≡◌, refl, sym, ap₂}
use mathlib.Core.Bool.{Bool, true, false, cond, true≢false}
use mathlib.Core.List.{List, [], ◌∷◌, map}
use native.Mathlib.Omega.{arith}
use native.Mathlib.Decide.{dec_lt}
use lib.ListN.{length}
use Rattle.units.specs.Lists.{all, cons_if, total, or_zero}
use Rattle.units.proofs.Tests.{true_and}
use Rattle.units.proofs.Members.{Every, every_weaken}
use Rattle.units.specs.declared.Price.{Price}
use Rattle.orders.specs.declared.order.Side.{Side}
use Rattle.orders.specs.declared.order.Order.{Order}
use Rattle.orders.specs.Order.{price_of}
use Rattle.ladder.specs.declared.row.Row.{Row}
use Rattle.ladder.specs.Rows.{same_level, precedes, row_of, joined, insert_row, gathered}
use Rattle.ladder.specs.Depth.{in_order, rows_at, orders_at}
use Rattle.ladder.proofs.Ranks.{Priced, rank, level_same, rank_first, insert_level, insert_before, insert_behind}
use Rattle.ladder.proofs.Inserting.{insert_every, gathered_every, joined_priced, joined_rank}

-- a row put in is one more at most
insert_few : (r : Row) (rs : List Row) → length (insert_row r rs) ≤ suc (length rs)
insert_few r [] = omega arith
insert_few r (q ∷ qs) = go (same_level r q) (precedes r q) (insert_few r qs)
  where
    go : (b c : Bool) → length (insert_row r qs) ≤ suc (length qs) → length (cond b (joined r q ∷ qs) (cond c (r ∷ q ∷ qs) (q ∷ insert_row r qs))) ≤ suc (suc (length qs))
    go true c i = omega arith
    go false true i = omega arith
    go false false i = omega arith

pub gathered_few : (rs : List Row) → length (gathered rs) ≤ length rs
gathered_few [] = omega arith
gathered_few (r ∷ rs) = omega (arith, insert_few r (gathered rs), gathered_few rs)

-- each row before all those behind it, by rank
abbrev Ranked : List Row → Type 0
Ranked [] = Unit {0}
Ranked (r ∷ rs) = Every (λ q. rank r < rank q) rs × Ranked rs

insert_ranked : (r : Row) (rs : List Row) → Priced r → Every Priced rs → Ranked rs → Ranked (insert_row r rs)
insert_ranked r [] h p a = (tt, tt)
insert_ranked r (q ∷ qs) h p a = go (dec_lt (rank r) (rank q)) (dec_lt (rank q) (rank r)) (insert_ranked r qs h p.1 a.1)
  where
    go : Dec (rank r < rank q) → Dec (rank q < rank r) → Ranked (insert_row r qs) → Ranked (insert_row r (q ∷ qs))
    go (yes m) d i = rw (insert_before r q qs h p.0 m) ((m, every_weaken (λ x l. omega arith) qs a.0), a)
    go (no m) (yes d) i =
        rw (insert_behind r q qs h p.0 d)
        (insert_every (λ x. rank q < rank x) (λ x y u v. omega (arith, joined_rank x y)) r qs d a.0, i)
    go (no m) (no d) i =
        let e : rank r ≡ rank q = omega arith in
        rw (insert_level r q qs h p.0 e) (every_weaken (λ x l. omega (arith, joined_rank r q)) qs a.0, a.1)

gathered_ranked : (rs : List Row) → Every Priced rs → Ranked (gathered rs)
gathered_ranked [] p = tt
gathered_ranked (r ∷ rs) p = insert_ranked r (gathered rs) p.0 (gathered_every Priced joined_priced rs p.1) (gathered_ranked rs p.1)

-- rows in the order of their ranks are in the ladder's order
all_precede : (r : Row) (rs : List Row) → Priced r → Every Priced rs → Every (λ q. rank r < rank q) rs → all (precedes r) rs ≡ true
all_precede r [] h p a = refl
all_precede r (q ∷ qs) h p a = true_and (rank_first r q h p.0 a.0) (all_precede r qs h p.1 a.1)

ranked_order : (rs : List Row) → Every Priced rs → Ranked rs → in_order rs ≡ true
ranked_order [] p a = refl
ranked_order (r ∷ rs) p a = true_and (all_precede r rs p.0 p.1 a.0) (ranked_order rs p.1 a.1)

pub gathered_order : (rs : List Row) → Every Priced rs → in_order (gathered rs) ≡ true
gathered_order rs p = ranked_order (gathered rs) (gathered_every Priced joined_priced rs p) (gathered_ranked rs p)

-- A number of a row that is added up where rows are joined, over the rows at some levels.
module _ (at : Side → ℕ → Bool) (f : Row → ℕ) (add : (a b : Row) → f (joined a b) ≡ f a + f b) where
  -- the number of a row where it is at one of the levels
  one : Row → ℕ
  one r = or_zero (at r.side r.price.0) (f r)

  sum_more : (r : Row) (rs : List Row) → total f (rows_at at (r ∷ rs)) ≡ one r + total f (rows_at at rs)
  unfolding one
  sum_more r rs = go (at r.side r.price.0)
    where
      go : (b : Bool) → total f (cons_if b r (rows_at at rs)) ≡ or_zero b (f r) + total f (rows_at at rs)
      go true = refl
      go false = omega arith

  one_joined : (r q : Row) → r.side ≡ q.side → r.price ≡ q.price → one (joined r q) ≡ one r + one q
  unfolding one joined
  one_joined r q d e = go (at r.side r.price.0) (at q.side q.price.0) (ap₂ (λ (s : Side) (p : Price). at s p.0) d e)
    where
      go : (b c : Bool) → b ≡ c → or_zero b (f (joined r q)) ≡ or_zero b (f r) + or_zero c (f q)
      go true true x = add r q
      go true false x = absurd (true≢false x)
      go false true x = absurd (true≢false (sym x))
      go false false x = refl

  insert_sum : (r : Row) (rs : List Row) → Priced r → Every Priced rs → total f (rows_at at (insert_row r rs)) ≡ one r + total f (rows_at at rs)
  insert_sum r [] h p = sum_more r []
  insert_sum r (q ∷ qs) h p = go (dec_lt (rank r) (rank q)) (dec_lt (rank q) (rank r)) (insert_sum r qs h p.1)
    where
      go : Dec (rank r < rank q) → Dec (rank q < rank r) → total f (rows_at at (insert_row r qs)) ≡ one r + total f (rows_at at qs)
          → total f (rows_at at (insert_row r (q ∷ qs))) ≡ one r + total f (rows_at at (q ∷ qs))
      go (yes m) d i = rw (insert_before r q qs h p.0 m) (sum_more r (q ∷ qs))
      go (no m) (yes d) i =
          rw (insert_behind r q qs h p.0 d) (omega (arith, sum_more q (insert_row r qs), sum_more q qs, i))
      go (no m) (no d) i =
          let e : rank r ≡ rank q = omega arith in
          let s = level_same r q h p.0 e in
          rw (insert_level r q qs h p.0 e) (omega (arith, sum_more (joined r q) qs, sum_more q qs, one_joined r q s.0 s.1))

  pub gathered_sum : (rs : List Row) → Every Priced rs → total f (rows_at at (gathered rs)) ≡ total f (rows_at at rs)
  gathered_sum [] p = refl
  gathered_sum (r ∷ rs) p =
      omega (arith, insert_sum r (gathered rs) p.0 (gathered_every Priced joined_priced rs p.1), gathered_sum rs p.1, sum_more r rs)

-- the rows of single orders at some levels have what the orders there have
pub single_sum : (at : Side → ℕ → Bool) (f : Row → ℕ) (g : Order → ℕ) → ((o : Order) → f (row_of o) ≡ g o) → (os : List Order)
    → total f (rows_at at (map row_of os)) ≡ total g (orders_at at os)
unfolding row_of
single_sum at f g e [] = refl
single_sum at f g e (o ∷ os) = go (at o.side (price_of o)) (single_sum at f g e os)
  where
    go : (b : Bool) → total f (rows_at at (map row_of os)) ≡ total g (orders_at at os)
        → total f (cons_if b (row_of o) (rows_at at (map row_of os))) ≡ total g (cons_if b o (orders_at at os))
    go true i = omega (arith, e o, i)
    go false i = i
