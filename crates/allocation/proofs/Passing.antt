-- An incoming order on its way through the keys: what holds before a group, and one step.
use Prim.Native.Nat.{ℕ, zero, suc, ◌+◌, ◌-◌, ◌≤◌, ◌<◌}
use mathlib.Core.Path.{◌≡◌, refl, ap, ◌∙◌}
use mathlib.Core.List.{List, [], ◌∷◌, ◌++◌, map, append_assoc, map-append}
use native.Mathlib.Omega.{arith}
use native.Mathlib.Nat.{sub-zero}
use native.Mathlib.Decide.{dec_lt}
use lib.ListN.{length, length-append}
use Rattle.units.specs.Lists.{sum, total}
use Rattle.units.proofs.Totals.{total_append, total_map}
use Rattle.units.proofs.Members.{Every, every_append, every_split, every_weaken}
use Rattle.orders.specs.declared.order.Order.{Order}
use Rattle.orders.specs.declared.order.Taker.{Taker}
use Rattle.book.proofs.Soundness.{OrdersSound}
use Rattle.matching.specs.declared.Algorithm.{Algorithm}
use Rattle.parts.specs.Key.{group_in, shares_in}
use Rattle.allocation.specs.Walk.{Walks, shared_by}
use Rattle.allocation.specs.Ready.{Ascending, Ready}
use Rattle.allocation.proofs.Cells.{Beside}
use Rattle.allocation.proofs.Stretches.{stretch_whole}
use Rattle.allocation.proofs.Enough.{ready_split}

-- keys that ascend: those of the first one's group, and the others behind them
record Split (k : ℕ) (keys : List ℕ) : Type 0 where
  same : List ℕ
  rest : List ℕ
  are : keys ≡ same ++ rest
  together : Every (λ q. group_in q ≡ group_in k) same
  behind : Every (λ q. group_in k < group_in q) rest

split : (k : ℕ) (keys : List ℕ) → Every (λ q. k < q) keys → Ascending keys → Split k keys
split k [] h a = record { same = []; rest = []; are = refl; together = tt; behind = tt }
split k (q ∷ keys) h a = go (dec_lt (group_in k) (group_in q)) (split k keys h.1 a.1)
  where
    go : Dec (group_in k < group_in q) → Split k keys → Split k (q ∷ keys)
    go (yes l) r = record { same = []; rest = q ∷ keys; are = refl; together = tt; behind = (l, every_weaken (λ x y. omega arith) keys a.0) }
    go (no l) r =
        let f = h.0 in
        record {
          same = q ∷ r.same;
          rest = r.rest;
          are = ap (λ xs. q ∷ xs) r.are;
          together = (omega arith, r.together);
          behind = r.behind;
        }

module _ (lot : ℕ) (has_lot : 0 < lot) (alg : Algorithm) (t : Taker) (at : ℕ → Order) (os : List Order) (s : OrdersSound os) (few : length os ≤ 256)
    (b : Beside at 0 os) where
  abbrev Rest : List ℕ → Type 0
  Rest = Ready at (length os) lot alg t

  abbrev Goes : List ℕ → ℕ → List ℕ → Type 0
  Goes = Walks at lot alg

  -- whole groups that fit into the shares left are filled: of so many keys at most
  abbrev Fills : ℕ → Type 0
  Fills most = (keys later gets : List ℕ) → length keys ≤ most → Rest keys → Every (λ k. Every (λ q. group_in k < group_in q) later) keys
      → (left : ℕ) → total shares_in keys ≤ left → Goes later (left - total shares_in keys) gets → Goes (keys ++ later) left (map shares_in keys ++ gets)

  fill_more : (most : ℕ) → Fills most → Fills (suc most)
  fill_more most again [] later gets f r p left h w = rw (sub-zero left) at w
  fill_more most again (k ∷ keys) later gets f r p left h w = go (split k keys r.ascend.0 r.ascend.1)
    where
      go : Split k keys → Goes (k ∷ (keys ++ later)) left (map shares_in (k ∷ keys) ++ gets)
      go x =
          let a = x.are in
          let c = ready_split (k ∷ x.same) x.rest (rw a at r) in
          let n : total shares_in (k ∷ keys) ≡ total shares_in (k ∷ x.same) + total shares_in x.rest = rw a (total_append shares_in (k ∷ x.same) x.rest) in
          let l : length x.rest ≤ most = omega (arith, ap length a, length-append x.same x.rest) in
          let p' = every_split (λ y. Every (λ q. group_in y < group_in q) later) x.same x.rest (rw a at p.1) in
          let whole = stretch_whole lot alg t at os s few b k x.same c.0 x.together has_lot left (omega arith) in
          let rest = left - total shares_in (k ∷ x.same) in
          let e : left - total shares_in (k ∷ keys) ≡ rest - total shares_in x.rest = omega arith in
          let m : sum (shared_by at lot alg (group_in k) (k ∷ x.same) left) ≡ total shares_in (k ∷ x.same) =
          ap sum whole ∙ total_map (λ y. y) shares_in (k ∷ x.same) in
          let v = again x.rest later gets l c.1 p'.1 rest (omega arith) (rw e at w) in
          let next : Goes (k ∷ (x.same ++ (x.rest ++ later))) left (shared_by at lot alg (group_in k) (k ∷ x.same) left ++ (map shares_in x.rest ++ gets)) =
          Walks.next left k x.same (x.rest ++ later) (map shares_in x.rest ++ gets) x.together
          (every_append (λ q. group_in k < group_in q) x.rest later x.behind p.0) (rw m v) in
          rw (
            a,
            map-append shares_in x.same x.rest,
            append_assoc x.same x.rest later,
            append_assoc (map shares_in x.same) (map shares_in x.rest) gets,
          )
          (rw whole at next)

  fill_by : (most : ℕ) → Fills most
  fill_by zero [] later gets f r p left h w = rw (sub-zero left) at w
  fill_by zero (k ∷ keys) later gets f r p left h w = absurd (omega arith)
  fill_by (suc most) keys later gets f r p left h w = fill_more most (fill_by most) keys later gets f r p left h w

  pub fill_walks : (keys later gets : List ℕ) → Rest keys → Every (λ k. Every (λ q. group_in k < group_in q) later) keys → (left : ℕ)
      → total shares_in keys ≤ left → Goes later (left - total shares_in keys) gets → Goes (keys ++ later) left (map shares_in keys ++ gets)
  fill_walks keys later gets r p left h w = fill_by (length keys) keys later gets (omega arith) r p left h w
