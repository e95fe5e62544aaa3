-- How many records move: with one order more, and by the place of the first that leaves.
use Prim.Native.Nat.{ℕ, zero, suc, ◌+◌, ◌≤◌, ◌<◌}
use mathlib.Core.Path.{◌≡◌, refl, ap, ◌∙◌}
use mathlib.Core.Bool.{Bool, true, false, cond}
use mathlib.Core.List.{List, [], ◌∷◌, ◌++◌}
use native.Mathlib.Omega.{arith}
use lib.ListN.{length, get_or, take, drop, length-append}
use Rattle.units.specs.Lists.{filter, cons_if, all}
use Rattle.units.proofs.Tests.{and_true}
use Rattle.units.proofs.Members.{filter_fewer}
use Rattle.units.proofs.Totals.{filter_append}
use Rattle.orders.specs.declared.order.Order.{Order}
use Rattle.orders.specs.Order.{is_resting}
use Rattle.settlement.specs.Moves.{behind_first_gap, moves_of}

-- those of a list that rest
abbrev rests : List Order → List Order
rests = filter is_resting

-- orders that all rest have no part in how many move behind them
pub moves_front : (os ps : List Order) → length os ≤ length (rests os) → moves_of (os ++ ps) ≡ moves_of ps
moves_front [] ps h = refl
moves_front (o ∷ os) ps h = go (is_resting o) h (moves_front os ps)
  where
    go : (b : Bool) → suc (length os) ≤ length (cons_if b o (rests os)) → (length os ≤ length (rests os) → moves_of (os ++ ps) ≡ moves_of ps)
        → length (rests (cond b (behind_first_gap (os ++ ps)) (os ++ ps))) ≡ moves_of ps
    go true h f = f (omega arith)
    go false h f = absurd (omega (arith, filter_fewer is_resting os))

-- An order comes last.
module _ (o : Order) where
  rests_last : (os : List Order) → length (rests (os ++ (o ∷ []))) ≡ length (rests os) + length (rests (o ∷ []))
  rests_last os = ap length (filter_append is_resting os (o ∷ [])) ∙ length-append (rests os) (rests (o ∷ []))

  -- it leaves: as many move as before
  pub moves_gone : (os : List Order) → is_resting o ≡ false → moves_of (os ++ (o ∷ [])) ≡ moves_of os
  moves_gone [] e = rw e
  moves_gone (p ∷ os) e = go (is_resting p) (moves_gone os e)
    where
      go : (b : Bool) → moves_of (os ++ (o ∷ [])) ≡ moves_of os
          → length (rests (cond b (behind_first_gap (os ++ (o ∷ []))) (os ++ (o ∷ [])))) ≡ length (rests (cond b (behind_first_gap os) os))
      go true h = h
      go false h = rests_last os ∙ rw e (omega arith)

  -- it rests, and one before it doesn't: it moves
  pub moves_more : (os : List Order) → is_resting o ≡ true → length (rests os) < length os → moves_of (os ++ (o ∷ [])) ≡ moves_of os + 1
  moves_more [] e h = absurd (omega arith)
  moves_more (p ∷ os) e h = go (is_resting p) h (moves_more os e)
    where
      go : (b : Bool) → length (cons_if b p (rests os)) < suc (length os) → (length (rests os) < length os → moves_of (os ++ (o ∷ [])) ≡ moves_of os + 1)
          → length (rests (cond b (behind_first_gap (os ++ (o ∷ []))) (os ++ (o ∷ [])))) ≡ length (rests (cond b (behind_first_gap os) os)) + 1
      go true h f = f (omega arith)
      go false h f = rests_last os ∙ rw e

-- where none leaves, none moves
pub moves_none : (os : List Order) → all is_resting os ≡ true → moves_of os ≡ 0
moves_none [] e = refl
moves_none (o ∷ os) e = let a = and_true (is_resting o) (all is_resting os) e in rw a.0 (moves_none os a.1)

-- where the first that leaves stands at place f, those move that rest behind it
pub moves_behind : (f : ℕ) (os : List Order) (d : Order) → f < length os → all is_resting (take f os) ≡ true → is_resting (get_or os f d) ≡ false
    → moves_of os ≡ length (filter is_resting (drop (suc f) os))
moves_behind f [] d h e n = absurd (omega arith)
moves_behind zero (o ∷ os) d h e n = rw n
moves_behind (suc f) (o ∷ os) d h e n =
    let a = and_true (is_resting o) (all is_resting (take f os)) e in
    rw a.0 (moves_behind f os d (omega arith) a.1 n)
