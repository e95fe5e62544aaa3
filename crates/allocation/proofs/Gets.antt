-- Numbers beside keys: one list of them behind another, and numbers that add up to nothing.
use Prim.Native.Nat.{ℕ, ◌+◌, ◌*◌, ◌≤◌}
use mathlib.Core.Path.{◌≡◌, refl, ap, ◌∙◌}
use mathlib.Core.List.{List, [], ◌∷◌, ◌++◌, map}
use native.Mathlib.Omega.{arith}
use lib.Dec.{ltb, eqb}
use lib.ListN.{length}
use borrow.Author.Tests.{le-ltb}
use Rattle.units.specs.Lists.{cons_if, sum, total}
use Rattle.units.proofs.Tests.{pick_least}
use Rattle.units.proofs.Totals.{cons_append}
use Rattle.orders.specs.declared.order.Order.{Order}
use Rattle.orders.specs.Order.{Visibility, shown, hidden, shares_of, only_of}
use Rattle.matching.specs.declared.Algorithm.{Algorithm}
use Rattle.parts.specs.Key.{place_in, shares_in, with_shares}
use Rattle.parts.specs.Visible.{visibility_in}
use Rattle.parts.specs.Execution.{execution_in}
use Rattle.allocation.specs.Walk.{executions_from, fills_of, got_at}

-- fills of keys one behind another
pub fills_append : (keys later gets more : List ℕ) → length gets ≡ length keys → fills_of (keys ++ later) (gets ++ more) ≡ fills_of keys gets ++ fills_of later more
fills_append [] later [] more e = refl
fills_append [] later (n ∷ gets) more e = absurd (omega arith)
fills_append (k ∷ keys) later [] more e = absurd (omega arith)
fills_append (k ∷ keys) later (n ∷ gets) more e =
    ap (cons_if (ltb 0 n) (with_shares n k)) (fills_append keys later gets more (omega arith))
    ∙ cons_append (ltb 0 n) (with_shares n k) (fills_of keys gets) (fills_of later more)

-- their executions
pub executions_append : (at : ℕ → Order) (keys later gets more : List ℕ) → length gets ≡ length keys
    → executions_from at (keys ++ later) (gets ++ more) ≡ executions_from at keys gets ++ executions_from at later more
executions_append at [] later [] more e = refl
executions_append at [] later (n ∷ gets) more e = absurd (omega arith)
executions_append at (k ∷ keys) later [] more e = absurd (omega arith)
executions_append at (k ∷ keys) later (n ∷ gets) more e =
    ap (cons_if (ltb 0 n) (execution_in at k n)) (executions_append at keys later gets more (omega arith))
    ∙ cons_append (ltb 0 n) (execution_in at k n) (executions_from at keys gets) (executions_from at later more)

-- and what a record gets
pub got_append : (alg : Algorithm) (v : Visibility) (p : ℕ) (keys later gets more : List ℕ) → length gets ≡ length keys
    → got_at alg v p (keys ++ later) (gets ++ more) ≡ got_at alg v p keys gets + got_at alg v p later more
got_append alg v p [] later [] more e = omega arith
got_append alg v p [] later (n ∷ gets) more e = absurd (omega arith)
got_append alg v p (k ∷ keys) later [] more e = absurd (omega arith)
got_append alg v p (k ∷ keys) later (n ∷ gets) more e = omega (arith, got_append alg v p keys later gets more (omega arith))

-- shares of one visibility have no more of another
pub only_within : (v w : Visibility) (n : ℕ) → shares_of v (only_of w n) ≤ n
only_within shown shown n = omega arith
only_within shown hidden n = omega arith
only_within hidden shown n = omega arith
only_within hidden hidden n = omega arith

-- a record gets no more than all
pub got_within : (alg : Algorithm) (v : Visibility) (p : ℕ) (keys gets : List ℕ) → got_at alg v p keys gets ≤ sum gets
got_within alg v p [] gets = omega arith
got_within alg v p (k ∷ keys) [] = omega arith
got_within alg v p (k ∷ keys) (n ∷ gets) =
    let m = shares_of v (only_of (visibility_in alg k) n) in
    omega (arith, pick_least (eqb (place_in k) p) m, only_within v (visibility_in alg k) n, got_within alg v p keys gets)

-- nobody got anything
pub fills_none : (keys gets : List ℕ) → sum gets ≡ 0 → fills_of keys gets ≡ []
fills_none [] gets z = refl
fills_none (k ∷ keys) [] z = refl
fills_none (k ∷ keys) (n ∷ gets) z = rw (le-ltb 0 n (omega arith)) (fills_none keys gets (omega arith))

pub executions_none : (at : ℕ → Order) (keys gets : List ℕ) → sum gets ≡ 0 → executions_from at keys gets ≡ []
executions_none at [] gets z = refl
executions_none at (k ∷ keys) [] z = refl
executions_none at (k ∷ keys) (n ∷ gets) z = rw (le-ltb 0 n (omega arith)) (executions_none at keys gets (omega arith))

pub sum_none : (keys : List ℕ) → sum (map (λ k. 0) keys) ≡ 0
sum_none [] = refl
sum_none (k ∷ keys) = omega (arith, sum_none keys)

-- each key has fewer than 1,048,576 shares
pub shares_most : (keys : List ℕ) → total shares_in keys ≤ 1048576 * length keys
shares_most [] = omega arith
shares_most (k ∷ keys) = omega (arith, shares_most keys)
