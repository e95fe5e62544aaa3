-- What a paragraph allots at a price, beside all orders of a book, and what the parts of its group get, beside their keys: the same.
use Prim.Native.Nat.{ℕ, zero, suc, ◌+◌, ◌<◌}
use mathlib.Core.Path.{◌≡◌, refl, ap, ap₂, subst⁻¹}
use mathlib.Core.List.{List, [], ◌∷◌, map}
use native.Mathlib.Omega.{arith}
use native.Mathlib.Nat.{zero-add}
use lib.Dec.{ltb}
use lib.ListN.{length, get_or}
use borrow.Author.Tests.{eq-eqb, ne_eqb}
use Rattle.units.specs.Lists.{cons_if, sum}
use Rattle.units.proofs.Members.{Every}
use Rattle.ordering.specs.Sorted.{Rising}
use Rattle.sharing.specs.Rank.{Part}
use Rattle.sharing.proofs.Thin.{Thin}
use Rattle.orders.specs.declared.order.Order.{Order}
use Rattle.orders.specs.Order.{Visibility, shares_of, only_of, price_of}
use Rattle.matching.specs.declared.Algorithm.{Algorithm}
use Rattle.matching.specs.Take.{executions_by}
use Rattle.parts.specs.Key.{group_in, paragraph_in, place_in}
use Rattle.parts.specs.Visible.{visible_by}
use Rattle.parts.specs.Execution.{execution_in}
use Rattle.allocation.specs.Walk.{part_in, executions_from, got_at}
use Rattle.allocation.proofs.LeftOut.{Idle}
use Rattle.allocation.proofs.Gets.{only_within}

module _ (alg : Algorithm) (at : ℕ → Order) (price group bound : ℕ) where
  -- Beside orders, the first at a place: their parts in a group, of which those that can get shares have keys.
  pub data Row : ℕ → List Order → List Part → List ℕ → Type 0 where
    none : (p : ℕ) → Row p [] [] []
    keep : {p key : ℕ} {o : Order} {os : List Order} {part : Part} {parts : List Part} {keys : List ℕ}
        → at p ≡ o → price_of o ≡ price → place_in key ≡ p → group_in key ≡ group → part ≡ part_in at key
        → Row (suc p) os parts keys → Row p (o ∷ os) (part ∷ parts) (key ∷ keys)
    drop : {p : ℕ} {o : Order} {os : List Order} {part : Part} {parts : List Part} {keys : List ℕ}
        → Idle bound part → Row (suc p) os parts keys → Row p (o ∷ os) (part ∷ parts) keys

  -- the keys' parts are the others without those that can get nothing
  pub row_thin : {p : ℕ} {os : List Order} {parts : List Part} {keys : List ℕ} → Row p os parts keys → Thin (Idle bound) parts (map (part_in at) keys)
  row_thin (Row.none p) = Thin.none
  row_thin (Row.keep h e k g q r) = rw q (Thin.keep (row_thin r))
  row_thin (Row.drop z r) = Thin.drop z (row_thin r)

  -- the places of the keys are no lower than the first
  earlier : {p : ℕ} {os : List Order} {parts : List Part} {keys : List ℕ} → Row p os parts keys → (v : Visibility) (j : ℕ) → j < p → (ns : List ℕ) → got_at alg v j keys ns ≡ 0
  earlier (Row.none p) v j h ns = refl
  earlier (Row.keep a e k g q r) v j h [] = refl
  earlier (Row.keep {p = p} {key = key} a e k g q r) v j h (n ∷ ns) =
      rw (ne_eqb (place_in key) j (λ z. omega arith), zero-add) (earlier r v j (omega arith) ns)
  earlier (Row.drop z r) v j h ns = earlier r v j (omega arith) ns

  -- the keys rise
  row_from_lem : {p : ℕ} {os : List Order} {parts : List Part} {keys : List ℕ} → Row p os parts keys → (m : ℕ) → group_in m ≡ group → place_in m < p → Rising m keys
  row_from_lem (Row.none p) m g l = tt
  row_from_lem (Row.keep {key = key} a e k h q r) m g l = (omega arith, row_from_lem r key h (omega arith))
  row_from_lem (Row.drop z r) m g l = row_from_lem r m g (omega arith)

  pub row_rising : {p : ℕ} {os : List Order} {parts : List Part} {keys : List ℕ} → Row p os parts keys → Rising 0 keys
  row_rising (Row.none p) = tt
  row_rising (Row.keep {key = key} a e k h q r) = (omega arith, row_from_lem r key h (omega arith))
  row_rising (Row.drop z r) = row_rising r

  -- What each part gets: a number of it, none where it can get nothing.
  module _ (f : Part → ℕ) where
    abbrev Given : List Part → Type 0
    Given parts = Every (λ q. Idle bound q → f q ≡ 0) parts

    -- what the keys' parts get
    abbrev gets : List ℕ → List ℕ
    gets keys = map f (map (part_in at) keys)

    -- the totals are the same
    pub row_sum : {p : ℕ} {os : List Order} {parts : List Part} {keys : List ℕ} → Row p os parts keys → Given parts → sum (map f parts) ≡ sum (gets keys)
    row_sum (Row.none p) z = refl
    row_sum (Row.keep {key = key} a e k g q r) z = rw q (ap (λ n. f (part_in at key) + n) (row_sum r z.1))
    row_sum (Row.drop i r) z = rw (z.0 i, zero-add) (row_sum r z.1)

    -- each record gets the same, of the group's visibility
    pub row_got : {p : ℕ} {os : List Order} {parts : List Part} {keys : List ℕ} → Row p os parts keys → Given parts → (v : Visibility) (j : ℕ) → j < length os
        → shares_of v (only_of (visible_by alg (paragraph_in group)) (get_or (map f parts) j 0)) ≡ got_at alg v (p + j) keys (gets keys)
    row_got (Row.none p) z v j h = absurd (omega arith)
    row_got (Row.keep {p = p} {key = key} {keys = keys} a e k g q r) z v zero h =
        rw (eq-eqb (place_in key) (p + 0) (omega arith), earlier r v (p + 0) (omega arith) (gets keys), q, g) (omega arith)
    row_got (Row.keep {p = p} {key = key} {parts = parts} {keys = keys} a e k g q r) z v (suc j) h =
        let s : p + suc j ≡ suc p + j = omega arith in
        let same = row_got r z.1 v j (omega arith) in
        rw (ne_eqb (place_in key) (p + suc j) (λ y. omega arith), zero-add)
        (subst⁻¹
        (λ (n : ℕ). shares_of v (only_of (visible_by alg (paragraph_in group)) (get_or (map f parts) j 0)) ≡ got_at alg v n keys (gets keys))
        s same)
    row_got (Row.drop {p = p} {keys = keys} i r) z v zero h =
        rw (z.0 i) (omega (arith, only_within v (visible_by alg (paragraph_in group)) 0, earlier r v (p + 0) (omega arith) (gets keys)))
    row_got (Row.drop {p = p} i r) z v (suc j) h =
        let s : p + suc j ≡ suc p + j = omega arith in
        rw s (row_got r z.1 v j (omega arith))

    -- the executions are the same
    pub row_executions : {p : ℕ} {os : List Order} {parts : List Part} {keys : List ℕ} → Row p os parts keys → Given parts
        → executions_by (paragraph_in group) price os (map f parts) ≡ executions_from at keys (gets keys)
    row_executions (Row.none p) z = refl
    row_executions (Row.keep {p = p} {key = key} {o = o} a e k g q r) z = rw q (ap₂ (cons_if (ltb 0 n)) one (row_executions r z.1))
      where
        n : ℕ
        n = f (part_in at key)

        one : record { number = o.number; price = record { 0 = price }; shares = record { 0 = n }; paragraph = paragraph_in group }
            ≡ execution_in at key n
        one = rw (k, g, a, ← e)
    row_executions (Row.drop i r) z = rw (z.0 i) (row_executions r z.1)
