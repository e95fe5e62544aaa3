-- Parts without a minimum that have as many shares as come in take them all.
use Prim.Native.Nat.{ℕ, ◌+◌, ◌-◌, ◌≤◌, ◌<◌}
use mathlib.Core.Path.{◌≡◌, refl}
use mathlib.Core.Bool.{Bool, true, false, not, true≢false}
use mathlib.Core.List.{List, [], ◌∷◌, ◌++◌, map}
use native.Mathlib.Omega.{arith}
use native.Mathlib.Nat.{zero-add}
use native.Mathlib.Decide.{dec_lt}
use lib.Dec.{eqb, ltb}
use lib.ListN.{length}
use Rattle.units.specs.Lists.{or_zero, sum, total}
use Rattle.units.proofs.Tests.{pick_least}
use Rattle.units.proofs.Totals.{total_append, total_map}
use Rattle.units.proofs.Members.{Every, every_split}
use Rattle.sharing.specs.Rank.{Part, part_size}
use Rattle.sharing.proofs.Filled.{Met, Each}
use Rattle.orders.specs.declared.order.Order.{Order}
use Rattle.orders.specs.declared.order.Taker.{Taker}
use Rattle.orders.specs.Order.{Visibility, shown, hidden, shares_of, interest_of, is_minimum_quantity}
use Rattle.book.proofs.Soundness.{OrdersSound}
use Rattle.matching.specs.declared.Algorithm.{Algorithm}
use Rattle.matching.specs.declared.Algorithm.TheVariants.{PriceTime, ProRata, PriceSetter}
use Rattle.matching.specs.Numbered.{paragraph_numbered}
use Rattle.matching.proofs.Groups.{has_no_minimum}
use Rattle.parts.specs.Key.{group_in, paragraph_in, place_in, shares_in}
use Rattle.parts.specs.Parts.{pro_rata_paragraph, paragraph_for}
use Rattle.parts.specs.Narrowed.{minimum_paragraph}
use Rattle.allocation.specs.Walk.{Walks, part_in, shared_by}
use Rattle.allocation.specs.Ready.{Ascending, Stands, Ready}
use Rattle.allocation.proofs.Cells.{Beside}
use Rattle.allocation.proofs.Gets.{sum_none}
use Rattle.allocation.proofs.Stretches.{key_paragraph, stretch_free, stretch_filled}

pro_rata_free : (lot : ℕ) (v : Visibility) (m : Bool) (n : ℕ) → eqb (pro_rata_paragraph lot v m n) 5 ≡ false
    → has_no_minimum ProRata (paragraph_numbered (pro_rata_paragraph lot v m n)) ≡ true
pro_rata_free lot shown m n e = go (ltb n lot)
  where
    go : (b : Bool) → has_no_minimum ProRata (paragraph_numbered (2 + or_zero b 1)) ≡ true
    go true = refl
    go false = refl
pro_rata_free lot hidden true n e = absurd (true≢false e)
pro_rata_free lot hidden false n e = go (ltb n lot)
  where
    go : (b : Bool) → has_no_minimum ProRata (paragraph_numbered (4 + or_zero b 2)) ≡ true
    go true = refl
    go false = refl

-- where a part's paragraph isn't the one for minimums, the definition's parts there have none
free_place : (lot : ℕ) (alg : Algorithm) (v : Visibility) (m : Bool) (n : ℕ) → eqb (paragraph_for lot alg v m n) (minimum_paragraph alg) ≡ false
    → has_no_minimum alg (paragraph_numbered (paragraph_for lot alg v m n)) ≡ true
free_place lot PriceTime shown m n e = refl
free_place lot PriceTime hidden m n e = absurd (true≢false e)
free_place lot ProRata v m n e = pro_rata_free lot v m n e
free_place lot PriceSetter v m n e = pro_rata_free lot v m n e

-- of two lists that ascend as one each does
ascending_split : (keys later : List ℕ) → Ascending (keys ++ later) → Ascending keys × Ascending later
ascending_split [] later a = (tt, a)
ascending_split (k ∷ keys) later a =
    let r = ascending_split keys later a.1 in
    (((every_split (λ q. k < q) keys later a.0).0, r.0), r.1)

module _ {at : ℕ → Order} {n lot : ℕ} {alg : Algorithm} {t : Taker} where
  pub ready_split : (keys later : List ℕ) → Ready at n lot alg t (keys ++ later)
      → Ready at n lot alg t keys × Ready at n lot alg t later
  ready_split keys later r =
      let e = every_split (Stands at n lot alg t) keys later r.each in
      let a = ascending_split keys later r.ascend in
      (record { each = e.0; ascend = a.0 }, record { each = e.1; ascend = a.1 })

-- parts without a minimum that are met are filled
all_full : (r : ℕ) (ps : List Part) (ns : List ℕ) → Every (λ p. p.minimum ≡ 0) ps → Each (Met r) ps ns → sum ns ≡ total part_size ps
all_full r [] (n ∷ ns) z x4 = elim x4 [ ]
all_full r (p ∷ ps) [] z x4 = elim x4 [ ]
all_full r [] [] z Each.none = refl
all_full r (p ∷ ps) (n ∷ ns) z (Each.more (Met.full e) m) = omega (arith, all_full r ps ns z.1 m)
all_full r (p ∷ ps) (n ∷ ns) z (Each.more (Met.unmet e l) m) = let y = z.0 in absurd (omega arith)

-- the shares of a part that has no minimum
abbrev pub free : Algorithm → ℕ → ℕ
free alg k = or_zero (not (eqb (paragraph_in (group_in k)) (minimum_paragraph alg))) (shares_in k)

free_most : (alg : Algorithm) (keys : List ℕ) → total (free alg) keys ≤ total shares_in keys
free_most alg [] = omega arith
free_most alg (k ∷ keys) = omega (arith, pick_least (not (eqb (paragraph_in (group_in k)) (minimum_paragraph alg))) (shares_in k), free_most alg keys)

free_none : (alg : Algorithm) (group : ℕ) → eqb (paragraph_in group) (minimum_paragraph alg) ≡ true → (keys : List ℕ) → Every (λ k. group_in k ≡ group) keys
    → total (free alg) keys ≡ 0
free_none alg group e [] a = refl
free_none alg group e (k ∷ keys) a = rw (a.0, e, zero-add) (free_none alg group e keys a.1)

module _ (lot : ℕ) (has_lot : 0 < lot) (alg : Algorithm) (t : Taker) (at : ℕ → Order) (os : List Order) (s : OrdersSound os) (few : length os ≤ 256)
    (b : Beside at 0 os) where
  abbrev Rest : List ℕ → Type 0
  Rest = Ready at (length os) lot alg t

  module _ (first : ℕ) (keys : List ℕ) (r : Rest (first ∷ keys)) (e : Every (λ k. group_in k ≡ group_in first) keys) (left : ℕ) where
    abbrev shared : List ℕ
    shared = shared_by at lot alg (group_in first) (first ∷ keys) left

    within : sum shared ≤ left
    within = (stretch_filled lot alg t at os s few b first keys r e has_lot left).within

    -- a group that leaves shares has given its parts without a minimum all they want
    given : sum shared < left → total (free alg) (first ∷ keys) ≤ sum shared
    given h = go (eqb (paragraph_in (group_in first)) (minimum_paragraph alg)) refl
      where
        parts : List Part
        parts = map (part_in at) (first ∷ keys)

        go : (c : Bool) → eqb (paragraph_in (group_in first)) (minimum_paragraph alg) ≡ c → total (free alg) (first ∷ keys) ≤ sum shared
        go true q = let z = free_none alg (group_in first) q (first ∷ keys) (refl, e) in omega arith
        go false q =
            let x = r.each.0 in
            let p = key_paragraph lot alg t at os s few b first x in
            let o = at (place_in first) in
            let f : has_no_minimum alg (paragraph_numbered (paragraph_in (group_in first))) ≡ true =
            rw p (free_place lot alg x.visibility (is_minimum_quantity o.kind) (shares_of x.visibility (interest_of o)) (rw p at q)) in
            let m = all_full (left - sum shared) parts shared (stretch_free lot alg t at os s few b first keys r e f)
            ((stretch_filled lot alg t at os s few b first keys r e has_lot left).met h) in
            omega (arith, free_most alg (first ∷ keys), total_map part_size (part_in at) (first ∷ keys))

  -- no more is given than is left
  pub walk_within : {keys gets : List ℕ} {left : ℕ} → Walks at lot alg keys left gets → Rest keys → sum gets ≤ left
  walk_within (Walks.none left) r = omega arith
  walk_within (Walks.ended keys) r = omega (arith, sum_none keys)
  walk_within (Walks.next left key keys later gets e g v) r =
      let p = ready_split (key ∷ keys) later r in
      let shared = shared_by at lot alg (group_in key) (key ∷ keys) left in
      omega (arith, within key keys p.0 e left, walk_within v p.1, total_append (λ n. n) shared gets)

  -- all that is left is given where the parts without a minimum have as much
  pub walk_enough : {keys gets : List ℕ} {left : ℕ} → Walks at lot alg keys left gets → Rest keys → left ≤ total (free alg) keys → sum gets ≡ left
  walk_enough (Walks.none left) r h = omega arith
  walk_enough (Walks.ended keys) r h = sum_none keys
  walk_enough (Walks.next left key keys later gets e g v) r h =
      let p = ready_split (key ∷ keys) later r in
      let shared = shared_by at lot alg (group_in key) (key ∷ keys) left in
      go (dec_lt (sum shared) left) p (walk_within v p.1) (λ l. walk_enough v p.1 l)
    where
      shared : List ℕ
      shared = shared_by at lot alg (group_in key) (key ∷ keys) left

      go : Dec (sum shared < left) → Rest (key ∷ keys) × Rest later → sum gets ≤ left - sum shared
          → (left - sum shared ≤ total (free alg) later → sum gets ≡ left - sum shared) → sum (shared ++ gets) ≡ left
      go (yes l) p w i =
          let f = given key keys p.0 e left l in
          let x = total_append (free alg) (key ∷ keys) later in
          omega (arith, i (omega arith), total_append (λ n. n) shared gets)
      go (no l) p w i = omega (arith, within key keys p.0 e left, total_append (λ n. n) shared gets)
