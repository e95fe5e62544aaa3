-- An order's entry in an allotment, by its number, and the executions of allocations added up by number, paragraph and price.
use Prim.Native.Nat.{ℕ, ◌+◌, ◌<◌}
use mathlib.Core.Path.{◌≡◌, refl, sym, ap, ◌∙◌, subst⁻¹}
use mathlib.Core.Bool.{Bool, true, false, ◌&&◌}
use mathlib.Core.List.{List, [], ◌∷◌, map, Memᴰ}
use native.Mathlib.Omega.{arith}
use native.Mathlib.Nat.{zero-add, add-zero}
use lib.Dec.{ltb, eqb}
use lib.ListN.{length}
use borrow.Author.Tests.{ltb-true, ltb-false, eq-eqb, ne_eqb}
use Rattle.units.specs.Lists.{cons_if, or_zero, sum, total, zip_with}
use Rattle.units.proofs.Tests.{and_true, pick_zero, pick_add}
use Rattle.units.proofs.Members.{Every, every_member, every_weaken}
use Rattle.units.proofs.Totals.{total_same, total_flat}
use Rattle.sharing.specs.Rank.{Part}
use Rattle.sharing.proofs.Filled.{Each, more, each_map}
use Rattle.orders.specs.declared.order.Order.{Order}
use Rattle.book.specs.Sound.{rising}
use Rattle.matching.specs.Paragraph.{paragraph_number}
use Rattle.matching.specs.Take.{Allocation, used, executions_by, executions_of}
use Rattle.matching.specs.Fairness.{executed_shares}

-- the entry of an order's number in an allotment
unfoldable pub share_in : ℕ → List Order → List ℕ → ℕ
share_in n os ns = sum (zip_with (λ o k. or_zero (eqb o.number n) k) os ns)

-- where numbers rise above m, all are above it
pub orders_above : (m : ℕ) (os : List Order) → rising m os ≡ true → Every (λ o. m < o.number) os
orders_above m [] r = tt
orders_above m (o ∷ os) r =
    let a = and_true (ltb m o.number) (rising o.number os) r in
    let l = ltb-true m o.number a.0 in
    (l, every_weaken {P = λ x. o.number < x.number} {Q = λ x. m < x.number} (λ x h. omega arith) os (orders_above o.number os a.1))

-- a number that is below all has no entry
pub absent : (n : ℕ) (os : List Order) → Every (λ o. n < o.number) os → (ns : List ℕ) → share_in n os ns ≡ 0
unfolding share_in
absent n [] a ns = refl
absent n (o ∷ os) a [] = refl
absent n (o ∷ os) a (k ∷ ks) = let l = a.0 in rw (ne_eqb o.number n (λ e. omega arith), zero-add) (absent n os a.1 ks)

module _ (P : Part → ℕ → Type 0) (part : Order → Part) where
  -- what holds of every part and its entry holds of an order's own
  pub pick : (m : ℕ) (os : List Order) → rising m os ≡ true → (ns : List ℕ) → Each P (map part os) ns → (o : Order) → Memᴰ o os
      → P (part o) (share_in o.number os ns)
  unfolding share_in
  pick m [] r ns _ o x4 = elim x4 [ ]
  pick m (x ∷ os) r [] x7 o _ = elim x7 [ ]
  pick m (x ∷ os) r (n ∷ ns) (more h e) o (Memᴰ.head k) =
      let a = and_true (ltb m x.number) (rising x.number os) r in
      subst⁻¹ (λ (y : Order). P (part y) (share_in y.number (x ∷ os) (n ∷ ns))) k
      (rw (eq-eqb x.number x.number refl, absent x.number os (orders_above x.number os a.1) ns, add-zero) h)
  pick m (x ∷ os) r (n ∷ ns) (more h e) o (Memᴰ.tail k) =
      let a = and_true (ltb m x.number) (rising x.number os) r in
      let l = every_member (λ y. x.number < y.number) os (orders_above x.number os a.1) o k in
      rw (ne_eqb x.number o.number (λ e. omega arith), zero-add) (pick x.number os a.1 ns e o k)

-- the entry of an order in numbers that are a function of the parts
pub lookup : (f : Part → ℕ) (part : Order → Part) (m : ℕ) (os : List Order) → rising m os ≡ true → (o : Order) → Memᴰ o os
    → share_in o.number os (map f (map part os)) ≡ f (part o)
lookup f part m os r o i = pick (λ p n. n ≡ f p) part m os r (map f (map part os)) (each_map f (map part os) (λ p k. refl)) o i

-- a test of the number, the price and the paragraph of an execution picks the entries of the orders that pass it
executions_picked : (w : ℕ → ℕ → ℕ → Bool) (g price : ℕ) (os : List Order) (ns : List ℕ)
    → total (λ e. or_zero (w e.number e.price.0 e.paragraph) (executed_shares e)) (executions_by g price os ns)
    ≡ sum (zip_with (λ o n. or_zero (w o.number price g) n) os ns)
executions_picked w g price [] ns = refl
executions_picked w g price (o ∷ os) [] = refl
executions_picked w g price (o ∷ os) (k ∷ ks) = go (ltb 0 k) refl (executions_picked w g price os ks)
  where
    go : (b : Bool) → ltb 0 k ≡ b
        → total (λ e. or_zero (w e.number e.price.0 e.paragraph) (executed_shares e)) (executions_by g price os ks)
        ≡ sum (zip_with (λ o n. or_zero (w o.number price g) n) os ks)
        → total (λ e. or_zero (w e.number e.price.0 e.paragraph) (executed_shares e))
        (cons_if b (record { number = o.number; price = record { 0 = price }; shares = record { 0 = k }; paragraph = g }) (executions_by g price os ks))
        ≡ or_zero (w o.number price g) k + sum (zip_with (λ o n. or_zero (w o.number price g) n) os ks)
    go true e i = ap (λ n. or_zero (w o.number price g) k + n) i
    go false e i = rw (pick_zero (w o.number price g) {n = k} (omega (arith, ltb-false 0 k e)), zero-add) i

entries_all : (b : Bool) (os : List Order) (ns : List ℕ) → length ns ≡ length os → sum (zip_with (λ o n. or_zero b n) os ns) ≡ or_zero b (sum ns)
entries_all true [] [] h = refl
entries_all false [] [] h = refl
entries_all b [] (k ∷ ks) h = absurd (omega arith)
entries_all b (o ∷ os) [] h = absurd (omega arith)
entries_all b (o ∷ os) (k ∷ ks) h = ap (λ n. or_zero b k + n) (entries_all b os ks (omega arith)) ∙ pick_add b k (sum ks)

-- an entry that two tests pick is the entry by the one, where the other passes
entry_picked : (b : Bool) (n : ℕ) (os : List Order) (ns : List ℕ)
    → sum (zip_with (λ o k. or_zero (eqb o.number n && b) k) os ns) ≡ or_zero b (share_in n os ns)
unfolding share_in
entry_picked b n [] ns = sym (pick_zero b refl)
entry_picked b n (o ∷ os) [] = sym (pick_zero b refl)
entry_picked b n (o ∷ os) (k ∷ ks) = rw (entry_picked b n os ks) (go (eqb o.number n) b)
  where
    go : (a b : Bool) → or_zero (a && b) k + or_zero b (share_in n os ks) ≡ or_zero b (or_zero a k + share_in n os ks)
    go true true = refl
    go true false = refl
    go false true = refl
    go false false = refl

-- the shares of an order in paragraphs that pass a test are its entries in the allocations of such paragraphs
pub picked_entries : (w : ℕ → Bool) (os : List Order) (rows : List Allocation) (n : ℕ)
    → total (λ e. or_zero (eqb e.number n && w e.paragraph) (executed_shares e)) (executions_of os rows)
    ≡ total (λ a. or_zero (w (paragraph_number a.paragraph)) (share_in n os a.allotment)) rows
unfolding executions_of
picked_entries w os rows n =
    total_flat (λ e. or_zero (eqb e.number n && w e.paragraph) (executed_shares e))
    (λ a. executions_by (paragraph_number a.paragraph) a.price os a.allotment) rows
    ∙ total_same rows (λ a i. executions_picked (λ m p g. eqb m n && w g) (paragraph_number a.paragraph) a.price os a.allotment
    ∙ entry_picked (w (paragraph_number a.paragraph)) n os a.allotment)

-- every allotment has one number for each order
abbrev pub Aligned : List Order → List Allocation → Type 0
Aligned os rows = Every (λ a. length a.allotment ≡ length os) rows

-- the shares executed at prices that pass a test are those that the allocations at such prices use
pub executed_at : (w : ℕ → Bool) (os : List Order) (rows : List Allocation) → Aligned os rows
    → total (λ e. or_zero (w e.price.0) (executed_shares e)) (executions_of os rows) ≡ total (λ a. or_zero (w a.price) (used a)) rows
unfolding executions_of
executed_at w os rows h =
    total_flat (λ e. or_zero (w e.price.0) (executed_shares e)) (λ a. executions_by (paragraph_number a.paragraph) a.price os a.allotment) rows
    ∙ total_same rows (λ a i. executions_picked (λ n p g. w p) (paragraph_number a.paragraph) a.price os a.allotment
    ∙ entries_all (w a.price) os a.allotment (every_member (λ a. length a.allotment ≡ length os) rows h a i))

-- the shares of all executions are all that the allocations use
pub executed_all : (os : List Order) (rows : List Allocation) → Aligned os rows → total executed_shares (executions_of os rows) ≡ total used rows
executed_all = executed_at (λ p. true)
