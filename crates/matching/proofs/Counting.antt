-- How many executions a take makes: at most one for each part above 0, so at most two an order, and one where no order is a reserve order.
use Prim.Native.Nat.{ℕ, ◌+◌, ◌*◌, ◌≤◌, ◌<◌}
use mathlib.Core.Path.{◌≡◌, refl, sym, ap, ◌∙◌}
use mathlib.Core.Bool.{Bool, true, false, not, ◌&&◌, true≢false}
use mathlib.Core.List.{List, [], ◌∷◌, map, Memᴰ}
use native.Mathlib.Omega.{arith}
use lib.Dec.{ltb, eqb}
use lib.ListN.{length}
use borrow.Author.Tests.{ltb-true, eqb-true, eqb-false, ne_eqb, not-true}
use Rattle.units.specs.Lists.{cons_if, or_zero, total}
use Rattle.units.proofs.Tests.{and_true, and_false, false_and, pick_least}
use Rattle.units.proofs.Members.{every_member, all_member}
use Rattle.units.proofs.Totals.{total_add, total_flat, total_le, total_mul, total_none, total_same}
use Rattle.sharing.specs.Rank.{Part}
use Rattle.orders.specs.declared.order.Side.{Side}
use Rattle.orders.specs.declared.order.Side.TheVariants.{Buy}
use Rattle.orders.specs.declared.order.Kind.{Kind}
use Rattle.orders.specs.declared.order.Kind.TheVariants.{Displayed, NonDisplayed, MinimumQuantity, Reserve}
use Rattle.orders.specs.declared.order.Order.{Order}
use Rattle.orders.specs.declared.order.Taker.{Taker}
use Rattle.orders.specs.Order.{Visibility, shown, hidden, shares_of, interest_by, interest_of, is_minimum_quantity, is_reserve, price_of, size_of}
use Rattle.orders.specs.Trading.{is_opposite_of, is_better}
use Rattle.record.specs.declared.execution.Execution.{Execution}
use Rattle.book.specs.Sound.{rising}
use Rattle.matching.specs.declared.Algorithm.{Algorithm}
use Rattle.matching.specs.declared.Paragraph.{Paragraph}
use Rattle.matching.specs.declared.incoming.Incoming.{Incoming}
use Rattle.matching.specs.Levels.{price_levels}
use Rattle.matching.specs.Paragraph.{group_of, in_group, part_of, paragraphs, paragraph_number}
use Rattle.matching.specs.Take.{Allocation, allocation_at, allocations_over, allocations, executions_by, executions_of}
use Rattle.matching.specs.Parts.{how_many, parts_of, is_of, without_reserve}
use Rattle.matching.specs.Reserve.{same_visibility}
use Rattle.matching.proofs.Levels.{Sorted, levels_sorted, better_apart}
use Rattle.matching.proofs.Entries.{orders_above}
use Rattle.matching.proofs.Parts.{stands, allot_share, parts_at, allotted, share_none, most_over}
use Rattle.matching.proofs.Places.{part_in, in_part, standing_one}

module _ {A : Type 0} where
  module _ (c : ℕ) where
    -- a number for each element that passes a test: none where each fails it
    count_none : (p : A → Bool) (xs : List A) → ((x : A) → Memᴰ x xs → p x ≡ false) → total (λ x. or_zero (p x) c) xs ≡ 0
    count_none p xs h = total_same xs (λ x m. ap (λ b. or_zero b c) (h x m)) ∙ total_none xs

    -- no more than for another test, where each that fails the other fails it too
    count_le : (p q : A → Bool) (xs : List A) → ((x : A) → Memᴰ x xs → q x ≡ false → p x ≡ false)
        → total (λ x. or_zero (p x) c) xs ≤ total (λ x. or_zero (q x) c) xs
    count_le p q xs h = total_le xs (λ x m. go x (h x m) (q x) refl)
      where
        go : (x : A) → (q x ≡ false → p x ≡ false) → (b : Bool) → q x ≡ b → or_zero (p x) c ≤ or_zero b c
        go x k true e = pick_least (p x) c
        go x k false e = rw (k e) (omega arith)

  -- where nothing is tested, as many as the list is long
  count_all : (xs : List A) → how_many (λ x. true) xs ≡ length xs
  count_all [] = refl
  count_all (x ∷ xs) = omega (arith, count_all xs)

-- a total over two lists, by either first
total_swap : {A B : Type 0} (f : A → B → ℕ) (xs : List A) (ys : List B) → total (λ x. total (f x) ys) xs ≡ total (λ y. total (λ x. f x y) xs) ys
total_swap f [] ys = sym (total_none ys)
total_swap f (x ∷ xs) ys = omega (arith, total_swap f xs ys, total_add (f x) (λ y. total (λ z. f z y) xs) ys)

-- what counts at one of sorted numbers counts once
pub sorted_once : (side : Side) (q c : ℕ) (ps : List ℕ) → Sorted side ps → total (λ p. or_zero (eqb p q) c) ps ≤ c
sorted_once side q c [] s = omega arith
sorted_once side q c (p ∷ ps) s = go (eqb p q) refl (sorted_once side q c ps s.1)
  where
    go : (b : Bool) → eqb p q ≡ b → total (λ p. or_zero (eqb p q) c) ps ≤ c → or_zero b c + total (λ p. or_zero (eqb p q) c) ps ≤ c
    go true e i = omega (arith, total_same {f = λ p. or_zero (eqb p q) c} {g = λ p. 0} ps worse, total_none ps)
      where
        worse : (x : ℕ) → Memᴰ x ps → or_zero (eqb x q) c ≡ 0
        worse x m =
            let b = every_member (λ y. is_better side p y ≡ true) ps s.0 x m in
            rw (ne_eqb x q (λ f. better_apart side p x b (eqb-true p q e ∙ sym f)))
    go false e i = omega arith

-- a number stands among those of the paragraphs at most once
paragraph_once : (n c : ℕ) → total (λ g. or_zero (eqb (paragraph_number g) n) c) paragraphs ≤ c
paragraph_once n c = sorted_once Buy n c (2 ∷ 3 ∷ 4 ∷ 5 ∷ 6 ∷ []) ((refl, (refl, (refl, (refl, tt)))), ((refl, (refl, (refl, tt))), ((refl, (refl, tt)), ((refl, tt), (tt, tt)))))

-- where numbers rise, those behind an order are above its own
later_above : (m : ℕ) (o : Order) (os : List Order) → rising m (o ∷ os) ≡ true → (x : Order) → Memᴰ x os → o.number < x.number
later_above m o os r =
    every_member (λ y. o.number < y.number) os (orders_above o.number os (and_true (ltb m o.number) (rising o.number os) r).1)

-- so a number stands among those of a book's orders at most once
number_once : (m : ℕ) (os : List Order) → rising m os ≡ true → (n c : ℕ) → total (λ o. or_zero (eqb o.number n) c) os ≤ c
number_once m [] r n c = omega arith
number_once m (o ∷ os) r n c = go (eqb o.number n) refl (number_once o.number os (and_true (ltb m o.number) (rising o.number os) r).1 n c)
  where
    go : (b : Bool) → eqb o.number n ≡ b → total (λ o. or_zero (eqb o.number n) c) os ≤ c
        → or_zero b c + total (λ o. or_zero (eqb o.number n) c) os ≤ c
    go true e i = omega (arith, total_same {f = λ o. or_zero (eqb o.number n) c} {g = λ o. 0} os later, total_none os)
      where
        later : (x : Order) → Memᴰ x os → or_zero (eqb x.number n) c ≡ 0
        later x k = rw (ne_eqb x.number n (λ f. omega (arith, eqb-true o.number n e, later_above m o os r x k)))
    go false e i = omega arith

-- and orders of one number are one
pub number_alone : (m : ℕ) (os : List Order) → rising m os ≡ true → (a b : Order) → Memᴰ a os → Memᴰ b os → a.number ≡ b.number → a ≡ b
number_alone m [] r a b x4 _ e = elim x4 [ ]
number_alone m (o ∷ os) r a b (Memᴰ.head h) (Memᴰ.head k) e = h ∙ sym k
number_alone m (o ∷ os) r a b (Memᴰ.head h) (Memᴰ.tail k) e =
    absurd (omega (arith, later_above m o os r b k, ap (λ (y : Order). y.number) h))
number_alone m (o ∷ os) r a b (Memᴰ.tail h) (Memᴰ.head k) e =
    absurd (omega (arith, later_above m o os r a h, ap (λ (y : Order). y.number) k))
number_alone m (o ∷ os) r a b (Memᴰ.tail h) (Memᴰ.tail k) e =
    number_alone o.number os (and_true (ltb m o.number) (rising o.number os) r).1 a b h k e

-- the paragraphs whose groups an order is in are no more than its parts
module _ (lot : ℕ) (alg : Algorithm) (o : Order) where
  pub part_once : (v : Visibility) (c : ℕ) → total (λ g. or_zero (part_in lot alg o v g) c) paragraphs ≤ or_zero (ltb 0 (shares_of v (interest_of o))) c
  part_once v c = go (ltb 0 n) refl
    where
      n : ℕ
      n = shares_of v (interest_of o)

      at : Paragraph → Paragraph → Bool
      at x g = eqb (paragraph_number g) (paragraph_number x)

      go : (b : Bool) → ltb 0 n ≡ b → total (λ g. or_zero (part_in lot alg o v g) c) paragraphs ≤ or_zero b c
      go true e =
          let one = standing_one lot alg v (is_minimum_quantity o.kind) n (ltb-true 0 n e) in
          omega (
            arith,
            paragraph_once (paragraph_number one.place) c,
            count_le c (part_in lot alg o v) (at one.place) paragraphs (λ g m f. one.outside g (ap not f)),
          )
      go false e =
          omega (
            arith,
            count_none c (part_in lot alg o v) paragraphs
                (λ g m. and_false (same_visibility v (group_of lot alg g).visibility) (false_and ((group_of lot alg g).holds (is_minimum_quantity o.kind) n) e)),
          )

  in_one : (g : Paragraph) → or_zero (in_group (group_of lot alg g) o) 1 ≤ or_zero (part_in lot alg o shown g) 1 + or_zero (part_in lot alg o hidden g) 1
  in_one g = rw (← (in_part lot alg o g)) (go (group_of lot alg g).visibility)
    where
      go : (v : Visibility) → or_zero (part_in lot alg o v g) 1 ≤ or_zero (part_in lot alg o shown g) 1 + or_zero (part_in lot alg o hidden g) 1
      go shown = omega arith
      go hidden = omega arith

  groups_parts : how_many (λ g. in_group (group_of lot alg g) o) paragraphs ≤ parts_of o
  groups_parts =
      omega (
        arith,
        total_le {g = λ g. or_zero (part_in lot alg o shown g) 1 + or_zero (part_in lot alg o hidden g) 1} paragraphs (λ g m. in_one g),
        total_add (λ g. or_zero (part_in lot alg o shown g) 1) (λ g. or_zero (part_in lot alg o hidden g) 1) paragraphs,
        part_once shown 1,
        part_once hidden 1,
      )

-- an order has two parts at most, and one where it isn't a reserve order
two_parts : (o : Order) → parts_of o ≤ 2
two_parts o = omega (arith, pick_least (ltb 0 (interest_of o).displayed) 1, pick_least (ltb 0 (interest_of o).non_displayed) 1)

one_part : (os : List Order) → without_reserve os ≡ true → (o : Order) → Memᴰ o os → parts_of o ≤ 1
one_part os h o m = go o.kind (not-true (is_reserve o.kind) (all_member (λ o. not (is_reserve o.kind)) os h o m))
  where
    go : (k : Kind) → is_reserve k ≡ false → or_zero (ltb 0 (interest_by k (size_of o)).displayed) 1 + or_zero (ltb 0 (interest_by k (size_of o)).non_displayed) 1 ≤ 1
    go Displayed e = omega (arith, pick_least (ltb 0 (size_of o)) 1)
    go NonDisplayed e = omega (arith, pick_least (ltb 0 (size_of o)) 1)
    go (MinimumQuantity m) e = omega (arith, pick_least (ltb 0 (size_of o)) 1)
    go (Reserve h r) e = absurd (true≢false e)

-- The executions whose order's number and paragraph pass a test.
module _ (w : ℕ → ℕ → Bool) where
  abbrev picks : Execution → Bool
  picks e = w e.number e.paragraph

  -- orders that are each given a number of shares make one execution for each number above 0
  executions_count : (g price : ℕ) (part : Order → Part) (f : Part → ℕ) (os : List Order)
      → how_many picks (executions_by g price os (map f (map part os))) ≡ how_many (λ o. w o.number g && ltb 0 (f (part o))) os
  executions_count g price part f [] = refl
  executions_count g price part f (o ∷ os) = go (w o.number g) refl (ltb 0 (f (part o))) (executions_count g price part f os)
    where
      go : (a : Bool) → w o.number g ≡ a → (b : Bool)
          → how_many picks (executions_by g price os (map f (map part os))) ≡ how_many (λ o. w o.number g && ltb 0 (f (part o))) os
          → how_many picks (cons_if b (record { number = o.number; price = record { 0 = price }; shares = record { 0 = f (part o) }; paragraph = g })
          (executions_by g price os (map f (map part os))))
          ≡ or_zero (a && b) 1 + how_many (λ o. w o.number g && ltb 0 (f (part o))) os
      go true e true i = rw (e, i)
      go true e false i = omega arith
      go false e true i = rw (e, i)
      go false e false i = omega arith

  module _ (lot : ℕ) (alg : Algorithm) where
    -- the paragraphs that pass it in whose groups an order is
    abbrev groups_of : Order → ℕ
    groups_of o = how_many (λ g. w o.number (paragraph_number g) && in_group (group_of lot alg g) o) paragraphs

    module _ (t : Taker) (os : List Order) (rise : rising 0 os ≡ true) where
      -- the executions of an allocation that pass it
      abbrev made : Allocation → ℕ
      made a = how_many picks (executions_by (paragraph_number a.paragraph) a.price os a.allotment)

      -- an order stands in a paragraph that passes it, at a price
      abbrev stands_at : ℕ → Paragraph → Order → Bool
      stands_at price g o = w o.number (paragraph_number g) && stands t price (group_of lot alg g) o

      -- an allocation makes no more than orders stand there
      row_most : (price : ℕ) (g : Paragraph) (left : ℕ) → made (allocation_at lot alg t os price g left) ≤ how_many (stands_at price g) os
      unfolding allocation_at
      row_most price g left =
          rw (allotted lot alg t os price g left, executions_count)
          (count_le 1 (λ o. w o.number (paragraph_number g) && ltb 0 (share (part o))) (stands_at price g) os
          (λ o m. go o m (w o.number (paragraph_number g))))
        where
          part : Order → Part
          part = part_of t price (group_of lot alg g)

          share : Part → ℕ
          share = allot_share lot alg g left (parts_at lot alg t os price g)

          go : (o : Order) → Memᴰ o os → (a : Bool) → (a && stands t price (group_of lot alg g) o) ≡ false → (a && ltb 0 (share (part o))) ≡ false
          go o m true e = share_none lot alg t os rise price g left o m e
          go o m false e = refl

      -- at its own price an order stands in the paragraphs in whose groups it is, and at another in none
      one_price : (o : Order) (price : ℕ) → how_many (λ g. stands_at price g o) paragraphs ≤ or_zero (eqb price (price_of o)) (groups_of o)
      one_price o price = go (eqb price (price_of o)) refl
        where
          in_any : (a b c : Bool) → (a && c) ≡ false → (a && (b && c)) ≡ false
          in_any true b c e = and_false b e
          in_any false b c e = refl

          go : (b : Bool) → eqb price (price_of o) ≡ b → how_many (λ g. stands_at price g o) paragraphs ≤ or_zero b (groups_of o)
          go true e =
              count_le 1 (λ g. stands_at price g o) (λ g. w o.number (paragraph_number g) && in_group (group_of lot alg g) o) paragraphs
              (λ g m f. in_any (w o.number (paragraph_number g)) (is_opposite_of t o && eqb (price_of o) price) (in_group (group_of lot alg g) o) f)
          go false e =
              omega (
                arith,
                count_none 1 (λ g. stands_at price g o) paragraphs
                    (λ g m. and_false (w o.number (paragraph_number g))
                    (false_and (in_group (group_of lot alg g) o) (and_false (is_opposite_of t o) (ne_eqb (price_of o) price (λ f. eqb-false price (price_of o) e (sym f)))))),
              )

      -- the allocations over sorted prices make no more than there are such paragraphs of all orders
      over_most : (prices : List ℕ) → Sorted t.side prices → (left : ℕ)
          → total made (allocations_over lot alg t os prices left) ≤ total groups_of os
      over_most prices s left =
          omega (
            arith,
            most_over lot alg t os made (λ price g. how_many (stands_at price g) os) row_most prices left,
            total_same {f = λ price. total (λ g. how_many (stands_at price g) os) paragraphs} prices
                (λ price m. total_swap (λ g o. or_zero (stands_at price g o) 1) paragraphs os),
            total_swap (λ price o. how_many (λ g. stands_at price g o) paragraphs) prices os,
            total_le {f = λ o. total (λ price. how_many (λ g. stands_at price g o) paragraphs) prices} {g = groups_of} os one,
          )
        where
          one : (o : Order) → Memᴰ o os → total (λ price. how_many (λ g. stands_at price g o) paragraphs) prices ≤ groups_of o
          one o m =
              omega (
                arith,
                total_le {g = λ price. or_zero (eqb price (price_of o)) (groups_of o)} prices (λ price k. one_price o price),
                sorted_once t.side (price_of o) (groups_of o) prices s,
              )

  -- so does a take
  counted_most : (lot : ℕ) (alg : Algorithm) (i : Incoming) (os : List Order) → rising 0 os ≡ true
      → how_many picks (executions_of os (allocations lot alg i os)) ≤ total (groups_of lot alg) os
  unfolding executions_of allocations
  counted_most lot alg i os rise =
      omega (
        arith,
        total_flat (λ e. or_zero (picks e) 1) (λ a. executions_by (paragraph_number a.paragraph) a.price os a.allotment) (allocations lot alg i os),
        over_most lot alg i.taker os rise (price_levels i.taker os) (levels_sorted i.taker os) i.size.0,
      )

module _ (lot : ℕ) (alg : Algorithm) (i : Incoming) (os : List Order) (rise : rising 0 os ≡ true) where
  abbrev es : List Execution
  es = executions_of os (allocations lot alg i os)

  -- a take makes no more executions than there are parts
  pub executions_parts : length es ≤ total parts_of os
  executions_parts =
      omega (
        arith,
        count_all es,
        counted_most (λ n g. true) lot alg i os rise,
        total_le {f = groups_of (λ n g. true) lot alg} {g = parts_of} os (λ o m. groups_parts lot alg o),
      )

  -- so no more than twice the orders
  pub executions_twice : length es ≤ 2 * length os
  executions_twice =
      omega (arith, executions_parts, count_all os, total_mul (λ o. 1) 2 os, total_le {f = parts_of} {g = λ o. 1 * 2} os (λ o m. omega (arith, two_parts o)))

  -- and no more than the orders where none is a reserve order
  pub executions_most : without_reserve os ≡ true → length es ≤ length os
  executions_most h =
      omega (
        arith,
        executions_parts,
        count_all os,
        total_le {f = parts_of} {g = λ o. 1} os (one_part os h),
      )

  -- one at most has a number and a paragraph
  pub part_alone : (n g : ℕ) → how_many (λ e. eqb e.number n && eqb e.paragraph g) es ≤ 1
  part_alone n g =
      omega (
        arith,
        counted_most (λ m p. eqb m n && eqb p g) lot alg i os rise,
        total_le {f = groups_of (λ m p. eqb m n && eqb p g) lot alg} {g = λ o. or_zero (eqb o.number n) 1} os (λ o m. one o (eqb o.number n)),
        number_once 0 os rise n 1,
      )
    where
      one : (o : Order) (b : Bool) → how_many (λ x. (b && eqb (paragraph_number x) g) && in_group (group_of lot alg x) o) paragraphs ≤ or_zero b 1
      one o true =
          omega (
            arith,
            paragraph_once g 1,
            count_le 1 (λ x. eqb (paragraph_number x) g && in_group (group_of lot alg x) o) (λ x. eqb (paragraph_number x) g) paragraphs
                (λ x m e. false_and (in_group (group_of lot alg x) o) e),
          )
      one o false = omega (arith, total_none paragraphs)

  numbered_parts : (n c : ℕ) → ((o : Order) → Memᴰ o os → o.number ≡ n → parts_of o ≤ c) → how_many (λ e. eqb e.number n) es ≤ c
  numbered_parts n c h =
      omega (
        arith,
        counted_most (λ m p. eqb m n) lot alg i os rise,
        total_le {f = groups_of (λ m p. eqb m n) lot alg} {g = λ o. or_zero (eqb o.number n) c} os (λ o m. one o m (eqb o.number n) refl),
        number_once 0 os rise n c,
      )
    where
      one : (o : Order) → Memᴰ o os → (b : Bool) → eqb o.number n ≡ b
          → how_many (λ x. b && in_group (group_of lot alg x) o) paragraphs ≤ or_zero b c
      one o m true e = omega (arith, groups_parts lot alg o, h o m (eqb-true o.number n e))
      one o m false e = omega (arith, total_none paragraphs)

  -- as many as it has parts have an order's number, and two at most any number
  pub order_parts : (o : Order) → Memᴰ o os → how_many (is_of o) es ≤ parts_of o
  order_parts o m = numbered_parts o.number (parts_of o) (λ x k e. omega (arith, ap parts_of (number_alone 0 os rise x o k m e)))

  pub number_parts : (n : ℕ) → how_many (λ e. eqb e.number n) es ≤ 2
  number_parts n = numbered_parts n 2 (λ o m e. two_parts o)

  -- one at most where none is a reserve order
  pub numbers_alone : without_reserve os ≡ true → (n : ℕ) → how_many (λ e. eqb e.number n) es ≤ 1
  numbers_alone h n = numbered_parts n 1 (λ o m e. one_part os h o m)
