-- Where shares are left over, every order at a price that was reached is filled, or lost nothing and has a minimum above them: read off the
-- allocations, for each visibility of its shares.
use Prim.Native.Nat.{ℕ, ◌+◌, ◌-◌, ◌≤◌, ◌<◌}
use mathlib.Core.Path.{◌≡◌, refl, sym, ap, ◌∙◌}
use mathlib.Core.Logic.{inl, inr}
use mathlib.Core.Bool.{Bool, true, false, ◌&&◌}
use mathlib.Core.List.Memᴰ
use mathlib.Core.List.{List, [], ◌∷◌, Memᴰ}
use native.Mathlib.Omega.{arith}
use native.Mathlib.Nat.{zero-add, add-zero}
use lib.Dec.{ltb, eqb}
use borrow.Author.Tests.{eq-eqb, ne_eqb}
use Rattle.units.specs.Lists.{total}
use Rattle.units.proofs.Tests.{and_true, false_and, and_false}
use Rattle.units.proofs.Totals.{total_append}
use Rattle.units.proofs.Members.{Every, every_member, every_weaken}
use Rattle.sharing.specs.Rank.{Part, part_size}
use Rattle.sharing.proofs.Filled.{Met, met_down, Filled}
use Rattle.orders.specs.declared.order.Order.{Order}
use Rattle.orders.specs.declared.order.Taker.{Taker}
use Rattle.orders.specs.Order.{Visibility, shares_of, only_of, interest_of, is_minimum_quantity, price_of}
use Rattle.orders.specs.Trading.{is_opposite_of, is_better}
use Rattle.book.specs.Sound.{rising}
use Rattle.matching.specs.declared.Algorithm.{Algorithm}
use Rattle.matching.specs.declared.Paragraph.{Paragraph}
use Rattle.matching.specs.Paragraph.{paragraphs, group_of, part_of}
use Rattle.matching.specs.Take.{Allocation, used, allocation_at, allocations_at, allocations_over}
use Rattle.matching.specs.Reserve.{same_visibility}
use Rattle.matching.proofs.Levels.{Sorted, better_apart}
use Rattle.matching.proofs.Entries.{share_in, pick}
use Rattle.matching.proofs.Parts.{whole_part, part_in_lem, part_out, parts_at}
use Rattle.matching.proofs.Places.{same_visibility_lem, own_shares, other_shares, standing_one, part_in, other, Once, paragraphs_once}

-- what orders lose in allocations
module _ (os : List Order) (v : Visibility) (o : Order) where
  -- the shares of one visibility that an order loses in an allocation
  abbrev pub lost : Allocation → ℕ
  lost a = shares_of v (only_of a.visibility (share_in o.number os a.allotment))

-- arithmetic of shares left after two steps
sum_le : (l x y : ℕ) → x ≤ l → y ≤ l - x → x + y ≤ l
sum_le l x y h k = omega arith

-- a part that is met in one of two steps, and has nothing in the other
met_first : (l x y : ℕ) {p : Part} (n k : ℕ) → k ≡ 0 → Met (l - x) p n → Met (l - (x + y)) p (n + k)
met_first l x y n k e m = let h : l - (x + y) ≤ l - x = omega arith in rw (e, add-zero) (met_down h m)

met_second : (l x y : ℕ) {p : Part} (k n : ℕ) → k ≡ 0 → Met (l - x - y) p n → Met (l - (x + y)) p (k + n)
met_second l x y k n e m = let h : l - (x + y) ≤ l - x - y = omega arith in rw (e, zero-add) (met_down h m)

module _ (lot : ℕ) (alg : Algorithm) (t : Taker) (os : List Order) (rise : rising 0 os ≡ true)
    (filled : (price : ℕ) (g : Paragraph) (left : ℕ) → Filled left (parts_at lot alg t os price g) (allocation_at lot alg t os price g left).allotment)
  where
    abbrev row : ℕ → Paragraph → ℕ → Allocation
    row price g l = allocation_at lot alg t os price g l

    abbrev level : ℕ → List Paragraph → ℕ → List Allocation
    level price gs l = allocations_at lot alg t os price gs l

    -- no paragraph, price or take uses more than the shares left
    row_within : (price : ℕ) (g : Paragraph) (l : ℕ) → used (row price g l) ≤ l
    row_within price g l = (filled price g l).within

    level_within : (price : ℕ) (gs : List Paragraph) (l : ℕ) → total used (level price gs l) ≤ l
    unfolding allocations_at
    level_within price [] l = omega arith
    level_within price (g ∷ gs) l = sum_le l _ _ (row_within price g l) (level_within price gs (l - used (row price g l)))

    pub all_within : (prices : List ℕ) (l : ℕ) → total used (allocations_over lot alg t os prices l) ≤ l
    unfolding allocations_over
    all_within [] l = omega arith
    all_within (p ∷ ps) l =
        let here = level p paragraphs l in
        let e = total_append used here (allocations_over lot alg t os ps (l - total used here)) in
        rw e (sum_le l _ _ (level_within p paragraphs l) (all_within ps (l - total used here)))

    module _ (v : Visibility) (o : Order) (i : Memᴰ o os) where
      -- the order's shares of this visibility stand in a paragraph at a price
      abbrev stands_at : ℕ → Paragraph → Bool
      stands_at price g =
          is_opposite_of t o && eqb (price_of o) price && part_in lot alg o v g

      -- with the group's visibility, that is the group's own test
      same_test : (w : Visibility) (holds : ℕ → Bool) (b : Bool) → same_visibility v w ≡ true
          → (b && (same_visibility v w && holds (shares_of v (interest_of o)))) ≡ (b && holds (shares_of w (interest_of o)))
      same_test w holds b e = rw (e, same_visibility_lem v w e)

      abbrev entry : ℕ → Paragraph → ℕ → ℕ
      entry price g l = share_in o.number os (row price g l).allotment

      row_lost : (price : ℕ) (g : Paragraph) (l : ℕ) → lost os v o (row price g l) ≡ shares_of v (only_of (group_of lot alg g).visibility (entry price g l))
      unfolding allocation_at
      row_lost price g l = refl

      -- where they don't, they lose nothing
      row_out : (price : ℕ) (g : Paragraph) (l : ℕ) → stands_at price g ≡ false → lost os v o (row price g l) ≡ 0
      row_out price g l e = row_lost price g l ∙ go (same_visibility v w) refl
        where
          w : Visibility
          w = (group_of lot alg g).visibility

          none : same_visibility v w ≡ true → entry price g l ≡ 0
          none s =
              let a = pick (λ p k. k ≤ p.size) (part_of t price (group_of lot alg g)) 0 os rise (row price g l).allotment (filled price g l).fits o i in
              let b = sym (same_test w (λ n. ltb 0 n && (group_of lot alg g).holds (is_minimum_quantity o.kind) n) (is_opposite_of t o && eqb (price_of o) price) s) ∙ e in
              omega (arith, a, ap part_size (part_out t price (group_of lot alg g) o b))

          go : (b : Bool) → same_visibility v w ≡ b → shares_of v (only_of w (entry price g l)) ≡ 0
          go true s = rw (same_visibility_lem v w s) (own_shares w (entry price g l) ∙ none s)
          go false s = other_shares v w (entry price g l) s

      -- where they do, they are filled, or their minimum is above the shares that remain
      row_met : (price : ℕ) (g : Paragraph) (l : ℕ) → stands_at price g ≡ true → used (row price g l) < l
          → Met (l - used (row price g l)) (whole_part v o) (lost os v o (row price g l))
      row_met price g l e h =
          let w = (group_of lot alg g).visibility in
          let n = shares_of v (interest_of o) in
          let a = and_true (is_opposite_of t o && eqb (price_of o) price) (part_in lot alg o v g) e in
          let s = (and_true (same_visibility v w) (ltb 0 n && (group_of lot alg g).holds (is_minimum_quantity o.kind) n) a.1).0 in
          let b = sym (same_test w (λ n. ltb 0 n && (group_of lot alg g).holds (is_minimum_quantity o.kind) n) (is_opposite_of t o && eqb (price_of o) price) s) ∙ e in
          let k = pick (λ p n. Met (l - used (row price g l)) p n) (part_of t price (group_of lot alg g)) 0 os rise (row price g l).allotment ((filled price g l).met h) o i in
          let m : Met (l - used (row price g l)) (whole_part w o) (entry price g l) = rw (part_in_lem t price (group_of lot alg g) o b) at k in
          rw (row_lost price g l, same_visibility_lem v w s, own_shares w (entry price g l)) m

      -- paragraphs in which they don't stand
      rows_out : (price : ℕ) (gs : List Paragraph) → Every (λ g. stands_at price g ≡ false) gs → (l : ℕ) → total (lost os v o) (level price gs l) ≡ 0
      unfolding allocations_at
      rows_out price [] h l = refl
      rows_out price (g ∷ gs) h l = rw (row_out price g l h.0, zero-add) (rows_out price gs h.1 (l - used (row price g l)))

      -- paragraphs of which they stand in one
      rows_met : (price : ℕ) (x : Paragraph) → stands_at price x ≡ true → ((g : Paragraph) → other g x ≡ true → stands_at price g ≡ false)
          → (gs : List Paragraph) → Once x gs → (l : ℕ) → total used (level price gs l) < l
          → Met (l - total used (level price gs l)) (whole_part v o) (total (lost os v o) (level price gs l))
      unfolding allocations_at
      rows_met price x e f [] x3 l k = elim x3 [ ]
      rows_met price x e f (g ∷ gs) (inl (s, h)) l k =
          let r = row price g l in
          let m = row_met price g l (ap (stands_at price) s ∙ e) (omega arith) in
          met_first l (used r) (total used (level price gs (l - used r))) (lost os v o r) (total (lost os v o) (level price gs (l - used r)))
          (rows_out price gs (every_weaken {P = λ y. other y x ≡ true} {Q = λ y. stands_at price y ≡ false} f gs h) (l - used r)) m
      rows_met price x e f (g ∷ gs) (inr (n, h)) l k =
          let r = row price g l in
          met_second l (used r) (total used (level price gs (l - used r))) (lost os v o r) (total (lost os v o) (level price gs (l - used r)))
          (row_out price g l (f g n)) (rows_met price x e f gs h (l - used r) (omega arith))

      -- at another price they stand nowhere
      far : (price : ℕ) → ¬ (price_of o ≡ price) → (gs : List Paragraph) → Every (λ g. stands_at price g ≡ false) gs
      far price n [] = tt
      far price n (g ∷ gs) =
          let a : is_opposite_of t o && eqb (price_of o) price ≡ false = and_false (is_opposite_of t o) (ne_eqb (price_of o) price n) in
          (false_and (part_in lot alg o v g) a, far price n gs)

      levels_out : (prices : List ℕ) → Every (λ p. ¬ (price_of o ≡ p)) prices → (l : ℕ) → total (lost os v o) (allocations_over lot alg t os prices l) ≡ 0
      unfolding allocations_over
      levels_out [] h l = refl
      levels_out (p ∷ ps) h l =
          let here = level p paragraphs l in
          let a = total_append (lost os v o) here (allocations_over lot alg t os ps (l - total used here)) in
          let b = rows_out p paragraphs (far p h.0 paragraphs) l in
          let c = levels_out ps h.1 (l - total used here) in
          omega arith

      -- at its own price a resting order of the other side stands in one paragraph
      level_met : is_opposite_of t o ≡ true → 0 < shares_of v (interest_of o) → (l : ℕ) → total used (level (price_of o) paragraphs l) < l
          → Met (l - total used (level (price_of o) paragraphs l)) (whole_part v o) (total (lost os v o) (level (price_of o) paragraphs l))
      level_met e p l h =
          let one = standing_one lot alg v (is_minimum_quantity o.kind) (shares_of v (interest_of o)) p in
          rows_met (price_of o) one.place (own one.place ∙ one.inside) (λ g n. own g ∙ one.outside g n) paragraphs (paragraphs_once one.place) l h
        where
          own : (g : Paragraph) → stands_at (price_of o) g ≡ part_in lot alg o v g
          own g = rw (e, eq-eqb (price_of o) (price_of o) refl)

      -- where shares are left over, the order's shares of this visibility are all lost, or none and its minimum is above what is left
      pub all_met : is_opposite_of t o ≡ true → 0 < shares_of v (interest_of o) → (prices : List ℕ) → Sorted t.side prices → Memᴰ (price_of o) prices → (l : ℕ)
          → total used (allocations_over lot alg t os prices l) < l
          → Met (l - total used (allocations_over lot alg t os prices l)) (whole_part v o) (total (lost os v o) (allocations_over lot alg t os prices l))
      unfolding allocations_over
      all_met e d [] s m l h = absurd (Memᴰ.not-nil m)
      all_met e d (p ∷ ps) s (Memᴰ.head k) l h =
          let here = level p paragraphs l in
          let rest = allocations_over lot alg t os ps (l - total used here) in
          let a = total_append used here rest in
          let c = level_met e d l in
          let x : total used here < l → Met (l - total used here) (whole_part v o) (total (lost os v o) here) = rw k at c in
          rw (a, total_append (lost os v o) here rest)
          (met_first l (total used here) (total used rest) (total (lost os v o) here) (total (lost os v o) rest)
          (levels_out ps
          (every_weaken {P = λ q. is_better t.side p q ≡ true} {Q = λ q. ¬ (price_of o ≡ q)} (λ q b f. better_apart t.side p q b (sym k ∙ f)) ps s.0)
          (l - total used here))
          (x (omega arith)))
      all_met e d (p ∷ ps) s (Memᴰ.tail k) l h =
          let here = level p paragraphs l in
          let rest = allocations_over lot alg t os ps (l - total used here) in
          let a = total_append used here rest in
          let b = every_member (λ q. is_better t.side p q ≡ true) ps s.0 (price_of o) k in
          rw (a, total_append (lost os v o) here rest)
          (met_second l (total used here) (total used rest) (total (lost os v o) here) (total (lost os v o) rest)
          (rows_out p paragraphs (far p (λ f. better_apart t.side p (price_of o) b (sym f)) paragraphs) l)
          (all_met e d ps s.1 k (l - total used here) (omega arith)))
