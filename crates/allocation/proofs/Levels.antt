-- The cells of an incoming order's price levels: in rising order, each at a price within the limit, and the group of every part is one of them.
use Prim.Native.Nat.{ℕ, suc, ◌+◌, ◌*◌, ◌≤◌, ◌<◌}
use mathlib.Core.Path.{◌≡◌, refl, subst}
use mathlib.Core.Bool.{Bool, true, false}
use mathlib.Core.List.{List, [], ◌∷◌, ◌++◌, map, Memᴰ}
use native.Mathlib.Omega.{arith}
use lib.Dec.{leb, ltb}
use lib.ListN.{length}
use borrow.Author.Tests.{ltb-true}
use Rattle.units.specs.Lists.{cons_if}
use Rattle.units.proofs.Members.{Every, every_member, every_append}
use Rattle.units.proofs.Tests.{and_true}
use Rattle.orders.specs.declared.order.Side.{Side}
use Rattle.orders.specs.declared.order.Side.TheVariants.{Buy, Sell}
use Rattle.orders.specs.declared.order.Order.{Order}
use Rattle.orders.specs.declared.order.Taker.{Taker}
use Rattle.orders.specs.Order.{Visibility, shown, hidden, shares_of, interest_of, is_minimum_quantity, minimum_of, price_of}
use Rattle.orders.specs.Trading.{is_better, is_opposite_of, within_limit, is_tradable}
use Rattle.record.proofs.Orders.{OrderSound, order_facts}
use Rattle.matching.specs.declared.Algorithm.{Algorithm}
use Rattle.matching.specs.declared.Paragraph.{Paragraph}
use Rattle.matching.specs.declared.Paragraph.TheVariants.{Two, Three, Four, Five, Six}
use Rattle.matching.specs.declared.incoming.Incoming.{Incoming}
use Rattle.matching.specs.Paragraph.{paragraphs}
use Rattle.matching.specs.Numbered.{paragraph_numbered}
use Rattle.matching.specs.Levels.{price_levels}
use Rattle.matching.proofs.Places.{number_back}
use Rattle.matching.proofs.Levels.{Sorted, levels_sorted, levels_have, levels_only}
use Rattle.parts.specs.Key.{group_in}
use Rattle.parts.specs.Parts.{rank_on, paragraph_for, part_key, may_meet, offers, keys_of, keys_from}
use Rattle.parts.proofs.Paragraphs.{for_numbered}
use Rattle.allocation.proofs.Cells.{cell, number_below, part_group}
use Rattle.allocation.proofs.Along.{Cell, cells_at, cells_over, number_of, Ascends, Fine}

-- a better price has a lower rank
rank_better : (side : Side) (p q : ℕ) → p ≤ 2000000000 → is_better side p q ≡ true → rank_on side p < rank_on side q
rank_better Buy p q h b = ltb-true p q b
rank_better Sell p q h b = omega (arith, ltb-true q p b)

-- what holds of every cell of a price
every_cell : (P : Cell → Type 0) (price : ℕ) → ((g : Paragraph) → P (price, g)) → (gs : List Paragraph) → Every P (cells_at price gs)
every_cell P price h [] = tt
every_cell P price h (g ∷ gs) = (h g, every_cell P price h gs)

every_over : (P : Cell → Type 0) (Q : ℕ → Type 0) → ((price : ℕ) (g : Paragraph) → Q price → P (price, g)) → (prices : List ℕ) → Every Q prices
    → Every P (cells_over prices)
every_over P Q h [] a = tt
every_over P Q h (p ∷ prices) a =
    every_append P (cells_at p paragraphs) (cells_over prices) (every_cell P p (λ g. h p g a.0) paragraphs) (every_over P Q h prices a.1)

module _ (side : Side) where
  -- one list of cells behind another
  ascends_append : (cs ds : List Cell) → Ascends side cs → Ascends side ds → Every (λ c. Every (λ d. number_of side c < number_of side d) ds) cs
      → Ascends side (cs ++ ds)
  ascends_append [] ds a b e = b
  ascends_append (c ∷ cs) ds a b e = (every_append (λ d. number_of side c < number_of side d) cs ds a.0 e.0, ascends_append cs ds a.1 b e.1)

  -- the paragraphs of a price are in their order
  ascends_at : (price : ℕ) → Ascends side (cells_at price paragraphs)
  ascends_at price = (
    (omega arith, (omega arith, (omega arith, (omega arith, tt)))),
    ((omega arith, (omega arith, (omega arith, tt))), ((omega arith, (omega arith, tt)), ((omega arith, tt), (tt, tt)))),
  )

  -- so are those of prices best first
  ascends_over : (prices : List ℕ) → Every (λ p. p ≤ 2000000000) prices → Sorted side prices → Ascends side (cells_over prices)
  ascends_over [] h s = tt
  ascends_over (p ∷ prices) h s =
      ascends_append (cells_at p paragraphs) (cells_over prices) (ascends_at p) (ascends_over prices h.1 s.1)
      (every_cell (λ c. Every (λ d. number_of side c < number_of side d) (cells_over prices)) p
      (λ g. every_over (λ d. number_of side (p, g) < number_of side d) (λ q. is_better side p q ≡ true)
      (λ q x b. omega (arith, rank_better side p q h.0 b, number_below g)) prices s.0) paragraphs)

  -- the number of a paragraph's group at one of the prices
  cell_member : (prices : List ℕ) (p : ℕ) → Memᴰ p prices → (g : Paragraph) → Memᴰ (cell side p g) (map (number_of side) (cells_over prices))
  cell_member [] p x' g = elim x' [ ]
  cell_member (q ∷ prices) p (Memᴰ.head e) g = rw e (go g)
    where
      go : (g : Paragraph) → Memᴰ (cell side q g) (map (number_of side) (cells_over (q ∷ prices)))
      go Two = Memᴰ.head refl
      go Three = Memᴰ.tail (Memᴰ.head refl)
      go Four = Memᴰ.tail (Memᴰ.tail (Memᴰ.head refl))
      go Five = Memᴰ.tail (Memᴰ.tail (Memᴰ.tail (Memᴰ.head refl)))
      go Six = Memᴰ.tail (Memᴰ.tail (Memᴰ.tail (Memᴰ.tail (Memᴰ.head refl))))
  cell_member (q ∷ prices) p (Memᴰ.tail m) g =
      Memᴰ.tail (Memᴰ.tail (Memᴰ.tail (Memᴰ.tail (Memᴰ.tail (cell_member prices p m g)))))

module _ (lot : ℕ) (alg : Algorithm) (i : Incoming) (os : List Order) (s : Every OrderSound os) where
  abbrev t : Taker
  t = i.taker

  -- the cells of its price levels
  abbrev pub cells : List Cell
  cells = cells_over (price_levels t os)

  most : Every (λ p. p ≤ 2000000000) (price_levels t os)
  most = levels_only t os (λ p. p ≤ 2000000000) (λ o m e. (order_facts o (every_member OrderSound os s o m)).price_most)

  pub cells_fine : Every (Fine t) cells
  cells_fine =
      every_over (Fine t) (λ p. (p ≤ 2000000000) × (within_limit t.side t.limit.0 p ≡ true)) (λ p g h. h) (price_levels t os)
      (levels_only t os (λ p. (p ≤ 2000000000) × (within_limit t.side t.limit.0 p ≡ true))
      (λ o m e. ((order_facts o (every_member OrderSound os s o m)).price_most, (and_true (is_opposite_of t o) (within_limit t.side t.limit.0 (price_of o)) e).1)))

  pub cells_ascend : Ascends t.side cells
  cells_ascend = ascends_over t.side (price_levels t os) most (levels_sorted t os)

  -- the group of every part is one of them
  within_from : (p : ℕ) (xs : List Order) → ((o : Order) → Memᴰ o xs → Memᴰ o os) → Every OrderSound xs → p + length xs ≤ 512
      → Every (λ k. Memᴰ (group_in k) (map (number_of t.side) cells)) (keys_from lot alg i p xs)
  unfolding keys_from keys_of
  within_from p [] m f h = tt
  within_from p (o ∷ xs) m f h =
      one shown (cons_if (offers i hidden o) (key hidden) later) (one hidden later (within_from (suc p) xs (λ x n. m x (Memᴰ.tail n)) f.1 (omega arith)))
    where
      later : List ℕ
      later = keys_from lot alg i (suc p) xs

      Within : ℕ → Type 0
      Within k = Memᴰ (group_in k) (map (number_of t.side) cells)

      key : Visibility → ℕ
      key v = part_key lot alg t.side v p o

      one : (v : Visibility) (ks : List ℕ) → Every Within ks → Every Within (cons_if (offers i v o) (key v) ks)
      one v ks r = go (offers i v o) refl
        where
          go : (b : Bool) → offers i v o ≡ b → Every Within (cons_if b (key v) ks)
          go true e =
              let a = and_true (is_tradable t o) (leb (minimum_of o.kind) i.size.0) (and_true (may_meet i o) (ltb 0 (shares_of v (interest_of o))) e).0 in
              let n = levels_have t os o (m o (Memᴰ.head refl)) a.0 in
              let j = paragraph_for lot alg v (is_minimum_quantity o.kind) (shares_of v (interest_of o)) in (
                rw (part_group lot alg t.side v p (omega arith) o (order_facts o f.0))
                    (subst (λ (j : ℕ). Memᴰ (8 * rank_on t.side (price_of o) + j) (map (number_of t.side) cells))
                    (number_back j (for_numbered lot alg v (is_minimum_quantity o.kind) (shares_of v (interest_of o))))
                    (cell_member t.side (price_levels t os) (price_of o) n (paragraph_numbered j))),
                r,
              )
          go false e = r

  pub keys_within : length os ≤ 256 → Every (λ k. Memᴰ (group_in k) (map (number_of t.side) cells)) (keys_from lot alg i 0 os)
  keys_within few = within_from 0 os (λ o m. m) s (omega arith)
