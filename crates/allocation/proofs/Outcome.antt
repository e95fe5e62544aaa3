-- The way through the keys that an incoming order needs, in their order, is the definition's: its executions, the shares left, and what each
-- order loses.
use Prim.Native.Nat.{ℕ, ◌+◌, ◌≤◌, ◌<◌}
use mathlib.Core.Path.{◌≡◌, refl, sym, ap, ap₂, ◌∙◌}
use mathlib.Core.Bool.{Bool, true, false, not, ◌&&◌, true≢false}
use mathlib.Core.List.{List, [], ◌∷◌, map, Memᴰ}
use native.Mathlib.Omega.{arith}
use native.Mathlib.Decide.{dec_le}
use lib.Dec.{eqb}
use lib.ListN.{length, get_or}
use borrow.Author.Tests.{eqb-true, eq-eqb}
use Rattle.units.specs.Lists.{filter, cons_if, or_zero, sum, total}
use Rattle.units.proofs.Members.{Every, every_member, every_weaken}
use Rattle.ordering.specs.Sorted.{sorted, Rising}
use Rattle.ordering.proofs.Order.{sorted_every, sorted_perm, rising_sorted}
use Rattle.ordering.proofs.Same.{same_total}
use Rattle.ordering.proofs.Filters.{filter_sorted}
use Rattle.ordering.proofs.Ranks.{rank_stays}
use Rattle.orders.specs.declared.order.Order.{Order}
use Rattle.orders.specs.declared.order.Taker.{Taker}
use Rattle.orders.specs.Order.{Visibility, shown, hidden, interest}
use Rattle.orders.specs.Losses.{losses_in}
use Rattle.book.proofs.Soundness.{OrdersSound}
use Rattle.matching.specs.declared.Algorithm.{Algorithm}
use Rattle.matching.specs.declared.incoming.Incoming.{Incoming}
use Rattle.matching.specs.Levels.{price_levels}
use Rattle.matching.specs.Take.{used, allocations, executions_of, losses_of}
use Rattle.parts.specs.Key.{rank_in, group_in, paragraph_in, shares_in}
use Rattle.parts.specs.Parts.{rank_on, keys_from}
use Rattle.parts.specs.Narrowed.{minimum_paragraph, of_rank, free_shares, Narrowed}
use Rattle.parts.specs.Arranged.{Arranged}
use Rattle.allocation.specs.Walk.{Walks, executions_from, got_at}
use Rattle.allocation.specs.Credit.{seen}
use Rattle.allocation.specs.Ready.{Ready}
use Rattle.allocation.proofs.Rows.{row_rising}
use Rattle.allocation.proofs.Cells.{of_group, number_below, Beside, cell_row}
use Rattle.allocation.proofs.Along.{Cell, number_of, Fine, along, along_over}
use Rattle.allocation.proofs.Walking.{Agree, Held, walk_agrees}
use Rattle.allocation.proofs.Levels.{cells, cells_fine, cells_ascend, keys_within}
use Rattle.allocation.proofs.Arranging.{every_filter, arranged_ready}
use Rattle.allocation.proofs.Enough.{free, walk_enough}
use Rattle.allocation.proofs.Losses.{losses_are}

module _ {A : Type 0} where
  -- those of one test are among those of another
  filter_within : (p q : A → Bool) (xs : List A) → Every (λ x. q x ≡ true → p x ≡ true) xs → filter q (filter p xs) ≡ filter q xs
  filter_within p q [] a = refl
  filter_within p q (x ∷ xs) a = go (p x) refl (q x) refl (filter_within p q xs a.1)
    where
      go : (b : Bool) → p x ≡ b → (c : Bool) → q x ≡ c → filter q (filter p xs) ≡ filter q xs → filter q (cons_if b x (filter p xs)) ≡ cons_if c x (filter q xs)
      go true e c f r = rw (f, r)
      go false e true f r = absurd (true≢false (sym (a.0 f) ∙ e))
      go false e false f r = r

-- the shares without a minimum of a rank are those of the keys that have it
free_filter : (alg : Algorithm) (rank : ℕ) (keys : List ℕ) → total (free_shares alg rank) keys ≡ total (free alg) (filter (of_rank rank) keys)
free_filter alg rank [] = refl
free_filter alg rank (k ∷ keys) = go (of_rank rank k) (free_filter alg rank keys)
  where
    go : (b : Bool) → total (free_shares alg rank) keys ≡ total (free alg) (filter (of_rank rank) keys)
        → or_zero (b && not (eqb (paragraph_in (group_in k)) (minimum_paragraph alg))) (shares_in k) + total (free_shares alg rank) keys
        ≡ total (free alg) (cons_if b k (filter (of_rank rank) keys))
    go true r = ap (λ n. free alg k + n) r
    go false r = omega arith

module _ (lot : ℕ) (has_lot : 0 < lot) (alg : Algorithm) (i : Incoming) (at : ℕ → Order) (os : List Order)
    (s : OrdersSound os) (few : length os ≤ 256) (b : Beside at 0 os) where
  abbrev t : Taker
  t = i.taker

  abbrev size : ℕ
  size = i.size.0

  abbrev all : List ℕ
  all = keys_from lot alg i 0 os

  -- the keys of a cell rise as they stand
  cell_rises : (c : Cell) → Fine t c → Rising 0 (filter (of_group (number_of t.side c)) all)
  cell_rises c f = row_rising alg at c.0 (number_of t.side c) size (cell_row lot alg i at c.0 f.0 f.1 c.1 0 os b s.each (omega arith))

  abbrev HeldIn : Cell → List ℕ → List ℕ → ℕ → Type 0
  HeldIn = Held lot has_lot alg i at os s few b

  -- where all keys are there, so are those of every cell
  held_all : (c : Cell) → Fine t c → (gets : List ℕ) → HeldIn c (sorted all) gets size
  held_all c f gets = Held.complete (rank_stays 536870912 (number_of t.side c) 0 all (cell_rises c f))

  -- where only those of the best price are, later cells come behind them, and they get all the shares
  held_best : (c : Cell) → Fine t c → (gets : List ℕ) (rank : ℕ) → Every (λ k. rank ≤ rank_in k) all → sum gets ≡ size
      → HeldIn c (sorted (filter (of_rank rank) all)) gets size
  held_best c f gets rank low e = go (dec_le (rank_on t.side c.0) rank)
    where
      number : ℕ
      number = number_of t.side c

      go : Dec (rank_on t.side c.0 ≤ rank) → HeldIn c (sorted (filter (of_rank rank) all)) gets size
      go (yes h) =
          let in_rank : Every (λ k. of_group number k ≡ true → of_rank rank k ≡ true) all =
          every_weaken (λ k l x. eq-eqb (rank_in k) rank (omega (arith, eqb-true (group_in k) number x, number_below c.1))) all low in
          Held.complete (
          filter_sorted (of_group number) (filter (of_rank rank) all)
          ∙ ap sorted (filter_within (of_rank rank) (of_group number) all in_rank)
          ∙ rising_sorted 0 (filter (of_group number) all) (cell_rises c f)
          )
      go (no h) =
          Held.beyond (sorted_every (λ k. group_in k < number) (filter (of_rank rank) all) (behind all)) e
        where
          behind : (ks : List ℕ) → Every (λ k. group_in k < number) (filter (of_rank rank) ks)
          behind [] = tt
          behind (k ∷ ks) = last (of_rank rank k) refl (behind ks)
            where
              last : (x : Bool) → of_rank rank k ≡ x → Every (λ q. group_in q < number) (filter (of_rank rank) ks)
                  → Every (λ q. group_in q < number) (cons_if x k (filter (of_rank rank) ks))
              last true y r = (omega (arith, eqb-true (rank_in k) rank y), r)
              last false y r = r

  -- The keys that it needs, in their order, and what they get.
  module _ {keys gets : List ℕ} (a : Arranged lot alg i os keys) (w : Walks at lot alg keys size gets) where
    -- each stands for a part
    ready : Ready at (length os) lot alg t keys
    ready = arranged_ready lot alg i at os b s.each few a

    within : Every (λ k. Memᴰ (group_in k) (map (number_of t.side) (cells lot alg i os s.each))) keys
    within = rw a.in_order (sorted_every Within a.needed (go a.narrowed))
      where
        Within : ℕ → Type 0
        Within k = Memᴰ (group_in k) (map (number_of t.side) (cells lot alg i os s.each))

        go : {ks : List ℕ} → Narrowed alg size all ks → Every Within ks
        go Narrowed.all = keys_within lot alg i os s.each few
        go (Narrowed.best rank l f) = every_filter Within (of_rank rank) all (keys_within lot alg i os s.each few)

    held : (c : Cell) → Memᴰ c (cells lot alg i os s.each) → HeldIn c keys gets size
    held c m = rw a.in_order (go a.narrowed a.in_order)
      where
        fine : Fine t c
        fine = every_member (Fine t) (cells lot alg i os s.each) (cells_fine lot alg i os s.each) c m

        go : {ks : List ℕ} → Narrowed alg size all ks → keys ≡ sorted ks → HeldIn c (sorted ks) gets size
        go Narrowed.all e = held_all c fine gets
        go (Narrowed.best rank l f) e =
            let q = filter (of_rank rank) all in
            let enough : size ≤ total (free alg) keys =
            omega (arith, free_filter alg rank all, ap (total (free alg)) e, same_total (free alg) (sorted_perm q)) in
            held_best c fine gets rank l (walk_enough lot has_lot alg t at os s few b w ready enough)

    agreed : Agree alg at os (along lot alg t os (cells lot alg i os s.each) size) keys gets
    agreed =
        walk_agrees lot has_lot alg i at os s few b (cells lot alg i os s.each) (cells_fine lot alg i os s.each) (cells_ascend lot alg i os s.each)
        keys size gets w (omega arith) within held

    rows : allocations lot alg i os ≡ along lot alg t os (cells lot alg i os s.each) size
    unfolding allocations
    rows = along_over lot alg t os (price_levels t os) size

    -- the executions are those of the parts
    pub walk_executions : executions_of os (allocations lot alg i os) ≡ executions_from at keys gets
    walk_executions = rw rows agreed.executes

    -- as many shares are used up
    pub walk_uses : total used (allocations lot alg i os) ≡ sum gets
    walk_uses = rw rows agreed.uses

    -- and each order loses of each visibility what its parts of it got
    pub walk_losses : (ss hs : List ℕ) → length os ≤ length ss → length os ≤ length hs
        → ((v : Visibility) (j : ℕ) → j < length os → get_or (seen v ss hs) j 0 ≡ got_at alg v j keys gets)
        → losses_of os (allocations lot alg i os) ≡ losses_in (length os) ss hs
    walk_losses ss hs l m e =
        rw rows (losses_are lot alg t os (cells lot alg i os s.each) size ss hs l m
        (λ j h. ap₂ interest (agreed.gives shown j h ∙ sym (e shown j h)) (agreed.gives hidden j h ∙ sym (e hidden j h))))
