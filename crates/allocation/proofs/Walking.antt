-- What an incoming order's way through the keys gives is what the allocations along all paragraphs of all price levels give.
use Prim.Native.Nat.{ℕ, ◌-◌, ◌≤◌, ◌<◌}
use mathlib.Core.Path.{◌≡◌, refl, sym, ap, ap₂, ◌∙◌, subst}
use mathlib.Core.List.Memᴰ
use mathlib.Core.List.{List, [], ◌∷◌, ◌++◌, map, append-nil, Memᴰ}
use native.Mathlib.Omega.{arith}
use lib.ListN.{length, get_or}
use borrow.Author.Tests.{eq-eqb, ne_eqb}
use Rattle.units.specs.Lists.{filter, sum, total}
use Rattle.units.proofs.Members.{Every, every_member, every_weaken, every_both, every_append, every_split, filter_all, filter_none}
use Rattle.units.proofs.Totals.{total_append, filter_append}
use Rattle.orders.specs.declared.order.Order.{Order}
use Rattle.orders.specs.declared.order.Side.{Side}
use Rattle.orders.specs.Order.{Visibility, shown, hidden, shares_of, no_interest, only_of}
use Rattle.book.proofs.Soundness.{OrdersSound}
use Rattle.matching.specs.declared.Algorithm.{Algorithm}
use Rattle.matching.specs.declared.incoming.Incoming.{Incoming}
use Rattle.matching.specs.Take.{Allocation, used, allocation_at, executions_of}
use Rattle.parts.specs.Key.{group_in}
use Rattle.parts.specs.Parts.{keys_from}
use Rattle.allocation.specs.Walk.{Walks, shared_by, executions_from, got_at}
use Rattle.allocation.proofs.Cells.{of_group, Beside}
use Rattle.allocation.proofs.Groups.{Allots, cell_allots}
use Rattle.allocation.proofs.Losses.{loss_at, shares_both}
use Rattle.allocation.proofs.Along.{Cell, number_of, Ascends, Fine, along}
use Rattle.allocation.proofs.Gets.{executions_append, got_append, got_within, executions_none, sum_none}

-- Allocations beside the orders of a book, and numbers beside keys, give the same.
pub record Agree (alg : Algorithm) (at : ℕ → Order) (os : List Order) (rows : List Allocation) (keys gets : List ℕ) : Type 0 where
  pub executes : executions_of os rows ≡ executions_from at keys gets
  pub uses : total used rows ≡ sum gets
  pub gives : (v : Visibility) (j : ℕ) → j < length os → shares_of v (loss_at rows j) ≡ got_at alg v j keys gets

module _ (alg : Algorithm) (at : ℕ → Order) (os : List Order) where
  agree_none : Agree alg at os [] [] []
  unfolding executions_of
  agree_none = record { executes = refl; uses = refl; gives = λ v j h. nothing v }
    where
      nothing : (v : Visibility) → shares_of v no_interest ≡ 0
      nothing shown = refl
      nothing hidden = refl

  -- one more, whose parts stand before the others
  agree_more : {row : Allocation} {rows : List Allocation} (keys later gets more : List ℕ) {left : ℕ} → Allots alg at os keys gets left row
      → Agree alg at os rows later more → Agree alg at os (row ∷ rows) (keys ++ later) (gets ++ more)
  unfolding executions_of
  agree_more {row} {rows} keys later gets more a r = record {
    executes =
        ap₂ ◌++◌ a.executes r.executes ∙ sym (executions_append at keys later gets more a.many);
    uses = omega (arith, a.uses, r.uses, total_append (λ n. n) gets more);
    gives = λ v j h. omega (arith, shares_both v (only_of row.visibility (get_or row.allotment j 0)) (loss_at rows j), a.gives v j h, r.gives v j h, got_append alg v j keys later gets more a.many);
  }

  -- keys that get nothing may be put beside those of allocations that use up nothing
  agree_zeros : {rows : List Allocation} → Agree alg at os rows [] [] → (keys : List ℕ) → Agree alg at os rows keys (map (λ k. 0) keys)
  agree_zeros r keys =
      let z = sum_none keys in
      record {
        executes = r.executes ∙ sym (executions_none at keys (map (λ k. 0) keys) z);
        uses = r.uses ∙ sym z;
        gives = λ v j h. omega (arith, r.gives v j h, got_within alg v j keys (map (λ k. 0) keys));
      }

  -- an allocation of nothing
  allots_none : {row : Allocation} (keys gets : List ℕ) {left : ℕ} → Allots alg at os keys gets left row → sum gets ≡ 0 → Allots alg at os [] [] left row
  allots_none keys gets a z = record {
    executes = a.executes ∙ executions_none at keys gets z;
    uses = a.uses ∙ z;
    gives = λ v j h. omega (arith, a.gives v j h, got_within alg v j keys gets);
    many = refl;
    within = a.within;
  }

module _ (lot : ℕ) (has_lot : 0 < lot) (alg : Algorithm) (i : Incoming) (at : ℕ → Order) (os : List Order)
    (s : OrdersSound os) (few : length os ≤ 256) (b : Beside at 0 os) where
  abbrev side : Side
  side = i.taker.side

  -- the keys of its parts
  abbrev pub keys_of : Cell → List ℕ
  keys_of c = filter (of_group (number_of side c)) (keys_from lot alg i 0 os)

  -- The keys of a cell's parts are all there, or it comes behind them all and they get all that is left.
  pub data Held (c : Cell) (keys gets : List ℕ) (left : ℕ) : Type 0 where
    complete : filter (of_group (number_of side c)) keys ≡ keys_of c → Held c keys gets left
    beyond : Every (λ k. group_in k < number_of side c) keys → sum gets ≡ left → Held c keys gets left

  abbrev row_of : Cell → ℕ → Allocation
  row_of c left = allocation_at lot alg i.taker os c.0 c.1 left

  abbrev rows_of : List Cell → ℕ → List Allocation
  rows_of cs left = along lot alg i.taker os cs left

  allots : (c : Cell) → Fine i.taker c → (left : ℕ) → left ≤ i.size.0 → Allots alg at os (keys_of c) (shared_by at lot alg (number_of side c) (keys_of c) left) left (row_of c left)
  allots c f left l = cell_allots lot has_lot alg i at os s few b c.0 f.0 f.1 c.1 left l

  -- where no shares are left
  pub nothing_left : (cs : List Cell) → Every (Fine i.taker) cs → Agree alg at os (rows_of cs 0) [] []
  unfolding along
  nothing_left [] f = agree_none alg at os
  nothing_left (c ∷ cs) f =
      let a = allots c f.0 0 (omega arith) in
      let z : used (row_of c 0) ≡ 0 = omega (arith, a.within) in
      let n = allots_none alg at os (keys_of c) (shared_by at lot alg (number_of side c) (keys_of c) 0) a (sym a.uses ∙ z) in
      agree_more alg at os [] [] [] [] n (rw z (nothing_left cs f.1))

  -- a cell without keys uses up nothing
  empty : (c : Cell) → Fine i.taker c → (left : ℕ) → left ≤ i.size.0 → keys_of c ≡ [] → Allots alg at os [] [] left (row_of c left)
  empty c f left l e =
      let a = rw e at (allots c f left l) in
      allots_none alg at os [] (shared_by at lot alg (number_of side c) [] left) a (no_numbers (shared_by at lot alg (number_of side c) [] left) a.many)
    where
      no_numbers : (ns : List ℕ) → length ns ≡ 0 → sum ns ≡ 0
      no_numbers [] h = refl
      no_numbers (n ∷ ns) h = absurd (omega arith)

  -- the number of a cell among others, all of them behind one
  behind : (c : Cell) (cs : List Cell) → Every (λ d. number_of side c < number_of side d) cs → (n : ℕ) → Memᴰ n (map (number_of side) cs) → number_of side c < n
  behind c [] a n x'' = elim x'' [ ]
  behind c (d ∷ cs) a n (Memᴰ.head e) = let h = a.0 in omega arith
  behind c (d ∷ cs) a n (Memᴰ.tail m) = behind c cs a.1 n m

  -- one that isn't the first is among the others
  not_first : (c : Cell) (cs : List Cell) {n : ℕ} → number_of side c < n → Memᴰ n (map (number_of side) (c ∷ cs)) → Memᴰ n (map (number_of side) cs)
  not_first c cs h (Memᴰ.head e) = absurd (omega arith)
  not_first c cs h (Memᴰ.tail m) = m

  none_of : (p : ℕ) (keys : List ℕ) → Every (λ k. p < group_in k) keys → filter (of_group p) keys ≡ []
  none_of p keys a = filter_none (of_group p) keys (every_weaken (λ k h. ne_eqb (group_in k) p (λ e. omega arith)) keys a)

  -- the keys of a group that all stand first
  first_group : (p : ℕ) (keys later : List ℕ) → Every (λ k. group_in k ≡ p) keys → Every (λ k. p < group_in k) later
      → filter (of_group p) (keys ++ later) ≡ keys
  first_group p keys later a c =
      filter_append (of_group p) keys later
      ∙ ap₂ ◌++◌ (filter_all (of_group p) keys (every_weaken (λ k e. eq-eqb (group_in k) p e) keys a)) (none_of p later c)
      ∙ append-nil keys

  -- and those of a later group
  later_group : (p q : ℕ) → q < p → (keys later : List ℕ) → Every (λ k. group_in k ≡ q) keys → filter (of_group p) (keys ++ later) ≡ filter (of_group p) later
  later_group p q h keys later a =
      filter_append (of_group p) keys later
      ∙ ap (λ l. l ++ filter (of_group p) later) (filter_none (of_group p) keys (every_weaken (λ k e. ne_eqb (group_in k) p (λ z. omega arith)) keys a))

  -- a later cell's keys are held by those behind a group
  held_later : (d : Cell) (q : ℕ) → q < number_of side d → (keys later gets more : List ℕ) (left : ℕ) → Every (λ k. group_in k ≡ q) keys
      → Held d (keys ++ later) (gets ++ more) left → Held d later more (left - sum gets)
  held_later d q h keys later gets more left a (Held.complete e) = Held.complete (sym (later_group (number_of side d) q h keys later a) ∙ e)
  held_later d q h keys later gets more left a (Held.beyond f e) =
      Held.beyond (every_split (λ k. group_in k < number_of side d) keys later f).1 (omega (arith, total_append (λ n. n) gets more))

  abbrev Within : List Cell → List ℕ → Type 0
  Within cs keys = Every (λ k. Memᴰ (group_in k) (map (number_of side) cs)) keys

  -- The way through the keys gives what the allocations along the cells give.
  abbrev pub Agrees : List Cell → Type 0
  Agrees cs = (keys : List ℕ) (left : ℕ) (gets : List ℕ) → Walks at lot alg keys left gets → left ≤ i.size.0 → Within cs keys
      → ((c : Cell) → Memᴰ c cs → Held c keys gets left) → Agree alg at os (rows_of cs left) keys gets

  -- one cell more
  walk_more : (c : Cell) (cs : List Cell) → Every (Fine i.taker) (c ∷ cs) → Ascends side (c ∷ cs) → Agrees cs → Agrees (c ∷ cs)
  unfolding along
  walk_more c cs f a r _ _ _ (Walks.ended keys) l w h = agree_zeros alg at os (nothing_left (c ∷ cs) f) keys
  walk_more c cs f a r _ _ _ (Walks.none left) l w h = go (h c (Memᴰ.head refl))
    where
      go : Held c [] [] left → Agree alg at os (rows_of (c ∷ cs) left) [] []
      go (Held.complete e) =
          let n = empty c f.0 left l (sym e) in
          let z : left - used (row_of c left) ≡ left = omega (arith, n.uses) in
          agree_more alg at os [] [] [] [] n (rw z (r [] left [] (Walks.none left) l tt (λ d m. h d (Memᴰ.tail m))))
      go (Held.beyond x e) = rw (sym e) (nothing_left (c ∷ cs) f)
  walk_more c cs f a r _ _ _ (Walks.next left key keys later gets e g v) l w h = go w.0 (h c (Memᴰ.head refl))
    where
      all : List ℕ
      all = key ∷ (keys ++ later)

      shared : List ℕ
      shared = shared_by at lot alg (group_in key) (key ∷ keys) left

      among : (ks : List ℕ) → Every (λ k. number_of side c < group_in k) ks → Within (c ∷ cs) ks → Within cs ks
      among ks x y = every_both (λ k. not_first c cs) ks x y

      -- the first cell is the group's
      first : group_in key ≡ number_of side c → keys_of c ≡ key ∷ keys → Agree alg at os (rows_of (c ∷ cs) left) all (shared ++ gets)
      first q d =
          let n : Allots alg at os (key ∷ keys) shared left (row_of c left) = rw (q, sym d) (allots c f.0 left l) in
          let later-all = every_weaken {P = λ k. group_in key < group_in k} {Q = λ k. number_of side c < group_in k} (λ k x. omega arith) later g in
          agree_more alg at os (key ∷ keys) later shared gets n
          (rw n.uses (r later (left - sum shared) gets v (omega arith) (among later later-all (every_split _ keys later w.1).1)
          (λ x m. held_later x (group_in key) (omega (arith, every_member (λ y. number_of side c < number_of side y) cs a.0 x m)) (key ∷ keys) later shared gets left
          (refl, e) (h x (Memᴰ.tail m)))))

      -- it comes before, and has no keys
      before : number_of side c < group_in key → Held c all (shared ++ gets) left → Agree alg at os (rows_of (c ∷ cs) left) all (shared ++ gets)
      before o (Held.beyond x y) = let z = x.0 in absurd (omega arith)
      before o (Held.complete q) =
          let each : Every (λ k. number_of side c < group_in k) all =
          (o, every_append (λ k. number_of side c < group_in k) keys later (every_weaken (λ k x. omega arith) keys e) (every_weaken (λ k x. omega arith) later g)) in
          let n = empty c f.0 left l (sym q ∙ none_of (number_of side c) all each) in
          let z : left - used (row_of c left) ≡ left = omega (arith, n.uses) in
          agree_more alg at os [] all [] (shared ++ gets) n
          (rw z (r all left (shared ++ gets) (Walks.next left key keys later gets e g v) l (among all each w) (λ x m. h x (Memᴰ.tail m))))

      go : Memᴰ (group_in key) (map (number_of side) (c ∷ cs)) → Held c all (shared ++ gets) left → Agree alg at os (rows_of (c ∷ cs) left) all (shared ++ gets)
      go (Memᴰ.tail m) x = before (behind c cs a.0 (group_in key) m) x
      go (Memᴰ.head q) (Held.beyond x y) = let z = x.0 in absurd (omega arith)
      go (Memᴰ.head q) (Held.complete y) =
          first q (sym y ∙ subst (λ (n : ℕ). filter (of_group n) all ≡ key ∷ keys) q (first_group (group_in key) (key ∷ keys) later (refl, e) g))

  pub walk_agrees : (cs : List Cell) → Every (Fine i.taker) cs → Ascends side cs → Agrees cs
  unfolding along
  walk_agrees [] f a _ _ _ (Walks.ended keys) l w h = agree_zeros alg at os (nothing_left [] f) keys
  walk_agrees [] f a _ _ _ (Walks.none left) l w h = agree_none alg at os
  walk_agrees [] f a _ _ _ (Walks.next left key keys later gets e g v) l w h = absurd (Memᴰ.not-nil w.0)
  walk_agrees (c ∷ cs) f a keys left gets v l w h = walk_more c cs f a (walk_agrees cs f.1 a.1) keys left gets v l w h
