-- The keys that an incoming order needs, in their order, stand for parts of the book's orders and ascend.
use Prim.Native.Nat.{ℕ, suc, ◌+◌, ◌≤◌, ◌<◌, min, max}
use mathlib.Core.Path.{◌≡◌, refl, sym, ap, ◌∙◌}
use mathlib.Core.Bool.{Bool, true, false}
use mathlib.Core.List.{List, [], ◌∷◌}
use native.Mathlib.Omega.{arith}
use native.Mathlib.Decide.{dec_le}
use lib.Dec.{leb, ltb}
use borrow.Author.Tests.{ltb-true}
use lib.ListN.{length}
use Rattle.units.specs.Lists.{filter, cons_if}
use Rattle.units.proofs.Members.{Every, every_weaken}
use Rattle.units.proofs.Tests.{and_true}
use Rattle.ordering.specs.Sorted.{insert_key, sorted}
use Rattle.ordering.proofs.Order.{sorted_every}
use Rattle.orders.specs.declared.order.Order.{Order}
use Rattle.orders.specs.Order.{Visibility, shown, hidden, shares_of, interest_of, minimum_of, price_of}
use Rattle.orders.specs.Trading.{is_opposite_of, within_limit, is_tradable}
use Rattle.record.proofs.Orders.{OrderSound, order_facts}
use Rattle.matching.specs.declared.Algorithm.{Algorithm}
use Rattle.matching.specs.declared.incoming.Incoming.{Incoming}
use Rattle.parts.specs.Key.{place_in}
use Rattle.parts.specs.Parts.{part_key, may_meet, offers, keys_of, keys_from}
use Rattle.parts.specs.Visible.{visibility_in}
use Rattle.parts.specs.Narrowed.{of_rank, Narrowed}
use Rattle.parts.specs.Arranged.{Arranged}
use Rattle.allocation.specs.Ready.{Ascending, Stands, Ready}
use Rattle.allocation.proofs.Cells.{Beside, part_place, part_visible}

-- what passes a test is among the others
pub every_filter : {A : Type 0} (P : A → Type 0) (q : A → Bool) (xs : List A) → Every P xs → Every P (filter q xs)
every_filter P q [] a = tt
every_filter P q (x ∷ xs) a = go (q x) (every_filter P q xs a.1)
  where
    go : (b : Bool) → Every P (filter q xs) → Every P (cons_if b x (filter q xs))
    go true r = (a.0, r)
    go false r = r

-- no two keys are the same
abbrev Distinct : List ℕ → Type 0
Distinct [] = Unit {0}
Distinct (k ∷ keys) = Every (λ q. k ≡ q → ⊥) keys × Distinct keys

distinct_filter : (q : ℕ → Bool) (keys : List ℕ) → Distinct keys → Distinct (filter q keys)
distinct_filter q [] d = tt
distinct_filter q (k ∷ keys) d = go (q k) (distinct_filter q keys d.1)
  where
    go : (b : Bool) → Distinct (filter q keys) → Distinct (cons_if b k (filter q keys))
    go true r = (every_filter (λ x. k ≡ x → ⊥) q keys d.0, r)
    go false r = r

-- what holds of a key and of others holds of them with the key put in
insert_every : (P : ℕ → Type 0) (k : ℕ) (keys : List ℕ) → P k → Every P keys → Every P (insert_key k keys)
insert_every P k [] h a = (h, tt)
insert_every P k (q ∷ keys) h a = go (dec_le k q) (λ x y. insert_every P x keys y a.1)
  where
    go : Dec (k ≤ q) → ((x : ℕ) → P x → Every P (insert_key x keys)) → Every P (min k q ∷ insert_key (max k q) keys)
    go (yes l) r =
        let e : min k q ≡ k = omega arith in
        let f : max k q ≡ q = omega arith in
        rw (e, f) (h, r q a.0)
    go (no l) r =
        let e : min k q ≡ q = omega arith in
        let f : max k q ≡ k = omega arith in
        rw (e, f) (a.0, r k h)

-- another key put in among keys that ascend
insert_ascends : (k : ℕ) (keys : List ℕ) → Every (λ q. k ≡ q → ⊥) keys → Ascending keys → Ascending (insert_key k keys)
insert_ascends k [] d a = (tt, tt)
insert_ascends k (q ∷ keys) d a = go (dec_le k q) (λ x e. insert_ascends x keys e a.1)
  where
    go : Dec (k ≤ q) → ((x : ℕ) → Every (λ y. x ≡ y → ⊥) keys → Ascending (insert_key x keys)) → Ascending (min k q ∷ insert_key (max k q) keys)
    go (yes l) r =
        let e : min k q ≡ k = omega arith in
        let f : max k q ≡ q = omega arith in
        let h : k < q = omega (arith, d.0) in
        rw (e, f) (insert_every (λ x. k < x) q keys h (every_weaken (λ x n. omega arith) keys a.0), r q (every_weaken (λ x n y. omega arith) keys a.0))
    go (no l) r =
        let e : min k q ≡ q = omega arith in
        let f : max k q ≡ k = omega arith in
        rw (e, f) (insert_every (λ x. q < x) k keys (omega arith) a.0, r k d.1)

-- keys that differ ascend once they are sorted
sorted_ascends : (keys : List ℕ) → Distinct keys → Ascending (sorted keys)
sorted_ascends [] d = tt
sorted_ascends (k ∷ keys) d = insert_ascends k (sorted keys) (sorted_every (λ q. k ≡ q → ⊥) keys d.0) (sorted_ascends keys d.1)

module _ (lot : ℕ) (alg : Algorithm) (i : Incoming) (at : ℕ → Order) where
  abbrev Key : ℕ → ℕ → Type 0
  Key n = Stands at n lot alg i.taker

  -- the parts of a book's orders, in the order of the records: each stands for one, from a place on
  from_stands : (p n : ℕ) (os : List Order) → Beside at p os → Every OrderSound os → p + length os ≡ n → n ≤ 512
      → Every (λ k. Key n k × (p ≤ place_in k)) (keys_from lot alg i p os)
  unfolding keys_from keys_of
  from_stands p n [] b s e h = tt
  from_stands p n (o ∷ os) b s e h =
      one shown (cons_if (offers i hidden o) (key hidden) later)
      (one hidden later
      (every_weaken {P = λ k. Key n k × (suc p ≤ place_in k)} {Q = From} (λ k x. (x.0, omega (arith, x.1))) later (from_stands (suc p) n os b.1 s.1 (omega arith) h)))
    where
      later : List ℕ
      later = keys_from lot alg i (suc p) os

      From : ℕ → Type 0
      From k = Key n k × (p ≤ place_in k)

      key : Visibility → ℕ
      key v = part_key lot alg i.taker.side v p o

      one : (v : Visibility) (ks : List ℕ) → Every From ks → Every From (cons_if (offers i v o) (key v) ks)
      one v ks r = go (offers i v o) refl
        where
          go : (c : Bool) → offers i v o ≡ c → Every From (cons_if c (key v) ks)
          go true m =
              let x = and_true (may_meet i o) (ltb 0 (shares_of v (interest_of o))) m in
              let a = and_true (is_tradable i.taker o) (leb (minimum_of o.kind) i.size.0) x.0 in
              let d = and_true (is_opposite_of i.taker o) (within_limit i.taker.side i.taker.limit.0 (price_of o)) a.0 in
              let q = part_place lot alg i.taker.side v p (omega arith) o (order_facts o s.0) in (
                (
                  record {
                    within = omega arith;
                    opposite = rw (q, b.0) d.0;
                    visibility = v;
                    some = rw (q, b.0) (ltb-true 0 (shares_of v (interest_of o)) x.1);
                    is = rw (q, b.0);
                  },
                  omega arith,
                ),
                r,
              )
          go false m = r

  -- no two are the same
  from_distinct : (p n : ℕ) (os : List Order) → Beside at p os → Every OrderSound os → p + length os ≡ n → n ≤ 512 → Distinct (keys_from lot alg i p os)
  unfolding keys_from keys_of
  from_distinct p n [] b s e h = tt
  from_distinct p n (o ∷ os) b s e h = first (offers i shown o) (cons_if (offers i hidden o) (key hidden) later) (second (offers i hidden o) (from_distinct (suc p) n os b.1 s.1 (omega arith) h))
    where
      later : List ℕ
      later = keys_from lot alg i (suc p) os

      key : Visibility → ℕ
      key v = part_key lot alg i.taker.side v p o

      -- a key of a visibility differs from those of later records
      behind : (v : Visibility) → Every (λ q. key v ≡ q → ⊥) later
      behind v =
          every_weaken (λ k x y. omega (arith, x.1, part_place lot alg i.taker.side v p (omega arith) o (order_facts o s.0), ap place_in y)) later
          (from_stands (suc p) n os b.1 s.1 (omega arith) h)

      -- and from the other of its own
      apart : key shown ≡ key hidden → ⊥
      apart q =
          let f = order_facts o s.0 in
          let v : shown ≡ hidden =
          sym (part_visible lot alg i.taker.side shown p (omega arith) o f) ∙ ap (visibility_in alg) q ∙ part_visible lot alg i.taker.side hidden p (omega arith) o f in
          let z : ◌≡◌ {A = ℕ} 0 1 = cc in
          omega arith

      second : (c : Bool) → Distinct later → Every (λ q. key shown ≡ q → ⊥) (cons_if c (key hidden) later) × Distinct (cons_if c (key hidden) later)
      second true d = ((apart, behind shown), (behind hidden, d))
      second false d = (behind shown, d)

      first : (c : Bool) (ks : List ℕ) → Every (λ q. key shown ≡ q → ⊥) ks × Distinct ks → Distinct (cons_if c (key shown) ks)
      first true ks r = r
      first false ks r = r.1

  -- those that are needed, sorted
  pub arranged_ready : (os : List Order) → Beside at 0 os → Every OrderSound os → length os ≤ 256 → {keys : List ℕ} → Arranged lot alg i os keys
      → Ready at (length os) lot alg i.taker keys
  arranged_ready os b s few a = rw a.in_order (go a.narrowed)
    where
      all : List ℕ
      all = keys_from lot alg i 0 os

      each : Every (Key (length os)) all
      each = every_weaken (λ k x. x.0) all (from_stands 0 (length os) os b s (omega arith) (omega arith))

      differ : Distinct all
      differ = from_distinct 0 (length os) os b s (omega arith) (omega arith)

      ready : (ks : List ℕ) → Every (Key (length os)) ks → Distinct ks → Ready at (length os) lot alg i.taker (sorted ks)
      ready ks e d = record { each = sorted_every (Key (length os)) ks e; ascend = sorted_ascends ks d }

      go : {ks : List ℕ} → Narrowed alg i.size.0 all ks → Ready at (length os) lot alg i.taker (sorted ks)
      go Narrowed.all = ready all each differ
      go (Narrowed.best rank e f) =
          ready (filter (of_rank rank) all) (every_filter (Key (length os)) (of_rank rank) all each) (distinct_filter (of_rank rank) all differ)
