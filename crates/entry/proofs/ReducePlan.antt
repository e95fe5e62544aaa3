-- What reduce decides, way by way, and what the decision comes to.
use Prim.Native.Nat.{ℕ, ◌+◌, ◌≤◌, ◌<◌}
use mathlib.Core.Path.{◌≡◌, refl, sym, ap, ◌∙◌, subst}
use mathlib.Core.Bool.{Bool, true, false, cond, not, ◌&&◌, false≢true}
use mathlib.Core.List.{List, [], ◌∷◌, ◌++◌, map}
use native.Mathlib.Omega.{arith}
use lib.ListN.{length, take, drop}
use lib.Dec.{ltb}
use borrow.Author.Tests.{lt-ltb, le-ltb, ne_eqb, eqb-true, eqb-false, not-false}
use Rattle.std.specs.Prelude.{Result, Ok, Err}
use Rattle.units.specs.Lists.{any, filter, cons_if}
use Rattle.units.proofs.Tests.{and_true, false_and, or_false}
use Rattle.units.proofs.Members.{Every}
use Rattle.orders.specs.declared.order.Order.{Order}
use Rattle.orders.specs.Order.{interest_of, all_shares, is_resting, shares_in_range, number_in_range, security_in_range}
use Rattle.record.specs.Codec.{replaced}
use Rattle.record.specs.Record.{encode_order, decode_order}
use Rattle.record.proofs.Orders.{OrderSound}
use Rattle.record.proofs.Settling.{sound_rests}
use Rattle.book.specs.Sound.{form, sound, orders_of, book_of, capacity_of}
use Rattle.book.specs.declared.Found.{Found}
use Rattle.book.specs.Change.{without_record}
use Rattle.book.specs.Refusal.{refuse, first_refusal, refusal_of, is_accepted}
use Rattle.book.specs.Lookup.{is_named, is_unknown, find_call, found_part}
use Rattle.book.proofs.Soundness.{orders_sound}
use Rattle.book.proofs.Refusing.{book_accepted}
use Rattle.book.proofs.Placing.{Placed, any_placed, find_accepted, find_placed, find_start, find_inside, found_part_lem, found}
use Rattle.book.proofs.Writing.{write_at, remove_at}
use Rattle.book.proofs.Committing.{Refuses, Writes, Removes, refuses, refuses_range, refuses_book}
use Rattle.entry.specs.declared.reduction.Reduction.{Reduction}
use Rattle.entry.specs.declared.reduction.Reduction.TheVariants.{Kept, Gone}
use Rattle.entry.specs.Reduce.{asks_too_much, reduce_refusals, reduced_if, reduced, reduce_call}
use Rattle.entry.specs.Plan.{reduced_order, outcome_of, reduce_plan}
use Rattle.entry.proofs.Reducing.{reduce_accepted}

-- The orders that a reduce leaves.
module _ (k n shares : ℕ) where
  -- what becomes of an order
  abbrev each : Order → Order
  each o = reduced_if (is_named k n o) shares o

  -- a sound order stays as it is unless it is named
  stays : (o : Order) (os : List Order) → OrderSound o → is_named k n o ≡ false → filter is_resting (each o ∷ os) ≡ o ∷ filter is_resting os
  stays o os h e = rw (e, sound_rests o h)

  all_stay : (os : List Order) → Every OrderSound os → any (is_named k n) os ≡ false → filter is_resting (map each os) ≡ os
  all_stay [] h e = refl
  all_stay (o ∷ os) h e =
      let a = or_false (is_named k n o) (any (is_named k n) os) e in
      stays o (map each os) h.0 a.0 ∙ ap (λ l. o ∷ l) (all_stay os h.1 a.1)

  one_reduced : (before : List Order) (o : Order) (after : List Order) → Every OrderSound (before ++ (o ∷ after)) → any (is_named k n) before ≡ false
      → is_named k n o ≡ true → any (is_named k n) after ≡ false
      → filter is_resting (map each (before ++ (o ∷ after))) ≡ before ++ cons_if (is_resting (reduced_order shares o)) (reduced_order shares o) after
  one_reduced [] o after h e f g = rw (f, all_stay after h.1 g)
  one_reduced (b ∷ before) o after h e f g =
      let a = or_false (is_named k n b) (any (is_named k n) before) e in
      stays b (map each (before ++ (o ∷ after))) h.0 a.0 ∙ ap (λ l. b ∷ l) (one_reduced before o after h.1 a.1 f g)

  -- only the order that is named is reduced, and leaves without shares
  pub reduced_at : (os : List Order) → Every OrderSound os → (p : Placed k n os)
      → reduced k n shares os ≡ p.before ++ cons_if (is_resting (reduced_order shares p.order)) (reduced_order shares p.order) p.after
  unfolding reduced
  reduced_at os h p =
      ap (λ l. filter is_resting (map each l)) p.split
      ∙ one_reduced p.before p.order p.after (subst (Every OrderSound) p.split h) p.others_before p.named p.others_after

  -- no other order is asked for too much
  asked : (o : Order) → is_named k n o ≡ false → asks_too_much k n shares o ≡ false
  asked o e = false_and (ltb (all_shares (interest_of o)) shares) e

-- reduce is refused as find is, where the numbers are in range
as_find : (a c b u t : Bool) → (a && c) ≡ true → (first_refusal (refuse 1 (not a) ∷ refuse 2 (not b) ∷ refuse 3 u ∷ []) ≡ 0 → ⊥)
    → first_refusal (refuse 1 (not (a && c)) ∷ refuse 2 (not b) ∷ refuse 3 u ∷ refuse 7 t ∷ [])
    ≡ first_refusal (refuse 1 (not a) ∷ refuse 2 (not b) ∷ refuse 3 u ∷ [])
as_find false c b u t e h = absurd (false≢true e)
as_find true false b u t e h = absurd (false≢true e)
as_find true true false u t e h = refl
as_find true true true true t e h = refl
as_find true true true false t e h = absurd (h refl)

-- A reduce that is refused before anything is decided: a number is out of its range, or the book isn't sound.
module _ (k n shares : ℕ) (s : List ℕ) where
  pub reduce_range : (security_in_range k && number_in_range n && shares_in_range shares) ≡ false → Refuses (reduce_call k n shares s) s 1
  unfolding reduce_call
  reduce_range =
      refuses_range (security_in_range k && number_in_range n && shares_in_range shares) (reduce_refusals k n shares (orders_of s)).of_book s
      (book_of (capacity_of s) (reduced k n shares (orders_of s)))

  pub reduce_unsound : (security_in_range k && number_in_range n && shares_in_range shares) ≡ true → sound s ≡ false → Refuses (reduce_call k n shares s) s 2
  unfolding reduce_call
  reduce_unsound =
      refuses_book (security_in_range k && number_in_range n && shares_in_range shares) (reduce_refusals k n shares (orders_of s)).of_book s
      (book_of (capacity_of s) (reduced k n shares (orders_of s)))

-- The plan of a reduce whose numbers are in range, in the order in which its refusals come.
module _ (k n shares : ℕ) (s : List ℕ) (h : (security_in_range k && number_in_range n && shares_in_range shares) ≡ true) where
  not_found : ((find_call k n s).refusal ≡ 0 → ⊥) → (reduce_call k n shares s).refusal ≡ (find_call k n s).refusal
  unfolding reduce_call find_call
  not_found f =
      let os = orders_of s in
      as_find (security_in_range k && number_in_range n) (shares_in_range shares) (sound s) (is_unknown k n os) (any (asks_too_much k n shares) os) h f

  -- a find that is refused
  reduce_not_found : ((find_call k n s).refusal ≡ 0 → ⊥) → reduce_plan k n shares s ≡ Err (find_call k n s).refusal
  unfolding reduce_plan
  reduce_not_found f = rw (not_found f, ne_eqb (find_call k n s).refusal 0 f)

  module _ (e : (find_call k n s).refusal ≡ 0) (o : Order) (its : o ≡ decode_order form (take 40 (drop (find_call k n s).start s))) where
    same_found : decode_order form (found_part (find_call k n s) s) ≡ o
    same_found = ap (decode_order form) (found_part_lem k n s e) ∙ sym its

    refusal : (reduce_call k n shares s).refusal ≡ cond (ltb (all_shares (interest_of o)) shares) 7 0
    unfolding reduce_call
    refusal =
        let a = find_accepted k n s e in
        let p = find_placed k n s e in
        let same = sym same_found ∙ found k n s e in
        let t = any_placed k n (asks_too_much k n shares) (asked k n shares) (orders_of s) p in
        rw (h, a.book, a.of_book.0, t, p.named, same)

    -- more shares than the order has
    reduce_too_much : all_shares (interest_of o) < shares → reduce_plan k n shares s ≡ Err 7
    unfolding reduce_plan
    reduce_too_much l = rw (refusal, lt-ltb (all_shares (interest_of o)) shares l)

    -- the order stays or leaves
    reduce_done : shares ≤ all_shares (interest_of o) → reduce_plan k n shares s ≡ Ok (outcome_of (find_call k n s).start (reduced_order shares o))
    unfolding reduce_plan
    reduce_done l = rw (refusal, le-ltb (all_shares (interest_of o)) shares l, same_found)

-- The plan by what the code has computed: find's answer, the order that is read there, and that order reduced.
module _ (k n shares : ℕ) (s : List ℕ) (h : (security_in_range k && number_in_range n && shares_in_range shares) ≡ true) (f : Found) (q : f ≡ find_call k n s) where
  -- a find that is refused
  pub find_refused : (f.refusal ≡ 0 → ⊥) → Err f.refusal ≡ reduce_plan k n shares s
  find_refused e = ap (λ x. Err x.refusal) q ∙ sym (reduce_not_found k n shares s h (λ z. e (ap (λ x. x.refusal) q ∙ z)))

  module _ (e : f.refusal ≡ 0) where
    accepts : (find_call k n s).refusal ≡ 0
    accepts = sym (ap (λ x. x.refusal) q) ∙ e

    -- a record is there
    pub order_inside : f.start + 40 ≤ length s
    order_inside = omega (arith, ap (λ x. x.start) q, find_inside k n s accepts)

    module _ (o : Order) (r : o ≡ decode_order form (take 40 (drop f.start s))) where
      its : o ≡ decode_order form (take 40 (drop (find_call k n s).start s))
      its = r ∙ ap (λ x. decode_order form (take 40 (drop x.start s))) q

      -- more shares than the order has
      pub too_much_refused : all_shares (interest_of o) < shares → Err 7 ≡ reduce_plan k n shares s
      too_much_refused l = sym (reduce_too_much k n shares s h accepts o its l)

      -- the order stays or leaves
      pub order_reduced : shares ≤ all_shares (interest_of o) → (left : Order) → left ≡ reduced_order shares o → Ok (outcome_of f.start left) ≡ reduce_plan k n shares s
      order_reduced l left m = rw (m, q) (sym (reduce_done k n shares s h accepts o its l))

-- A plan by its refusal number, the place of the order's record, and the order as it is left.
module _ (c place : ℕ) (left : Order) where
  abbrev plan : Bool → Bool → Result Reduction ℕ
  plan b r = cond b (Ok (cond r (Kept place left) (Gone place))) (Err c)

  -- a plan that refuses
  refused : (r : ℕ) → Err r ≡ plan (is_accepted c) (is_resting left) → (r ≡ c) × (c ≡ 0 → ⊥)
  refused r e = go (is_accepted c) (is_resting left) refl e
    where
      go : (b t : Bool) → is_accepted c ≡ b → Err r ≡ plan b t → (r ≡ c) × (c ≡ 0 → ⊥)
      go true true f e = absurd (false≢true (cc))
      go true false f e = absurd (false≢true (cc))
      go false t f e = ((cc), eqb-false c 0 f)

  -- a plan that keeps the order
  keeps : (at : ℕ) (o : Order) → Ok (Kept at o) ≡ plan (is_accepted c) (is_resting left) → (c ≡ 0) × (at ≡ place) × (o ≡ left) × (is_resting left ≡ true)
  keeps at o e = go (is_accepted c) (is_resting left) refl refl e
    where
      go : (b t : Bool) → is_accepted c ≡ b → is_resting left ≡ t → Ok (Kept at o) ≡ plan b t → (c ≡ 0) × (at ≡ place) × (o ≡ left) × (is_resting left ≡ true)
      go true true f g e = (eqb-true c 0 f, (cc), (cc), g)
      go true false f g e = absurd (false≢true (cc))
      go false t f g e = absurd (false≢true (cc))

  -- a plan in which it leaves
  leaves : (at : ℕ) → Ok (Gone at) ≡ plan (is_accepted c) (is_resting left) → (c ≡ 0) × (at ≡ place) × (is_resting left ≡ false)
  leaves at e = go (is_accepted c) (is_resting left) refl refl e
    where
      go : (b t : Bool) → is_accepted c ≡ b → is_resting left ≡ t → Ok (Gone at) ≡ plan b t → (c ≡ 0) × (at ≡ place) × (is_resting left ≡ false)
      go true true f g e = absurd (false≢true (cc))
      go true false f g e = (eqb-true c 0 f, (cc), g)
      go false t f g e = absurd (false≢true (cc))

-- What the plan comes to.
module _ (k n shares : ℕ) (s : List ℕ) where
  -- the order as it is left
  abbrev left : Order
  left = reduced_order shares (decode_order form (found_part (find_call k n s) s))

  -- An accepted reduce.
  module _ (e : (reduce_call k n shares s).refusal ≡ 0) where
    finds : (find_call k n s).refusal ≡ 0
    unfolding find_call
    finds =
        let a = reduce_accepted k n shares s e in
        let r = and_true (security_in_range k && number_in_range n) (shares_in_range shares) (not-false (security_in_range k && number_in_range n && shares_in_range shares) a.of_call.0) in
        rw (r.0, a.book, a.of_book.0)

    abbrev placed : Placed k n (orders_of s)
    placed = find_placed k n s finds

    -- the orders that it leaves, by whether the order stays
    remaining : (b : Bool) → is_resting left ≡ b → placed.before ++ cons_if b left placed.after ≡ reduced k n shares (orders_of s)
    remaining b f =
        let p = placed in
        let a = reduced_at k n shares (orders_of s) (orders_sound s (reduce_accepted k n shares s e).book).each p in
        ap (λ t. p.before ++ cons_if t left p.after) (sym f)
        ∙ ap (λ o. p.before ++ cons_if (is_resting o) o p.after) (ap (reduced_order shares) (found k n s finds))
        ∙ sym a

    -- the book of them
    after : (b : Bool) → is_resting left ≡ b → book_of (capacity_of s) (placed.before ++ cons_if b left placed.after) ≡ (reduce_call k n shares s).book
    unfolding reduce_call
    after b f =
        let t = book_of (capacity_of s) (reduced k n shares (orders_of s)) in
        ap (book_of (capacity_of s)) (remaining b f) ∙ sym (book_accepted (reduce_call k n shares s).refusal s t e)

    written : is_resting left ≡ true → Writes (reduce_call k n shares s) s (find_call k n s).start left
    written f =
        let h = (reduce_accepted k n shares s e).book in
        let p = placed in
        record {
          refusal = e;
          inside = find_inside k n s finds;
          book = λ b. ap (λ k. replaced k (encode_order form left) s) (find_start k n s finds)
              ∙ write_at s h b p.before p.after p.order p.split left
              ∙ after true f;
        }

    removed : is_resting left ≡ false → Removes (reduce_call k n shares s) s (find_call k n s).start
    removed f =
        let h = (reduce_accepted k n shares s e).book in
        let p = placed in
        record {
          refusal = e;
          inside = find_inside k n s finds;
          book = λ b. ap (λ k. without_record k s) (find_start k n s finds)
              ∙ remove_at s h b p.before p.after p.order p.split
              ∙ after false f;
        }

  -- a reduce that is refused
  pub plan_refused : (r : ℕ) → Err r ≡ reduce_plan k n shares s → Refuses (reduce_call k n shares s) s r
  unfolding reduce_plan reduce_call
  plan_refused r e =
      let c = refusal_of (reduce_refusals k n shares (orders_of s)) (sound s) in
      let h = refused c (find_call k n s).start left r e in
      rw h.0 (refuses c s (book_of (capacity_of s) (reduced k n shares (orders_of s))) h.1)

  -- a reduce that leaves the order with shares
  pub plan_kept : (at : ℕ) (o : Order) → Ok (Kept at o) ≡ reduce_plan k n shares s → Writes (reduce_call k n shares s) s at o
  unfolding reduce_plan
  plan_kept at o e =
      let h = keeps (reduce_call k n shares s).refusal (find_call k n s).start left at o e in
      rw (h.1, h.2) (written h.0 h.3)

  -- a reduce that leaves it without
  pub plan_gone : (at : ℕ) → Ok (Gone at) ≡ reduce_plan k n shares s → Removes (reduce_call k n shares s) s at
  unfolding reduce_plan
  plan_gone at e =
      let h = leaves (reduce_call k n shares s).refusal (find_call k n s).start left at e in
      rw h.1 (removed h.0 h.2)
