-- What add decides, way by way, and what the decision comes to.
use Prim.Native.Nat.{ℕ, ◌*◌, ◌≤◌, ◌<◌}
use mathlib.Core.Path.{◌≡◌, refl, sym, ap, ◌∙◌}
use mathlib.Core.Bool.{Bool, true, false, cond, ◌&&◌, false≢true}
use mathlib.Core.List.{List}
use native.Mathlib.Omega.{arith}
use lib.ListN.{length}
use lib.Dec.{leb}
use borrow.Author.Tests.{le-leb, lt-leb, leb-false, eqb-true, eqb-false}
use Rattle.std.specs.Prelude.{Result, Ok, Err}
use Rattle.units.specs.Lists.{any}
use Rattle.units.specs.Lots.{round_lot}
use Rattle.orders.specs.declared.order.Order.{Order}
use Rattle.orders.specs.Order.{is_displayed, interest_of}
use Rattle.book.specs.Sound.{sound, orders_of, book_of, capacity_of, first_orders}
use Rattle.book.specs.Refusal.{refusal_of, is_accepted}
use Rattle.book.proofs.Soundness.{capacity_bytes}
use Rattle.book.proofs.Refusing.{book_accepted}
use Rattle.book.proofs.Checking.{orders_first}
use Rattle.book.proofs.Writing.{write_last}
use Rattle.book.proofs.Committing.{Refuses, Writes, refuses, refuses_range, refuses_book}
use Rattle.entry.specs.declared.admission.AddRequest.{AddRequest}
use Rattle.entry.specs.declared.admission.Standing.{Standing}
use Rattle.entry.specs.Add.{request_in_range, requested, sets_price, could_trade, is_stale, add_refusals, added, add_call}
use Rattle.entry.specs.Plan.{standing_of, add_plan}
use Rattle.entry.proofs.Adding.{add_accepted}

-- An add that is refused before anything is decided: a number is out of its range, or the book isn't sound.
module _ (q : AddRequest) (s : List ℕ) where
  pub add_range : request_in_range q ≡ false → Refuses (add_call q s) s 1
  unfolding add_call
  add_range = refuses_range (request_in_range q) (add_refusals q (capacity_of s) (orders_of s)).of_book s (book_of (capacity_of s) (added round_lot q (orders_of s)))

  pub add_unsound : request_in_range q ≡ true → sound s ≡ false → Refuses (add_call q s) s 2
  unfolding add_call
  add_unsound = refuses_book (request_in_range q) (add_refusals q (capacity_of s) (orders_of s)).of_book s (book_of (capacity_of s) (added round_lot q (orders_of s)))

-- The plan of an add that is checked, in the order in which its refusals come.
module _ (q : AddRequest) (s : List ℕ) where
  -- the new order, marked where it sets the price
  abbrev pub new_order : Order
  new_order = requested q (sets_price round_lot (requested q false) (orders_of s))

  module _ (e : request_in_range q ≡ true) (b : sound s ≡ true) where
    -- a number that isn't above all others
    add_stale : is_stale q.number (orders_of s) ≡ true → add_plan q s ≡ Err 4
    unfolding add_plan add_call
    add_stale n = rw (e, b, n)

    module _ (n : is_stale q.number (orders_of s) ≡ false) where
      -- an order that could trade
      add_trades : any (could_trade (requested q false)) (orders_of s) ≡ true → add_plan q s ≡ Err 5
      unfolding add_plan add_call
      add_trades t = rw (e, b, n, t)

      module _ (t : any (could_trade (requested q false)) (orders_of s) ≡ false) where
        -- no free record
        add_full : capacity_of s ≤ length (orders_of s) → add_plan q s ≡ Err 6
        unfolding add_plan add_call
        add_full h = rw (e, b, n, t, le-leb (capacity_of s) (length (orders_of s)) h)

        -- the order comes in, behind the others
        add_admitted : length (orders_of s) < capacity_of s → add_plan q s ≡ Ok (40 * length (orders_of s), new_order)
        unfolding add_plan add_call
        add_admitted h = rw (e, b, n, t, lt-leb (capacity_of s) (length (orders_of s)) h)

-- The plan by what the code has computed: how the new order stands to the orders, of which the book has so many.
module _ (q : AddRequest) (s : List ℕ) (e : request_in_range q ≡ true) (b : sound s ≡ true) (m : ℕ) (k : m ≡ length (orders_of s))
    (new : Order) (p : new ≡ requested q false) (st : Standing) (g : st ≡ standing_of new (first_orders m s)) where
  stands : st ≡ standing_of (requested q false) (orders_of s)
  stands = g ∙ rw (p, k, ← orders_first s)

  stale : st.stale ≡ is_stale q.number (orders_of s)
  unfolding requested
  stale = ap (λ x. x.stale) stands

  trades : st.trades ≡ any (could_trade (requested q false)) (orders_of s)
  trades = ap (λ x. x.trades) stands

  -- its number isn't above all others
  pub stale_refused : st.stale ≡ true → Err 4 ≡ add_plan q s
  stale_refused n = sym (add_stale q s e b (sym stale ∙ n))

  module _ (n : st.stale ≡ false) where
    -- it could trade
    pub trades_refused : st.trades ≡ true → Err 5 ≡ add_plan q s
    trades_refused t = sym (add_trades q s e b (sym stale ∙ n) (sym trades ∙ t))

    module _ (t : st.trades ≡ false) where
      -- there is no free record
      pub full_refused : capacity_of s ≤ m → Err 6 ≡ add_plan q s
      full_refused h = sym (add_full q s e b (sym stale ∙ n) (sym trades ∙ t) (omega arith))

      -- it comes in
      pub order_admitted : m < capacity_of s → (o : Order)
          → o ≡ requested q (is_displayed new.kind && leb round_lot (interest_of new).displayed && st.beats) → Ok (40 * m, o) ≡ add_plan q s
      unfolding sets_price
      order_admitted h o i =
          let d = add_admitted q s e b (sym stale ∙ n) (sym trades ∙ t) (omega arith) in
          rw (i, ap (λ x. x.beats) stands, p, k) (sym d)

-- A plan by its refusal number and the order that comes in.
module _ (c place : ℕ) (new : Order) where
  abbrev plan : Bool → Result (ℕ × Order) ℕ
  plan b = cond b (Ok (place, new)) (Err c)

  -- a plan that refuses
  refused : (r : ℕ) → Err r ≡ plan (is_accepted c) → (r ≡ c) × (c ≡ 0 → ⊥)
  refused r e = go (is_accepted c) refl e
    where
      go : (b : Bool) → is_accepted c ≡ b → Err r ≡ plan b → (r ≡ c) × (c ≡ 0 → ⊥)
      go true f e = absurd (false≢true (cc))
      go false f e = ((cc), eqb-false c 0 f)

  -- a plan that admits
  admitted : (at : ℕ) (o : Order) → Ok (at, o) ≡ plan (is_accepted c) → (c ≡ 0) × (at ≡ place) × (o ≡ new)
  admitted at o e = go (is_accepted c) refl e
    where
      go : (b : Bool) → is_accepted c ≡ b → Ok (at, o) ≡ plan b → (c ≡ 0) × (at ≡ place) × (o ≡ new)
      go true f e =
          let z : ◌≡◌ {A = ℕ × Order} (at, o) (place, new) = cc in
          (eqb-true c 0 f, ap (λ p. p.0) z, ap (λ p. p.1) z)
      go false f e = absurd (false≢true (cc))

-- What the plan comes to.
module _ (q : AddRequest) (s : List ℕ) where
  -- an add that is refused
  pub plan_refused : (r : ℕ) → Err r ≡ add_plan q s → Refuses (add_call q s) s r
  unfolding add_plan add_call
  plan_refused r e =
      let c = refusal_of (add_refusals q (capacity_of s) (orders_of s)) (sound s) in
      let h = refused c (40 * length (orders_of s)) (new_order q s) r e in
      rw h.0 (refuses c s (book_of (capacity_of s) (added round_lot q (orders_of s))) h.1)

  -- An accepted add.
  module _ (e : (add_call q s).refusal ≡ 0) where
    written : Writes (add_call q s) s (40 * length (orders_of s)) (new_order q s)
    unfolding add_call added
    written =
        let b = (add_accepted q s e).book in
        let f = leb-false (capacity_of s) (length (orders_of s)) (add_accepted q s e).of_book.1.1.0 in
        let after = book_of (capacity_of s) (added round_lot q (orders_of s)) in
        record {
          refusal = e;
          inside = omega (arith, capacity_bytes s b);
          book = λ h. write_last s b h (new_order q s) f ∙ sym (book_accepted (add_call q s).refusal s after e);
        }

  -- an add that is admitted
  pub plan_admitted : (at : ℕ) (o : Order) → Ok (at, o) ≡ add_plan q s → Writes (add_call q s) s at o
  unfolding add_plan
  plan_admitted at o e =
      let h = admitted (add_call q s).refusal (40 * length (orders_of s)) (new_order q s) at o e in
      rw (h.1, h.2) (written h.0)
