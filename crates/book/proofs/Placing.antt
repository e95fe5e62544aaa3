-- Where the order that is named, by its security and number, stands in a book, and its record.
use Prim.Native.Nat.{ℕ, suc, ◌+◌, ◌*◌, ◌≤◌, ◌<◌}
use mathlib.Core.Path.{◌≡◌, refl, sym, ap, ◌∙◌}
use mathlib.Core.Bool.{Bool, true, false, cond, or_comm, and-false}
use mathlib.Core.List.{List, [], ◌∷◌, ◌++◌}
use native.Mathlib.Omega.{arith}
use lib.ListN.{length, take, drop, length-append}
use lib.Dec.{ltb, eqb}
use borrow.Author.Tests.{ltb-true, ne_eqb, eqb-true, eqb-false}
use Rattle.units.specs.Lists.{any}
use Rattle.units.proofs.Tests.{and_true, or_false}
use Rattle.orders.specs.declared.order.Order.{Order}
use Rattle.orders.specs.Trading.{of_security}
use Rattle.record.specs.Record.{decode_order}
use Rattle.book.specs.Sound.{form, rising, sound, orders_of}
use Rattle.book.specs.Lookup.{is_named, place_of, find_refusals, find_call, found_part}
use Rattle.book.proofs.Soundness.{orders_sound, orders_fit, capacity_bytes}
use Rattle.book.proofs.Refusing.{Accepted, accepted}
use Rattle.book.proofs.Checking.{orders_first}
use Rattle.book.proofs.Finding.{order_at_lem, place_most, unknown_place}

-- the order that is named, with those before and behind it, which aren't
pub record Placed (k n : ℕ) (os : List Order) : Type 0 where
  pub before : List Order
  pub order : Order
  pub after : List Order
  pub split : os ≡ before ++ (order ∷ after)
  pub place : length before ≡ place_of k n os
  pub named : is_named k n order ≡ true
  pub others_before : any (is_named k n) before ≡ false
  pub others_after : any (is_named k n) after ≡ false

module _ (k n : ℕ) where
  -- orders above a number don't have it
  none_above : (m : ℕ) (os : List Order) → n ≤ m → rising m os ≡ true → any (is_named k n) os ≡ false
  none_above m [] h e = refl
  none_above m (o ∷ os) h e =
      let a = and_true (ltb m o.number) (rising o.number os) e in
      let l = ltb-true m o.number a.0 in
      rw (ne_eqb o.number n (λ f. omega arith), and-false (of_security k o)) (none_above o.number os (omega arith) a.1)

  -- an order that isn't named, put before others, stands before the one that is
  placed_behind : (o : Order) (os : List Order) → is_named k n o ≡ false → Placed k n os → Placed k n (o ∷ os)
  placed_behind o os e p = record {
    before = o ∷ p.before;
    order = p.order;
    after = p.after;
    split = ap (λ l. o ∷ l) p.split;
    place = rw e (ap suc p.place);
    named = p.named;
    others_before = rw e p.others_before;
    others_after = p.others_after;
  }

  -- where numbers rise, the order at the place is the only one that is named
  pub split_place : (m : ℕ) (os : List Order) → rising m os ≡ true → place_of k n os < length os → Placed k n os
  split_place m [] r l = absurd (omega arith)
  split_place m (o ∷ os) r l =
      let a = and_true (ltb m o.number) (rising o.number os) r in
      go (is_named k n o) refl a.1 l (λ i. split_place o.number os a.1 i)
    where
      go : (b : Bool) → is_named k n o ≡ b → rising o.number os ≡ true → cond b 0 (suc (place_of k n os)) < suc (length os)
          → (place_of k n os < length os → Placed k n os) → Placed k n (o ∷ os)
      go true e r l ih = record {
        before = [];
        order = o;
        after = os;
        split = refl;
        place = rw e;
        named = e;
        others_before = refl;
        others_after = none_above o.number os (omega (arith, eqb-true o.number n (and_true (of_security k o) (eqb o.number n) e).1)) r;
      }
      go false e r l ih = placed_behind o os e (ih (omega arith))

  -- A test that only the order that is named can pass.
  module _ (p : Order → Bool) (h : (o : Order) → is_named k n o ≡ false → p o ≡ false) where
    none_other : (os : List Order) → any (is_named k n) os ≡ false → any p os ≡ false
    none_other [] e = refl
    none_other (o ∷ os) e = let a = or_false (is_named k n o) (any (is_named k n) os) e in rw (h o a.0) (none_other os a.1)

    only_named : (before : List Order) (o : Order) (after : List Order) → any (is_named k n) before ≡ false → any (is_named k n) after ≡ false
        → any p (before ++ (o ∷ after)) ≡ p o
    only_named [] o after e f = rw (none_other after f) (or_comm (p o) false)
    only_named (b ∷ before) o after e f =
        let a = or_false (is_named k n b) (any (is_named k n) before) e in
        rw (h b a.0) (only_named before o after a.1 f)

    -- an order passes it if that one does
    pub any_placed : (os : List Order) (s : Placed k n os) → any p os ≡ p s.order
    any_placed os s = ap (any p) s.split ∙ only_named s.before s.order s.after s.others_before s.others_after

-- A find that is accepted.
module _ (k n : ℕ) (s : List ℕ) (e : (find_call k n s).refusal ≡ 0) where
  -- its book is sound, and none of its refusals holds
  pub find_accepted : Accepted (find_refusals k n (orders_of s)) (sound s)
  unfolding find_call
  find_accepted = accepted (find_refusals k n (orders_of s)) (sound s) refl e

  -- the order that is named
  pub find_placed : Placed k n (orders_of s)
  find_placed =
      let os = orders_of s in
      let u = eqb-false (place_of k n os) (length os) (sym (unknown_place k n os) ∙ find_accepted.of_book.0) in
      split_place k n 0 os (orders_sound s find_accepted.book).rise (omega (arith, place_most k n os))

  -- its record begins behind those of the orders before it
  pub find_start : (find_call k n s).start ≡ 40 * length find_placed.before
  unfolding find_call
  find_start = rw e (ap (λ i. 40 * i) (sym find_placed.place))

  -- and has 40 bytes
  pub find_length : (find_call k n s).length ≡ 40
  unfolding find_call
  find_length = rw e

  -- which are the book's
  pub find_inside : (find_call k n s).start + 40 ≤ length s
  find_inside =
      let l = ap length find_placed.split ∙ length-append find_placed.before (find_placed.order ∷ find_placed.after) in
      omega (arith, find_start, orders_fit s, capacity_bytes s find_accepted.book)

  -- the part of the book that it answers with is these bytes
  pub found_part_lem : found_part (find_call k n s) s ≡ take 40 (drop (find_call k n s).start s)
  found_part_lem = ap (λ i. take i (drop (find_call k n s).start s)) find_length

  -- they are the record of the order
  pub found : decode_order form (found_part (find_call k n s) s) ≡ find_placed.order
  found =
      let p = find_placed in
      rw (found_part_lem, find_start) (order_at_lem (length (orders_of s)) s p.before p.order p.after (sym (orders_first s) ∙ p.split))
