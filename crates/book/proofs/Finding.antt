-- Find, way by way: what each refusal answers, and where an order's record lies.
use Prim.Native.Nat.{ℕ, zero, suc, ◌+◌, ◌*◌, ◌≤◌, ◌<◌}
use mathlib.Core.Path.{◌≡◌, refl, sym, ap, ◌∙◌}
use mathlib.Core.Bool.{Bool, true, false, cond, not, ◌&&◌, ◌||◌}
use mathlib.Core.List.{List, [], ◌∷◌, ◌++◌}
use native.Mathlib.Omega.{arith}
use lib.ListN.{length, take, drop, length-append}
use lib.Seq.{drop-drop}
use lib.Dec.{eqb, eqb-suc-suc}
use borrow.Author.Tests.{eq-eqb, ne_eqb}
use Rattle.units.specs.Lists.{any}
use Rattle.orders.specs.declared.order.Order.{Order}
use Rattle.orders.specs.Order.{number_in_range, security_in_range}
use Rattle.record.specs.Record.{decode_order}
use Rattle.book.specs.declared.Found.{Found}
use Rattle.book.specs.Sound.{form, sound, orders_of, first_orders}
use Rattle.book.specs.Lookup.{is_named, is_unknown, place_of, find_call}
use Rattle.book.proofs.Checking.{orders_first}

-- what a find that is refused so answers
abbrev pub missed : ℕ → Found
missed r = record { refusal = r; start = 0; length = 0 }

-- its part, which is empty, lies within the book
pub missed_inside : (f : Found) (k m : ℕ) → f ≡ missed k → f.start + f.length ≤ m
missed_inside f k m e = rw e (omega arith)

-- no place is behind the end of the orders
pub place_most : (k n : ℕ) (os : List Order) → place_of k n os ≤ length os
place_most k n [] = omega arith
place_most k n (o ∷ os) = go (is_named k n o) (place_most k n os)
  where
    go : (b : Bool) → place_of k n os ≤ length os → cond b 0 (suc (place_of k n os)) ≤ suc (length os)
    go true h = omega arith
    go false h = omega arith

-- an order is unknown where its place is the end
pub unknown_place : (k n : ℕ) (os : List Order) → is_unknown k n os ≡ eqb (place_of k n os) (length os)
unknown_place k n [] = refl
unknown_place k n (o ∷ os) = go (is_named k n o) (unknown_place k n os)
  where
    go : (b : Bool) → not (any (is_named k n) os) ≡ eqb (place_of k n os) (length os)
        → not (b || any (is_named k n) os) ≡ eqb (cond b 0 (suc (place_of k n os))) (suc (length os))
    go true h = sym (ne_eqb 0 (suc (length os)) (λ e. omega arith))
    go false h = h ∙ sym (eqb-suc-suc (place_of k n os) (length os))

-- the record of an order lies behind those of the orders before it
pub order_at_lem : (n : ℕ) (s : List ℕ) (pre : List Order) (o : Order) (post : List Order) → first_orders n s ≡ pre ++ (o ∷ post)
    → decode_order form (take 40 (drop (40 * length pre) s)) ≡ o
order_at_lem zero s pre o post e = absurd (omega (arith, ap length e ∙ length-append pre (o ∷ post)))
order_at_lem (suc n) s [] o post e = cc
order_at_lem (suc n) s (x ∷ pre) o post e =
    let k : 40 * suc (length pre) ≡ 40 + 40 * length pre = omega arith in
    let t : first_orders n (drop 40 s) ≡ pre ++ (o ∷ post) = cc in
    rw (k, ← drop-drop (40 * length pre) 40 s) (order_at_lem n (drop 40 s) pre o post t)

module _ (k n : ℕ) (s : List ℕ) where
  -- refusal 1: the security or the number is out of range
  pub find_range : (security_in_range k && number_in_range n) ≡ false → find_call k n s ≡ missed 1
  unfolding find_call
  find_range h = rw h

  module _ (r : (security_in_range k && number_in_range n) ≡ true) where
    -- refusal 2: the book is not sound
    pub find_unsound : sound s ≡ false → find_call k n s ≡ missed 2
    unfolding find_call
    find_unsound h = rw (r, h)

    module _ (b : sound s ≡ true) where
      -- refusal 3: no order of the security has the number
      pub find_missing : place_of k n (orders_of s) ≡ length (orders_of s) → find_call k n s ≡ missed 3
      unfolding find_call
      find_missing h = rw (r, b, unknown_place k n (orders_of s), eq-eqb (place_of k n (orders_of s)) (length (orders_of s)) h)

      -- accepted: the record of the order
      pub find_found : place_of k n (orders_of s) < length (orders_of s)
          → find_call k n s ≡ record { refusal = 0; start = 40 * place_of k n (orders_of s); length = 40 }
      unfolding find_call
      find_found h = rw (r, b, unknown_place k n (orders_of s), ne_eqb (place_of k n (orders_of s)) (length (orders_of s)) (λ e. omega arith))

      -- The same by a number of orders and a place that code computes.
      module _ (m p : ℕ) (e : m ≡ length (orders_of s)) (q : p ≡ place_of k n (first_orders m s)) where
        -- the place among the first orders is that among all
        place_first : p ≡ place_of k n (orders_of s)
        place_first = q ∙ ap (λ i. place_of k n (first_orders i s)) e ∙ ap (place_of k n) (sym (orders_first s))

        -- refused where the place is the end
        pub computed_missing : p ≡ m → find_call k n s ≡ missed 3
        computed_missing h = find_missing (sym place_first ∙ h ∙ e)

        -- and accepted where it is not
        pub computed_found : (p ≡ m → ⊥) → find_call k n s ≡ record { refusal = 0; start = 40 * p; length = 40 }
        computed_found h =
            let i = place_first in
            find_found (omega (arith, place_most k n (orders_of s))) ∙ rw (← i)
