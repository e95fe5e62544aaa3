-- An accepted add leaves a sound book with the new order last.
use Prim.Native.Nat.{ℕ, ◌≤◌, ◌<◌}
use mathlib.Core.Path.{◌≡◌, refl}
use mathlib.Core.Bool.{Bool, true, false, not, ◌&&◌, ◌||◌, false≢true}
use mathlib.Core.List.{List, [], ◌∷◌, Memᴰ}
use native.Mathlib.Omega.{arith}
use lib.ListN.{length, length-append}
use lib.Dec.{eqb, leb}
use borrow.Author.Tests.{ltb-true, leb-false, ne_eqb, not-false}
use Rattle.units.specs.Lists.{all}
use Rattle.units.specs.Lots.{round_lot}
use Rattle.units.proofs.Members.{every_member, member_every, all_member, none_member}
use Rattle.units.proofs.Facts.{chain_true}
use Rattle.orders.specs.declared.order.Side.{Side}
use Rattle.orders.specs.declared.order.Side.TheVariants.{Buy, Sell}
use Rattle.orders.specs.declared.order.Order.{Order}
use Rattle.orders.specs.Order.{side_number, side_of, is_displayed, price_of, interest_of}
use Rattle.orders.specs.Trading.{is_opposite, is_priced_better}
use Rattle.record.proofs.Orders.{OrderSound, order_facts}
use Rattle.book.specs.Sound.{same_setter, sound, orders_of, capacity_of}
use Rattle.book.proofs.Soundness.{OrdersSound, orders_sound}
use Rattle.book.proofs.Settlement.{append_sound}
use Rattle.book.proofs.Refusing.{Accepted, accepted}
use Rattle.book.proofs.Changing.{changed_orders, changed_sound}
use Rattle.entry.proofs.Requests.{requested_sound}
use Rattle.entry.specs.declared.admission.AddRequest.{AddRequest}
use Rattle.entry.specs.Add.{request_in_range, requested, beats, sets_price, is_stale, add_refusals, added, add_call}

-- a strictly better price is another price
apart : (a b : Side) (p r : ℕ) → (is_opposite a b || false || is_priced_better a p r) ≡ true → (eqb (side_number b) (side_number a) && eqb r p) ≡ false
apart Buy Buy p r e = let l = ltb-true r p e in ne_eqb r p (λ f. omega arith)
apart Buy Sell p r e = refl
apart Sell Buy p r e = refl
apart Sell Sell p r e = let l = ltb-true p r e in ne_eqb r p (λ f. omega arith)

-- a new mark meets no mark of a displayed order of its security
marks_apart_lem : (mark own shown same : Bool) (a b : Side) (p r : ℕ) → (mark ≡ true → shown ≡ true)
    → (own ≡ true → (not same || is_opposite a b || not shown || is_priced_better a p r) ≡ true)
    → (mark && own && same && eqb (side_number b) (side_number a) && eqb r p) ≡ false
marks_apart_lem false own shown same a b p r h e = refl
marks_apart_lem true false shown same a b p r h e = refl
marks_apart_lem true true shown false a b p r h e = refl
marks_apart_lem true true true true a b p r h e = apart a b p r (e refl)
marks_apart_lem true true false true a b p r h e = absurd (false≢true (h refl))

module _ (lot : ℕ) (q : AddRequest) (os : List Order) where
  -- whether the new order sets the price
  abbrev sets : Bool
  sets = sets_price lot (requested q false) os

  sets_facts : sets ≡ true → (is_displayed (requested q false).kind ≡ true) × (all (beats (requested q false)) os ≡ true)
  unfolding sets_price
  sets_facts e =
      let new = requested q false in
      let t = chain_true (is_displayed new.kind) (leb lot (interest_of new).displayed ∷ all (beats new) os ∷ []) e in
      (t.0, t.1.1.0)

  -- the new order's mark meets no other
  unmet : OrdersSound os → (p : Order) → Memᴰ p os → same_setter p (requested q sets) ≡ false
  unfolding requested
  unmet h p m =
      marks_apart_lem p.setter sets (is_displayed p.kind) (eqb p.security q.security) (side_of q.side) p.side q.price (price_of p)
      (order_facts p (every_member OrderSound os h.each p m)).marked
      (λ f. all_member (beats (requested q false)) os (sets_facts f).1 p m)

  -- its number is above every other
  above : is_stale q.number os ≡ false → (p : Order) → Memᴰ p os → p.number < (requested q sets).number
  unfolding requested
  above n p m = leb-false q.number p.number (none_member (λ o. leb q.number o.number) os n p m)

  -- an order in range that is not stale is added to sound orders, which stay sound
  pub added_sound : OrdersSound os → request_in_range q ≡ true → is_stale q.number os ≡ false → OrdersSound (added lot q os)
  unfolding added requested
  added_sound h e n =
      append_sound (requested q sets) os h (requested_sound q e sets (λ f. (sets_facts f).0))
      (member_every (λ p. p.number < (requested q sets).number) os (above n))
      (member_every (λ p. same_setter p (requested q sets) ≡ false) os (unmet h))

-- An accepted add.
module _ (q : AddRequest) (s : List ℕ) (e : (add_call q s).refusal ≡ 0) where
  -- its book is sound, and none of its refusals holds
  pub add_accepted : Accepted (add_refusals q (capacity_of s) (orders_of s)) (sound s)
  unfolding add_call
  add_accepted = accepted (add_refusals q (capacity_of s) (orders_of s)) (sound s) refl e

  -- the orders that it leaves are sound
  pub add_orders_sound : OrdersSound (added round_lot q (orders_of s))
  add_orders_sound =
      let a = add_accepted in
      added_sound round_lot q (orders_of s) (orders_sound s a.book) (not-false (request_in_range q) a.of_call.0) a.of_book.0

  room : length (added round_lot q (orders_of s)) ≤ capacity_of s
  unfolding added
  room =
      let n = length-append (orders_of s) (requested q (sets round_lot q (orders_of s)) ∷ []) in
      omega (arith, leb-false (capacity_of s) (length (orders_of s)) add_accepted.of_book.1.1.0)

  -- the book has them
  pub add_orders : orders_of (add_call q s).book ≡ added round_lot q (orders_of s)
  unfolding add_call
  add_orders = changed_orders (add_call q s).refusal s (added round_lot q (orders_of s)) e add_accepted.book add_orders_sound room

  -- the book is sound
  pub add_sound : sound (add_call q s).book ≡ true
  unfolding add_call
  add_sound = changed_sound (add_call q s).refusal s (added round_lot q (orders_of s)) e add_accepted.book add_orders_sound room
