-- What an accepted take leaves over may rest: added at the take's limit on its side in its security, no part of it is refused 5.
use Prim.Native.Nat.{ℕ, ◌+◌, ◌≤◌, ◌<◌}
use mathlib.Core.Path.{◌≡◌, refl, sym, ap, ◌∙◌}
use mathlib.Core.Bool.{Bool, true, false, cond, not, ◌||◌}
use mathlib.Core.List.{List, [], ◌∷◌, Memᴰ}
use native.Mathlib.Omega.{arith}
use lib.Dec.{leb, eqb}
use borrow.Author.Tests.{leb-true}
use Rattle.units.specs.Lists.{any, in_range}
use Rattle.units.proofs.Tests.{and_true, true_T}
use Rattle.units.proofs.Facts.{chain_true, range_true}
use Rattle.units.proofs.Members.{member_any}
use Rattle.orders.specs.declared.order.Kind.TheVariants.{Displayed, NonDisplayed, MinimumQuantity, Reserve}
use Rattle.orders.specs.declared.order.Order.{Order}
use Rattle.orders.specs.declared.order.Taker.{Taker}
use Rattle.orders.specs.Order.{minimum_of, interest_by, interest_of, all_shares, number_in_range, price_in_range, shares_in_range, security_in_range, minimum_in_range, reserve_in_range}
use Rattle.orders.specs.Trading.{is_tradable, as_taker}
use Rattle.book.specs.Sound.{sound, orders_of, capacity_of}
use Rattle.book.proofs.Refusing.{refusals_of, not_given}
use Rattle.entry.specs.declared.admission.AddRequest.{AddRequest}
use Rattle.entry.specs.Add.{request_in_range, requested, could_trade, add_refusals, add_call}
use Rattle.matching.specs.declared.TakeRequest.{TakeRequest}
use Rattle.matching.specs.TakeCall.{incoming_of, take_call}
use Rattle.matching.proofs.TakeFair.{take_fair}

-- the request adds no more in all than the take left over, at its limit, on its side, in its security; its number, kind, minimum and
-- refresh size are free
pub record AddsLeftOver (q : TakeRequest) (left : ℕ) (r : AddRequest) : Type 0 where
  pub same_side : r.side ≡ q.side
  pub same_security : r.security ≡ q.security
  pub at_limit : r.price ≡ q.limit
  pub no_more : r.size + r.hidden ≤ left

module _ (q : TakeRequest) (s x : List ℕ) (e : (take_call q s x).taken.refusal ≡ 0) (r : AddRequest) (a : AddsLeftOver q (take_call q s x).taken.left r) where
  -- the book that the take leaves
  abbrev book : List ℕ
  book = (take_call q s x).book

  abbrev new : Order
  new = requested r false

  -- the new order trades with whom the incoming order did
  same_taker : as_taker new ≡ (incoming_of q).taker
  unfolding requested
  same_taker = rw (a.same_side, a.at_limit, a.same_security)

  new_size : all_shares (interest_of new) ≤ (take_call q s x).taken.left
  unfolding requested
  new_size = omega (arith, a.no_more, within (eqb r.kind 1) (eqb r.kind 2) (eqb r.kind 3))
    where
      within : (b c d : Bool)
          → all_shares (interest_by (cond b Displayed (cond c NonDisplayed (cond d (MinimumQuantity (record { 0 = r.minimum })) (Reserve (record { 0 = r.hidden }) (record { 0 = r.refresh }))))) r.size)
          ≤ r.size + r.hidden
      within true c d = omega arith
      within false true d = omega arith
      within false false true = omega arith
      within false false false = omega arith

  -- an order that it could trade with has a minimum above what is left, and not above it
  no_partner : 0 < r.size → (o : Order) → Memᴰ o (orders_of book) → could_trade new o ≡ true → ⊥
  no_partner l o i h =
      let b = and_true (is_tradable (as_taker new) o) (leb (minimum_of o.kind) (all_shares (interest_of new))) h in
      let t = ap (λ (t : Taker). is_tradable t o) (sym same_taker) ∙ b.0 in
      let u = (take_fair q s x e).unmet (omega (arith, a.no_more)) o i (true_T _ t) in
      omega (arith, u.1, new_size, leb-true (minimum_of o.kind) (all_shares (interest_of new)) b.1)

  trades_not : 0 < r.size → any (could_trade new) (orders_of book) ≡ false
  trades_not l = go (any (could_trade new) (orders_of book)) refl
    where
      go : (b : Bool) → any (could_trade new) (orders_of book) ≡ b → b ≡ false
      go true f = let m = member_any (could_trade new) (orders_of book) f in absurd (no_partner l m.0 m.1 m.2)
      go false f = refl

  -- a request in range asks for a share or more
  some_shares : request_in_range r ≡ true → 0 < r.size
  some_shares h =
      let ranges = number_in_range r.number ∷ price_in_range r.price ∷ shares_in_range r.size ∷ minimum_in_range r.kind r.size r.minimum ∷ reserve_in_range r.kind r.hidden r.refresh ∷
      (not (eqb r.kind 4) || eqb r.refresh r.size) ∷ security_in_range r.security ∷ [] in
      let c = chain_true (in_range 1 2 r.side) (in_range 1 4 r.kind ∷ ranges) h in
      omega (arith, (range_true 1 999999 r.size c.1.1.1.1.0).0)

  -- adding what is left over is never refused 5
  pub left_over_rests : (add_call r book).refusal ≡ 5 → ⊥
  unfolding add_call
  left_over_rests f = go (request_in_range r) refl
    where
      go : (b : Bool) → request_in_range r ≡ b → ⊥
      go true h =
          not_given 5 (λ z. omega arith) (refusals_of (add_refusals r (capacity_of book) (orders_of book)) (sound book)) (rw (trades_not (some_shares h))) f
      go false h = let z : ◌≡◌ {A = ℕ} 1 5 = rw h at f in omega arith
