-- No command puts a reserve order into a book that has none: a sheet has no line for one.
use Prim.Native.Nat.{ℕ, zero, suc}
use mathlib.Core.Path.{◌≡◌, refl, ◌∙◌}
use mathlib.Core.Bool.{true, false, not, ◌||◌, false≢true}
use mathlib.Core.List.{List, [], ◌∷◌, map}
use native.Mathlib.Omega.{arith}
use lib.Dec.{eqb}
use borrow.Author.Tests.{not-false}
use Rattle.units.specs.Lists.{in_range}
use Rattle.units.specs.Lots.{round_lot}
use Rattle.units.proofs.Facts.{chain_true, range_true}
use Rattle.units.proofs.Members.{all_append}
use Rattle.units.proofs.Tests.{true_and}
use Rattle.orders.specs.declared.order.Order.{Order}
use Rattle.orders.specs.Order.{kind_of, is_reserve, number_in_range, price_in_range, shares_in_range, security_in_range, minimum_in_range, reserve_in_range}
use Rattle.book.specs.Sound.{orders_of}
use Rattle.entry.specs.declared.admission.AddRequest.{AddRequest}
use Rattle.entry.specs.Add.{request_in_range, requested, sets_price, added, add_call}
use Rattle.entry.specs.Reduce.{reduce_call}
use Rattle.entry.proofs.Adding.{add_accepted, add_orders}
use Rattle.entry.proofs.Reducing.{reduction_of, reduce_orders}
use Rattle.matching.specs.Parts.{without_reserve}
use Rattle.matching.proofs.Before.{without_left}

-- a kind in range without hidden shares and a refresh size
plain_kind : (k m : ℕ) → in_range 1 4 k ≡ true → reserve_in_range k 0 0 ≡ true → is_reserve (kind_of k m 0 0) ≡ false
plain_kind zero m e f = absurd (omega (arith, range_true 1 4 0 e))
plain_kind (suc zero) m e f = refl
plain_kind (suc (suc zero)) m e f = refl
plain_kind (suc (suc (suc zero))) m e f = refl
plain_kind (suc (suc (suc (suc zero)))) m e f = absurd (false≢true f)
plain_kind (suc (suc (suc (suc (suc k))))) m e f = absurd (omega (arith, range_true 1 4 (suc (suc (suc (suc (suc k))))) e))

module _ (s : List ℕ) (h : without_reserve (orders_of s) ≡ true) where
  -- an accepted add of an order that hides nothing and has no refresh size
  pub add_plain : (q : AddRequest) → q.hidden ≡ 0 → q.refresh ≡ 0 → (add_call q s).refusal ≡ 0 → without_reserve (orders_of (add_call q s).book) ≡ true
  unfolding added requested
  add_plain q a b e =
      let os = orders_of s in
      let new = requested q (sets_price round_lot (requested q false) os) in
      let t =
      chain_true (in_range 1 2 q.side)
      (in_range 1 4 q.kind ∷ number_in_range q.number ∷ price_in_range q.price ∷ shares_in_range q.size ∷
      minimum_in_range q.kind q.size q.minimum ∷ reserve_in_range q.kind q.hidden q.refresh ∷
      (not (eqb q.kind 4) || eqb q.refresh q.size) ∷ security_in_range q.security ∷ [])
      (not-false (request_in_range q) (add_accepted q s e).of_call.0) in
      let k = plain_kind q.kind q.minimum t.1.0 (rw (a, b) at t.1.1.1.1.1.1.0) in
      rw (add_orders q s e) (all_append (λ (o : Order). not (is_reserve o.kind)) os (new ∷ []) ∙ true_and h (rw (a, b, k)))

  -- an accepted reduce
  pub reduce_plain : (n shares : ℕ) → (reduce_call 0 n shares s).refusal ≡ 0 → without_reserve (orders_of (reduce_call 0 n shares s).book) ≡ true
  reduce_plain n shares e = rw (reduce_orders 0 n shares s e) (without_left (map (reduction_of 0 n shares) (orders_of s)) (orders_of s) h)
