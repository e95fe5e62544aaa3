-- The order that a request in range asks for is sound.
use Prim.Native.Nat.{ℕ, zero, suc}
use mathlib.Core.Path.{◌≡◌, refl, subst⁻¹}
use mathlib.Core.Bool.{Bool, true, false, not, ◌&&◌, ◌||◌, false≢true}
use mathlib.Core.List.{List, [], ◌∷◌}
use native.Mathlib.Omega.{arith}
use lib.Dec.{eqb}
use Rattle.units.specs.Lists.{in_range, or_zero, is_zero}
use Rattle.units.proofs.Tests.{true_and}
use Rattle.units.proofs.Facts.{chain_true, range_true}
use Rattle.orders.specs.Order.{kind_of, is_displayed, number_in_range, price_in_range, shares_in_range, security_in_range, minimum_in_range, reserve_in_range}
use Rattle.record.specs.Record.{order_of}
use Rattle.record.proofs.Rows.{setter_of, all_passed, all_told}
use Rattle.record.proofs.Orders.{OrderSound, row_sound_lem}
use Rattle.entry.specs.declared.admission.AddRequest.{AddRequest}
use Rattle.entry.specs.Add.{request_in_range, requested}

-- a kind that counts as displayed has number 1 or 4
displayed_kind : (k m h r : ℕ) → in_range 1 4 k ≡ true → is_displayed (kind_of k m h r) ≡ true → (eqb k 1 || eqb k 4) ≡ true
displayed_kind zero m h r e f = absurd (false≢true e)
displayed_kind (suc zero) m h r e f = refl
displayed_kind (suc (suc zero)) m h r e f = absurd (false≢true f)
displayed_kind (suc (suc (suc zero))) m h r e f = absurd (false≢true f)
displayed_kind (suc (suc (suc (suc zero)))) m h r e f = refl
displayed_kind (suc (suc (suc (suc (suc k))))) m h r e f = absurd (omega (arith, range_true 1 4 (suc (suc (suc (suc (suc k))))) e))

module _ (q : AddRequest) where
  -- the numbers that are asked for, in the places of a record
  abbrev row : Bool → List ℕ
  row b = q.side ∷ q.kind ∷ q.number ∷ q.price ∷ q.size ∷ q.minimum ∷ or_zero b 1 ∷ q.security ∷ 0 ∷ 0 ∷ q.hidden ∷ q.refresh ∷ []

  requested_row : (b : Bool) → requested q b ≡ order_of (row b)
  unfolding requested order_of
  requested_row b = rw (setter_of b)

  mark_test : (b displayed : Bool) → (b ≡ true → displayed ≡ true) → (is_zero (or_zero b 1) || (eqb (or_zero b 1) 1 && displayed)) ≡ true
  mark_test true displayed h = h refl
  mark_test false displayed h = refl

  -- the order of a request in range is sound, marked only where it is displayed
  pub requested_sound : request_in_range q ≡ true → (b : Bool) → (b ≡ true → is_displayed (requested q b).kind ≡ true) → OrderSound (requested q b)
  unfolding requested
  requested_sound e b h =
      let t =
      chain_true (in_range 1 2 q.side)
      (in_range 1 4 q.kind ∷
      number_in_range q.number ∷
      price_in_range q.price ∷
      shares_in_range q.size ∷
      minimum_in_range q.kind q.size q.minimum ∷
      reserve_in_range q.kind q.hidden q.refresh ∷
      (not (eqb q.kind 4) || eqb q.refresh q.size) ∷
      security_in_range q.security ∷ [])
      e in
      let k = t.1 in
      let p = k.1.1 in
      let m = p.1.1 in
      let mark =
      mark_test b (eqb q.kind 1 || eqb q.kind 4) (λ f. displayed_kind q.kind q.minimum q.hidden q.refresh k.0 (h f)) in
      subst⁻¹ OrderSound (requested_row b)
      (row_sound_lem (row b)
      (true_and (all_passed (row b) t.0 k.1.0 p.0 p.1.0 m.0 mark refl) (all_told (row b) k.0 m.1.1.1.0 refl m.1.0)))
