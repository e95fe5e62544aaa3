-- How many shares a request has.
use Prim.Native.Nat.{◌+◌, ◌≤◌}
use mathlib.Core.Path.{◌≡◌, refl, sym, ◌∙◌}
use mathlib.Core.Bool.{Bool, true, false, not, ◌||◌, true≢false}
use mathlib.Core.List.{[], ◌∷◌}
use native.Mathlib.Omega.{arith}
use lib.Dec.{leb, eqb}
use borrow.Author.Tests.{eqb-true, leb-true}
use Rattle.units.specs.Lists.{in_range, is_zero}
use Rattle.units.proofs.Facts.{chain_true, range_true}
use Rattle.units.proofs.Tests.{and_true}
use Rattle.orders.specs.Order.{interest_of, all_shares, number_in_range, price_in_range, shares_in_range, security_in_range, minimum_in_range, reserve_in_range}
use Rattle.orders.proofs.KindTests.{all_by}
use Rattle.entry.specs.declared.admission.AddRequest.{AddRequest}
use Rattle.entry.specs.Add.{request_in_range, requested}

-- A request in range: its shares, shown and hidden, and that they can be counted.
pub record Asked (q : AddRequest) : Type 0 where
  pub shares : all_shares (interest_of (requested q false)) ≡ q.size + q.hidden
  pub few : q.size + q.hidden ≤ 1999998

pub asked : (q : AddRequest) → request_in_range q ≡ true → Asked q
unfolding requested
asked q e =
    let t =
    chain_true (in_range 1 2 q.side)
    (in_range 1 4 q.kind ∷ number_in_range q.number ∷ price_in_range q.price ∷ shares_in_range q.size ∷
    minimum_in_range q.kind q.size q.minimum ∷ reserve_in_range q.kind q.hidden q.refresh ∷
    (not (eqb q.kind 4) || eqb q.refresh q.size) ∷ security_in_range q.security ∷ [])
    e in
    let z = range_true 1 999999 q.size t.1.1.1.1.0 in
    let b = hides (eqb q.kind 4) refl t.1.1.1.1.1.1.0 in
    record { shares = all_by q.kind q.minimum q.hidden q.refresh q.size b.0; few = omega (arith, z.1, b.1) }
  where
    hides : (c : Bool) → eqb q.kind 4 ≡ c → reserve_in_range q.kind q.hidden q.refresh ≡ true
        → (eqb q.kind 4 ≡ false → q.hidden ≡ 0) × (q.hidden ≤ 999999)
    hides true f g =
        let a = and_true (leb q.hidden 999999) (shares_in_range q.refresh) (rw f at g) in
        ((λ n. let y : true ≡ false = sym f ∙ n in absurd (true≢false y)), leb-true q.hidden 999999 a.0)
    hides false f g =
        let a = and_true (is_zero q.hidden) (is_zero q.refresh) (rw f at g) in
        let y = eqb-true q.hidden 0 a.0 in
        ((λ n. y), omega (arith, y))
