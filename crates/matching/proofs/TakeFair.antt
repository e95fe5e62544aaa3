-- The fairness demand, whole: of every outcome over sound orders, and of every accepted take on bytes.
use Prim.Native.Nat.{ℕ, ◌<◌}
use mathlib.Core.List.{List}
use native.Mathlib.Omega.{arith}
use Rattle.units.specs.Lots.{round_lot}
use Rattle.orders.specs.declared.order.Order.{Order}
use Rattle.book.specs.Sound.{orders_of}
use Rattle.book.proofs.Soundness.{OrdersSound}
use Rattle.matching.specs.declared.Algorithm.{Algorithm}
use Rattle.matching.specs.declared.incoming.Incoming.{Incoming}
use Rattle.matching.specs.Paragraph.{algorithm_of}
use Rattle.matching.specs.Take.{outcome}
use Rattle.matching.specs.declared.TakeRequest.{TakeRequest}
use Rattle.matching.specs.TakeCall.{incoming_of, outcome_of, take_call}
use Rattle.matching.specs.Fairness.{Fair, FairTake}
use Rattle.matching.proofs.Bounds.{lot_bounds_lem, setter_share_lem, setter_least_lem, beside_setter_lem}
use Rattle.matching.proofs.Unmet.{left_over_lem, left_unmet}
use Rattle.matching.proofs.Taking.{sound_orders, take_orders, take_left, take_executions}

-- for every lot, algorithm, incoming order and sound orders
pub outcome_fair : (lot : ℕ) → 0 < lot → (alg : Algorithm) (i : Incoming) (os : List Order) → OrdersSound os
    → Fair lot alg i os (outcome lot alg i os).executions (outcome lot alg i os).left (outcome lot alg i os).orders
outcome_fair lot l alg i os h = record {
  lot_bounds = lot_bounds_lem lot l alg i os h.rise h.setters;
  setter_share = setter_share_lem lot l alg i os h.rise h.setters;
  setter_least = setter_least_lem lot l alg i os h.rise h.setters;
  beside_setter = beside_setter_lem lot l alg i os h.rise h.setters;
  left_over = left_over_lem lot l alg i os h;
  unmet = left_unmet lot l alg i os h;
}

-- every take is fair
pub take_fair : (q : TakeRequest) (s x : List ℕ) → FairTake q s (take_call q s x)
unfolding outcome_of
take_fair q s x e =
    rw (take_executions q s x e, take_left q s x e, take_orders q s x e)
    (outcome_fair round_lot (omega arith) (algorithm_of q.algorithm) (incoming_of q) (orders_of s) (sound_orders q s x e))
