-- Take keeps to its security.
use Prim.Native.Nat.{ℕ, ◌*◌, ◌≤◌}
use mathlib.Core.Path.{◌≡◌, refl, ap}
use mathlib.Core.List.{List}
use native.Mathlib.Omega.{arith}
use lib.ListN.{length}
use lib.Dec.{ltb}
use Rattle.units.specs.Lists.{filter}
use Rattle.units.specs.Lots.{round_lot}
use Rattle.units.proofs.Members.{Every}
use Rattle.orders.specs.declared.order.Order.{Order}
use Rattle.record.proofs.Orders.{OrderSound}
use Rattle.orders.specs.Trading.{of_security}
use Rattle.record.specs.Execution.{execution_bytes}
use Rattle.book.specs.Sound.{orders_of, capacity_of}
use Rattle.book.specs.Securities.{NonInterfering, LeavesOthers}
use Rattle.book.proofs.Soundness.{OrdersSound, orders_sound, orders_fit}
use Rattle.book.proofs.Settlement.{settle_fewer}
use Rattle.matching.specs.declared.TakeRequest.{TakeRequest}
use Rattle.matching.specs.Paragraph.{algorithm_of}
use Rattle.matching.specs.Take.{allocations, losses_of, outcome}
use Rattle.matching.specs.TakeCall.{incoming_of, outcome_of, take_refusals, take_call}
use Rattle.matching.proofs.Taking.{outcome_sound, call, sound_orders}
use Rattle.securities.specs.Calls.{take_on}
use Rattle.securities.proofs.Refusing.{alike}
use Rattle.securities.proofs.Keeping.{SameFor, Keeping, Changing, same_of, keeps, same_records, leaves}
use Rattle.securities.proofs.Outcome.{outcome_executions, outcome_left, outcome_orders, outcome_others}

module _ (q : TakeRequest) where
  -- the orders of its security
  abbrev own : List Order → List Order
  own = filter (of_security q.security)

  -- A take on sound orders gives what it gives on those of the security.
  module _ (os : List Order) (h : OrdersSound os) where
    executions_for : (outcome_of q os).executions ≡ (outcome_of q (own os)).executions
    unfolding outcome_of
    executions_for = outcome_executions round_lot (algorithm_of q.algorithm) (incoming_of q) os h.rise

    left_for : (outcome_of q os).left ≡ (outcome_of q (own os)).left
    unfolding outcome_of
    left_for = outcome_left round_lot (algorithm_of q.algorithm) (incoming_of q) os h.rise

    orders_for_lem : own (outcome_of q os).orders ≡ (outcome_of q (own os)).orders
    unfolding outcome_of
    orders_for_lem = outcome_orders round_lot (algorithm_of q.algorithm) (incoming_of q) os h.rise

    -- it leaves the orders of another as they were
    orders_others : (j : ℕ) → ¬ (j ≡ q.security) → filter (of_security j) (outcome_of q os).orders ≡ filter (of_security j) os
    unfolding outcome_of
    orders_others j n = outcome_others round_lot (algorithm_of q.algorithm) (incoming_of q) os h.rise h.each j n

  -- so it gives the same on two sound books with equal records of the security
  same_executions : (s t : List ℕ) → SameFor q.security s t → (outcome_of q (orders_of s)).executions ≡ (outcome_of q (orders_of t)).executions
  same_executions s t b = same_of (λ os. (outcome_of q os).executions) (λ os. (outcome_of q os).executions) executions_for b

  same_left : (s t : List ℕ) → SameFor q.security s t → (outcome_of q (orders_of s)).left ≡ (outcome_of q (orders_of t)).left
  same_left s t b = same_of (λ os. (outcome_of q os).left) (λ os. (outcome_of q os).left) left_for b

  room : (s : List ℕ) → length (outcome_of q (orders_of s)).orders ≤ capacity_of s
  unfolding outcome_of outcome
  room s =
      let os = orders_of s in
      omega (arith, settle_fewer (losses_of os (allocations round_lot (algorithm_of q.algorithm) (incoming_of q) os)) os, orders_fit s)

  each : (s : List ℕ) → OrdersSound (orders_of s) → Every OrderSound (outcome_of q (orders_of s)).orders
  unfolding outcome_of
  each s h = (outcome_sound round_lot (algorithm_of q.algorithm) (incoming_of q) (orders_of s) h).each

  module _ (x : List ℕ) where
    -- take changes the orders of its security alone
    pub take_changing : Changing q.security (take_on q x)
    unfolding take_call
    take_changing = record {
      orders = λ s. (outcome_of q (orders_of s)).orders;
      book = λ s. refl;
      roomy = λ s e. record { is_sound = (call q s x e).book; fit = room s; each = each s (sound_orders q s x e) };
      own = λ s t b. same_of (λ os. own (outcome_of q os).orders) (λ os. (outcome_of q os).orders) orders_for_lem b;
      others = λ s e. orders_others (orders_of s) (orders_sound s e);
    }

    -- and looks at these alone
    pub take_keeping : Keeping q.security (λ s. take_refusals q (outcome_of q (orders_of s)).executions x) (take_on q x)
    unfolding take_call
    take_keeping = record {
      refusal = λ s. refl;
      alike = λ s t b. record {
        of_call = (alike refl, tt);
        of_book = (alike (ap (λ es. ltb (length x) (execution_bytes * length es)) (same_executions s t b)), tt);
      };
      records = same_records take_changing;
      others = λ s t b r i. rw (r, same_executions s t b, same_left s t b);
    }

    -- take on two sound books with equal records of the security gives the same and leaves the same records of it
    pub take_keeps : NonInterfering q.security (take_on q x)
    take_keeps = keeps take_keeping

    -- and leaves every other security's records as they were
    pub take_others : LeavesOthers q.security (take_on q x)
    take_others = leaves take_changing
