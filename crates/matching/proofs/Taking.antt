-- An accepted take: the book that it leaves is sound, and has the orders of the outcome; its buffer has the outcome's executions.
use Prim.Native.Nat.{ℕ, ◌*◌, ◌≤◌}
use mathlib.Core.Path.{◌≡◌, refl, ap}
use mathlib.Core.Bool.{true, cond}
use mathlib.Core.List.{List, [], ◌∷◌}
use native.Mathlib.Omega.{arith}
use lib.ListN.{length, drop}
use lib.Dec.{eqb}
use borrow.Author.Tests.{eq-eqb, not-false}
use Rattle.units.specs.Lists.{in_range, or_zero}
use Rattle.units.specs.Lots.{round_lot}
use Rattle.units.proofs.Facts.{chain_true, range_true}
use Rattle.units.proofs.Members.{Every}
use Rattle.book.specs.Sound.{sound, orders_of, capacity_of}
use Rattle.book.proofs.Soundness.{OrdersSound, orders_fit, orders_sound}
use Rattle.book.proofs.Settlement.{settle_sound, settle_fewer}
use Rattle.book.proofs.Refusing.{Accepted, accepted}
use Rattle.book.proofs.Changing.{changed_orders, changed_sound}
use Rattle.orders.specs.declared.order.Order.{Order}
use Rattle.orders.specs.Order.{price_in_range, shares_in_range, security_in_range}
use Rattle.record.specs.Execution.{execution_bytes, executions_in}
use Rattle.record.proofs.Executions.{ExecutionFits, executions_in_lem}
use Rattle.matching.specs.declared.Algorithm.{Algorithm}
use Rattle.matching.specs.declared.incoming.Incoming.{Incoming}
use Rattle.matching.specs.Paragraph.{algorithm_of}
use Rattle.matching.specs.Take.{allocations, losses_of, Outcome, outcome}
use Rattle.matching.specs.declared.TakeRequest.{TakeRequest}
use Rattle.matching.specs.TakeCall.{request_in_range, incoming_of, outcome_of, take_refusals, written, take_call}
use Rattle.matching.proofs.Executed.{executions_fit}

module _ (lot : ℕ) (alg : Algorithm) (i : Incoming) (os : List Order) where
  -- sound orders stay sound
  pub outcome_sound : OrdersSound os → OrdersSound (outcome lot alg i os).orders
  unfolding outcome
  outcome_sound h = settle_sound (losses_of os (allocations lot alg i os)) os h

  outcome_fewer : length (outcome lot alg i os).orders ≤ length os
  unfolding outcome
  outcome_fewer = settle_fewer (losses_of os (allocations lot alg i os)) os

module _ (q : TakeRequest) (s x : List ℕ) (e : (take_call q s x).taken.refusal ≡ 0) where
  abbrev out : Outcome
  out = outcome_of q (orders_of s)

  pub call : Accepted (take_refusals q out.executions x) (sound s)
  unfolding take_call
  call = accepted (take_refusals q out.executions x) (sound s) refl e

  -- the numbers given are in range
  pub in_range_lem : request_in_range q ≡ true
  in_range_lem = not-false (request_in_range q) call.of_call.0

  pub sound_orders : OrdersSound (orders_of s)
  sound_orders = orders_sound s call.book

  orders_left : OrdersSound out.orders
  unfolding outcome_of
  orders_left = outcome_sound round_lot (algorithm_of q.algorithm) (incoming_of q) (orders_of s) sound_orders

  room : length out.orders ≤ capacity_of s
  unfolding outcome_of
  room = omega (arith, outcome_fewer round_lot (algorithm_of q.algorithm) (incoming_of q) (orders_of s), orders_fit s)

  -- the book has the orders of the outcome
  pub take_orders : orders_of (take_call q s x).book ≡ out.orders
  unfolding take_call
  take_orders = changed_orders (take_call q s x).taken.refusal s out.orders e call.book orders_left room

  -- it is sound
  pub take_sound : sound (take_call q s x).book ≡ true
  unfolding take_call
  take_sound = changed_sound (take_call q s x).taken.refusal s out.orders e call.book orders_left room

  accepts : eqb (take_call q s x).taken.refusal 0 ≡ true
  accepts = eq-eqb (take_call q s x).taken.refusal 0 e

  -- it counts the executions of the outcome
  pub take_count : (take_call q s x).taken.count ≡ length out.executions
  unfolding take_call
  take_count = ap (λ b. or_zero b (length out.executions)) accepts

  -- it gives the shares left
  pub take_left : (take_call q s x).taken.left ≡ out.left
  unfolding take_call
  take_left = ap (λ b. or_zero b out.left) accepts

  -- it writes the executions
  pub take_written : (take_call q s x).executions ≡ written out.executions x
  unfolding take_call
  take_written = ap (λ b. cond b (written out.executions x) x) accepts

  -- these fit their bytes
  pub take_fits : Every ExecutionFits out.executions
  unfolding outcome_of
  take_fits =
      let a = chain_true (in_range 1 2 q.side) (price_in_range q.limit ∷ shares_in_range q.size ∷ in_range 1 3 q.algorithm ∷ security_in_range q.security ∷ []) in_range_lem in
      executions_fit round_lot (omega arith) (algorithm_of q.algorithm) (incoming_of q) (orders_of s) sound_orders (range_true 1 999999 q.size a.1.1.0).1

  -- and are read back
  pub take_executions : executions_in (take_call q s x).taken.count (take_call q s x).executions ≡ out.executions
  unfolding written
  take_executions = rw (take_count, take_written) (executions_in_lem out.executions (drop (execution_bytes * length out.executions) x) take_fits)
