-- What was allocated is the outcome: its executions, the shares left, and the orders afterwards.
use Prim.Native.Nat.{ℕ, ◌-◌, ◌≤◌, ◌<◌}
use mathlib.Core.Path.{◌≡◌, sym, ap, ◌∙◌}
use mathlib.Core.Bool.{Bool, true, false}
use mathlib.Core.List.{List, [], ◌∷◌, map}
use native.Mathlib.Omega.{arith}
use lib.Dec.{ltb}
use lib.ListN.{length, get_or, take, length-map, length-take}
use Rattle.units.specs.Lists.{filter, cons_if, zip_with, in_range, sum}
use Rattle.units.specs.Lots.{round_lot}
use Rattle.units.proofs.Members.{Every, every_weaken}
use Rattle.units.proofs.Facts.{chain_true, range_true}
use Rattle.units.specs.declared.Shares.{Shares}
use Rattle.orders.specs.declared.order.Order.{Order}
use Rattle.orders.specs.Order.{Visibility, shown, hidden, settled, is_resting, price_in_range, shares_in_range, security_in_range}
use Rattle.orders.specs.Losses.{losses_in}
use Rattle.book.specs.Sound.{sound, orders_of, order_at}
use Rattle.book.proofs.Soundness.{OrdersSound, orders_sound}
use Rattle.book.proofs.Checking.{sound_fits}
use Rattle.matching.specs.declared.TakeRequest.{TakeRequest}
use Rattle.matching.specs.declared.Algorithm.{Algorithm}
use Rattle.matching.specs.declared.incoming.Incoming.{Incoming}
use Rattle.matching.specs.Paragraph.{algorithm_of}
use Rattle.matching.specs.Take.{Outcome, outcome}
use Rattle.matching.specs.TakeCall.{request_in_range, incoming_of, outcome_of, written}
use Rattle.parts.specs.Key.{place_in, with_shares}
use Rattle.parts.proofs.Keys.{with_place}
use Rattle.parts.specs.Arranged.{Arranged}
use Rattle.parts.specs.Execution.{execution_of}
use Rattle.allocation.specs.Walk.{Walks, fills_of, got_at}
use Rattle.allocation.specs.Stretch.{Ends}
use Rattle.allocation.specs.Credit.{seen, Ledger, ledger, left_in, Room}
use Rattle.allocation.specs.Sharing.{Book, Walked}
use Rattle.allocation.proofs.Arranging.{arranged_ready}
use Rattle.allocation.proofs.Crediting.{fills_few}
use Rattle.allocation.proofs.Dividing.{book_beside}
use Rattle.allocation.proofs.Enough.{walk_within}
use Rattle.allocation.proofs.Way.{group_few}
use Rattle.allocation.proofs.Outcome.{walk_executions, walk_uses, walk_losses}

-- a size in range is no more than the most
pub size_most : (q : TakeRequest) → request_in_range q ≡ true → q.size ≤ 999999
size_most q e =
    let ranges = price_in_range q.limit ∷ shares_in_range q.size ∷ in_range 1 3 q.algorithm ∷ security_in_range q.security ∷ [] in
    let a = chain_true (in_range 1 2 q.side) ranges e in
    (range_true 1 999999 q.size a.1.1.0).1

-- What a take has come to is the outcome.
pub record Decided (q : TakeRequest) (s : List ℕ) (end : Ledger) : Type 0 where
  -- there are as many fills as executions, in their memory, each of an order of the book
  pub count : end.progress.count ≡ length (outcome_of q (orders_of s)).executions
  pub fits : end.progress.count ≤ length end.fills
  pub few : end.progress.count ≤ 512
  pub places : Every (λ k. place_in k < length (orders_of s)) (take end.progress.count end.fills)
  -- their executions, the shares left, and the orders that still rest
  pub written : (x : List ℕ) → written (map (execution_of (order_at s)) (take end.progress.count end.fills)) x
      ≡ written (outcome_of q (orders_of s)).executions x
  pub left : left_in end ≡ (outcome_of q (orders_of s)).left
  pub orders : (n : ℕ) → n ≡ length (orders_of s)
      → filter is_resting (zip_with settled (losses_in n (end.allotment shown) (end.allotment hidden)) (orders_of s)) ≡ (outcome_of q (orders_of s)).orders

-- a fill is of the record that its key is of
fills_within : (m : ℕ) (keys gets : List ℕ) → Every (λ k. place_in k < m) keys → sum gets < 1048576 → Every (λ k. place_in k < m) (fills_of keys gets)
fills_within m [] gets a h = tt
fills_within m (k ∷ keys) [] a h = tt
fills_within m (k ∷ keys) (n ∷ gets) a h = go (ltb 0 n) (fills_within m keys gets a.1 (omega arith))
  where
    go : (c : Bool) → Every (λ x. place_in x < m) (fills_of keys gets) → Every (λ x. place_in x < m) (cons_if c (with_shares n k) (fills_of keys gets))
    go true r = (omega (arith, with_place n k (omega arith), a.0), r)
    go false r = r

-- a walk with the same numbers
walks_as : (at : ℕ → Order) {lot lot' left left' : ℕ} {alg alg' : Algorithm} {keys gets : List ℕ} → lot ≡ lot' → alg ≡ alg' → left ≡ left'
    → Walks at lot alg keys left gets → Walks at lot' alg' keys left' gets
walks_as at a b c w = rw (a, b, c) at w

module _ (q : TakeRequest) (s : List ℕ) (e : request_in_range q ≡ true) (f : sound s ≡ true) where
  abbrev os : List Order
  os = orders_of s

  abbrev alg : Algorithm
  alg = algorithm_of q.algorithm

  abbrev i : Incoming
  i = incoming_of q

  fine : OrdersSound os
  fine = orders_sound s f

  few : length os ≤ 256
  few = (sound_fits s f).1

  -- The incoming order, the algorithm and the lot that the call says, and the keys in their order.
  module _ {order : Incoming} {algorithm : Algorithm} {lot : Shares} (x : order ≡ i) (y : algorithm ≡ alg) (v : lot.0 ≡ round_lot)
      {keys : List ℕ} (arranged : Arranged lot.0 algorithm order os keys) (l : length keys ≤ 512) where
    a : Arranged round_lot alg i os keys
    a = rw (x, y, v) at arranged

    book : Book s round_lot alg i.taker keys
    book = record {
      is_sound = f;
      has_lot = omega arith;
      ready = arranged_ready round_lot alg i (order_at s) os (book_beside s) fine.each few a;
      few = l;
    }

    -- they can be walked
    pub arranged_book : Book s lot.0 algorithm order.taker keys
    arranged_book = rw (x, y, v) book

    pub arranged_room : {fills ss hs : List ℕ} → length keys ≤ length fills → ((v : Visibility) → length os ≤ length (seen v ss hs))
        → ((v : Visibility) (j : ℕ) → get_or (seen v ss hs) j 0 ≡ 0) → Room keys (ledger (record { incoming = order; count = 0 }) fills ss hs)
    arranged_room h k z = record {
      fills = omega arith;
      places = λ v. every_weaken (λ j p. omega (arith, k v, p.within)) keys book.ready.each;
      bounded = λ v j. omega (arith, z v j, ap (λ (o : Incoming). o.size.0) x, size_most q e);
    }

    -- no group of them is larger than the book
    pub arranged_groups : (from end : ℕ) → Ends keys from end → end - from ≤ length os
    arranged_groups from end g =
        group_few s keys round_lot alg i.taker (ledger (record { incoming = i; count = 0 }) [] [] []) book g

    -- What the walk came to.
    module _ {fills ss hs : List ℕ} {end : Ledger} (z : (v : Visibility) (j : ℕ) → get_or (seen v ss hs) j 0 ≡ 0)
        (r : (v : Visibility) → length os ≤ length (end.allotment v))
        (walked : Walked s keys lot.0 algorithm (ledger (record { incoming = order; count = 0 }) fills ss hs) end) where
      abbrev out : Outcome
      out = outcome_of q os

      abbrev gets : List ℕ
      gets = walked.gets

      reaches : order.size.0 ≡ q.size
      reaches = ap (λ (o : Incoming). o.size.0) x

      walks : Walks (order_at s) round_lot alg keys i.size.0 gets
      walks = walks_as (order_at s) v y reaches walked.walks

      -- the fills are those of the walk
      fills_are : take end.progress.count end.fills ≡ fills_of keys gets
      fills_are = walked.credited.fills

      -- there is room for them, and they are no more than the keys
      decided_room : end.progress.count ≤ length end.fills
      decided_room = omega (arith, length-take end.progress.count end.fills, ap length fills_are, walked.credited.count)

      decided_few : end.progress.count ≤ length keys
      decided_few = omega (arith, walked.credited.count, fills_few keys gets)

      executions_are : map (execution_of (order_at s)) (take end.progress.count end.fills) ≡ out.executions
      unfolding outcome_of outcome
      executions_are =
          walked.credited.executions (order_at s)
          ∙ sym (walk_executions round_lot (omega arith) alg i (order_at s) os fine few (book_beside s) a walks)

      -- as many as are counted
      decided_count : end.progress.count ≡ length out.executions
      decided_count =
          omega (arith, walked.credited.count, ap length fills_are, ap length executions_are, length-map (take end.progress.count end.fills) (execution_of (order_at s)))

      -- in the execution buffer they are written
      decided_written : (x : List ℕ) → written (map (execution_of (order_at s)) (take end.progress.count end.fills)) x ≡ written out.executions x
      decided_written x = ap (λ es. written es x) executions_are

      -- the shares left are the outcome's
      decided_left : left_in end ≡ out.left
      unfolding outcome_of outcome
      decided_left =
          omega (
            arith,
            ap (λ (o : Incoming). o.size.0) walked.credited.left,
            reaches,
            walk_uses round_lot (omega arith) alg i (order_at s) os fine few (book_beside s) a walks,
          )

      -- so are the orders that still rest
      decided_orders : (m : ℕ) → m ≡ length os → filter is_resting (zip_with settled (losses_in m (end.allotment shown) (end.allotment hidden)) os) ≡ out.orders
      unfolding outcome_of outcome
      decided_orders m c =
          ap (λ k. filter is_resting (zip_with settled (losses_in k (end.allotment shown) (end.allotment hidden)) os)) c
          ∙ ap (λ ls. filter is_resting (zip_with settled ls os))
          (sym (walk_losses round_lot (omega arith) alg i (order_at s) os fine few (book_beside s) a walks (end.allotment shown) (end.allotment hidden) (r shown) (r hidden) got))
        where
          credit : (v : Visibility) (j : ℕ) → get_or (end.allotment v) j 0 ≡ got_at alg v j keys gets
          credit v j = omega (arith, walked.credited.allotment v j, z v j, ap (λ x. got_at x v j keys gets) y)

          got : (v : Visibility) (j : ℕ) → j < length os → get_or (seen v (end.allotment shown) (end.allotment hidden)) j 0 ≡ got_at alg v j keys gets
          got shown j h = credit shown j
          got hidden j h = credit hidden j

      -- each is of an order of the book
      decided_places : Every (λ k. place_in k < length os) (take end.progress.count end.fills)
      decided_places =
          rw fills_are
          (fills_within (length os) keys gets (every_weaken (λ k x. x.within) keys book.ready.each)
          (omega (arith, size_most q e, walk_within round_lot (omega arith) alg i.taker (order_at s) os fine few (book_beside s) walks book.ready)))

      pub decided : Decided q s end
      decided = record {
        count = decided_count;
        fits = decided_room;
        few = omega (arith, decided_few);
        places = decided_places;
        written = decided_written;
        left = decided_left;
        orders = decided_orders;
      }
