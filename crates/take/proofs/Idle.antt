-- A take that no part may trade with leaves all its shares and both buffers as they are.
use Prim.Native.Nat.{ℕ, zero, suc, ◌≤◌}
use mathlib.Core.Path.{◌≡◌, refl, sym, ap, ◌∙◌}
use mathlib.Core.Bool.{true}
use mathlib.Core.List.{List, [], ◌∷◌}
use native.Mathlib.Omega.{arith}
use lib.ListN.{length, get_or, replicate, length-replicate}
use Rattle.units.specs.Lists.{filter, zip_with}
use Rattle.units.specs.Lots.{round_lot}
use Rattle.units.proofs.Members.{Every}
use Rattle.units.specs.declared.Shares.{Shares}
use Rattle.orders.specs.declared.order.Order.{Order}
use Rattle.orders.specs.Order.{Visibility, shown, hidden, settled, is_resting}
use Rattle.orders.specs.Losses.{losses_in}
use Rattle.record.proofs.Numbers.{AreBytes}
use Rattle.record.proofs.Settling.{settled_nothing, sound_rests}
use Rattle.record.proofs.Orders.{OrderSound}
use Rattle.book.specs.Sound.{sound, orders_of, book_of, capacity_of}
use Rattle.book.proofs.Soundness.{orders_sound}
use Rattle.book.proofs.Restoring.{book_orders}
use Rattle.matching.specs.declared.TakeRequest.{TakeRequest}
use Rattle.matching.specs.declared.Algorithm.{Algorithm}
use Rattle.matching.specs.declared.incoming.Incoming.{Incoming}
use Rattle.matching.specs.Paragraph.{algorithm_of}
use Rattle.matching.specs.TakeCall.{request_in_range, incoming_of, written}
use Rattle.parts.specs.Arranged.{Arranged}
use Rattle.allocation.specs.Walk.{Walks}
use Rattle.allocation.specs.Credit.{Ledger, ledger}
use Rattle.allocation.proofs.Crediting.{credited_none}
use Rattle.take.specs.Answers.{Answers}
use Rattle.take.proofs.Answers.{accepted}
use Rattle.take.proofs.Deciding.{Decided, decided}
use Rattle.take.proofs.Memory.{zeros_all}

-- sound orders that lose nothing all stay as they are
nothing_lost : (n : ℕ) (os : List Order) → Every OrderSound os → n ≡ length os
    → filter is_resting (zip_with settled (losses_in n (replicate n 0) (replicate n 0)) os) ≡ os
nothing_lost n [] h e = rw e
nothing_lost zero (o ∷ os) h e = absurd (omega arith)
nothing_lost (suc n) (o ∷ os) h e =
    rw (settled_nothing o h.0, sound_rests o h.0) (ap (λ l. o ∷ l) (nothing_lost n os h.1 (omega arith)))

-- no executions are no bytes
none_written : (x : List ℕ) → written [] x ≡ x
unfolding written
none_written x = refl

module _ (q : TakeRequest) (s x : List ℕ) (e : request_in_range q ≡ true) (f : sound s ≡ true) (b : AreBytes s) where
  abbrev os : List Order
  os = orders_of s

  module _ {order : Incoming} {algorithm : Algorithm} {lot : Shares} (u : order ≡ incoming_of q) (y : algorithm ≡ algorithm_of q.algorithm)
      (v : lot.0 ≡ round_lot) {keys : List ℕ} (arranged : Arranged lot.0 algorithm order os keys) where
    -- nothing is executed, and nothing allotted
    abbrev start : Ledger
    start = ledger (record { incoming = order; count = 0 }) [] (replicate (length os) 0) (replicate (length os) 0)

    idle_decided : keys ≡ [] → Decided q s start
    idle_decided z =
        decided q s e f u y v arranged (omega (arith, ap length z)) {fills = []} {ss = replicate (length os) 0} {hs = replicate (length os) 0} {end = start} nothing long
        (record { gets = []; walks = rw z (Walks.none _); credited = rw z (credited_none start) })
      where
        nothing : (v : Visibility) (j : ℕ) → get_or (start.allotment v) j 0 ≡ 0
        nothing shown j = zeros_all (length os) j
        nothing hidden j = zeros_all (length os) j

        long : (v : Visibility) → length os ≤ length (start.allotment v)
        long shown = omega (arith, length-replicate {A = ℕ} (length os) 0)
        long hidden = omega (arith, length-replicate {A = ℕ} (length os) 0)

    pub idle : keys ≡ [] → Answers q s x (record { refusal = 0; count = 0; left = order.size.0 }) s x
    idle z =
        let d = idle_decided z in
        accepted q s x e f d.count d.left
        (sym (book_orders s f b) ∙ ap (book_of (capacity_of s)) (sym (nothing_lost (length os) os (orders_sound s f).each refl) ∙ d.orders (length os) refl))
        (sym (none_written x) ∙ d.written x) (omega arith)
