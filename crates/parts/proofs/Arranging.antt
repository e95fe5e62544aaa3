-- The keys of all parts, or the needed ones among them, in order at the front of the slice that they were written to.
use Prim.Native.Nat.{ℕ, ◌≤◌}
use mathlib.Core.Path.{◌≡◌, sym, ap, ◌∙◌}
use mathlib.Core.List.{List, ◌++◌}
use lib.ListN.{length, take, drop}
use lib.Seq.{length-take-le, take-append-le, take_at}
use Rattle.ordering.specs.Sorted.{sorted}
use Rattle.ordering.proofs.Order.{sorted_length}
use Rattle.orders.specs.declared.order.Order.{Order}
use Rattle.matching.specs.declared.Algorithm.{Algorithm}
use Rattle.matching.specs.declared.incoming.Incoming.{Incoming}
use Rattle.parts.specs.Parts.{keys_from}
use Rattle.parts.specs.Narrowed.{Narrowed, all}
use Rattle.parts.specs.Arranged.{Arranged}

module _ (lot : ℕ) (alg : Algorithm) (i : Incoming) (os : List Order) (keys : List ℕ) (e : keys ≡ keys_from lot alg i 0 os) where
  -- they rise as they were written
  pub arranged_rising : sorted keys ≡ keys → Arranged lot alg i os keys
  arranged_rising h = record { needed = keys_from lot alg i 0 os; narrowed = all; in_order = sym h ∙ ap sorted e }

  -- the needed ones were moved to the front, and put in order there
  pub arranged_sorted : (needed : ℕ) (moved rest front : List ℕ) → needed ≤ length moved → Narrowed alg i.size.0 keys (take needed moved)
      → front ≡ sorted (take needed (moved ++ rest))
      → Arranged lot alg i os (take needed (front ++ drop needed (moved ++ rest)))
  arranged_sorted needed moved rest front h n s =
      let t = take-append-le needed moved rest h in
      let f : length front ≡ needed = ap length s ∙ sorted_length (take needed (moved ++ rest)) ∙ ap length t ∙ length-take-le needed moved h in
      record {
        needed = take needed moved;
        narrowed = rw e at n;
        in_order = take_at front (drop needed (moved ++ rest)) needed f ∙ s ∙ ap sorted t;
      }
