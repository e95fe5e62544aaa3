-- The parts that an incoming order needs, in the order in which it meets them.
use Rattle.std.specs.Prelude.{ℕ, ◌≡◌, List}
use Rattle.ordering.specs.Sorted.{sorted}
use Rattle.orders.specs.declared.order.Order.{Order}
use Rattle.matching.specs.declared.Algorithm.{Algorithm}
use Rattle.matching.specs.declared.incoming.Incoming.{Incoming}
use Rattle.parts.specs.Parts.{keys_from}
use Rattle.parts.specs.Narrowed.{Narrowed}

-- all that it may trade with, or those of the best price if they are enough; sorted
pub record Arranged (lot : ℕ) (alg : Algorithm) (i : Incoming) (os : List Order) (keys : List ℕ) : Type 0 where
  pub needed : List ℕ
  pub narrowed : Narrowed alg i.size.0 (keys_from lot alg i 0 os) needed
  pub in_order : keys ≡ sorted needed
