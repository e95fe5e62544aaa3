-- Keys that stand for parts of a book's orders, in their order.
use Rattle.std.specs.Prelude.{ℕ, ◌<◌, ◌≡◌, true, List, [], ◌∷◌}
use Rattle.units.proofs.Members.{Every}
use Rattle.orders.specs.declared.order.Order.{Order}
use Rattle.orders.specs.declared.order.Taker.{Taker}
use Rattle.orders.specs.Order.{Visibility, shares_of, interest_of}
use Rattle.orders.specs.Trading.{is_opposite_of}
use Rattle.matching.specs.declared.Algorithm.{Algorithm}
use Rattle.parts.specs.Key.{place_in}
use Rattle.parts.specs.Parts.{part_key}

-- each key is below all that follow it
abbrev pub Ascending : List ℕ → Type 0
Ascending [] = Unit {0}
Ascending (k ∷ keys) = Every (λ q. k < q) keys × Ascending keys

-- The orders of a book by the places of their records, the first n.
module _ (at : ℕ → Order) (n lot : ℕ) (alg : Algorithm) (t : Taker) where
  -- The key is that of an order on the other side, in the same security, of shares that it has.
  pub record Stands (key : ℕ) : Type 0 where
    pub within : place_in key < n
    pub opposite : is_opposite_of t (at (place_in key)) ≡ true
    pub visibility : Visibility
    pub some : 0 < shares_of visibility (interest_of (at (place_in key)))
    pub is : key ≡ part_key lot alg t.side visibility (place_in key) (at (place_in key))

  -- So is each of these, and they ascend.
  pub record Ready (keys : List ℕ) : Type 0 where
    pub each : Every Stands keys
    pub ascend : Ascending keys
