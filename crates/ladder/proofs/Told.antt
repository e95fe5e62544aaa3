-- What the ladder of a sound book tells.
use Prim.Native.Nat.{ℕ, zero, suc, ◌+◌, ◌-◌, ◌*◌, ◌≤◌}
use mathlib.Core.Path.{◌≡◌, refl, ap, ◌∙◌}
use mathlib.Core.Bool.{Bool, true}
use mathlib.Core.List.{List, [], ◌∷◌, map}
use native.Mathlib.Omega.{arith}
use lib.ListN.{length, replicate, length-map}
use lib.Seq.{drop_at}
use Rattle.units.specs.Lists.{all, flat_map, is_zero, total}
use Rattle.units.proofs.Totals.{length_flat}
use Rattle.units.proofs.Members.{Every, every_weaken}
use Rattle.orders.specs.declared.order.Side.{Side}
use Rattle.orders.specs.declared.order.Order.{Order}
use Rattle.orders.specs.Order.{interest_of}
use Rattle.record.proofs.Orders.{OrderSound, order_facts}
use Rattle.book.specs.Sound.{most_orders, sound}
use Rattle.book.specs.Lookup.{orders_for}
use Rattle.ladder.specs.declared.row.Row.{Row}
use Rattle.ladder.specs.Row.{row_bytes, encode_row}
use Rattle.ladder.specs.Rows.{row_of, joined, rows_of, gathered}
use Rattle.ladder.specs.Ladder.{ladder_of, made_of}
use Rattle.ladder.specs.Depth.{in_order, rows_at, orders_at, Tells}
use Rattle.ladder.proofs.Ranks.{Priced}
use Rattle.ladder.proofs.Inserting.{gathered_every, joined_priced}
use Rattle.ladder.proofs.Telling.{gathered_order, gathered_sum, single_sum}
use Rattle.ladder.proofs.Bytes.{Amounts, amounts_one, amounts_within, gathered_amounts, length_row, rows_read}
use Rattle.ladder.proofs.Making.{rows_few}
use Rattle.ladder.proofs.Security.{security_few, security_sound}

total_ones : {A : Type 0} (xs : List A) → total (λ x. 1) xs ≡ length xs
total_ones [] = refl
total_ones (x ∷ xs) = omega (arith, total_ones xs)

zeros_zero : (n : ℕ) → all is_zero (replicate n 0) ≡ true
zeros_zero zero = refl
zeros_zero (suc n) = zeros_zero n

-- the rows of single orders that are sound
single_priced : (os : List Order) → Every OrderSound os → Every Priced (map row_of os)
unfolding row_of
single_priced [] h = tt
single_priced (o ∷ os) h = ((order_facts o h.0).price_most, single_priced os h.1)

single_amounts : (os : List Order) → Every OrderSound os → Every (Amounts 1) (map row_of os)
single_amounts [] h = tt
single_amounts (o ∷ os) h = (amounts_one o h.0, single_amounts os h.1)

-- Sound orders, at most 256.
module _ (os : List Order) (h : Every OrderSound os) (most : length os ≤ 256) where
  -- a number that is added up where rows are joined
  sums : (f : Row → ℕ) (g : Order → ℕ) → ((a b : Row) → f (joined a b) ≡ f a + f b) → ((o : Order) → f (row_of o) ≡ g o)
      → (at : Side → ℕ → Bool) → total f (rows_at at (rows_of os)) ≡ total g (orders_at at os)
  unfolding rows_of
  sums f g add one at = gathered_sum at f add (map row_of os) (single_priced os h) ∙ single_sum at f g one os

  rows_priced : Every Priced (rows_of os)
  unfolding rows_of
  rows_priced = gathered_every Priced joined_priced (map row_of os) (single_priced os h)

  rows_amounts : Every (Amounts 256) (rows_of os)
  unfolding rows_of
  rows_amounts =
      every_weaken (λ r a. amounts_within r (omega (arith, length-map os row_of)) a) (gathered (map row_of os)) (gathered_amounts (map row_of os) (single_amounts os h))

  rows_ordered : in_order (rows_of os) ≡ true
  unfolding rows_of
  rows_ordered = gathered_order (map row_of os) (single_priced os h)

  pub told : Tells os (ladder_of os) (rows_of os)
  unfolding ladder_of joined row_of
  told =
      let rs = rows_of os in
      let z = replicate {A = ℕ} (row_bytes * (most_orders - length rs)) 0 in
      record {
        read = rows_read rs z rows_priced rows_amounts;
        clear = ap (all is_zero) (drop_at (flat_map encode_row rs) z (row_bytes * length rs) (length_flat encode_row row_bytes length_row rs))
            ∙ zeros_zero (row_bytes * (most_orders - length rs));
        ordered = rows_ordered;
        few = rows_few os;
        orders = λ at. sums (λ r. r.orders) (λ o. 1) (λ a b. refl) (λ o. refl) at ∙ total_ones (orders_at at os);
        displayed = sums (λ r. r.displayed.0) (λ o. (interest_of o).displayed) (λ a b. refl) (λ o. refl);
        other = sums (λ r. r.other.0) (λ o. (interest_of o).non_displayed) (λ a b. refl) (λ o. refl);
      }

pub book_told : (j : ℕ) (s : List ℕ) → sound s ≡ true → Tells (orders_for j s) (made_of j s) (rows_of (orders_for j s))
book_told j s f = told (orders_for j s) (security_sound j s f) (security_few j s f)
