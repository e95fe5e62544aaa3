-- A row's bytes: how many, that a row of at most 256 orders fits them, and that rows are read back.
use Prim.Native.Nat.{ℕ, suc, ◌+◌, ◌*◌, ◌≤◌, ◌<◌}
use mathlib.Core.Path.{◌≡◌, refl, ap, ◌∙◌}
use mathlib.Core.Bool.{Bool, true, false, cond}
use mathlib.Core.List.{List, [], ◌∷◌, ◌++◌, append_assoc}
use native.Mathlib.Omega.{arith}
use lib.ListN.{length}
use lib.Seq.{take_at, drop_at}
use Rattle.units.specs.Lists.{flat_map}
use Rattle.units.proofs.Members.{Every, every_weaken}
use Rattle.orders.specs.declared.order.Side.{Side}
use Rattle.orders.specs.declared.order.Side.TheVariants.{Buy, Sell}
use Rattle.orders.specs.declared.order.Kind.{Kind}
use Rattle.orders.specs.declared.order.Kind.TheVariants.{Displayed, NonDisplayed, MinimumQuantity, Reserve}
use Rattle.orders.specs.declared.order.Order.{Order}
use Rattle.orders.specs.Order.{side_number, interest_by, hidden_of}
use Rattle.record.proofs.Forms.{length_encode, decode_encode}
use Rattle.record.proofs.Numbers.{Fits}
use Rattle.record.proofs.Rows.{side_of_lem}
use Rattle.record.proofs.Orders.{OrderSound, order_facts}
use Rattle.ladder.specs.declared.row.Row.{Row}
use Rattle.ladder.specs.Row.{row_form, row_bytes, numbers_of, encode_row, row_from, decode_row, rows_in}
use Rattle.ladder.specs.Rows.{same_level, precedes, row_of, joined, insert_row, gathered}
use Rattle.ladder.proofs.Ranks.{Priced}

-- a row has 24 bytes
pub length_row : (r : Row) → length (encode_row r) ≡ row_bytes
length_row r = length_encode row_form (numbers_of r) refl

-- a row of n orders at most, none of which has 1,000,000 shares of a kind
pub record Amounts (n : ℕ) (r : Row) : Type 0 where
  pub displayed : r.displayed.0 ≤ 1000000 * n
  pub other : r.other.0 ≤ 1000000 * n
  pub orders : r.orders ≤ n

pub amounts_joined : (m n : ℕ) (a b : Row) → Amounts m a → Amounts n b → Amounts (m + n) (joined a b)
unfolding joined
amounts_joined m n a b x y = record {
  displayed = omega (arith, x.displayed, y.displayed);
  other = omega (arith, x.other, y.other);
  orders = omega (arith, x.orders, y.orders);
}

-- the displayed shares of an order of each kind are at most its size, and the others at most that or what it hides
shares_within : (k : Kind) (n most : ℕ) → n ≤ most → hidden_of k ≤ most → ((interest_by k n).displayed ≤ most) × ((interest_by k n).non_displayed ≤ most)
shares_within Displayed n most h b = (omega arith, omega arith)
shares_within NonDisplayed n most h b = (omega arith, omega arith)
shares_within (MinimumQuantity m) n most h b = (omega arith, omega arith)
shares_within (Reserve u r) n most h b = (h, b)

-- the row of a sound order alone
pub amounts_one : (o : Order) → OrderSound o → Amounts 1 (row_of o)
unfolding row_of
amounts_one o h =
    let f = order_facts o h in
    let s = shares_within o.kind o.size.0 999999 f.size_most f.hidden_most in
    record { displayed = omega (arith, s.0); other = omega (arith, s.1); orders = omega arith }

-- of no more orders
pub amounts_within : {m n : ℕ} (r : Row) → m ≤ n → Amounts m r → Amounts n r
amounts_within r h a = record { displayed = omega (arith, a.displayed); other = omega (arith, a.other); orders = omega (arith, a.orders) }

insert_amounts : (n : ℕ) (r : Row) (rs : List Row) → Amounts 1 r → Every (Amounts n) rs → Every (Amounts (suc n)) (insert_row r rs)
insert_amounts n r [] h a = (amounts_within r (omega arith) h, tt)
insert_amounts n r (q ∷ qs) h a = go (same_level r q) (precedes r q) (insert_amounts n r qs h a.1)
  where
    more : Every (Amounts (suc n)) (q ∷ qs)
    more = every_weaken (λ x y. amounts_within x (omega arith) y) (q ∷ qs) a

    go : (b c : Bool) → Every (Amounts (suc n)) (insert_row r qs) → Every (Amounts (suc n)) (cond b (joined r q ∷ qs) (cond c (r ∷ q ∷ qs) (q ∷ insert_row r qs)))
    go true c i = (amounts_within (joined r q) (omega arith) (amounts_joined 1 n r q h a.0), more.1)
    go false true i = (amounts_within r (omega arith) h, more)
    go false false i = (more.0, i)

-- rows of single orders come to rows of no more than their number
pub gathered_amounts : (rs : List Row) → Every (Amounts 1) rs → Every (Amounts (length rs)) (gathered rs)
gathered_amounts [] a = tt
gathered_amounts (r ∷ rs) a = insert_amounts (length rs) r (gathered rs) a.0 (gathered_amounts rs a.1)

side_small : (s : Side) → side_number s < 256
side_small Buy = omega arith
side_small Sell = omega arith

-- the numbers of a row of at most 256 orders fit their widths
row_fits : (r : Row) → Priced r → Amounts 256 r → Fits row_form.widths (numbers_of r)
row_fits r p a =
    let s = side_small r.side in
    let d = a.displayed in
    let o = a.other in
    let n = a.orders in
    (omega arith, (omega arith, (omega arith, (omega arith, (omega arith, (omega arith, (omega arith, tt)))))))

-- such a row is read back
decode_row_lem : (r : Row) → Priced r → Amounts 256 r → decode_row (encode_row r) ≡ r
unfolding row_from
decode_row_lem r p a = ap row_from (decode_encode row_form (numbers_of r) (row_fits r p a)) ∙ rw (side_of_lem r.side)

-- so are many, whatever stands behind them
pub rows_read : (rs : List Row) (t : List ℕ) → Every Priced rs → Every (Amounts 256) rs → rows_in (length rs) (flat_map encode_row rs ++ t) ≡ rs
rows_read [] t p a = refl
rows_read (r ∷ rs) t p a =
    let u = flat_map encode_row rs ++ t in
    rw (
      append_assoc,
      take_at (encode_row r) u row_bytes (length_row r),
      drop_at (encode_row r) u row_bytes (length_row r),
      decode_row_lem r p.0 a.0,
      rows_read rs t p.1 a.1,
    )
