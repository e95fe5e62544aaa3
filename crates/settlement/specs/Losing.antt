-- Records of a book whose orders lose shares, one by one and closed up.
use Rattle.std.specs.Prelude.{ℕ, ◌+◌, ◌-◌, ◌*◌, ◌≤◌, ◌≡◌, true, List, ◌++◌, length, take, drop, replicate}
use Rattle.units.specs.Lists.{all, flat_map, zip_with}
use Rattle.orders.specs.declared.order.Order.{Order}
use Rattle.orders.specs.Order.{interest, settled}
use Rattle.orders.specs.Losses.{losses_in}
use Rattle.record.specs.Record.{encode_order, decode_order, record_sound}
use Rattle.book.specs.Sound.{form, record_bytes, first_records, first_orders}

-- from the byte on lies a sound record
abbrev pub RecordAt : List ℕ → ℕ → Type 0
RecordAt s at = (at + record_bytes ≤ length s) × (record_sound form (take record_bytes (drop at s)) ≡ true)

-- its order, after it lost displayed and non-displayed shares
abbrev pub left_at : List ℕ → ℕ → ℕ → ℕ → Order
left_at s at shown hidden = settled (interest shown hidden) (decode_order form (take record_bytes (drop at s)))

-- the bytes begin with n sound records, and there is a loss for each
pub record Records (s : List ℕ) (n : ℕ) (shown hidden : List ℕ) : Type 0 where
  pub room : record_bytes * n ≤ length s
  pub each : all (record_sound form) (first_records form n s) ≡ true
  pub shown_each : n ≤ length shown
  pub hidden_each : n ≤ length hidden

-- their orders, after they lost these, those without shares among them
abbrev pub left_in : ℕ → List ℕ → List ℕ → List ℕ → List Order
left_in n shown hidden s = zip_with settled (losses_in n shown hidden) (first_orders n s)

-- in the place of the n records those of these orders, zeros behind them, and all else as it was
abbrev pub closed_up : ℕ → List Order → List ℕ → List ℕ
closed_up n os s = flat_map (encode_order form) os ++ (replicate (record_bytes * (n - length os)) 0 ++ drop (record_bytes * n) s)
