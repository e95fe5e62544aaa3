-- Orders as rows of numbers, both ways.
use Prim.Native.Nat.{ℕ, zero, suc, ◌+◌, ◌%◌, ◌≤◌}
use mathlib.Core.Path.{◌≡◌, refl, sym, ap, ◌∙◌}
use mathlib.Core.Bool.{Bool, true, false, ◌&&◌, ◌||◌, false≢true}
use mathlib.Core.List.{List, [], ◌∷◌}
use native.Mathlib.Omega.{arith}
use lib.ListN.{length, get_or, take, drop, drop_of_length-le}
use lib.Seq.{drop-cons}
use lib.Dec.{eqb}
use borrow.Author.Tests.{eqb-true}
use Rattle.std.specs.Int.{from_bool}
use Rattle.units.specs.Lists.{in_range, or_zero, is_zero}
use Rattle.units.proofs.Members.{Every}
use Rattle.units.proofs.Tests.{and_true}
use Rattle.units.proofs.Facts.{Given, chain_true, true_chain, range_true}
use Rattle.orders.specs.declared.order.Side.{Side}
use Rattle.orders.specs.declared.order.Side.TheVariants.{Buy, Sell}
use Rattle.orders.specs.declared.order.Kind.{Kind}
use Rattle.orders.specs.declared.order.Kind.TheVariants.{Displayed, NonDisplayed, MinimumQuantity, Reserve}
use Rattle.orders.specs.declared.order.Order.{Order}
use Rattle.orders.specs.Order.{side_number, side_of, kind_number, kind_of, minimum_of, hidden_of, refresh_of}
use Rattle.orders.specs.Order.{number_in_range, price_in_range, shares_in_range, security_in_range, minimum_in_range, reserve_in_range}
use Rattle.record.specs.Record.{new_form, new_tells, numbers_of, order_of, numbers_sound, row_sound}

-- a side and a kind are read back from their numbers
pub side_of_lem : (s : Side) → side_of (side_number s) ≡ s
side_of_lem Buy = refl
side_of_lem Sell = refl

-- the numbers of a side, a kind and a setter mark are bytes
pub side_byte : (s : Side) → side_number s % 256 ≡ side_number s
side_byte Buy = refl
side_byte Sell = refl

pub kind_byte : (k : Kind) → kind_number k % 256 ≡ kind_number k
kind_byte Displayed = refl
kind_byte NonDisplayed = refl
kind_byte (MinimumQuantity m) = refl
kind_byte (Reserve h r) = refl

pub mark_byte : (b : Bool) → or_zero b 1 % 256 ≡ from_bool b
mark_byte true = refl
mark_byte false = refl

kind_of_lem : (k : Kind) → kind_of (kind_number k) (minimum_of k) (hidden_of k) (refresh_of k) ≡ k
kind_of_lem Displayed = refl
kind_of_lem NonDisplayed = refl
kind_of_lem (MinimumQuantity m) = refl
kind_of_lem (Reserve h r) = refl

-- a setter mark is read back from its number
pub setter_of : (b : Bool) → eqb (or_zero b 1) 1 ≡ b
setter_of true = refl
setter_of false = refl

-- an order is read back from its numbers
pub order_numbers : (o : Order) → order_of (numbers_of o) ≡ o
unfolding order_of numbers_of
order_numbers o = rw (side_of_lem o.side, kind_of_lem o.kind, setter_of o.setter)

-- the numbers of a row from place k on, written out; behind its end they are zero
module _ (ns : List ℕ) where
  abbrev pub cells : ℕ → ℕ → List ℕ
  cells k zero = []
  cells k (suc n) = get_or ns k 0 ∷ cells (suc k) n

  cells_are : (k n : ℕ) → length ns ≡ k + n → drop k ns ≡ cells k n
  cells_are k zero e = drop_of_length-le ns {i = k} (omega arith)
  cells_are k (suc n) e = drop-cons ns k 0 (omega arith) ∙ ap (λ l. get_or ns k 0 ∷ l) (cells_are (suc k) n (omega arith))

  cells_take : (k m n : ℕ) → m ≤ n → take m (cells k n) ≡ cells k m
  cells_take k zero n h = refl
  cells_take k (suc m) zero h = absurd (omega arith)
  cells_take k (suc m) (suc n) h = ap (λ l. get_or ns k 0 ∷ l) (cells_take (suc k) m n (omega arith))

  -- of more numbers than the row has, the first are the row's
  pub cells_row : (n : ℕ) → length ns ≤ n → take (length ns) (cells 0 n) ≡ ns
  cells_row n h = cells_take 0 (length ns) n h ∙ sym (cells_are 0 (length ns) (omega arith))

-- the tests of numbers that every form wants, behind that of the first
abbrev pub tests : List ℕ → List Bool
tests ns =
    number_in_range (get_or ns 2 0) ∷
    price_in_range (get_or ns 3 0) ∷
    shares_in_range (get_or ns 4 0) ∷
    minimum_in_range (get_or ns 1 0) (get_or ns 4 0) (get_or ns 5 0) ∷
    (is_zero (get_or ns 6 0) || (eqb (get_or ns 6 0) 1 && (eqb (get_or ns 1 0) 1 || eqb (get_or ns 1 0) 4))) ∷
    is_zero (get_or ns 9 0) ∷ []

-- and of those that the new form tells, behind that of the kind
abbrev pub new_tests : List ℕ → List Bool
new_tests ns = security_in_range (get_or ns 7 0) ∷ is_zero (get_or ns 8 0) ∷ reserve_in_range (get_or ns 1 0) (get_or ns 10 0) (get_or ns 11 0) ∷ []

-- a sound row of numbers passes each test
pub passed : (ns : List ℕ) → row_sound new_form ns ≡ true
    → Every (λ b. b ≡ true) (in_range 1 2 (get_or ns 0 0) ∷ tests ns) × Every (λ b. b ≡ true) (in_range 1 4 (get_or ns 1 0) ∷ new_tests ns)
unfolding numbers_sound new_tells
passed ns e =
    let a = and_true (numbers_sound ns) (new_tells ns) e in
    (chain_true (in_range 1 2 (get_or ns 0 0)) (tests ns) a.0, chain_true (in_range 1 4 (get_or ns 1 0)) (new_tests ns) a.1)

-- a row of numbers that passes each test is sound
pub all_passed : (ns : List ℕ) → in_range 1 2 (get_or ns 0 0) ≡ true → Given (tests ns) (numbers_sound ns ≡ true)
unfolding numbers_sound
all_passed ns h = true_chain (in_range 1 2 (get_or ns 0 0)) (tests ns) h

pub all_told : (ns : List ℕ) → in_range 1 4 (get_or ns 1 0) ≡ true → Given (new_tests ns) (new_tells ns ≡ true)
unfolding new_tells
all_told ns h = true_chain (in_range 1 4 (get_or ns 1 0)) (new_tests ns) h

-- the numbers of a side, a kind and a setter mark that were read are the numbers that they were read from
number_side : (n : ℕ) → in_range 1 2 n ≡ true → side_number (side_of n) ≡ n
number_side zero e = absurd (omega (arith, range_true 1 2 0 e))
number_side (suc zero) e = refl
number_side (suc (suc zero)) e = refl
number_side (suc (suc (suc n))) e = absurd (omega (arith, range_true 1 2 (suc (suc (suc n))) e))

-- of a kind the numbers that say it
record Numbered (n m h r : ℕ) (k : Kind) : Type 0 where
  kind : kind_number k ≡ n
  minimum : minimum_of k ≡ m
  hidden : hidden_of k ≡ h
  refresh : refresh_of k ≡ r

-- a kind without hidden shares and a refresh size
no_reserve : (n m h r : ℕ) (k : Kind) → kind_number k ≡ n → minimum_of k ≡ m → hidden_of k ≡ 0 → refresh_of k ≡ 0 → (is_zero h && is_zero r) ≡ true
    → Numbered n m h r k
no_reserve n m h r k a b c d e =
    let z = and_true (is_zero h) (is_zero r) e in
    record { kind = a; minimum = b; hidden = c ∙ sym (eqb-true h 0 z.0); refresh = d ∙ sym (eqb-true r 0 z.1) }

number_kind : (n m size h r : ℕ) → in_range 1 4 n ≡ true → minimum_in_range n size m ≡ true → reserve_in_range n h r ≡ true
    → Numbered n m h r (kind_of n m h r)
number_kind zero m size h r e f g = absurd (omega (arith, range_true 1 4 0 e))
number_kind (suc zero) m size h r e f g = no_reserve 1 m h r Displayed refl (sym (eqb-true m 0 f)) refl refl g
number_kind (suc (suc zero)) m size h r e f g = no_reserve 2 m h r NonDisplayed refl (sym (eqb-true m 0 f)) refl refl g
number_kind (suc (suc (suc zero))) m size h r e f g = no_reserve 3 m h r (MinimumQuantity (record { 0 = m })) refl refl refl refl g
number_kind (suc (suc (suc (suc zero)))) m size h r e f g =
    record { kind = refl; minimum = sym (eqb-true m 0 f); hidden = refl; refresh = refl }
number_kind (suc (suc (suc (suc (suc n))))) m size h r e f g = absurd (omega (arith, range_true 1 4 (suc (suc (suc (suc (suc n))))) e))

number_setter : (n : ℕ) (b : Bool) → (is_zero n || (eqb n 1 && b)) ≡ true → or_zero (eqb n 1) 1 ≡ n
number_setter n b e = go (eqb n 1) (is_zero n) refl refl e
  where
    go : (c d : Bool) → eqb n 1 ≡ c → is_zero n ≡ d → (d || (c && b)) ≡ true → or_zero c 1 ≡ n
    go true d p q e = sym (eqb-true n 1 p)
    go false true p q e = sym (eqb-true n 0 q)
    go false false p q e = absurd (false≢true e)

-- the numbers of the order that is read from a sound row are the row's
pub numbers_order : (ns : List ℕ) → row_sound new_form ns ≡ true → numbers_of (order_of ns) ≡ cells ns 0 12
unfolding numbers_of order_of
numbers_order ns e =
    let p = passed ns e in
    let t = p.0 in
    let m = t.1.1.1.1 in
    let z = p.1 in
    let k = number_kind (get_or ns 1 0) (get_or ns 5 0) (get_or ns 4 0) (get_or ns 10 0) (get_or ns 11 0) z.0 m.0 z.1.1.1.0 in
    rw (
      number_side (get_or ns 0 0) t.0,
      k.kind,
      k.minimum,
      k.hidden,
      k.refresh,
      number_setter (get_or ns 6 0) (eqb (get_or ns 1 0) 1 || eqb (get_or ns 1 0) 4) m.1.0,
      eqb-true (get_or ns 8 0) 0 z.1.1.0,
      eqb-true (get_or ns 9 0) 0 m.1.1.0,
    )
