-- What is read from the numbers of an order's record: its part, and whether an incoming order may meet it.
use Prim.Native.Nat.{ℕ, ◌-◌, ◌≤◌, ◌<◌}
use mathlib.Core.Path.{◌≡◌, refl, sym, ap, ◌∙◌}
use mathlib.Core.Bool.{Bool, false, ◌&&◌, and-true, and-false}
use mathlib.Core.List.{List}
use native.Mathlib.Omega.{arith}
use native.Mathlib.Decide.{dec_le}
use lib.Dec.{leb, ltb, eqb}
use borrow.Author.Tests.{lt-ltb, le-leb, lt-leb}
use Rattle.units.specs.Lists.{cons_if}
use Rattle.orders.specs.declared.order.Side.{Side}
use Rattle.orders.specs.declared.order.Side.TheVariants.{Buy, Sell}
use Rattle.orders.specs.declared.order.Kind.{Kind}
use Rattle.orders.specs.declared.order.Kind.TheVariants.{Displayed, NonDisplayed, MinimumQuantity, Reserve}
use Rattle.orders.specs.declared.order.Order.{Order}
use Rattle.orders.specs.Order.{Visibility, shown, hidden, shares_of, interest_by, side_number, kind_number, hidden_of, is_minimum_quantity, price_of, size_of}
use Rattle.orders.specs.Trading.{is_opposite, within_limit}
use Rattle.record.specs.declared.order_record.Numbers.{Numbers}
use Rattle.record.specs.Names.{named_numbers}
use Rattle.record.specs.Record.{numbers_of}
use Rattle.record.proofs.Orders.{OrderSound, order_facts}
use Rattle.matching.specs.declared.Algorithm.{Algorithm}
use Rattle.matching.specs.declared.incoming.Incoming.{Incoming}
use Rattle.parts.specs.Key.{key_of}
use Rattle.parts.specs.Parts.{rank_on, paragraph_for, part_key, may_meet, keys_of}
use Rattle.parts.specs.Table.{visibility_of}

-- the numbers of the two sides are 3 together
other_side : (s t : Side) → eqb (side_number t) (3 - side_number s) ≡ is_opposite s t
other_side Buy Buy = refl
other_side Buy Sell = refl
other_side Sell Buy = refl
other_side Sell Sell = refl

pub side_most : (s : Side) → side_number s ≤ 2
side_most Buy = omega arith
side_most Sell = omega arith

kind_most : (k : Kind) → kind_number k ≤ 4
kind_most Displayed = omega arith
kind_most NonDisplayed = omega arith
kind_most (MinimumQuantity m) = omega arith
kind_most (Reserve h r) = omega arith

-- a price is within a limit where its rank is no higher than the limit's
within_rank : (s : Side) (limit price : ℕ) → limit ≤ 4294967295 → price ≤ 4294967295
    → leb (rank_on s price) (rank_on s limit) ≡ within_limit s limit price
within_rank Buy limit price h k = refl
within_rank Sell limit price h k = go (dec_le limit price)
  where
    go : Dec (limit ≤ price) → leb (4294967295 - price) (4294967295 - limit) ≡ leb limit price
    go (yes l) = rw (le-leb limit price l) (le-leb (4294967295 - price) (4294967295 - limit) (omega arith))
    go (no l) = rw (lt-leb limit price (omega arith)) (lt-leb (4294967295 - price) (4294967295 - limit) (omega arith))

-- a number that is picked by a visibility
abbrev seen : Visibility → ℕ → ℕ → ℕ
seen shown s h = s
seen hidden s h = h

-- the size of an order is its shares of one visibility
first_shares : (k : Kind) (n : ℕ) → shares_of (visibility_of k) (interest_by k n) ≡ n
first_shares Displayed n = refl
first_shares NonDisplayed n = refl
first_shares (MinimumQuantity m) n = refl
first_shares (Reserve h r) n = refl

-- what is kept of two by their shares: that of the size, and the hidden one behind it
two_kept : (k : Kind) (n : ℕ) → 0 < n → (b : Bool) (s h : ℕ) (others : List ℕ)
    → cons_if (b && ltb 0 (interest_by k n).displayed) s (cons_if (b && ltb 0 (interest_by k n).non_displayed) h others)
    ≡ cons_if b (seen (visibility_of k) s h) (cons_if (b && ltb 0 (hidden_of k)) h others)
two_kept Displayed n l b s h others = rw (lt-ltb 0 n l, and-true b)
two_kept NonDisplayed n l b s h others = rw (lt-ltb 0 n l, and-true b, and-false b)
two_kept (MinimumQuantity m) n l b s h others = rw (lt-ltb 0 n l, and-true b, and-false b)
two_kept (Reserve u r) n l b s h others = rw (lt-ltb 0 n l, and-true b)

module _ (numbers : Numbers) (o : Order) (e : numbers ≡ named_numbers (numbers_of o)) where
  -- a sound order's kind is one of four, and it shows and hides fewer than 1,000,000 shares
  pub numbers_fit : OrderSound o → (numbers.kind ≤ 4) × (numbers.size ≤ 999999) × (numbers.hidden ≤ 999999)
  unfolding numbers_of
  numbers_fit h = let f = order_facts o h in rw e (kind_most o.kind, f.size_most, f.hidden_most)

  -- whether the incoming order may meet it
  pub meets_read : (i : Incoming) → i.taker.limit.0 ≤ 4294967295 → price_of o ≤ 4294967295
      → (((eqb numbers.security i.taker.security
      && eqb numbers.side (3 - side_number i.taker.side))
      && leb (rank_on i.taker.side numbers.price) (rank_on i.taker.side i.taker.limit.0))
      && leb numbers.minimum i.size.0)
      ≡ may_meet i o
  unfolding numbers_of
  meets_read i h k = rw (e, other_side i.taker.side o.side, within_rank i.taker.side i.taker.limit.0 (price_of o) h k)

  -- Its parts, by a table of the paragraphs' numbers.
  module _ (h : OrderSound o) (lot : ℕ) (alg : Algorithm) (i : Incoming) (place : ℕ) where
    abbrev side : Side
    side = i.taker.side

    abbrev key : Visibility → ℕ
    key v = part_key lot alg side v place o

    -- the key of its size
    abbrev FirstKey : ℕ → Type 0
    FirstKey x = (k : Kind) → numbers.kind ≡ kind_number k
        → x ≡ key_of (rank_on side numbers.price) (paragraph_for lot alg (visibility_of k) (is_minimum_quantity k) numbers.size) place numbers.size

    -- the key of what it hides
    abbrev SecondKey : ℕ → Type 0
    SecondKey y = y ≡ key_of (rank_on side numbers.price) (paragraph_for lot alg hidden false numbers.hidden) place numbers.hidden

    first_key : (x : ℕ) → FirstKey x → x ≡ key (visibility_of o.kind)
    unfolding numbers_of
    first_key x f =
        (rw e at f) o.kind refl
        ∙ ap (λ n. key_of (rank_on side (price_of o)) (paragraph_for lot alg (visibility_of o.kind) (is_minimum_quantity o.kind) n) place n) (sym (first_shares o.kind (size_of o)))

    second_key : (y : ℕ) → SecondKey y → 0 < hidden_of o.kind → y ≡ key hidden
    unfolding numbers_of
    second_key y g l = (rw e at g) ∙ go o.kind l
      where
        go : (k : Kind) → 0 < hidden_of k
            → key_of (rank_on side (price_of o)) (paragraph_for lot alg hidden false (hidden_of k)) place (hidden_of k)
            ≡ key_of (rank_on side (price_of o)) (paragraph_for lot alg hidden (is_minimum_quantity k) (interest_by k (size_of o)).non_displayed) place (interest_by k (size_of o)).non_displayed
        go Displayed l = absurd (omega arith)
        go NonDisplayed l = absurd (omega arith)
        go (MinimumQuantity m) l = absurd (omega arith)
        go (Reserve u r) l = refl

    pick_key : (v : Visibility) → seen v (key shown) (key hidden) ≡ key v
    pick_key shown = refl
    pick_key hidden = refl

    -- they are those two, the second where it hides shares
    parts_are : (x : ℕ) (others : List ℕ) → FirstKey x
        → keys_of lot alg i place o others ≡ cons_if (may_meet i o) x (cons_if (may_meet i o && ltb 0 (hidden_of o.kind)) (key hidden) others)
    unfolding keys_of
    parts_are x others f =
        two_kept o.kind (size_of o) (order_facts o h).size_least (may_meet i o) (key shown) (key hidden) others
        ∙ ap (λ k. cons_if (may_meet i o) k (cons_if (may_meet i o && ltb 0 (hidden_of o.kind)) (key hidden) others)) (pick_key (visibility_of o.kind) ∙ sym (first_key x f))

    -- an order that hides nothing has the first alone
    pub parts_one : (x : ℕ) (others : List ℕ) → FirstKey x → numbers.hidden ≡ 0 → cons_if (may_meet i o) x others ≡ keys_of lot alg i place o others
    unfolding numbers_of
    parts_one x others f z =
        let n : hidden_of o.kind ≡ 0 = rw e at z in
        sym (parts_are x others f ∙ rw (n, and-false (may_meet i o)))

    -- one that hides shares has both
    pub parts_two : (x y : ℕ) (others : List ℕ) → FirstKey x → SecondKey y → (numbers.hidden ≡ 0 → ⊥)
        → cons_if (may_meet i o) x (cons_if (may_meet i o) y others) ≡ keys_of lot alg i place o others
    unfolding numbers_of
    parts_two x y others f g z =
        let some : hidden_of o.kind ≡ 0 → ⊥ = rw e at z in
        let l : 0 < hidden_of o.kind = omega (arith, some) in
        sym (parts_are x others f ∙ rw (lt-ltb 0 (hidden_of o.kind) l, and-true (may_meet i o), second_key y g l))
