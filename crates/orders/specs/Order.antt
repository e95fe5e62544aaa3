-- Orders: sides and kinds by number, ranges, the two kinds of interest in an order, and an order that loses shares.
use Rattle.std.specs.Prelude.{ℕ, ◌+◌, ◌-◌, min, Bool, true, false, cond, ◌&&◌, leb, ltb, eqb}
use Rattle.units.specs.Lists.{in_range, or_zero, is_zero}
use Rattle.orders.specs.declared.order.Side.{Side}
use Rattle.orders.specs.declared.order.Side.TheVariants.{Buy, Sell}
use Rattle.orders.specs.declared.order.Kind.{Kind}
use Rattle.orders.specs.declared.order.Kind.TheVariants.{Displayed, NonDisplayed, MinimumQuantity, Reserve}
use Rattle.orders.specs.declared.order.Order.{Order}

-- 1 buy, 2 sell
abbrev pub side_number : Side → ℕ
side_number Buy = 1
side_number Sell = 2

-- and back
abbrev pub side_of : ℕ → Side
side_of n = cond (eqb n 1) Buy Sell

-- 1 displayed, 2 non-displayed, 3 minimum quantity, 4 reserve
abbrev pub kind_number : Kind → ℕ
kind_number Displayed = 1
kind_number NonDisplayed = 2
kind_number (MinimumQuantity m) = 3
kind_number (Reserve h r) = 4

-- and back, with the minimum, the hidden shares and the refresh size
abbrev pub kind_of : ℕ → ℕ → ℕ → ℕ → Kind
kind_of n m h r =
    cond (eqb n 1) Displayed
    (cond (eqb n 2) NonDisplayed (cond (eqb n 3) (MinimumQuantity (record { 0 = m })) (Reserve (record { 0 = h }) (record { 0 = r }))))

-- only a minimum quantity order carries a minimum
abbrev pub minimum_of : Kind → ℕ
minimum_of Displayed = 0
minimum_of NonDisplayed = 0
minimum_of (MinimumQuantity m) = m.0
minimum_of (Reserve h r) = 0

-- only a reserve order hides shares behind those that it shows
abbrev pub hidden_of : Kind → ℕ
hidden_of Displayed = 0
hidden_of NonDisplayed = 0
hidden_of (MinimumQuantity m) = 0
hidden_of (Reserve h r) = h.0

-- and has a size to which it is refreshed
abbrev pub refresh_of : Kind → ℕ
refresh_of Displayed = 0
refresh_of NonDisplayed = 0
refresh_of (MinimumQuantity m) = 0
refresh_of (Reserve h r) = r.0

-- kinds 1 and 4: a reserve order counts as displayed
abbrev pub is_displayed : Kind → Bool
is_displayed Displayed = true
is_displayed NonDisplayed = false
is_displayed (MinimumQuantity m) = false
is_displayed (Reserve h r) = true

-- kind 3
abbrev pub is_minimum_quantity : Kind → Bool
is_minimum_quantity Displayed = false
is_minimum_quantity NonDisplayed = false
is_minimum_quantity (MinimumQuantity m) = true
is_minimum_quantity (Reserve h r) = false

-- kind 4
abbrev pub is_reserve : Kind → Bool
is_reserve Displayed = false
is_reserve NonDisplayed = false
is_reserve (MinimumQuantity m) = false
is_reserve (Reserve h r) = true

abbrev pub price_of : Order → ℕ
price_of o = o.price.0

-- of a reserve order, the shares that it shows
abbrev pub size_of : Order → ℕ
size_of o = o.size.0

-- an order number is 1 to 4,294,967,295
abbrev pub number_in_range : ℕ → Bool
number_in_range = in_range 1 4294967295

-- a price is 1 to 2,000,000,000 ten-thousandths of a dollar
abbrev pub price_in_range : ℕ → Bool
price_in_range = in_range 1 2000000000

-- a size is 1 to 999,999 shares
abbrev pub shares_in_range : ℕ → Bool
shares_in_range = in_range 1 999999

-- a security is 0 or 1
abbrev pub security_in_range : ℕ → Bool
security_in_range = in_range 0 1

-- a minimum is 1 to the size for kind 3, and zero for every other kind
abbrev pub minimum_in_range : ℕ → ℕ → ℕ → Bool
minimum_in_range kind size minimum = cond (eqb kind 3) (in_range 1 size minimum) (eqb minimum 0)

-- a reserve order hides at most 999,999 shares and is refreshed to 1 to 999,999; both are zero for every other kind
abbrev pub reserve_in_range : ℕ → ℕ → ℕ → Bool
reserve_in_range kind hidden refresh = cond (eqb kind 4) (leb hidden 999999 && shares_in_range refresh) (is_zero hidden && is_zero refresh)

-- The shares of an order are displayed interest or non-displayed interest, the rule's own terms.

pub data Visibility : Type 0 where
  shown hidden : Visibility

pub record Interest : Type 0 where
  pub displayed : ℕ
  pub non_displayed : ℕ

abbrev pub interest : ℕ → ℕ → Interest
interest d n = record { displayed = d; non_displayed = n }

abbrev pub no_interest : Interest
no_interest = interest 0 0

-- the shares of one visibility
abbrev pub shares_of : Visibility → Interest → ℕ
shares_of shown i = i.displayed
shares_of hidden i = i.non_displayed

-- shares of one visibility, and none of the other
abbrev pub only_of : Visibility → ℕ → Interest
only_of shown n = interest n 0
only_of hidden n = interest 0 n

-- the shares of both
abbrev pub all_shares : Interest → ℕ
all_shares i = i.displayed + i.non_displayed

-- two interests added up, each visibility by itself
abbrev pub together : Interest → Interest → Interest
together a b = interest (a.displayed + b.displayed) (a.non_displayed + b.non_displayed)

-- what a loss leaves, each visibility by itself
abbrev pub less : Interest → Interest → Interest
less a b = interest (a.displayed - b.displayed) (a.non_displayed - b.non_displayed)

-- which shares a kind displays and which not: all of its size are of one visibility, and a reserve order has its hidden ones besides
abbrev pub interest_by : Kind → ℕ → Interest
interest_by Displayed n = interest n 0
interest_by NonDisplayed n = interest 0 n
interest_by (MinimumQuantity m) n = interest 0 n
interest_by (Reserve h r) n = interest n h.0

-- the interest of an order
abbrev pub interest_of : Order → Interest
interest_of o = interest_by o.kind (size_of o)

-- where nothing is shown any more, the smaller of the refresh size and the hidden shares is shown, and so many fewer are hidden
abbrev pub refreshed : ℕ → Interest → Interest
refreshed refresh i =
    let n = or_zero (is_zero i.displayed) (min refresh i.non_displayed) in
    interest (i.displayed + n) (i.non_displayed - n)

-- the size of an order of this kind that has this interest
abbrev pub size_from : Kind → Interest → ℕ
size_from Displayed i = i.displayed
size_from NonDisplayed i = i.non_displayed
size_from (MinimumQuantity m) i = i.non_displayed
size_from (Reserve h r) i = (refreshed r.0 i).displayed

-- its kind: a minimum above the new size becomes the new size, and a reserve order hides what it doesn't show
abbrev pub kind_from : Kind → Interest → Kind
kind_from Displayed i = Displayed
kind_from NonDisplayed i = NonDisplayed
kind_from (MinimumQuantity m) i = MinimumQuantity (record { 0 = min m.0 i.non_displayed })
kind_from (Reserve h r) i = Reserve (record { 0 = (refreshed r.0 i).non_displayed }) r

-- the order made anew of the interest that it still has
unfoldable pub with_interest : Interest → Order → Order
with_interest i o = record {
  side = o.side;
  kind = kind_from o.kind i;
  number = o.number;
  price = o.price;
  size = record { 0 = size_from o.kind i };
  setter = o.setter;
  security = o.security;
}

-- the order after it lost shares
unfoldable pub settled : Interest → Order → Order
settled loss o = with_interest (less (interest_of o) loss) o

-- an order stays while it has shares of either visibility
abbrev pub is_resting : Order → Bool
is_resting o = ltb 0 (all_shares (interest_of o))
