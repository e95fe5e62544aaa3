-- Marked orders counted, and told apart, for the functions that compare them. No call's meaning rests on it.
use Rattle.std.specs.Prelude.{ℕ, ◌+◌, ◌*◌, Bool, List, length}
use Rattle.units.specs.Lists.{filter}
use Rattle.orders.specs.declared.order.Order.{Order}
use Rattle.orders.specs.Order.{side_number, price_of, security_in_range}

-- one number for an order's security, side and price
abbrev pub setter_key : Order → ℕ
setter_key o = 8 * price_of o + 4 * o.security + side_number o.side

-- the order is of one of the securities that there are: with others two orders could have one key
abbrev pub has_security : Order → Bool
has_security o = security_in_range o.security

-- how many of the orders pass a test
abbrev pub count_of : (Order → Bool) → List Order → ℕ
count_of p os = length (filter p os)

-- how many have the setter mark
abbrev pub marked_in : List Order → ℕ
marked_in = count_of (λ o. o.setter)
