-- Worked values of orders and of who may trade, computed by the checker.
use Rattle.std.specs.Prelude.{ℕ, ◌≡◌, refl, Bool, true, false, not, ◌&&◌, List, [], ◌∷◌, eqb}
use Rattle.units.specs.Lists.{all}
use Rattle.orders.specs.declared.order.Side.{Side}
use Rattle.orders.specs.declared.order.Side.TheVariants.{Buy, Sell}
use Rattle.orders.specs.declared.order.Kind.{Kind}
use Rattle.orders.specs.declared.order.Kind.TheVariants.{Displayed, NonDisplayed, MinimumQuantity, Reserve}
use Rattle.orders.specs.declared.order.Order.{Order}
use Rattle.orders.specs.declared.order.Taker.{Taker}
use Rattle.orders.specs.Order.{side_number, side_of, kind_number, kind_of, minimum_of, hidden_of, refresh_of, is_displayed, is_minimum_quantity, is_reserve, price_of, size_of}
use Rattle.orders.specs.Order.{number_in_range, price_in_range, shares_in_range, security_in_range, minimum_in_range, reserve_in_range}
use Rattle.orders.specs.Order.{Interest, shown, hidden, interest, no_interest, shares_of, only_of, all_shares, together, less, interest_by, refreshed}
use Rattle.orders.specs.Order.{with_interest, settled, is_resting}
use Rattle.orders.specs.Trading.{is_opposite, within_limit, is_better, is_priced_better, of_security, is_opposite_of, is_tradable, as_taker}

-- a minimum quantity order whose minimum is 400
least_of400 : Kind
least_of400 = MinimumQuantity (record { 0 = 400 })

-- a reserve order that hides so many shares, with a refresh size of 100
hides : ℕ → Kind
hides n = Reserve (record { 0 = n }) (record { 0 = 100 })

-- sides and kinds by number, and back
numbers : List Bool
numbers =
    eqb (side_number Buy) 1 ∷
    eqb (side_number Sell) 2 ∷
    eqb (side_number (side_of 1)) 1 ∷
    eqb (side_number (side_of 2)) 2 ∷
    eqb (kind_number Displayed) 1 ∷
    eqb (kind_number NonDisplayed) 2 ∷
    eqb (kind_number least_of400) 3 ∷
    eqb (kind_number (hides 250)) 4 ∷
    eqb (kind_number (kind_of 1 7 8 9)) 1 ∷
    eqb (kind_number (kind_of 2 7 8 9)) 2 ∷
    eqb (kind_number (kind_of 3 7 8 9)) 3 ∷
    eqb (kind_number (kind_of 4 7 8 9)) 4 ∷
    -- only a minimum quantity order carries a minimum
    eqb (minimum_of (kind_of 3 7 8 9)) 7 ∷
    eqb (minimum_of Displayed) 0 ∷
    eqb (minimum_of NonDisplayed) 0 ∷
    eqb (minimum_of (hides 250)) 0 ∷
    -- only a reserve order hides shares and is refreshed
    eqb (hidden_of (kind_of 4 7 8 9)) 8 ∷
    eqb (refresh_of (kind_of 4 7 8 9)) 9 ∷
    all (λ k. eqb (hidden_of k) 0 && eqb (refresh_of k) 0) (Displayed ∷ NonDisplayed ∷ least_of400 ∷ []) ∷
    -- a reserve order counts as displayed
    is_displayed Displayed ∷
    not (is_displayed NonDisplayed) ∷
    not (is_displayed least_of400) ∷
    is_displayed (hides 250) ∷
    is_minimum_quantity least_of400 ∷
    all (λ k. not (is_minimum_quantity k)) (Displayed ∷ NonDisplayed ∷ hides 250 ∷ []) ∷
    is_reserve (hides 250) ∷
    all (λ k. not (is_reserve k)) (Displayed ∷ NonDisplayed ∷ least_of400 ∷ []) ∷ []

-- the ends of each range, and one beyond each
ranges : List Bool
ranges =
    number_in_range 1 ∷
    number_in_range 4294967295 ∷
    not (number_in_range 0) ∷
    not (number_in_range 4294967296) ∷
    price_in_range 1 ∷
    price_in_range 2000000000 ∷
    not (price_in_range 0) ∷
    not (price_in_range 2000000001) ∷
    shares_in_range 1 ∷
    shares_in_range 999999 ∷
    not (shares_in_range 0) ∷
    not (shares_in_range 1000000) ∷
    -- two securities
    security_in_range 0 ∷
    security_in_range 1 ∷
    not (security_in_range 2) ∷
    -- a minimum is 1 to the size for kind 3 alone
    minimum_in_range 3 500 1 ∷
    minimum_in_range 3 500 500 ∷
    not (minimum_in_range 3 500 501) ∷
    not (minimum_in_range 3 500 0) ∷
    minimum_in_range 1 500 0 ∷
    minimum_in_range 2 500 0 ∷
    not (minimum_in_range 1 500 1) ∷
    not (minimum_in_range 2 500 1) ∷
    not (minimum_in_range 4 500 1) ∷
    -- a reserve order hides 0 to 999,999 shares and is refreshed to 1 to 999,999, whatever it shows
    reserve_in_range 4 0 1 ∷
    reserve_in_range 4 999999 999999 ∷
    not (reserve_in_range 4 1000000 1) ∷
    not (reserve_in_range 4 0 0) ∷
    not (reserve_in_range 4 0 1000000) ∷
    -- every other kind has neither
    all (λ k. reserve_in_range k 0 0 && not (reserve_in_range k 5 0) && not (reserve_in_range k 0 5)) (1 ∷ 2 ∷ 3 ∷ []) ∷ []

-- displayed and non-displayed shares
has : Interest → ℕ → ℕ → Bool
has i d n = eqb i.displayed d && eqb i.non_displayed n

interests : List Bool
interests =
    has (interest 3 5) 3 5 ∷
    has no_interest 0 0 ∷
    has (only_of shown 7) 7 0 ∷
    has (only_of hidden 7) 0 7 ∷
    eqb (shares_of shown (interest 3 5)) 3 ∷
    eqb (shares_of hidden (interest 3 5)) 5 ∷
    eqb (all_shares (interest 3 5)) 8 ∷
    has (together (interest 1 2) (interest 30 50)) 31 52 ∷
    has (less (interest 30 50) (interest 1 2)) 29 48 ∷
    -- all that an order has is of one visibility, by its kind; a reserve order has both
    has (interest_by Displayed 7) 7 0 ∷
    has (interest_by NonDisplayed 7) 0 7 ∷
    has (interest_by least_of400 7) 0 7 ∷
    has (interest_by (hides 250) 7) 7 250 ∷
    -- a refresh shows the refresh size, or what is hidden where that is less; not while a share is shown
    has (refreshed 100 (interest 0 250)) 100 150 ∷
    has (refreshed 100 (interest 0 30)) 30 0 ∷
    has (refreshed 100 (interest 1 250)) 1 250 ∷
    has (refreshed 100 (interest 0 0)) 0 0 ∷ []

-- order 9, a marked sell of 500 at 10.00 dollars, of security 1
order : Kind → Order
order kind = record { side = Sell; kind = kind; number = 9; price = record { 0 = 100000 }; size = record { 0 = 500 }; setter = true; security = 1 }

-- the order is still order 9, of this kind, size and minimum
left : Order → ℕ → ℕ → ℕ → Bool
left o kind size minimum =
    eqb (side_number o.side) 2 && eqb o.number 9 && eqb (price_of o) 100000 && o.setter && eqb o.security 1
    && eqb (kind_number o.kind) kind && eqb (size_of o) size && eqb (minimum_of o.kind) minimum

-- it is so as a reserve order, marked as before, that shows and hides so many shares and keeps its refresh size
behind : Order → ℕ → ℕ → Bool
behind o size under = left o 4 size 0 && eqb (hidden_of o.kind) under && eqb (refresh_of o.kind) 100

-- an order loses shares of its own visibility; a minimum above what is left becomes what is left
losses : List Bool
losses =
    left (settled (interest 450 7) (order Displayed)) 1 50 0 ∷
    left (settled (interest 7 450) (order NonDisplayed)) 2 50 0 ∷
    left (settled (interest 7 450) (order least_of400)) 3 50 50 ∷
    left (settled (interest 0 50) (order least_of400)) 3 450 400 ∷
    -- it stays with a share, and leaves with none
    is_resting (settled (interest 499 0) (order Displayed)) ∷
    not (is_resting (settled (interest 500 0) (order Displayed))) ∷
    not (is_resting (settled (interest 0 500) (order least_of400))) ∷
    -- a reserve order loses shares of both, is refreshed once it shows none, and leaves when it has none of either
    behind (settled (interest 450 70) (order (hides 250))) 50 180 ∷
    behind (settled (interest 500 100) (order (hides 250))) 100 50 ∷
    behind (settled (interest 500 0) (order (hides 30))) 30 0 ∷
    behind (settled (interest 499 0) (order (hides 30))) 1 30 ∷
    is_resting (settled (interest 500 249) (order (hides 250))) ∷
    is_resting (settled (interest 499 250) (order (hides 250))) ∷
    not (is_resting (settled (interest 500 250) (order (hides 250)))) ∷
    -- shares that it hides keep it, though it shows none
    is_resting (record { side = Sell; kind = hides 1; number = 9; price = record { 0 = 100000 }; size = record { 0 = 0 }; setter = false; security = 0 }) ∷ []

taker : ℕ → Side → ℕ → Taker
taker security side limit = record { side = side; limit = record { 0 = limit }; security = security }

trading : List Bool
trading =
    -- a side trades with the other
    is_opposite Buy Sell ∷
    is_opposite Sell Buy ∷
    not (is_opposite Buy Buy) ∷
    not (is_opposite Sell Sell) ∷
    -- a buy at its limit or below, a sell at its limit or above
    within_limit Buy 100000 100000 ∷
    within_limit Buy 100000 99999 ∷
    not (within_limit Buy 100000 100001) ∷
    within_limit Sell 100000 100000 ∷
    within_limit Sell 100000 100001 ∷
    not (within_limit Sell 100000 99999) ∷
    -- better for a taker is lower for a buy; better for a resting order is higher for a buy; equal is neither
    is_better Buy 1 2 ∷
    not (is_better Buy 2 1) ∷
    not (is_better Buy 1 1) ∷
    is_better Sell 2 1 ∷
    not (is_better Sell 1 2) ∷
    not (is_better Sell 1 1) ∷
    is_priced_better Buy 2 1 ∷
    not (is_priced_better Buy 1 2) ∷
    not (is_priced_better Buy 1 1) ∷
    is_priced_better Sell 1 2 ∷
    not (is_priced_better Sell 2 1) ∷
    not (is_priced_better Sell 1 1) ∷
    -- an order is of its own security
    of_security 1 (order Displayed) ∷
    not (of_security 0 (order Displayed)) ∷
    -- with a resting sell at 100000, of security 1
    is_opposite_of (taker 1 Buy 1) (order Displayed) ∷
    not (is_opposite_of (taker 1 Sell 1) (order Displayed)) ∷
    is_tradable (taker 1 Buy 100000) (order Displayed) ∷
    not (is_tradable (taker 1 Buy 99999) (order Displayed)) ∷
    not (is_tradable (taker 1 Sell 100000) (order Displayed)) ∷
    -- a taker of the other security has nothing to do with it
    not (is_opposite_of (taker 0 Buy 1) (order Displayed)) ∷
    not (is_tradable (taker 0 Buy 100000) (order Displayed)) ∷
    -- an order takes at its own price, on its own side, in its own security
    eqb (side_number (as_taker (order Displayed)).side) 2 ∷
    eqb (as_taker (order Displayed)).limit.0 100000 ∷
    eqb (as_taker (order Displayed)).security 1 ∷ []

numbers_worked : all (λ b. b) numbers ≡ true
unfolding numbers least_of400 hides
numbers_worked = refl

ranges_worked : all (λ b. b) ranges ≡ true
unfolding ranges
ranges_worked = refl

interests_worked : all (λ b. b) interests ≡ true
unfolding interests has least_of400 hides
interests_worked = refl

losses_worked : all (λ b. b) losses ≡ true
unfolding losses left behind order least_of400 hides settled with_interest
losses_worked = refl

trading_worked : all (λ b. b) trading ≡ true
unfolding trading taker order
trading_worked = refl
