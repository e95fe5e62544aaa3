-- Orders and books that the worked values use.
use Rattle.std.specs.Prelude.{ℕ, suc, Bool, true, false, List, [], ◌∷◌}
use Rattle.orders.specs.declared.order.Side.{Side}
use Rattle.orders.specs.declared.order.Side.TheVariants.{Buy, Sell}
use Rattle.orders.specs.declared.order.Kind.{Kind}
use Rattle.orders.specs.declared.order.Kind.TheVariants.{Displayed, NonDisplayed, MinimumQuantity, Reserve}
use Rattle.orders.specs.declared.order.Order.{Order}
use Rattle.matching.specs.declared.incoming.Incoming.{Incoming}

-- an order of security 0: side, kind, setter mark, number, price, size
abbrev order : Side → Kind → Bool → ℕ → ℕ → ℕ → Order
order side kind setter n price size = record {
  side = side;
  kind = kind;
  number = n;
  price = record { 0 = price };
  size = record { 0 = size };
  setter = setter;
  security = 0;
}

-- a resting sell without a mark: kind, number, price, size
abbrev pub sell : Kind → ℕ → ℕ → ℕ → Order
sell kind = order Sell kind false

-- a displayed sell that set its price of 100000: number, size
abbrev pub marked : ℕ → ℕ → Order
marked n size = order Sell Displayed true n 100000 size

-- a minimum quantity sell at 100000: number, size, minimum
abbrev pub minimum : ℕ → ℕ → ℕ → Order
minimum n size m = sell (MinimumQuantity (record { 0 = m })) n 100000 size

-- a reserve sell at 100000, with a mark or without: number, shown shares, hidden shares, refresh size
abbrev reserve_of : Bool → ℕ → ℕ → ℕ → ℕ → Order
reserve_of setter n size hidden refresh = order Sell (Reserve (record { 0 = hidden }) (record { 0 = refresh })) setter n 100000 size

abbrev pub reserve : ℕ → ℕ → ℕ → ℕ → Order
reserve = reserve_of false

abbrev pub marked_reserve : ℕ → ℕ → ℕ → ℕ → Order
marked_reserve = reserve_of true

-- sells of one kind at 100000, of these sizes, numbered from n on
abbrev pub sells : Kind → ℕ → List ℕ → List Order
sells kind n [] = []
sells kind n (size ∷ sizes) = sell kind n 100000 size ∷ sells kind (suc n) sizes

-- a displayed buy of 300: number, price
abbrev pub bid : ℕ → ℕ → Order
bid n price = order Buy Displayed false n price 300

-- an incoming order of security 0: side, limit, size
abbrev pub incoming : Side → ℕ → ℕ → Incoming
incoming side limit size = record { taker = record { side = side; limit = record { 0 = limit }; security = 0 }; size = record { 0 = size } }

-- the order in security 1, and else the same
abbrev pub in_other : Order → Order
in_other o = record { side = o.side; kind = o.kind; number = o.number; price = o.price; size = o.size; setter = o.setter; security = 1 }

-- displayed sells at three prices, the second the best
abbrev pub three_prices : List Order
three_prices = sell Displayed 1 100100 300 ∷ sell Displayed 2 100000 200 ∷ sell Displayed 3 100200 100 ∷ []

-- a sell for each paragraph of pro rata
abbrev pub every_kind : List Order
every_kind =
    sell Displayed 1 100000 99 ∷ sell NonDisplayed 2 100000 50 ∷ minimum 3 200 150 ∷ sell NonDisplayed 4 100000 300 ∷
    sell Displayed 5 100000 100 ∷ []
