-- Worked values of keys, of the parts of orders, and of those that are needed, computed by the checker.
use Rattle.std.specs.Prelude.{ℕ, zero, suc, ◌+◌, ◌≡◌, refl, Bool, true, false, not, ◌&&◌, List, [], ◌∷◌, map, length, eqb}
use Rattle.std.proofs.Common.{arith}
use Rattle.units.specs.Lists.{all as all_of, same_numbers}
use Rattle.orders.specs.declared.order.Side.{Side}
use Rattle.orders.specs.declared.order.Side.TheVariants.{Buy, Sell}
use Rattle.orders.specs.declared.order.Kind.{Kind}
use Rattle.orders.specs.declared.order.Kind.TheVariants.{Displayed, NonDisplayed, MinimumQuantity, Reserve}
use Rattle.orders.specs.declared.order.Order.{Order}
use Rattle.orders.specs.Order.{shown, hidden, shares_of, only_of}
use Rattle.record.specs.declared.execution.Execution.{Execution}
use Rattle.matching.specs.declared.Algorithm.TheVariants.{PriceTime, ProRata, PriceSetter}
use Rattle.matching.specs.declared.incoming.Incoming.{Incoming}
use Rattle.parts.specs.Key.{key_of, rank_in, group_in, paragraph_in, place_in, shares_in, with_shares}
use Rattle.parts.specs.Execution.{execution_in, execution_of}
use Rattle.parts.specs.Parts.{rank_on, pro_rata_paragraph, paragraph_for, part_key, may_meet, offers, keys_of, keys_from}
use Rattle.parts.specs.Table.{visibility_of}
use Rattle.parts.specs.Visible.{last_shown, visible_by, visibility_in}
use Rattle.parts.specs.Narrowed.{minimum_paragraph, of_rank, free_shares, Narrowed, all, best}

keys : List Bool
keys =
    -- each of the four in its place
    eqb (key_of 1 0 0 0) 4294967296 ∷
    eqb (key_of 0 1 0 0) 536870912 ∷
    eqb (key_of 0 0 1 0) 1048576 ∷
    eqb (key_of 0 0 0 1) 1 ∷
    eqb (key_of 3 5 300 999999) 15884829247 ∷
    -- and read back
    eqb (rank_in 15884829247) 3 ∷
    eqb (group_in 15884829247) 29 ∷
    eqb (paragraph_in 29) 5 ∷
    eqb (place_in 15884829247) 300 ∷
    eqb (shares_in 15884829247) 999999 ∷
    -- the highest that stand beside a rank, and the lowest
    eqb (key_of 0 7 511 1048575) 4294967295 ∷
    eqb (rank_in 4294967295) 0 ∷
    eqb (group_in 4294967295) 7 ∷
    eqb (place_in 4294967295) 511 ∷
    eqb (shares_in 4294967295) 1048575 ∷
    eqb (rank_in 4294967296) 1 ∷
    eqb (paragraph_in (group_in 4294967296)) 0 ∷
    eqb (place_in 4294967296) 0 ∷
    eqb (shares_in 4294967296) 0 ∷
    -- the same part with 7 shares
    eqb (with_shares 7 15884829247) 15883829255 ∷ []

keys_worked : all_of (λ b. b) keys ≡ true
unfolding keys
keys_worked = refl

-- orders 10, 11, 12 .. at a price each
at : ℕ → Order
at place = record { side = Sell; kind = Displayed; number = 10 + place; price = record { 0 = 100000 + place }; size = record { 0 = 500 }; setter = false; security = 0 }

-- of an execution the number, price, shares and paragraph
told : Execution → List ℕ
told e = e.number ∷ e.price.0 ∷ e.shares.0 ∷ e.paragraph ∷ []

-- 120 shares of a part in paragraph 5, whatever its own shares; and a fill with its shares
executions_worked : (same_numbers (told (execution_in at (key_of 3 5 2 400) 120)) (12 ∷ 100002 ∷ 120 ∷ 5 ∷ [])
    && same_numbers (told (execution_of at (key_of 3 5 2 120))) (12 ∷ 100002 ∷ 120 ∷ 5 ∷ [])) ≡ true
unfolding at told
executions_worked = refl

least : ℕ → Kind
least m = MinimumQuantity (record { 0 = m })

-- a reserve order that hides so many shares
hides : ℕ → Kind
hides n = Reserve (record { 0 = n }) (record { 0 = 100 })

order : Side → Kind → ℕ → ℕ → Order
order side kind price size = record {
  side = side;
  kind = kind;
  number = 1;
  price = record { 0 = price };
  size = record { 0 = size };
  setter = false;
  security = 1;
}

-- 300 shares come in of a security
incoming_for : ℕ → Side → ℕ → Incoming
incoming_for security side limit =
    record { taker = record { side = side; limit = record { 0 = limit }; security = security }; size = record { 0 = 300 } }

-- and of that of the order
incoming : Side → ℕ → Incoming
incoming = incoming_for 1

paragraphs : List Bool
paragraphs =
    -- the lower price is the better for a buy, the higher for a sell
    eqb (rank_on Buy 100100) 100100 ∷
    eqb (rank_on Sell 100100) 4294867195 ∷
    -- under pro rata: displayed shares of a lot and below one, non-displayed ones, and those with a minimum
    eqb (pro_rata_paragraph 100 shown false 100) 2 ∷
    eqb (pro_rata_paragraph 100 shown false 99) 3 ∷
    eqb (pro_rata_paragraph 100 hidden false 100) 4 ∷
    eqb (pro_rata_paragraph 100 hidden false 99) 6 ∷
    eqb (pro_rata_paragraph 100 hidden true 100) 5 ∷
    eqb (pro_rata_paragraph 100 hidden true 99) 5 ∷
    eqb (pro_rata_paragraph 7 shown false 7) 2 ∷
    -- under price/time: displayed shares, and all others
    eqb (paragraph_for 100 PriceTime shown false 99) 2 ∷
    eqb (paragraph_for 100 PriceTime hidden false 100) 3 ∷
    eqb (paragraph_for 100 PriceTime hidden true 100) 3 ∷
    -- under the other two as under pro rata
    eqb (paragraph_for 100 ProRata shown false 99) 3 ∷
    eqb (paragraph_for 100 ProRata hidden false 99) 6 ∷
    eqb (paragraph_for 100 PriceSetter shown false 99) 3 ∷
    eqb (paragraph_for 100 PriceSetter hidden true 99) 5 ∷ []

paragraphs_worked : all_of (λ b. b) paragraphs ≡ true
unfolding paragraphs
paragraphs_worked = refl

-- displayed shares stand in paragraph 2 under price/time, and in 2 and 3 under the other two
visible : List Bool
visible =
    eqb (last_shown PriceTime) 2 ∷
    eqb (last_shown ProRata) 3 ∷
    eqb (last_shown PriceSetter) 3 ∷
    eqb (shares_of shown (only_of (visible_by PriceTime 2) 7)) 7 ∷
    eqb (shares_of hidden (only_of (visible_by PriceTime 3) 7)) 7 ∷
    eqb (shares_of shown (only_of (visible_by ProRata 3) 7)) 7 ∷
    eqb (shares_of hidden (only_of (visible_by PriceSetter 4) 7)) 7 ∷
    eqb (shares_of hidden (only_of (visibility_in ProRata (key_of 3 4 300 999999)) 7)) 7 ∷
    eqb (shares_of shown (only_of (visibility_in ProRata (key_of 3 3 300 999999)) 7)) 7 ∷
    -- the size of an order of kind 1 or 4 is displayed
    eqb (shares_of shown (only_of (visibility_of Displayed) 7)) 7 ∷
    eqb (shares_of shown (only_of (visibility_of (hides 80)) 7)) 7 ∷
    eqb (shares_of hidden (only_of (visibility_of NonDisplayed) 7)) 7 ∷
    eqb (shares_of hidden (only_of (visibility_of (least 7)) 7)) 7 ∷ []

visible_worked : all_of (λ b. b) visible ≡ true
unfolding visible hides least
visible_worked = refl

parts : List Bool
parts =
    eqb (part_key 100 ProRata Buy hidden 5 (order Sell NonDisplayed 100100 50)) (key_of 100100 6 5 50) ∷
    eqb (part_key 50 ProRata Buy hidden 5 (order Sell NonDisplayed 100100 50)) (key_of 100100 4 5 50) ∷
    eqb (part_key 100 PriceTime Sell hidden 5 (order Buy NonDisplayed 100100 50)) (key_of 4294867195 3 5 50) ∷
    -- a reserve order's two, each of its own size
    eqb (part_key 100 ProRata Buy shown 5 (order Sell (hides 80) 100100 120)) (key_of 100100 2 5 120) ∷
    eqb (part_key 100 ProRata Buy hidden 5 (order Sell (hides 80) 100100 120)) (key_of 100100 6 5 80) ∷ []

parts_worked : all_of (λ b. b) parts ≡ true
unfolding parts order hides
parts_worked = refl

-- which parts of an order a buy may meet: those that it has, where its price is within the limit
offered : List Bool
offered =
    offers (incoming Buy 100100) shown (order Sell (hides 80) 100100 120) ∷
    offers (incoming Buy 100100) hidden (order Sell (hides 80) 100100 120) ∷
    not (offers (incoming Buy 100100) hidden (order Sell (hides 0) 100100 120)) ∷
    not (offers (incoming Buy 100100) shown (order Sell NonDisplayed 100100 120)) ∷
    not (offers (incoming Buy 100099) shown (order Sell (hides 80) 100100 120)) ∷
    -- whom a sell may meet: the other side, at or above the limit, with a minimum of 300 at most
    may_meet (incoming Sell 100100) (order Buy Displayed 100100 50) ∷
    may_meet (incoming Sell 100100) (order Buy (least 300) 100200 400) ∷
    not (may_meet (incoming Sell 100100) (order Sell Displayed 100100 50)) ∷
    not (may_meet (incoming Sell 100100) (order Buy Displayed 100099 50)) ∷
    not (may_meet (incoming_for 0 Sell 100100) (order Buy Displayed 100100 50)) ∷
    not (may_meet (incoming Sell 100100) (order Buy (least 301) 100200 400)) ∷ []

offered_worked : all_of (λ b. b) offered ≡ true
unfolding offered order least hides incoming incoming_for
offered_worked = refl

-- a displayed sell, a non-displayed one below a lot at the limit, a buy, a sell above the limit, a minimum that is just met, one that isn't,
-- and two reserve orders, one of which hides nothing
orders : List Order
orders =
    order Sell Displayed 100000 250 ∷
    order Sell NonDisplayed 100100 50 ∷
    order Buy Displayed 100000 100 ∷
    order Sell Displayed 100101 100 ∷
    order Sell (least 300) 100050 400 ∷
    order Sell (least 301) 100050 400 ∷
    order Sell (hides 80) 100050 120 ∷
    order Sell (hides 0) 100000 30 ∷ []

-- the parts that a buy may meet, each with the place of its record
met : List Bool
met =
    same_numbers (keys_from 100 ProRata (incoming Buy 100100) 0 orders)
    (key_of 100000 2 0 250 ∷ key_of 100100 6 1 50 ∷ key_of 100050 5 4 400 ∷ key_of 100050 2 6 120 ∷ key_of 100050 6 6 80 ∷ key_of 100000 3 7 30 ∷ []) ∷
    same_numbers (keys_from 100 PriceTime (incoming Buy 100000) 7 orders) (key_of 100000 2 7 250 ∷ key_of 100000 2 14 30 ∷ []) ∷
    same_numbers (keys_from 100 PriceTime (incoming Sell 1) 0 orders) (key_of 4294867295 2 2 100 ∷ []) ∷
    same_numbers (keys_from 100 PriceTime (incoming Buy 100100) 0 []) [] ∷ []

met_worked : all_of (λ b. b) met ≡ true
unfolding met orders order least hides incoming incoming_for keys_of keys_from
met_worked = refl

-- both parts of an order have the place of its record, one more than those of the order before
placed : List Bool
placed =
    same_numbers (map place_in (keys_from 100 ProRata (incoming Buy 100100) 3 (order Sell (hides 80) 100000 120 ∷ order Sell (hides 80) 100000 120 ∷ [])))
    (3 ∷ 3 ∷ 4 ∷ 4 ∷ []) ∷ []

placed_worked : all_of (λ b. b) placed ≡ true
unfolding placed order hides incoming incoming_for keys_of keys_from
placed_worked = refl

free : List Bool
free =
    eqb (minimum_paragraph PriceTime) 3 ∷
    eqb (minimum_paragraph ProRata) 5 ∷
    eqb (minimum_paragraph PriceSetter) 5 ∷
    of_rank 4 (key_of 4 1 2 50) ∷
    not (of_rank 3 (key_of 4 1 2 50)) ∷
    -- of the rank, in another paragraph's group than those with a minimum
    eqb (free_shares ProRata 4 (key_of 4 3 2 50)) 50 ∷
    eqb (free_shares PriceTime 4 (key_of 4 3 2 50)) 0 ∷
    eqb (free_shares PriceSetter 4 (key_of 4 5 2 50)) 0 ∷
    eqb (free_shares PriceTime 4 (key_of 4 5 2 50)) 50 ∷
    eqb (free_shares ProRata 3 (key_of 4 3 2 50)) 0 ∷ []

free_worked : all_of (λ b. b) free ≡ true
unfolding free
free_worked = refl

-- 100 shares at the best price, without a minimum, and 200 at the next
two : List ℕ
two = key_of 0 0 0 100 ∷ key_of 1 0 1 200 ∷ []

-- they are enough for 100
enough : Narrowed ProRata 100 two (key_of 0 0 0 100 ∷ [])
unfolding two
enough = best 0 (omega arith, (omega arith, tt)) (omega arith)

-- none need be left out
whole : Narrowed ProRata 100 two two
whole = all

-- for 101 they aren't, and those of the next price, which would be, aren't the best: none is left out
too_few : (needed : List ℕ) → Narrowed ProRata 101 two needed → length needed ≡ 2
unfolding two
too_few needed all = refl
too_few needed (best zero e h) = absurd (omega arith)
too_few needed (best (suc rank) e h) = let l = e.0 in absurd (omega arith)
