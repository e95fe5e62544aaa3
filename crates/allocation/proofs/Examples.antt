-- Worked values of a way through parts, computed by the checker, and ways, stretches and ledgers that meet their conditions, or don't.
use Rattle.std.specs.Prelude.{ℕ, zero, suc, ◌+◌, ◌-◌, ◌≤◌, ◌<◌, ◌≡◌, refl, Bool, true, false, List, [], ◌∷◌, eqb, length, get_or, take, drop}
use Rattle.std.proofs.Common.{sym, ap, subst, true≢false, arith, ne_eqb}
use Rattle.std.proofs.lemmas.Bool.{false≢true}
use Rattle.std.proofs.Math.Decide.{dec_le}
use Rattle.units.specs.Lists.{all, flat_map, same_numbers, total}
use Rattle.units.proofs.Members.{Every}
use Rattle.sharing.specs.declared.Rank.TheVariants.{Time}
use Rattle.sharing.specs.declared.Method.TheVariants.{InTurn, Lots, Setter}
use Rattle.sharing.specs.Rank.{Part}
use Rattle.sharing.specs.Round.{goes_round, round}
use Rattle.sharing.specs.Lots.{lot_sharing}
use Rattle.orders.specs.declared.order.Side.{Side}
use Rattle.orders.specs.declared.order.Side.TheVariants.{Buy, Sell}
use Rattle.orders.specs.declared.order.Taker.{Taker}
use Rattle.orders.specs.declared.order.Kind.{Kind}
use Rattle.orders.specs.declared.order.Kind.TheVariants.{Displayed, MinimumQuantity}
use Rattle.orders.specs.declared.order.Order.{Order}
use Rattle.orders.specs.Order.{Visibility, shown, hidden, shares_of, interest_of}
use Rattle.record.specs.declared.execution.Execution.{Execution}
use Rattle.record.specs.Codec.{encode, decode}
use Rattle.record.specs.Record.{numbers_of, order_of, numbers_sound, new_tells}
use Rattle.book.specs.Sound.{sound, orders_of, book_of, order_at}
use Rattle.matching.specs.declared.Algorithm.TheVariants.{PriceTime, ProRata}
use Rattle.matching.specs.Paragraph.{paragraph_number}
use Rattle.parts.specs.Key.{key_of, group_in, place_in, shares_in}
use Rattle.parts.specs.Parts.{part_key}
use Rattle.allocation.specs.Walk.{paragraph_of, part_in, executions_from, shared_by, Walks, none, ended, next, fills_of, got_at}
use Rattle.allocation.specs.Stretch.{group_at, Parted, Whole, Ends}
use Rattle.allocation.specs.Credit.{seen, noted, Ledger, ledger, left_in, logged, Room, Credited}
use Rattle.allocation.specs.Ready.{Ascending, Stands}
use Rattle.allocation.specs.Sharing.{Book, minimum_in, Columns, Shared, FirstSetter, Needed, Holds, Lent, Walked}

order : Kind → ℕ → ℕ → ℕ → Bool → Order
order kind number price size setter = record {
  side = Sell;
  kind = kind;
  number = number;
  price = record { 0 = price };
  size = record { 0 = size };
  setter = setter;
  security = 0;
}

-- two displayed sells, the second of which set the price, and at the next price one with a minimum of 50
book : List ℕ
book =
    book_of 3 (order Displayed 7 100000 300 false ∷ order Displayed 9 100000 200 true ∷ order (MinimumQuantity (record { 0 = 50 })) 11 100100 400 false ∷ [])

abbrev at : ℕ → Order
at i = order_at book i

-- their parts under pro rata with a lot of 100, in two groups
abbrev first : ℕ
first = key_of 100000 2 0 300

abbrev second : ℕ
second = key_of 100000 2 1 200

abbrev third : ℕ
third = key_of 100100 5 2 400

abbrev parts : List ℕ
parts = first ∷ second ∷ third ∷ []

values : List Bool
values =
    -- the paragraph's number is what a group has beside the rank
    eqb (paragraph_number (paragraph_of (group_in first))) 2 ∷
    eqb (paragraph_number (paragraph_of (group_in third))) 5 ∷
    eqb (paragraph_number (paragraph_of 11)) 3 ∷
    -- a part has its own shares, and the number, minimum and mark of its order
    eqb (part_in at (key_of 100100 5 2 120)).size 120 ∷
    eqb (part_in at third).number 11 ∷
    eqb (part_in at third).minimum 50 ∷
    eqb (minimum_in book third) 50 ∷
    eqb (minimum_in book second) 0 ∷
    (part_in at second).setter ∷
    -- those that got shares
    same_numbers (fills_of parts (100 ∷ 0 ∷ 50 ∷ [])) (key_of 100000 2 0 100 ∷ key_of 100100 5 2 50 ∷ []) ∷
    same_numbers (fills_of parts (1 ∷ [])) (key_of 100000 2 0 1 ∷ []) ∷
    -- all but the second are of one record, the last of them of its non-displayed shares
    eqb (got_at ProRata shown 1 (key_of 0 2 1 1 ∷ key_of 0 2 0 2 ∷ key_of 1 3 1 3 ∷ key_of 1 4 1 5 ∷ []) (10 ∷ 20 ∷ 30 ∷ 50 ∷ [])) 40 ∷
    eqb (got_at ProRata hidden 1 (key_of 0 2 1 1 ∷ key_of 0 2 0 2 ∷ key_of 1 3 1 3 ∷ key_of 1 4 1 5 ∷ []) (10 ∷ 20 ∷ 30 ∷ 50 ∷ [])) 50 ∷
    eqb (got_at PriceTime hidden 1 (key_of 0 2 1 1 ∷ key_of 0 3 1 2 ∷ []) (10 ∷ 20 ∷ [])) 20 ∷
    -- one of two lists, and a list in which a part's record got 7 more of the part's visibility
    same_numbers (seen shown (1 ∷ []) (2 ∷ [])) (1 ∷ []) ∷
    same_numbers (seen hidden (1 ∷ []) (2 ∷ [])) (2 ∷ []) ∷
    same_numbers (noted ProRata shown second 7 (10 ∷ 20 ∷ 30 ∷ [])) (10 ∷ 27 ∷ 30 ∷ []) ∷
    same_numbers (noted ProRata hidden second 7 (10 ∷ 20 ∷ 30 ∷ [])) (10 ∷ 20 ∷ 30 ∷ []) ∷
    same_numbers (noted ProRata hidden third 7 (10 ∷ 20 ∷ 30 ∷ [])) (10 ∷ 20 ∷ 37 ∷ []) ∷
    eqb (group_at parts 2) 800805 ∷ []

values_worked : all (λ b. b) values ≡ true
unfolding values book order book_of encode decode numbers_of order_of
values_worked = refl

-- a buy of so many shares that has so many fills, in memory with these
abbrev kept : ℕ → ℕ → List ℕ → List ℕ → List ℕ → Ledger
kept left count fills ss hs =
    ledger (record { incoming = record { taker = record { side = Buy; limit = record { 0 = 100100 }; security = 0 }; size = record { 0 = left } }; count = count }) fills ss hs

-- executions: of each the number, price, shares and paragraph
told : List Execution → List ℕ
told es = flat_map (λ e. e.number ∷ e.price.0 ∷ e.shares.0 ∷ e.paragraph ∷ []) es

named : List Bool
named =
    -- of those that got shares
    same_numbers (told (executions_from at parts (100 ∷ 0 ∷ 1 ∷ []))) (7 ∷ 100000 ∷ 100 ∷ 2 ∷ 11 ∷ 100100 ∷ 1 ∷ 5 ∷ []) ∷
    same_numbers (told (executions_from at parts (300 ∷ []))) (7 ∷ 100000 ∷ 300 ∷ 2 ∷ []) ∷
    -- of the fills that are counted
    same_numbers (told (logged at (kept 0 1 (third ∷ first ∷ []) [] []))) (11 ∷ 100100 ∷ 400 ∷ 5 ∷ []) ∷ []

named_worked : all (λ b. b) named ≡ true
unfolding named told book order book_of encode decode numbers_of order_of
named_worked = refl

-- 210 shares: by lots of 100 and of 50, by size in paragraph 3, and by time
groups : List Bool
groups =
    same_numbers (shared_by at 100 ProRata 800002 (first ∷ second ∷ []) 210) (200 ∷ 10 ∷ []) ∷
    same_numbers (shared_by at 50 ProRata 800002 (first ∷ second ∷ []) 210) (150 ∷ 60 ∷ []) ∷
    same_numbers (shared_by at 100 ProRata 800003 (second ∷ first ∷ []) 210) (0 ∷ 210 ∷ []) ∷
    same_numbers (shared_by at 100 PriceTime 800003 (second ∷ first ∷ []) 210) (200 ∷ 10 ∷ []) ∷ []

groups_worked : all (λ b. b) groups ≡ true
unfolding groups book order book_of encode decode numbers_of order_of shared_by lot_sharing goes_round round
groups_worked = refl

-- of 600 shares the first group is filled, and 100 are left for the second
two_groups : Walks at 100 ProRata parts 600 (300 ∷ 200 ∷ 100 ∷ [])
unfolding book order book_of encode decode numbers_of order_of shared_by lot_sharing goes_round round
two_groups = next 600 first (second ∷ []) (third ∷ []) (100 ∷ []) (refl, tt) (omega arith, tt) (next 100 third [] [] [] tt tt (none 0))

-- where none are left nobody gets any
nothing_left : Walks at 100 ProRata parts 0 (0 ∷ 0 ∷ 0 ∷ [])
nothing_left = ended parts

-- the groups part before the third key, and not before the second
parted : Parted parts 2
parted zero zero h g l = absurd (omega arith)
parted zero (suc zero) h g l = absurd (omega arith)
parted zero (suc (suc zero)) h g l = omega arith
parted zero (suc (suc (suc j))) h g l = absurd (omega arith)
parted (suc zero) zero h g l = absurd (omega arith)
parted (suc zero) (suc zero) h g l = absurd (omega arith)
parted (suc zero) (suc (suc zero)) h g l = omega arith
parted (suc zero) (suc (suc (suc j))) h g l = absurd (omega arith)
parted (suc (suc i)) j h g l = absurd (omega arith)

not_parted : Parted parts 1 → ⊥
not_parted h = let e = h 0 1 (omega arith) (omega arith) (omega arith) in omega arith

-- 550 shares fill the first group and not both; 0 keys aren't all that they fill, and 3 are too many
whole : Whole parts 550 2
whole = record { within = omega arith; parted = parted; fits = omega arith; most = most }
  where
    most : (end : ℕ) → 2 < 3 → ((j : ℕ) → j < 3 → group_at parts j ≡ group_at parts 2 → j < end) → 550 < total shares_in (take end parts)
    most zero h g = absurd (omega (arith, g 2 (omega arith) refl))
    most (suc zero) h g = absurd (omega (arith, g 2 (omega arith) refl))
    most (suc (suc zero)) h g = absurd (omega (arith, g 2 (omega arith) refl))
    most (suc (suc (suc n))) h g = omega arith

first_group : (j : ℕ) → j < 3 → group_at parts j ≡ group_at parts 0 → j < 2
first_group zero h e = omega arith
first_group (suc zero) h e = omega arith
first_group (suc (suc zero)) h e = absurd (omega (arith, e))
first_group (suc (suc (suc j))) h e = absurd (omega arith)

too_few : Whole parts 550 0 → ⊥
too_few h = omega (arith, h.most 2 (omega arith) first_group)

too_many : Whole parts 550 3 → ⊥
too_many h = omega (arith, h.fits)

-- the first group ends before the third key, not before the second, and not behind the third
ends : Ends parts 0 2
ends = record { some = omega arith; within = omega arith; same = same; parted = parted }
  where
    same : (j : ℕ) → 0 ≤ j → j < 2 → group_at parts j ≡ group_at parts 0
    same zero h g = refl
    same (suc zero) h g = refl
    same (suc (suc j)) h g = absurd (omega arith)

ends_early : Ends parts 0 1 → ⊥
ends_early h = not_parted h.parted

ends_late : Ends parts 0 3 → ⊥
ends_late h = omega (arith, h.same 2 (omega arith) (omega arith))

abbrev start : Ledger
start = kept 600 1 (7 ∷ 0 ∷ 0 ∷ 0 ∷ []) (5 ∷ 0 ∷ 0 ∷ []) (0 ∷ 0 ∷ 4 ∷ [])

left_in_lem : left_in start ≡ 600
left_in_lem = refl

-- there is room for three parts behind the first fill, for three records, and for 600 shares beside those that one got
room : Room parts start
room = record { fills = omega arith; places = places; bounded = bounded }
  where
    places : (v : Visibility) → Every (λ k. place_in k < length (start.allotment v)) parts
    places shown = (omega arith, (omega arith, (omega arith, tt)))
    places hidden = (omega arith, (omega arith, (omega arith, tt)))

    small : (a b c i : ℕ) → a < 10 → b < 10 → c < 10 → get_or (a ∷ b ∷ c ∷ []) i 0 + 600 ≤ 999999
    small a b c zero x y z = omega arith
    small a b c (suc zero) x y z = omega arith
    small a b c (suc (suc zero)) x y z = omega arith
    small a b c (suc (suc (suc i))) x y z = omega arith

    bounded : (v : Visibility) (i : ℕ) → get_or (start.allotment v) i 0 + 600 ≤ 999999
    bounded shown i = small 5 0 0 i (omega arith) (omega arith) (omega arith)
    bounded hidden i = small 0 0 4 i (omega arith) (omega arith) (omega arith)

no_room : (Room parts (kept 600 1 (7 ∷ 0 ∷ 0 ∷ []) (5 ∷ 0 ∷ 0 ∷ []) (0 ∷ 0 ∷ 0 ∷ [])) → ⊥)
    × (Room parts (kept 600 1 (7 ∷ 0 ∷ 0 ∷ 0 ∷ []) (5 ∷ 0 ∷ []) (0 ∷ 0 ∷ 0 ∷ [])) → ⊥)
    × (Room parts (kept 600 1 (7 ∷ 0 ∷ 0 ∷ 0 ∷ []) (5 ∷ 0 ∷ 0 ∷ []) (0 ∷ 0 ∷ [])) → ⊥)
    × (Room parts (kept 600 1 (7 ∷ 0 ∷ 0 ∷ 0 ∷ []) (5 ∷ 0 ∷ 0 ∷ []) (999400 ∷ 0 ∷ 0 ∷ [])) → ⊥)
no_room =
    (λ h. omega (arith, h.fills), λ h. omega (arith, (h.places shown).1.1.0), λ h. omega (arith, (h.places hidden).1.1.0), λ h. omega (arith, h.bounded hidden 0))

-- no part is of a record behind the third
nobody : (v : Visibility) (i a b c : ℕ) → got_at ProRata v (suc (suc (suc i))) parts (a ∷ b ∷ c ∷ []) ≡ 0
nobody v i a b c =
    let other : (k : ℕ) → k < 3 → eqb k (suc (suc (suc i))) ≡ false = λ k h. ne_eqb k (suc (suc (suc i))) (λ e. absurd (omega (arith, e))) in
    rw (other (place_in first) (omega arith), other (place_in second) (omega arith), other (place_in third) (omega arith))

-- the parts get 300, nothing and 100; what lies behind the fills may be anything
credited : Credited ProRata parts (300 ∷ 0 ∷ 100 ∷ []) start
    (kept 200 3 (7 ∷ first ∷ key_of 100100 5 2 100 ∷ 9 ∷ []) (305 ∷ 0 ∷ 0 ∷ []) (0 ∷ 0 ∷ 104 ∷ []))
credited = record { left = refl; count = refl; fills = refl; executions = λ at. refl; allotment = allotment; room = refl; records = λ v. same v }
  where
    same : (v : Visibility) → length (seen v (305 ∷ 0 ∷ 0 ∷ []) (0 ∷ 0 ∷ 104 ∷ [])) ≡ length (start.allotment v)
    same shown = refl
    same hidden = refl

    allotment : (v : Visibility) (i : ℕ)
        → get_or (seen v (305 ∷ 0 ∷ 0 ∷ []) (0 ∷ 0 ∷ 104 ∷ [])) i 0 ≡ get_or (start.allotment v) i 0 + got_at ProRata v i parts (300 ∷ 0 ∷ 100 ∷ [])
    allotment shown zero = refl
    allotment shown (suc zero) = refl
    allotment shown (suc (suc zero)) = refl
    allotment shown (suc (suc (suc i))) = omega (arith, nobody shown i 300 0 100)
    allotment hidden zero = refl
    allotment hidden (suc zero) = refl
    allotment hidden (suc (suc zero)) = refl
    allotment hidden (suc (suc (suc i))) = omega (arith, nobody hidden i 300 0 100)

-- displayed shares that are kept as non-displayed ones
unseen : Credited ProRata (first ∷ []) (300 ∷ []) (kept 300 0 (0 ∷ []) (0 ∷ []) (0 ∷ [])) (kept 0 1 (first ∷ []) (0 ∷ []) (300 ∷ [])) → ⊥
unseen h = let e : ◌≡◌ {A = ℕ} 0 300 = h.allotment shown 0 in omega arith

-- a fill that names paragraph 3, of a part that got its shares in paragraph 2
misnamed : Credited ProRata (first ∷ []) (300 ∷ []) (kept 300 0 (0 ∷ []) (0 ∷ []) (0 ∷ [])) (kept 0 1 (key_of 100000 3 0 300 ∷ []) (300 ∷ []) (0 ∷ [])) → ⊥
unfolding book order book_of encode decode numbers_of order_of
misnamed h = let e : ◌≡◌ {A = ℕ} 3 2 = ap (λ es. total (λ e. e.paragraph) es) (h.executions at) in omega arith

-- each key is below all behind it, not only below the next
ascending : Ascending parts
ascending = ((omega arith, (omega arith, tt)), ((omega arith, tt), (tt, tt)))

not_ascending : (Ascending (second ∷ first ∷ []) → ⊥) × (Ascending (1 ∷ 3 ∷ 1 ∷ []) → ⊥)
not_ascending = (λ h. omega (arith, h.0.0), λ h. omega (arith, h.0.1.0))

-- a taker of a security and side
abbrev taker : ℕ → Side → Taker
taker security side = record { side = side; limit = record { 0 = 100100 }; security = security }

-- a key is that of an order for a taker of the other side, of one of the first n records, with its own shares
stands : Every (Stands at 3 100 ProRata (taker 0 Buy)) parts
unfolding book order book_of encode decode numbers_of order_of
stands = (
  record { within = omega arith; opposite = refl; visibility = shown; some = omega arith; is = refl },
  (
    record { within = omega arith; opposite = refl; visibility = shown; some = omega arith; is = refl },
    (record { within = omega arith; opposite = refl; visibility = hidden; some = omega arith; is = refl }, tt),
  ),
)

same_side_lem : Stands at 3 100 ProRata (taker 0 Sell) (key_of 4294867295 2 0 300) → ⊥
unfolding book order book_of encode decode numbers_of order_of
same_side_lem h = false≢true h.opposite

-- nor for one of another security
other_security : Stands at 3 100 ProRata (taker 1 Buy) (key_of 100000 2 0 300) → ⊥
unfolding book order book_of encode decode numbers_of order_of
other_security h = false≢true h.opposite

behind_all : Stands at 2 100 ProRata (taker 0 Buy) third → ⊥
behind_all h = omega (arith, h.within)

other_shares : Stands at 3 100 ProRata (taker 0 Buy) (key_of 100000 2 0 299) → ⊥
unfolding book order book_of encode decode numbers_of order_of
other_shares h = go h.visibility h.some h.is
  where
    go : (v : Visibility) → 0 < shares_of v (interest_of (at 0)) → key_of 100000 2 0 299 ≡ part_key 100 ProRata Buy v 0 (at 0) → ⊥
    go shown s e = omega (arith, e)
    go hidden s e = omega arith

-- nor is one of no shares
no_shares : Stands at 3 100 ProRata (taker 0 Buy) (key_of 100000 6 0 0) → ⊥
unfolding book order book_of encode decode numbers_of order_of
no_shares h = go h.visibility h.some h.is
  where
    go : (v : Visibility) → 0 < shares_of v (interest_of (at 0)) → key_of 100000 6 0 0 ≡ part_key 100 ProRata Buy v 0 (at 0) → ⊥
    go shown s e = omega (arith, e)
    go hidden s e = omega arith

-- the parts of the book
of_book_lem : Book book 100 ProRata (taker 0 Buy) parts
unfolding book order book_of sound orders_of encode decode numbers_of order_of numbers_sound new_tells
of_book_lem = record { is_sound = refl; has_lot = omega arith; ready = record { each = stands; ascend = ascending }; few = omega arith }

no_lot : Book book 0 ProRata (taker 0 Buy) parts → ⊥
no_lot h = omega (arith, h.has_lot)

-- columns beside two parts, and columns that are longer or too short
columns : Columns (first ∷ second ∷ []) (0 ∷ 0 ∷ []) (0 ∷ 0 ∷ []) (0 ∷ 0 ∷ [])
columns = record { for_sizes = refl; for_minimums = refl; for_gets = refl }

long : Lent (first ∷ []) (0 ∷ 0 ∷ []) (0 ∷ []) (0 ∷ 0 ∷ 0 ∷ [])
long = record {
  sizes_long = λ from end e. omega (arith, e.within);
  minimums_long = λ from end e. omega (arith, e.within);
  gets_long = λ from end e. omega (arith, e.within);
}

-- two groups, of two parts and of one, need no more than two entries
for_two : Holds parts (0 ∷ 0 ∷ [])
for_two zero end e = last (dec_le end 2)
  where
    last : Dec (end ≤ 2) → end - 0 ≤ 2
    last (yes l) = omega arith
    last (no l) = omega (arith, e.same 2 (omega arith) (omega arith))
for_two (suc from) end e = omega (arith, e.within)

whole_one : Ends (first ∷ []) 0 1
whole_one = record { some = omega arith; within = omega arith; same = same; parted = λ i j a b c. absurd (omega arith) }
  where
    same : (j : ℕ) → 0 ≤ j → j < 1 → group_at (first ∷ []) j ≡ group_at (first ∷ []) 0
    same zero a b = refl
    same (suc j) a b = absurd (omega arith)

short : (Lent (first ∷ []) [] (0 ∷ []) (0 ∷ []) → ⊥) × (Lent (first ∷ []) (0 ∷ []) [] (0 ∷ []) → ⊥) × (Lent (first ∷ []) (0 ∷ []) (0 ∷ []) [] → ⊥)
short = (λ h. omega (arith, h.sizes_long 0 1 whole_one), λ h. omega (arith, h.minimums_long 0 1 whole_one), λ h. omega (arith, h.gets_long 0 1 whole_one))

-- 499 shares are shared by the two of the first group, which has 500; no shares aren't, nor 500, nor is one share by parts of two groups
shared : Shared (first ∷ second ∷ []) 499
shared = record { first = first; others = second ∷ []; are = refl; same = (refl, tt); some = omega arith; more = omega arith }

not_shared : (Shared (first ∷ second ∷ []) 0 → ⊥) × (Shared (first ∷ second ∷ []) 500 → ⊥)
not_shared = (λ h. omega (arith, h.some), λ h. omega (arith, h.more))

two_groups_shared : Shared (first ∷ third ∷ []) 1 → ⊥
two_groups_shared h =
    let e = subst (λ ks. Every (λ k. group_in k ≡ group_in h.first) ks) (sym (ap (drop 1) h.are)) h.same in
    let f : first ≡ h.first = ap (λ ks. get_or ks 0 0) h.are in
    omega (arith, e.0, ap group_in f)

abbrev part : Bool → Part
part b = record { number = 1; size = 300; minimum = 0; setter = b }

-- the first of two setters, and none
first_setter : FirstSetter (part false ∷ part true ∷ part true ∷ []) 1 × FirstSetter (part false ∷ part false ∷ []) 2 × FirstSetter [] 0
first_setter = ((refl, refl), (refl, (refl, refl)), refl)

other_setter : (FirstSetter (part false ∷ part true ∷ []) 0 → ⊥) × (FirstSetter (part true ∷ part true ∷ []) 1 → ⊥) × (FirstSetter [] 1 → ⊥)
other_setter = (λ h. false≢true h, λ h. true≢false h.0, λ h. omega (arith, h))

-- the minimums in turn, the place of the setter where there is one, and nothing by lots alone
needed : Needed book parts (InTurn Time) (0 ∷ 0 ∷ 50 ∷ []) 9 × Needed book parts Lots [] 9 × Needed book parts Setter [] 1
unfolding book order book_of encode decode numbers_of order_of
needed = (refl, tt, (refl, refl))

other_minimum : Needed book (third ∷ []) (InTurn Time) (51 ∷ []) 9 → ⊥
unfolding book order book_of encode decode numbers_of order_of
other_minimum h = let e : ◌≡◌ {A = ℕ} 51 50 = ap (λ ms. get_or ms 0 0) h in omega arith

other_place : Needed book parts Setter [] 0 → ⊥
unfolding book order book_of encode decode numbers_of order_of
other_place h = false≢true h

-- the way of 600 shares, kept
walked : Walked book parts 100 ProRata (kept 600 0 (0 ∷ 0 ∷ 0 ∷ []) (0 ∷ 0 ∷ 0 ∷ []) (0 ∷ 0 ∷ 0 ∷ []))
    (kept 0 3 (first ∷ second ∷ key_of 100100 5 2 100 ∷ []) (300 ∷ 200 ∷ 0 ∷ []) (0 ∷ 0 ∷ 100 ∷ []))
walked = record {
  gets = 300 ∷ 200 ∷ 100 ∷ [];
  walks = two_groups;
  credited = record { left = refl; count = refl; fills = refl; executions = λ at. refl; allotment = allotment; room = refl; records = same };
}
  where
    none : Visibility → List ℕ
    none v = seen v (0 ∷ 0 ∷ 0 ∷ []) (0 ∷ 0 ∷ 0 ∷ [])

    then : Visibility → List ℕ
    then v = seen v (300 ∷ 200 ∷ 0 ∷ []) (0 ∷ 0 ∷ 100 ∷ [])

    same : (v : Visibility) → length (then v) ≡ length (none v)
    same shown = refl
    same hidden = refl

    allotment : (v : Visibility) (i : ℕ) → get_or (then v) i 0 ≡ get_or (none v) i 0 + got_at ProRata v i parts (300 ∷ 200 ∷ 100 ∷ [])
    allotment shown zero = refl
    allotment shown (suc zero) = refl
    allotment shown (suc (suc zero)) = refl
    allotment shown (suc (suc (suc i))) = omega (arith, nobody shown i 300 200 100)
    allotment hidden zero = refl
    allotment hidden (suc zero) = refl
    allotment hidden (suc (suc zero)) = refl
    allotment hidden (suc (suc (suc i))) = omega (arith, nobody hidden i 300 200 100)
