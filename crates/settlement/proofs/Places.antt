-- The moves are the places of the book in which another order stands than before.
use Prim.Native.Nat.{ℕ, ◌+◌, ◌<◌}
use mathlib.Core.Path.{◌≡◌, refl, sym, ap, ◌∙◌}
use mathlib.Core.Bool.{Bool, true, false, cond}
use mathlib.Core.List.{List, [], ◌∷◌, ◌++◌, append_assoc}
use native.Mathlib.Omega.{arith}
use lib.ListN.{length}
use lib.Dec.{ltb}
use borrow.Author.Tests.{ltb-true, eq-eqb, ne_eqb}
use Rattle.units.specs.Lists.{filter, cons_if, zip_with}
use Rattle.units.specs.Lots.{round_lot}
use Rattle.units.proofs.Tests.{and_true}
use Rattle.orders.specs.declared.order.Order.{Order}
use Rattle.orders.specs.Order.{Interest, settled, is_resting}
use Rattle.record.proofs.Settling.{settled_number}
use Rattle.book.specs.Sound.{sound, rising, orders_of, book_of, capacity_of}
use Rattle.book.proofs.Soundness.{orders_fit, orders_sound}
use Rattle.book.proofs.Books.{orders_book}
use Rattle.book.proofs.Settlement.{settle_sound, settle_fewer}
use Rattle.matching.specs.declared.TakeRequest.{TakeRequest}
use Rattle.matching.specs.Paragraph.{algorithm_of}
use Rattle.matching.specs.Take.{allocations, losses_of, outcome}
use Rattle.matching.specs.TakeCall.{incoming_of, outcome_of, take_call}
use Rattle.matching.proofs.Taking.{sound_orders, take_orders}
use Rattle.settlement.specs.Moves.{behind_first_gap, moves_of, displaced}

-- numbers that rise are above the one that they rise from
above : (m : ℕ) (ds : List Order) (o : Order) (os : List Order) → rising m (ds ++ (o ∷ os)) ≡ true → m < o.number
above m [] o os e = ltb-true m o.number (and_true (ltb m o.number) (rising o.number os) e).0
above m (d ∷ ds) o os e =
    let a = and_true (ltb m d.number) (rising d.number (ds ++ (o ∷ os))) e in
    omega (arith, ltb-true m d.number a.0, above d.number ds o os a.1)

-- of orders that lose shares, those that still rest
abbrev rest : List Interest → List Order → List Order
rest ls os = filter is_resting (zip_with settled ls os)

-- In place d stands an order with a lower number than the one that comes there: it is another.
module _ (d : Order) (l : Interest) (o : Order) (h : d.number < o.number) (before after : List Order) where
  one_more : displaced (d ∷ before) (settled l o ∷ after) ≡ 1 + displaced before after
  one_more = rw (settled_number l o, ne_eqb d.number o.number (λ e. omega arith))

-- Before orders that lose shares stand others, with lower numbers: each place has another order then.
abbrev AllDisplaced : List Interest → List Order → Type 0
AllDisplaced ls os =
    (d : Order) (ds : List Order) → rising d.number (ds ++ os) ≡ true → displaced (d ∷ (ds ++ os)) (rest ls os) ≡ length (rest ls os)

-- Behind the first order that left every place has another order than before: each that still rests stands further in front, among lower
-- numbers.
all_displaced : (ls : List Interest) (os : List Order) → AllDisplaced ls os
all_displaced [] os d ds e = refl
all_displaced (l ∷ ls) [] d ds e = refl
all_displaced (l ∷ ls) (o ∷ os) d ds e = go (is_resting (settled l o)) (all_displaced ls os)
  where
    longer : AllDisplaced ls os → (c : Order) (cs : List Order) → rising c.number (cs ++ (o ∷ os)) ≡ true
        → displaced (c ∷ (cs ++ (o ∷ os))) (rest ls os) ≡ length (rest ls os)
    longer f c cs e = rw append_assoc at (f c (cs ++ (o ∷ [])) (rw append_assoc e))

    first : AllDisplaced ls os → (cs : List Order) → rising d.number (cs ++ (o ∷ os)) ≡ true → displaced (cs ++ (o ∷ os)) (rest ls os) ≡ length (rest ls os)
    first f [] e = f o [] (and_true (ltb d.number o.number) (rising o.number os) e).1
    first f (c ∷ cs) e = longer f c cs (and_true (ltb d.number c.number) (rising c.number (cs ++ (o ∷ os))) e).1

    go : (b : Bool) → AllDisplaced ls os → displaced (d ∷ (ds ++ (o ∷ os))) (cons_if b (settled l o) (rest ls os)) ≡ length (cons_if b (settled l o) (rest ls os))
    go true f = one_more d l o (above d.number ds o os e) (ds ++ (o ∷ os)) (rest ls os) ∙ omega (arith, first f ds e)
    go false f = longer f d ds e

-- before it every place has its own
moves_displaced : (m : ℕ) (ls : List Interest) (os : List Order) → rising m os ≡ true → moves_of (zip_with settled ls os) ≡ displaced os (rest ls os)
moves_displaced m [] [] e = refl
moves_displaced m [] (o ∷ os) e = refl
moves_displaced m (l ∷ ls) [] e = refl
moves_displaced m (l ∷ ls) (o ∷ os) e =
    let a = (and_true (ltb m o.number) (rising o.number os) e).1 in
    go (is_resting (settled l o)) (moves_displaced o.number ls os a) (all_displaced ls os o [] a)
  where
    go : (b : Bool) → moves_of (zip_with settled ls os) ≡ displaced os (rest ls os) → displaced (o ∷ os) (rest ls os) ≡ length (rest ls os)
        → length (filter is_resting (cond b (behind_first_gap (zip_with settled ls os)) (zip_with settled ls os)))
        ≡ displaced (o ∷ os) (cons_if b (settled l o) (rest ls os))
    go true f g = f ∙ rw (settled_number l o, eq-eqb o.number o.number refl) (omega arith)
    go false f g = sym g

-- The book of those that still rest has another order than before in as many places as records move.
pub moves_places : (s : List ℕ) (ls : List Interest) → sound s ≡ true → {b : List ℕ} → b ≡ book_of (capacity_of s) (rest ls (orders_of s))
    → moves_of (zip_with settled ls (orders_of s)) ≡ displaced (orders_of s) (orders_of b)
moves_places s ls e q =
    let os = orders_of s in
    let h = orders_sound s e in
    let r = orders_book (capacity_of s) (rest ls os) (omega (arith, settle_fewer ls os, orders_fit s)) (settle_sound ls os h) in
    moves_displaced 0 ls os h.rise ∙ ap (displaced os) (sym (ap orders_of q ∙ r))

-- Of an accepted take: as many places of the book have another order afterwards as there are survivors behind the first order that left.
pub take_places : (q : TakeRequest) (s x : List ℕ) → (take_call q s x).taken.refusal ≡ 0
    → let os = orders_of s in
    displaced os (orders_of (take_call q s x).book)
    ≡ moves_of (zip_with settled (losses_of os (allocations round_lot (algorithm_of q.algorithm) (incoming_of q) os)) os)
unfolding outcome_of outcome
take_places q s x e =
    let os = orders_of s in
    let ls = losses_of os (allocations round_lot (algorithm_of q.algorithm) (incoming_of q) os) in
    ap (displaced os) (take_orders q s x e) ∙ sym (moves_displaced 0 ls os (sound_orders q s x e).rise)
