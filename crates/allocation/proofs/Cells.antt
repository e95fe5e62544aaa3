-- The group of a paragraph at a price: its number, and which orders' keys have it.
use Prim.Native.Nat.{ℕ, suc, ◌+◌, ◌*◌, ◌≤◌, ◌<◌}
use mathlib.Core.Path.{◌≡◌, refl, sym, ap, ◌∙◌}
use mathlib.Core.Bool.{Bool, true, false, ◌&&◌}
use mathlib.Core.List.{List, [], ◌∷◌, map}
use native.Mathlib.Omega.{arith}
use lib.Dec.{leb, ltb, eqb}
use lib.ListN.{length}
use borrow.Author.Tests.{eqb-true, eq-eqb, ltb-true, leb-false}
use Rattle.units.specs.Lists.{filter, cons_if}
use Rattle.units.proofs.Members.{Every}
use Rattle.units.proofs.Tests.{and_true, true_and, same_test}
use Rattle.orders.specs.declared.order.Side.{Side}
use Rattle.orders.specs.declared.order.Side.TheVariants.{Buy, Sell}
use Rattle.orders.specs.declared.order.Order.{Order}
use Rattle.orders.specs.declared.order.Taker.{Taker}
use Rattle.orders.specs.declared.order.Kind.{Kind}
use Rattle.orders.specs.declared.order.Kind.TheVariants.{Displayed, NonDisplayed, MinimumQuantity, Reserve}
use Rattle.orders.specs.Order.{Visibility, shown, hidden, shares_of, interest_by, interest_of, is_minimum_quantity, minimum_of, hidden_of, price_of, size_of}
use Rattle.orders.specs.Trading.{is_opposite_of, within_limit, is_tradable}
use Rattle.record.proofs.Orders.{OrderSound, OrderFacts, order_facts}
use Rattle.matching.specs.declared.Algorithm.{Algorithm}
use Rattle.matching.specs.declared.Paragraph.{Paragraph}
use Rattle.matching.specs.declared.incoming.Incoming.{Incoming}
use Rattle.matching.specs.Paragraph.{Group, group_of, in_group, part_of, paragraph_number}
use Rattle.matching.specs.Numbered.{paragraph_numbered}
use Rattle.matching.specs.Reserve.{same_visibility}
use Rattle.matching.proofs.Places.{same_visibility_lem, stands_in, numbered_back, number_numbered, number_back}
use Rattle.matching.proofs.Parts.{stands, part_in_lem, part_out}
use Rattle.parts.specs.Key.{group_in, paragraph_in, place_in, shares_in}
use Rattle.parts.specs.Parts.{rank_on, paragraph_for, part_key, may_meet, offers, keys_of, keys_from}
use Rattle.parts.specs.Visible.{visible_by, visibility_in}
use Rattle.parts.proofs.Keys.{key_group, key_place, key_shares, group_paragraph}
use Rattle.parts.proofs.Paragraphs.{in_paragraph, for_numbered}
use Rattle.parts.proofs.Seeing.{visible_back}
use Rattle.allocation.specs.Walk.{paragraph_of, part_in}
use Rattle.allocation.proofs.LeftOut.{Idle}
use Rattle.allocation.proofs.Rows.{Row}

-- the key is of a group
abbrev pub of_group : ℕ → ℕ → Bool
of_group group key = eqb (group_in key) group

-- the number of the group of a paragraph at a price
abbrev pub cell : Side → ℕ → Paragraph → ℕ
cell side price g = 8 * rank_on side price + paragraph_number g

-- a paragraph's number is below 8
pub number_below : (g : Paragraph) → paragraph_number g < 8
number_below g = let l = (number_numbered g).most in omega arith

-- the paragraph of that group, by its number
pub cell_number : (side : Side) (price : ℕ) (g : Paragraph) → paragraph_in (cell side price g) ≡ paragraph_number g
cell_number side price g = group_paragraph (rank_on side price) (paragraph_number g) (number_below g)

pub cell_paragraph : (side : Side) (price : ℕ) (g : Paragraph) → paragraph_of (cell side price g) ≡ g
cell_paragraph side price g = ap paragraph_numbered (cell_number side price g) ∙ numbered_back g

-- prices of one rank are one price
pub rank_same : (side : Side) (p q : ℕ) → p ≤ 2000000000 → q ≤ 2000000000 → rank_on side p ≡ rank_on side q → p ≡ q
rank_same Buy p q h k e = e
rank_same Sell p q h k e = omega arith

-- what stands in front of lists that a test leaves the same
filter_cons : (q : ℕ → Bool) (b : Bool) (x : ℕ) (xs ys : List ℕ) → filter q xs ≡ filter q ys → filter q (cons_if b x xs) ≡ filter q (cons_if b x ys)
filter_cons q true x xs ys e = ap (cons_if (q x) x) e
filter_cons q false x xs ys e = e

-- orders stand at their places, the first at p
abbrev pub Beside : (ℕ → Order) → ℕ → List Order → Type 0
Beside at p [] = Unit {0}
Beside at p (o ∷ os) = (at p ≡ o) × Beside at (suc p) os

-- a sound order has fewer than 1,048,576 shares of each visibility
interest_low : (o : Order) → OrderFacts o → (v : Visibility) → shares_of v (interest_of o) < 1048576
interest_low o f v = go o.kind v f.hidden_most
  where
    go : (k : Kind) (v : Visibility) → hidden_of k ≤ 999999 → shares_of v (interest_by k (size_of o)) < 1048576
    go Displayed shown h = let m = f.size_most in omega arith
    go Displayed hidden h = omega arith
    go NonDisplayed shown h = omega arith
    go NonDisplayed hidden h = let m = f.size_most in omega arith
    go (MinimumQuantity n) shown h = omega arith
    go (MinimumQuantity n) hidden h = let m = f.size_most in omega arith
    go (Reserve b r) shown h = let m = f.size_most in omega arith
    go (Reserve b r) hidden h = omega arith

-- shares of the group's visibility stand in it, and no others
standing_seen : (g : Group) (o : Order) (v : Visibility)
    → stands_in v (is_minimum_quantity o.kind) (shares_of v (interest_of o)) g ≡ (same_visibility v g.visibility && in_group g o)
standing_seen g o v = go v g.visibility
  where
    m : Bool
    m = is_minimum_quantity o.kind

    go : (v w : Visibility)
        → (same_visibility v w && (ltb 0 (shares_of v (interest_of o)) && g.holds m (shares_of v (interest_of o))))
        ≡ (same_visibility v w && (ltb 0 (shares_of w (interest_of o)) && g.holds m (shares_of w (interest_of o))))
    go shown shown = refl
    go shown hidden = refl
    go hidden shown = refl
    go hidden hidden = refl

-- What the key of a part of a sound order holds.
module _ (lot : ℕ) (alg : Algorithm) (side : Side) (v : Visibility) (p : ℕ) (h : p < 512) (o : Order) (f : OrderFacts o) where
  abbrev shares : ℕ
  shares = shares_of v (interest_of o)

  abbrev paragraph : ℕ
  paragraph = paragraph_for lot alg v (is_minimum_quantity o.kind) shares

  few : paragraph < 8
  few = let l = (for_numbered lot alg v (is_minimum_quantity o.kind) shares).most in omega arith

  pub part_group : group_in (part_key lot alg side v p o) ≡ 8 * rank_on side (price_of o) + paragraph
  part_group = key_group (rank_on side (price_of o)) paragraph p shares few h (interest_low o f v)

  pub part_place : place_in (part_key lot alg side v p o) ≡ p
  part_place = key_place (rank_on side (price_of o)) paragraph p shares few h (interest_low o f v)

  pub part_shares : shares_in (part_key lot alg side v p o) ≡ shares
  part_shares = key_shares (rank_on side (price_of o)) paragraph p shares few h (interest_low o f v)

  -- its paragraph, by its number
  pub part_number : paragraph_in (group_in (part_key lot alg side v p o)) ≡ paragraph
  part_number = ap paragraph_in part_group ∙ group_paragraph (rank_on side (price_of o)) paragraph few

  -- its visibility can be read from it
  pub part_visible : visibility_in alg (part_key lot alg side v p o) ≡ v
  part_visible = ap (visible_by alg) part_number ∙ visible_back lot alg v (is_minimum_quantity o.kind) shares

  -- it is of a group where the order has the price and its shares of the group's visibility, which is the part's, stand in it
  in_cell : 0 < shares → (price : ℕ) → price ≤ 2000000000 → (g : Paragraph)
      → eqb (group_in (part_key lot alg side v p o)) (cell side price g)
      ≡ (eqb (price_of o) price && (same_visibility v (group_of lot alg g).visibility && in_group (group_of lot alg g) o))
  in_cell some price k g =
      rw (part_group, sym (standing_seen (group_of lot alg g) o v), in_paragraph lot shares some (is_minimum_quantity o.kind) alg v g)
      (same_test (eqb (8 * rank_on side (price_of o) + paragraph) (cell side price g)) (eqb (price_of o) price && eqb paragraph (paragraph_number g)) there back)
    where
      there : eqb (8 * rank_on side (price_of o) + paragraph) (cell side price g) ≡ true → (eqb (price_of o) price && eqb paragraph (paragraph_number g)) ≡ true
      there e =
          let q = eqb-true (8 * rank_on side (price_of o) + paragraph) (cell side price g) e in
          let x : rank_on side (price_of o) ≡ rank_on side price = omega (arith, few, number_below g) in
          let y : paragraph ≡ paragraph_number g = omega (arith, few, number_below g) in
          true_and (eq-eqb (price_of o) price (rank_same side (price_of o) price f.price_most k x)) (eq-eqb paragraph (paragraph_number g) y)

      back : (eqb (price_of o) price && eqb paragraph (paragraph_number g)) ≡ true → eqb (8 * rank_on side (price_of o) + paragraph) (cell side price g) ≡ true
      back e =
          let a = and_true (eqb (price_of o) price) (eqb paragraph (paragraph_number g)) e in
          eq-eqb (8 * rank_on side (price_of o) + paragraph) (cell side price g)
          (rw (eqb-true (price_of o) price a.0, eqb-true paragraph (paragraph_number g) a.1))

  -- the group that it is of is of its visibility, and the order is in it
  pub part_inside : 0 < shares → let g = group_of lot alg (paragraph_of (group_in (part_key lot alg side v p o))) in (v ≡ g.visibility) × (in_group g o ≡ true)
  part_inside some =
      let g = paragraph_of (group_in (part_key lot alg side v p o)) in
      let n : paragraph ≡ paragraph_number g =
      sym (ap (λ j. paragraph_number (paragraph_numbered j)) part_number ∙ number_back paragraph (for_numbered lot alg v (is_minimum_quantity o.kind) shares)) in
      let e = sym (standing_seen (group_of lot alg g) o v) ∙ in_paragraph lot shares some (is_minimum_quantity o.kind) alg v g ∙ eq-eqb paragraph (paragraph_number g) n in
      let a = and_true (same_visibility v (group_of lot alg g).visibility) (in_group (group_of lot alg g) o) e in
      (same_visibility_lem v (group_of lot alg g).visibility a.0, a.1)

-- an order on the other side stands in the group that the key of its part is of
pub part_stands : (lot : ℕ) (alg : Algorithm) (t : Taker) (v : Visibility) (p : ℕ) (h : p < 512) (o : Order) (f : OrderFacts o) → is_opposite_of t o ≡ true
    → 0 < shares_of v (interest_of o) → stands t (price_of o) (group_of lot alg (paragraph_of (group_in (part_key lot alg t.side v p o)))) o ≡ true
part_stands lot alg t v p h o f e some =
    true_and (true_and e (eq-eqb (price_of o) (price_of o) refl)) (part_inside lot alg t.side v p h o f some).1

-- The group of a paragraph at a price within the limit.
module _ (lot : ℕ) (alg : Algorithm) (i : Incoming) (at : ℕ → Order) (price : ℕ) (h : price ≤ 2000000000)
    (w : within_limit i.taker.side i.taker.limit.0 price ≡ true) (g : Paragraph) where
  abbrev t : Taker
  t = i.taker

  abbrev size : ℕ
  size = i.size.0

  abbrev group : Group
  group = group_of lot alg g

  abbrev number : ℕ
  number = cell t.side price g

  -- the minimum isn't above all the shares that come in
  abbrev meets : Order → Bool
  meets o = leb (minimum_of o.kind) size

  -- The part of the group's visibility, where the order has such shares.
  module _ (p : ℕ) (l : p < 512) (o : Order) (f : OrderFacts o) where
    abbrev own : Visibility
    own = group.visibility

    abbrev key : Visibility → ℕ
    key v = part_key lot alg t.side v p o

    same_own : (v : Visibility) → same_visibility v v ≡ true
    same_own shown = refl
    same_own hidden = refl

    -- a part that is needed and is of the group: the order stands in it
    chosen : offers i own o ≡ true → of_group number (key own) ≡ true → (stands t price group o ≡ true) × (price_of o ≡ price)
    chosen a b =
        let n = and_true (may_meet i o) (ltb 0 (shares_of own (interest_of o))) a in
        let c = and_true (is_tradable t o) (meets o) n.0 in
        let d = and_true (is_opposite_of t o) (within_limit t.side t.limit.0 (price_of o)) c.0 in
        let w = in_cell lot alg t.side own p l o f (ltb-true 0 (shares_of own (interest_of o)) n.1) price h g in
        let e = and_true (eqb (price_of o) price) (in_group group o) (sym (rw (same_own own) at w) ∙ b) in
        (true_and (true_and d.0 e.0) e.1, eqb-true (price_of o) price e.0)

    -- an order that stands in it has a part of it, which is needed if its minimum can be met
    standing : stands t price group o ≡ true → (of_group number (key own) ≡ true) × (offers i own o ≡ meets o)
    standing a =
        let c = and_true (is_opposite_of t o && eqb (price_of o) price) (in_group group o) a in
        let d = and_true (is_opposite_of t o) (eqb (price_of o) price) c.0 in
        let e = eqb-true (price_of o) price d.1 in
        let n = (and_true (ltb 0 (shares_of own (interest_of o))) (group.holds (is_minimum_quantity o.kind) (shares_of own (interest_of o))) c.1).0 in (
          in_cell lot alg t.side own p l o f (ltb-true 0 (shares_of own (interest_of o)) n) price h g ∙ true_and d.1 (true_and (same_own own) c.1),
          rw (d.0, e, w, n) (and_right (meets o)),
        )
      where
        and_right : (b : Bool) → (b && true) ≡ b
        and_right true = refl
        and_right false = refl

    -- what of it stands in the group is its part
    whole : stands t price group o ≡ true → at p ≡ o → part_of t price group o ≡ part_in at (key own)
    whole a e = part_in_lem t price group o a ∙ rw (part_place lot alg t.side own p l o f, e, part_shares lot alg t.side own p l o f)

    -- else it can get nothing
    idle : (offers i own o && of_group number (key own)) ≡ false → Idle size (part_of t price group o)
    idle a = go (stands t price group o) refl
      where
        go : (b : Bool) → stands t price group o ≡ b → Idle size (part_of t price group o)
        go false e = rw (part_out t price group o e) (Idle.nothing (refl, refl))
        go true e =
            let c = standing e in
            let d : meets o ≡ false = sym c.1 ∙ first (offers i own o) c.0 a in
            Idle.unmet (rw (part_in_lem t price group o e) (leb-false (minimum_of o.kind) size d))
          where
            first : (b : Bool) → of_group number (key own) ≡ true → (b && of_group number (key own)) ≡ false → b ≡ false
            first true x y = sym x ∙ y
            first false x y = refl

    -- a part of the other visibility isn't of the group
    other_out : (v : Visibility) → same_visibility v own ≡ false → (keys : List ℕ)
        → filter (of_group number) (cons_if (offers i v o) (key v) keys) ≡ filter (of_group number) keys
    other_out v d keys = go (offers i v o) refl
      where
        go : (b : Bool) → offers i v o ≡ b → filter (of_group number) (cons_if b (key v) keys) ≡ filter (of_group number) keys
        go false e = refl
        go true e =
            let n = ltb-true 0 (shares_of v (interest_of o)) (and_true (may_meet i o) (ltb 0 (shares_of v (interest_of o))) e).1 in
            let out : of_group number (key v) ≡ false = in_cell lot alg t.side v p l o f n price h g ∙ rw d (and_out (eqb (price_of o) price)) in
            rw out
          where
            and_out : (b : Bool) → (b && false) ≡ false
            and_out true = refl
            and_out false = refl

    -- so of its parts that of the group's visibility alone may be
    own_part : (keys : List ℕ) → filter (of_group number) (keys_of lot alg i p o keys) ≡ filter (of_group number) (cons_if (offers i own o) (key own) keys)
    unfolding keys_of
    own_part keys = go own refl
      where
        go : (v : Visibility) → own ≡ v
            → filter (of_group number) (cons_if (offers i shown o) (key shown) (cons_if (offers i hidden o) (key hidden) keys))
            ≡ filter (of_group number) (cons_if (offers i v o) (key v) keys)
        go shown e = filter_cons (of_group number) (offers i shown o) (key shown) (cons_if (offers i hidden o) (key hidden) keys) keys (other_out hidden (ap (same_visibility hidden) e) keys)
        go hidden e = other_out shown (ap (same_visibility shown) e) (cons_if (offers i hidden o) (key hidden) keys)

  -- beside the orders of a book stand their parts in the group, and the keys of it
  pub cell_row : (p : ℕ) (os : List Order) → Beside at p os → Every OrderSound os → p + length os ≤ 512
      → Row alg at price number size p os (map (part_of t price group) os) (filter (of_group number) (keys_from lot alg i p os))
  unfolding keys_from
  cell_row p [] b s l = Row.none p
  cell_row p (o ∷ os) b s l =
      rw (own_part p k o f later) (go (offers i (own p k o f) o) refl (of_group number ours) refl (cell_row (suc p) os b.1 s.1 (omega arith)))
    where
      k : p < 512
      k = omega arith

      f : OrderFacts o
      f = order_facts o s.0

      later : List ℕ
      later = keys_from lot alg i (suc p) os

      ours : ℕ
      ours = key p k o f group.visibility

      go : (x : Bool) → offers i group.visibility o ≡ x → (y : Bool) → of_group number ours ≡ y
          → Row alg at price number size (suc p) os (map (part_of t price group) os) (filter (of_group number) later)
          → Row alg at price number size p (o ∷ os) (part_of t price group o ∷ map (part_of t price group) os) (filter (of_group number) (cons_if x ours later))
      go true a true c r =
          let d = chosen p k o f a c in
          rw c
          (Row.keep b.0 d.1 (part_place lot alg t.side group.visibility p k o f) (eqb-true (group_in ours) number c) (whole p k o f d.0 b.0) r)
      go true a false c r = rw c (Row.drop (idle p k o f (rw (a, c))) r)
      go false a y c r = Row.drop (idle p k o f (rw a)) r
