-- Keys of one group: the parts that they stand for are among those of the definition's group.
use Prim.Native.Nat.{ℕ, zero, suc, ◌+◌, ◌-◌, ◌*◌, ◌≤◌, ◌<◌}
use mathlib.Core.Path.{◌≡◌, refl, sym, ap, ap₂, ◌∙◌}
use mathlib.Core.Bool.{true}
use mathlib.Core.List.Memᴰ
use mathlib.Core.List.{List, [], ◌∷◌, map, Memᴰ, map-map}
use native.Mathlib.Omega.{arith}
use native.Mathlib.Nat.{zero-add}
use native.Mathlib.Decide.{dec_lt}
use lib.Dec.{ltb}
use lib.ListN.{length}
use Rattle.units.specs.Lists.{total}
use Rattle.units.proofs.Totals.{total_map}
use Rattle.units.proofs.Members.{Every, every_member, member_every, every_weaken, every_both}
use Rattle.units.proofs.Tests.{and_true}
use Rattle.sharing.specs.Rank.{Part, part_size, Rising}
use Rattle.sharing.specs.Setter.{OneSetter}
use Rattle.sharing.proofs.Filled.{Filled}
use Rattle.sharing.proofs.Methods.{by_filled}
use Rattle.orders.specs.declared.order.Order.{Order}
use Rattle.orders.specs.declared.order.Taker.{Taker}
use Rattle.orders.specs.declared.order.Kind.{Kind}
use Rattle.orders.specs.declared.order.Kind.TheVariants.{Displayed, NonDisplayed, MinimumQuantity, Reserve}
use Rattle.orders.specs.Order.{Visibility, shown, hidden, shares_of, interest_by, interest_of, is_minimum_quantity, minimum_of, price_of, size_of}
use Rattle.record.proofs.Orders.{OrderSound, OrderFacts, order_facts}
use Rattle.book.specs.Sound.{rising}
use Rattle.book.proofs.Soundness.{OrdersSound}
use Rattle.matching.specs.declared.Algorithm.{Algorithm}
use Rattle.matching.specs.declared.Paragraph.{Paragraph}
use Rattle.matching.specs.Paragraph.{group_of, part_of, method_of}
use Rattle.matching.proofs.Parts.{stands, part_in_lem}
use Rattle.matching.proofs.Groups.{one_setter, has_no_minimum, lots_no_minimum, no_minimum}
use Rattle.matching.proofs.Entries.{orders_above}
use Rattle.parts.specs.Key.{group_in, paragraph_in, place_in, shares_in}
use Rattle.parts.specs.Parts.{rank_on, paragraph_for, part_key}
use Rattle.parts.specs.Visible.{visible_by, visibility_in}
use Rattle.parts.proofs.Paragraphs.{for_numbered}
use Rattle.allocation.specs.Walk.{paragraph_of, part_in, shared_by}
use Rattle.allocation.specs.Ready.{Stands, Ready, Ascending}
use Rattle.allocation.proofs.Whole.{filled_whole}
use Rattle.allocation.proofs.Cells.{Beside, part_group, part_shares, part_number, part_visible, part_inside, part_stands, rank_same}

-- the order at a place of the book is one of its orders, and sound
beside_member : (at : ℕ → Order) (p : ℕ) (os : List Order) → Beside at p os → (k : ℕ) → k < length os → Memᴰ (at (p + k)) os
beside_member at p [] b k h = absurd (omega arith)
beside_member at p (o ∷ os) b zero h = let e : p + 0 ≡ p = omega arith in rw e (Memᴰ.head b.0)
beside_member at p (o ∷ os) b (suc k) h = let e : p + suc k ≡ suc p + k = omega arith in rw e (Memᴰ.tail (beside_member at (suc p) os b.1 k (omega arith)))

-- numbers rise with the places
beside_rise : (at : ℕ → Order) (p m : ℕ) (os : List Order) → Beside at p os → rising m os ≡ true → (j k : ℕ) → j < k → k < length os
    → (at (p + j)).number < (at (p + k)).number
beside_rise at p m [] b r j k h l = absurd (omega arith)
beside_rise at p m (o ∷ os) b r j zero h l = absurd (omega arith)
beside_rise at p m (o ∷ os) b r zero (suc k) h l =
    let e : p + suc k ≡ suc p + k = omega arith in
    let f : p + 0 ≡ p = omega arith in
    let a = and_true (ltb m o.number) (rising o.number os) r in
    rw (e, f, b.0)
    (every_member (λ x. o.number < x.number) os (orders_above o.number os a.1) (at (suc p + k)) (beside_member at (suc p) os b.1 k (omega arith)))
beside_rise at p m (o ∷ os) b r (suc j) (suc k) h l =
    let e : p + suc k ≡ suc p + k = omega arith in
    let f : p + suc j ≡ suc p + j = omega arith in
    let a = and_true (ltb m o.number) (rising o.number os) r in
    rw (e, f) (beside_rise at (suc p) o.number os b.1 a.1 j k (omega arith) (omega arith))

module _ (lot : ℕ) (alg : Algorithm) (t : Taker) (at : ℕ → Order) (os : List Order) (s : OrdersSound os) (few : length os ≤ 256) (b : Beside at 0 os) where
  abbrev Key : ℕ → Type 0
  Key = Stands at (length os) lot alg t

  abbrev order_of : ℕ → Order
  order_of k = at (place_in k)

  module _ (k : ℕ) (w : Key k) where
    low : place_in k < 512
    low = let h = w.within in omega arith

    pub key_member : Memᴰ (order_of k) os
    key_member = rw zero-add at (beside_member at 0 os b (place_in k) w.within)

    pub key_facts : OrderFacts (order_of k)
    key_facts = order_facts (order_of k) (every_member OrderSound os s.each (order_of k) key_member)

    abbrev v : Visibility
    v = w.visibility

    abbrev shares : ℕ
    shares = shares_of v (interest_of (order_of k))

    -- a part has all the shares of its order that are of its visibility
    pub key_size : shares_in k ≡ shares
    key_size = ap shares_in w.is ∙ part_shares lot alg t.side v (place_in k) low (order_of k) key_facts

    -- its group: the price and the paragraph
    group_is : group_in k ≡ 8 * rank_on t.side (price_of (order_of k)) + paragraph_for lot alg v (is_minimum_quantity (order_of k).kind) shares
    group_is = ap group_in w.is ∙ part_group lot alg t.side v (place_in k) low (order_of k) key_facts

    -- its paragraph is that of its shares
    pub key_paragraph : paragraph_in (group_in k) ≡ paragraph_for lot alg v (is_minimum_quantity (order_of k).kind) shares
    key_paragraph = ap (λ n. paragraph_in (group_in n)) w.is ∙ part_number lot alg t.side v (place_in k) low (order_of k) key_facts

    -- its visibility can be read from it
    key_visible : visibility_in alg k ≡ v
    key_visible = ap (visibility_in alg) w.is ∙ part_visible lot alg t.side v (place_in k) low (order_of k) key_facts

    pub key_stands : stands t (price_of (order_of k)) (group_of lot alg (paragraph_of (group_in k))) (order_of k) ≡ true
    key_stands =
        ap (λ n. stands t (price_of (order_of k)) (group_of lot alg (paragraph_of (group_in n))) (order_of k)) w.is
        ∙ part_stands lot alg t v (place_in k) low (order_of k) key_facts w.opposite w.some

    -- its group is of its visibility
    own_group : v ≡ (group_of lot alg (paragraph_of (group_in k))).visibility
    own_group =
        (part_inside lot alg t.side v (place_in k) low (order_of k) key_facts w.some).0
        ∙ ap (λ n. (group_of lot alg (paragraph_of (group_in n))).visibility) (sym w.is)

    -- it is what of the order stands in the definition's group
    part_is : part_of t (price_of (order_of k)) (group_of lot alg (paragraph_of (group_in k))) (order_of k) ≡ part_in at k
    part_is =
        part_in_lem t (price_of (order_of k)) (group_of lot alg (paragraph_of (group_in k))) (order_of k) key_stands
        ∙ rw (key_size ∙ ap (λ x. shares_of x (interest_of (order_of k))) own_group)

    -- its minimum is within it
    key_minimum : minimum_of (order_of k).kind ≤ shares
    key_minimum = go (order_of k).kind v key_facts.minimum_most w.some
      where
        go : (kind : Kind) (x : Visibility) → minimum_of kind ≤ size_of (order_of k) → 0 < shares_of x (interest_by kind (size_of (order_of k)))
            → minimum_of kind ≤ shares_of x (interest_by kind (size_of (order_of k)))
        go Displayed x m s = omega arith
        go NonDisplayed x m s = omega arith
        go (MinimumQuantity n) shown m s = absurd (omega arith)
        go (MinimumQuantity n) hidden m s = m
        go (Reserve h r) x m s = omega arith

  -- keys of one group have one price
  same_price : (k q : ℕ) → Key k → Key q → group_in k ≡ group_in q → price_of (order_of k) ≡ price_of (order_of q)
  same_price k q w v e =
      let x = (for_numbered lot alg w.visibility (is_minimum_quantity (order_of k).kind) (shares k w)).most in
      let y = (for_numbered lot alg v.visibility (is_minimum_quantity (order_of q).kind) (shares q v)).most in
      rank_same t.side (price_of (order_of k)) (price_of (order_of q)) (key_facts k w).price_most (key_facts q v).price_most
      (omega (arith, group_is k w, group_is q v))

  -- of two the lower is of an earlier record
  place_rise : (k q : ℕ) → Key k → Key q → group_in k ≡ group_in q → k < q → place_in k < place_in q
  place_rise k q w v e h = go (dec_lt (place_in k) (place_in q))
    where
      go : Dec (place_in k < place_in q) → place_in k < place_in q
      go (yes l) = l
      go (no l) =
          let p : place_in k ≡ place_in q = omega arith in
          let u : w.visibility ≡ v.visibility = sym (key_visible k w) ∙ ap (λ g. visible_by alg (paragraph_in g)) e ∙ key_visible q v in
          let same : k ≡ q = w.is ∙ ap₂ (λ x n. part_key lot alg t.side x n (at n)) u p ∙ sym v.is in
          absurd (omega arith)

  -- and so has the lower number
  number_rise : (k q : ℕ) → Key k → Key q → group_in k ≡ group_in q → k < q → (order_of k).number < (order_of q).number
  number_rise k q w v e h =
      rw (zero-add (place_in k), zero-add (place_in q)) at (beside_rise at 0 0 os b s.rise (place_in k) (place_in q) (place_rise k q w v e h) v.within)

  -- Some keys of one group.
  module _ (first : ℕ) (keys : List ℕ) (r : Ready at (length os) lot alg t (first ∷ keys)) (e : Every (λ k. group_in k ≡ group_in first) keys) where
    abbrev all : List ℕ
    all = first ∷ keys

    abbrev price : ℕ
    price = price_of (order_of first)

    abbrev g : Paragraph
    g = paragraph_of (group_in first)

    abbrev parts : List Part
    parts = map (part_in at) all

    -- the definition's parts
    abbrev ps : List Part
    ps = map (part_of t price (group_of lot alg g)) os

    -- each is one of them
    among : Every (λ k. Memᴰ (part_in at k) ps) all
    among =
        every_both {P = Key} {Q = λ k. group_in k ≡ group_in first} (λ k w h.
        let p = same_price k first w r.each.0 h in
        let q = ap (λ (n : ℕ). part_of t price (group_of lot alg (paragraph_of n)) (order_of k)) (sym h)
        ∙ ap (λ n. part_of t n (group_of lot alg (paragraph_of (group_in k))) (order_of k)) (sym p) ∙ part_is k w in
        rw (sym q) (Memᴰ.map (part_of t price (group_of lot alg g)) (key_member k w)))
        all r.each (refl, e)

    member : (p : Part) → Memᴰ p parts → Memᴰ p ps
    member p m = let x = Memᴰ.of_map (part_in at) all m in rw (sym x.2) (every_member (λ k. Memᴰ (part_in at k) ps) all among x.0 x.1)

    -- they are no more than the orders
    pub stretch_few : length all ≤ length os
    stretch_few = omega (arith, go 0 all r.each (refl, e) r.ascend (every_weaken (λ k w. omega arith) all r.each))
      where
        go : (m : ℕ) (ks : List ℕ) → Every Key ks → Every (λ k. group_in k ≡ group_in first) ks → Ascending ks → Every (λ k. m ≤ place_in k) ks
            → length ks ≤ length os - m
        go m [] w h a n = omega arith
        go m (k ∷ ks) w h a n =
            let later : Every (λ q. suc (place_in k) ≤ place_in q) ks =
            every_both {P = λ q. Key q × (group_in q ≡ group_in first)} {Q = λ q. k < q} (λ q x l. place_rise k q w.0 x.0 (h.0 ∙ sym x.1) l) ks
            (every_both (λ q x y. (x, y)) ks w.1 h.1) a.0 in
            omega (arith, go (suc (place_in k)) ks w.1 h.1 a.1 later, n.0, w.0.within)

    -- their numbers rise
    pub stretch_rising : Rising 0 parts
    stretch_rising = go 0 all r.each (refl, e) r.ascend (every_weaken (λ k w. omega (arith, (key_facts k w).number_least)) all r.each)
      where
        go : (m : ℕ) (ks : List ℕ) → Every Key ks → Every (λ k. group_in k ≡ group_in first) ks → Ascending ks → Every (λ k. m < (order_of k).number) ks
            → Rising m (map (part_in at) ks)
        go m [] w h a n = tt
        go m (k ∷ ks) w h a n =
            let later : Every (λ q. (order_of k).number < (order_of q).number) ks =
            every_both {P = λ q. Key q × (group_in q ≡ group_in first)} {Q = λ q. k < q} (λ q x l. number_rise k q w.0 x.0 (h.0 ∙ sym x.1) l) ks
            (every_both (λ q x y. (x, y)) ks w.1 h.1) a.0 in
            (n.0, go (order_of k).number ks w.1 h.1 a.1 later)

    -- at most one is the setter
    pub stretch_setter : OneSetter parts
    stretch_setter p q m n = one_setter t price (group_of lot alg g) os s.setters p q (member p m) (member q n)

    -- none has a minimum where none of the definition's has
    pub stretch_free : has_no_minimum alg g ≡ true → Every (λ p. p.minimum ≡ 0) parts
    stretch_free x =
        member_every (λ p. p.minimum ≡ 0) parts
        (λ p m. every_member (λ p. p.minimum ≡ 0) ps (no_minimum lot alg g x t price os) p (member p m))

    -- each minimum is within the size
    pub stretch_least : Every (λ p. p.minimum ≤ p.size) parts
    stretch_least = go all r.each
      where
        go : (ks : List ℕ) → Every Key ks → Every (λ p. p.minimum ≤ p.size) (map (part_in at) ks)
        go [] w = tt
        go (k ∷ ks) w = (omega (arith, key_size k w.0, key_minimum k w.0), go ks w.1)

    module _ (has_lot : 0 < lot) (left : ℕ) where
      -- what they get fills them as far as it goes
      pub stretch_filled : Filled left parts (shared_by at lot alg (group_in first) all left)
      unfolding shared_by
      stretch_filled = by_filled 0 parts stretch_rising (method_of alg g) (λ x. stretch_free (lots_no_minimum alg g x)) lot has_lot stretch_setter left

      -- where they fit into the shares left, each is filled
      pub stretch_whole : total shares_in all ≤ left → shared_by at lot alg (group_in first) all left ≡ map shares_in all
      stretch_whole h =
          filled_whole left parts (shared_by at lot alg (group_in first) all left) stretch_filled stretch_least (omega (arith, total_map part_size (part_in at) all))
          ∙ map-map part_size (part_in at) all
