-- Who stands in a group: at most one setter in any, and in the group of displayed round lots what counts at the price.
use Prim.Native.Nat.{ℕ, ◌≤◌, ◌<◌}
use mathlib.Core.Path.{◌≡◌, refl, sym, ap, ◌∙◌}
use mathlib.Core.Bool.{Bool, true, false, not, ◌&&◌, true≢false, false≢true}
use mathlib.Core.List.Memᴰ
use mathlib.Core.List.{List, [], ◌∷◌, map, Memᴰ}
use native.Mathlib.Omega.{arith}
use lib.Dec.{leb, ltb, eqb}
use borrow.Author.Tests.{leb-true, ltb-true, ltb-false, eqb-true, eq-eqb, not-true}
use Rattle.units.specs.Lists.{any, or_zero, total}
use Rattle.units.proofs.Tests.{and_true, pick_zero}
use Rattle.units.proofs.Members.{Every, none_member, member_any}
use Rattle.units.proofs.Totals.{total_map, total_same}
use Rattle.sharing.specs.declared.Method.{Method}
use Rattle.sharing.specs.Rank.{Part, part_size}
use Rattle.sharing.specs.Setter.{is_setter, OneSetter}
use Rattle.sharing.specs.Method.{is_by_lots}
use Rattle.orders.specs.declared.order.Side.{Side}
use Rattle.orders.specs.declared.order.Side.TheVariants.{Buy, Sell}
use Rattle.orders.specs.declared.order.Kind.{Kind}
use Rattle.orders.specs.declared.order.Kind.TheVariants.{Displayed, NonDisplayed, MinimumQuantity, Reserve}
use Rattle.orders.specs.declared.order.Order.{Order}
use Rattle.orders.specs.declared.order.Taker.{Taker}
use Rattle.orders.specs.Order.{shown, hidden, interest_by, interest_of, side_number, shares_of, is_minimum_quantity, minimum_of, price_of, size_of}
use Rattle.orders.specs.Trading.{is_opposite, of_security, is_opposite_of}
use Rattle.book.specs.Sound.{same_setter, setters_sound}
use Rattle.matching.specs.declared.Algorithm.{Algorithm}
use Rattle.matching.specs.declared.Algorithm.TheVariants.{PriceTime, ProRata, PriceSetter}
use Rattle.matching.specs.declared.Paragraph.{Paragraph}
use Rattle.matching.specs.declared.Paragraph.TheVariants.{Two, Three, Four, Five, Six}
use Rattle.matching.specs.declared.incoming.Incoming.{Incoming}
use Rattle.matching.specs.Paragraph.{paragraph_number, Group, every_order, of_lot, below_lot, without_minimum, time_group, pro_rata_group, group_of}
use Rattle.matching.specs.Paragraph.{in_group, part_of, method_of}
use Rattle.matching.specs.Fairness.{counted}
use Rattle.matching.proofs.Parts.{stands, part_in_lem, part_out, part_size_lem}

behind : (x : Order) (os : List Order) → setters_sound (x ∷ os) ≡ true → (y : Order) → Memᴰ y os → same_setter x y ≡ true → ⊥
behind x os s y i h =
    let n = not-true (any (same_setter x) os) (and_true (not (any (same_setter x) os)) (setters_sound os) s).0 in
    true≢false (sym h ∙ none_member (same_setter x) os n y i)

-- of marked orders at one side and price there is one
one_marked : (os : List Order) → setters_sound os ≡ true → (a b : Order) → Memᴰ a os → Memᴰ b os → same_setter a b ≡ true → same_setter b a ≡ true
    → a ≡ b
one_marked [] s a b x5 _ h k = elim x5 [ ]
one_marked (x ∷ os) s a b (Memᴰ.head e) (Memᴰ.head f) h k = e ∙ sym f
one_marked (x ∷ os) s a b (Memᴰ.head e) (Memᴰ.tail j) h k = absurd (behind x os s b j (ap (λ (y : Order). same_setter y b) (sym e) ∙ h))
one_marked (x ∷ os) s a b (Memᴰ.tail i) (Memᴰ.head f) h k = absurd (behind x os s a i (ap (λ (y : Order). same_setter y a) (sym f) ∙ k))
one_marked (x ∷ os) s a b (Memᴰ.tail i) (Memᴰ.tail j) h k =
    one_marked os (and_true (not (any (same_setter x) os)) (setters_sound os) s).1 a b i j h k

opposite_same : (s a b : Side) → is_opposite s a ≡ true → is_opposite s b ≡ true → a ≡ b
opposite_same Buy Buy b h k = absurd (false≢true h)
opposite_same Buy Sell Buy h k = absurd (false≢true k)
opposite_same Buy Sell Sell h k = refl
opposite_same Sell Buy Buy h k = refl
opposite_same Sell Buy Sell h k = absurd (false≢true k)
opposite_same Sell Sell b h k = absurd (false≢true h)

module _ (t : Taker) (price : ℕ) (g : Group) where
  -- an order that stands in a group is opposite, has the price, and passes the group's test
  pub stands_means : (o : Order) → stands t price g o ≡ true
      → (is_opposite_of t o ≡ true) × (price_of o ≡ price) × (in_group g o ≡ true)
  stands_means o e =
      let a = and_true (is_opposite_of t o && eqb (price_of o) price) (in_group g o) e in
      let b = and_true (is_opposite_of t o) (eqb (price_of o) price) a.0 in
      (b.0, eqb-true (price_of o) price b.1, a.1)

  -- an order has nothing in a group at another price
  pub other_price : (o : Order) → ¬ (price_of o ≡ price) → (part_of t price g o).size ≡ 0
  other_price o n = go (stands t price g o) refl
    where
      go : (b : Bool) → stands t price g o ≡ b → (part_of t price g o).size ≡ 0
      go true e = absurd (n (stands_means o e).1)
      go false e = rw (part_out t price g o e)

  -- a marked part is that of a marked order that stands in the group
  setter_stands : (o : Order) → (part_of t price g o).setter ≡ true → (stands t price g o ≡ true) × (o.setter ≡ true)
  setter_stands o h = go (stands t price g o) refl
    where
      go : (b : Bool) → stands t price g o ≡ b → (b ≡ true) × (o.setter ≡ true)
      go true e = (refl, rw (part_in_lem t price g o e) at h)
      go false e = absurd (false≢true (rw (part_out t price g o e) at h))

  same_setter_lem : (a b : Order) → (part_of t price g a).setter ≡ true → (part_of t price g b).setter ≡ true → same_setter a b ≡ true
  same_setter_lem a b h k =
      let x = setter_stands a h in
      let y = setter_stands b k in
      let u = stands_means a x.0 in
      let v = stands_means b y.0 in
      let d = and_true (of_security t.security a) (is_opposite t.side a.side) u.0 in
      let e = and_true (of_security t.security b) (is_opposite t.side b.side) v.0 in
      let k = eqb-true a.security t.security d.0 ∙ sym (eqb-true b.security t.security e.0) in
      rw (
        x.1,
        y.1,
        eq-eqb a.security b.security k,
        eq-eqb _ _ (ap side_number (opposite_same t.side a.side b.side d.1 e.1)),
        eq-eqb (price_of a) (price_of b) (u.1 ∙ sym v.1),
      )

  module _ (os : List Order) where
    -- at most one order of a group is the setter
    pub one_setter : setters_sound os ≡ true → OneSetter (map (part_of t price g) os)
    one_setter s p q i j h k =
        let a = Memᴰ.of_map (part_of t price g) os i in
        let b = Memᴰ.of_map (part_of t price g) os j in
        let x : (part_of t price g a.0).setter ≡ true = rw a.2 h in
        let y : (part_of t price g b.0).setter ≡ true = rw b.2 k in
        let e = one_marked os s a.0 b.0 a.1 b.1 (same_setter_lem a.0 b.0 x y) (same_setter_lem b.0 a.0 y x) in
        sym (ap (λ (z : Part). z.number) a.2) ∙ ap (λ (z : Order). (part_of t price g z).number) e ∙ ap (λ (z : Part). z.number) b.2

    -- a group that has a setter has a marked order standing in it
    pub find_setter : any is_setter (map (part_of t price g) os) ≡ true → (s : Order) × Memᴰ s os × (stands t price g s ≡ true) × (s.setter ≡ true)
    find_setter h =
        let p = member_any is_setter (map (part_of t price g) os) h in
        let s = Memᴰ.of_map (part_of t price g) os p.1 in
        let k : (part_of t price g s.0).setter ≡ true = rw s.2 p.2 in
        let m = setter_stands s.0 k in
        (s.0, s.1, m.0, m.1)

-- orders that have shares of the group's visibility and pass its test carry no minimum
abbrev Free : Group → Type 0
Free g = (k : Kind) (n : ℕ) → 0 < shares_of g.visibility (interest_by k n)
    → g.holds (is_minimum_quantity k) (shares_of g.visibility (interest_by k n)) ≡ true → minimum_of k ≡ 0

-- the parts of such a group carry none
free_parts : (t : Taker) (price : ℕ) (g : Group) → Free g → (os : List Order) → Every (λ p. p.minimum ≡ 0) (map (part_of t price g) os)
free_parts t price g f [] = tt
free_parts t price g f (o ∷ os) = (go (stands t price g o) refl, free_parts t price g f os)
  where
    go : (b : Bool) → stands t price g o ≡ b → (part_of t price g o).minimum ≡ 0
    go true e =
        let n = shares_of g.visibility (interest_of o) in
        let a = and_true (ltb 0 n) (g.holds (is_minimum_quantity o.kind) n) (stands_means t price g o e).2 in
        ap (λ (p : Part). p.minimum) (part_in_lem t price g o e) ∙ f o.kind (size_of o) (ltb-true 0 n a.0) a.1
    go false e = ap (λ (p : Part). p.minimum) (part_out t price g o e)

-- displayed orders carry none
shown_free : (test : Bool → ℕ → Bool) → Free (record { visibility = shown; holds = test })
shown_free test Displayed n h e = refl
shown_free test NonDisplayed n h e = refl
shown_free test (MinimumQuantity m) n h e = absurd (omega arith)
shown_free test (Reserve b r) n h e = refl

-- nor do orders that are no minimum quantity orders
hidden_free : (test : Bool → ℕ → Bool) → Free (record { visibility = hidden; holds = without_minimum test })
hidden_free test Displayed n h e = refl
hidden_free test NonDisplayed n h e = refl
hidden_free test (MinimumQuantity m) n h e = absurd (false≢true e)
hidden_free test (Reserve b r) n h e = refl

-- the paragraphs whose orders carry no minimum: the displayed ones of price/time, and all but the fifth of pro rata
abbrev pub has_no_minimum : Algorithm → Paragraph → Bool
has_no_minimum PriceTime g = eqb (paragraph_number g) 2
has_no_minimum ProRata g = not (eqb (paragraph_number g) 5)
has_no_minimum PriceSetter g = not (eqb (paragraph_number g) 5)

time_free : (g : Paragraph) → has_no_minimum PriceTime g ≡ true → Free (time_group g)
time_free Two e = shown_free every_order
time_free Three e = absurd (false≢true e)
time_free Four e = absurd (false≢true e)
time_free Five e = absurd (false≢true e)
time_free Six e = absurd (false≢true e)

pro_rata_free : (lot : ℕ) (g : Paragraph) → has_no_minimum ProRata g ≡ true → Free (pro_rata_group lot g)
pro_rata_free lot Two e = shown_free (of_lot lot)
pro_rata_free lot Three e = shown_free (below_lot lot)
pro_rata_free lot Four e = hidden_free (of_lot lot)
pro_rata_free lot Five e = absurd (false≢true e)
pro_rata_free lot Six e = hidden_free (below_lot lot)

group_free : (lot : ℕ) (alg : Algorithm) (g : Paragraph) → has_no_minimum alg g ≡ true → Free (group_of lot alg g)
group_free lot PriceTime g e = time_free g e
group_free lot ProRata g e = pro_rata_free lot g e
group_free lot PriceSetter g e = pro_rata_free lot g e

-- where the fifth paragraph doesn't share by lots, those that do are among them
but_five : (way : Paragraph → Method) → is_by_lots (way Five) ≡ false → (g : Paragraph) → is_by_lots (way g) ≡ true → has_no_minimum ProRata g ≡ true
but_five way f Two e = refl
but_five way f Three e = refl
but_five way f Four e = refl
but_five way f Five e = absurd (false≢true (sym f ∙ e))
but_five way f Six e = refl

-- so every paragraph that shares by lots is one of them
pub lots_no_minimum : (alg : Algorithm) (g : Paragraph) → is_by_lots (method_of alg g) ≡ true → has_no_minimum alg g ≡ true
lots_no_minimum PriceTime g e = absurd (false≢true e)
lots_no_minimum ProRata g e = but_five (method_of ProRata) refl g e
lots_no_minimum PriceSetter g e = but_five (method_of PriceSetter) refl g e

-- the parts in such a paragraph carry none
pub no_minimum : (lot : ℕ) (alg : Algorithm) (g : Paragraph) → has_no_minimum alg g ≡ true → (t : Taker) (price : ℕ) (os : List Order)
    → Every (λ p. p.minimum ≡ 0) (map (part_of t price (group_of lot alg g)) os)
no_minimum lot alg g e t price os = free_parts t price (group_of lot alg g) (group_free lot alg g e) os

-- a number that is picked where it is above 0 and a test holds
pick_positive : (a b : Bool) (n : ℕ) → or_zero (a && (ltb 0 n && b)) n ≡ or_zero (a && b) n
pick_positive a b n = go (ltb 0 n) refl
  where
    go : (c : Bool) → ltb 0 n ≡ c → or_zero (a && (c && b)) n ≡ or_zero (a && b) n
    go true e = refl
    go false e = let z : n ≡ 0 = omega (arith, ltb-false 0 n e) in pick_zero (a && (false && b)) z ∙ sym (pick_zero (a && b) z)

module _ (lot : ℕ) (i : Incoming) (price : ℕ) where
  -- the order stands in the group of displayed round lots
  abbrev pub in_lots : Order → Bool
  in_lots = stands i.taker price (pro_rata_group lot Two)

  -- what of an order stands there
  abbrev pub lot_part : Order → Part
  lot_part = part_of i.taker price (pro_rata_group lot Two)

  -- its size is what counts at the price
  pub counted_size_lem : (o : Order) → (lot_part o).size ≡ counted lot i price o
  unfolding counted
  counted_size_lem o =
      part_size_lem i.taker price (pro_rata_group lot Two) o
      ∙ pick_positive (is_opposite_of i.taker o && eqb (price_of o) price) (leb lot (interest_of o).displayed) (interest_of o).displayed

  -- the group's total is the total that counts
  pub counted_total : (os : List Order) → total part_size (map lot_part os) ≡ total (counted lot i price) os
  counted_total os = total_map part_size lot_part os ∙ total_same os (λ o k. counted_size_lem o)

  -- who stands there displays a lot or more
  pub lots_displayed : (o : Order) → in_lots o ≡ true → lot ≤ (interest_of o).displayed
  lots_displayed o e =
      let a = (stands_means i.taker price (pro_rata_group lot Two) o e).2 in
      leb-true lot (interest_of o).displayed (and_true (ltb 0 (interest_of o).displayed) (leb lot (interest_of o).displayed) a).1

  -- who counts stands there
  pub counted_in : (o : Order) → 0 < counted lot i price o → in_lots o ≡ true
  counted_in o h = go (in_lots o) (part_size_lem i.taker price (pro_rata_group lot Two) o)
    where
      go : (b : Bool) → (lot_part o).size ≡ or_zero b (interest_of o).displayed → b ≡ true
      go true k = refl
      go false k = absurd (omega (arith, counted_size_lem o))

  -- and who stands there counts, where a lot is above 0
  pub in_counted : 0 < lot → (o : Order) → in_lots o ≡ true → 0 < counted lot i price o
  in_counted l o e =
      let a : (lot_part o).size ≡ (interest_of o).displayed = part_size_lem i.taker price (pro_rata_group lot Two) o ∙ rw e in
      omega (arith, counted_size_lem o, lots_displayed o e)

-- pro rata has its groups with the variation and without
pub pro_rata_group_lem : (lot : ℕ) (alg : Algorithm) → ¬ (alg ≡ PriceTime) → (g : Paragraph) → group_of lot alg g ≡ pro_rata_group lot g
pro_rata_group_lem lot PriceTime pro g = absurd (pro refl)
pro_rata_group_lem lot ProRata pro g = refl
pro_rata_group_lem lot PriceSetter pro g = refl
