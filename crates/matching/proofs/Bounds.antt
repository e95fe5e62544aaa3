-- The lot bounds of the fairness demand, and what it demands of a price setter and beside one.
use Prim.Native.Nat.{ℕ, ◌-◌, ◌*◌, ◌/◌, ◌≤◌, ◌<◌, min}
use mathlib.Core.Path.{◌≡◌, refl, sym, ap, ◌∙◌, subst, subst⁻¹}
use mathlib.Core.Logic.{◌⊎◌, inl, inr}
use mathlib.Core.Bool.{Bool, true, false}
use mathlib.Core.List.Memᴰ
use mathlib.Core.List.{List, map, Memᴰ}
use native.Mathlib.Omega.{arith}
use native.Mathlib.Nat.{min_comm}
use lib.Dec.{T}
use Rattle.units.specs.Lists.{total}
use Rattle.units.specs.Lots.{round_down}
use Rattle.units.proofs.Tests.{T_true, true_T, true_and}
use Rattle.units.proofs.Members.{any_member}
use Rattle.sharing.specs.Rank.{Part, part_size, Rising}
use Rattle.sharing.specs.Lots.{divided}
use Rattle.sharing.specs.Setter.{guarantee, is_setter, of_setter}
use Rattle.sharing.proofs.LotSharing.{lot_share, lots_least, lots_most, lots_within}
use Rattle.sharing.proofs.SetterAndOthers.{setter_number, others_total}
use Rattle.sharing.proofs.SetterSharing.{keeps_guarantee, setter_share, setter_plain, setter_kept, kept_means, plain_means, other_least, other_most, other_within}
use Rattle.orders.specs.declared.order.Order.{Order}
use Rattle.record.specs.declared.execution.Execution.{Execution}
use Rattle.orders.specs.Order.{price_of}
use Rattle.orders.specs.Trading.{within_limit}
use Rattle.book.specs.Sound.{rising, setters_sound}
use Rattle.matching.specs.declared.Algorithm.{Algorithm}
use Rattle.matching.specs.declared.Algorithm.TheVariants.{PriceTime, ProRata, PriceSetter}
use Rattle.matching.specs.declared.Paragraph.TheVariants.{Two}
use Rattle.matching.specs.declared.incoming.Incoming.{Incoming}
use Rattle.matching.specs.Paragraph.{Group, pro_rata_group}
use Rattle.matching.specs.Take.{outcome}
use Rattle.matching.specs.Fairness.{gets, reaching, counted, guaranteed, LotBounds, counted_size, total_at, divided_at, Sharing, Setter, HeldToGuarantee}
use Rattle.matching.proofs.Parts.{part_in_lem, part_number, parts_rising, allot_share}
use Rattle.matching.proofs.Groups.{stands_means, one_setter, find_setter, pro_rata_group_lem}
use Rattle.matching.proofs.Groups.{lot_part, in_lots, counted_size_lem, counted_total, counted_in, in_counted, no_minimum}
use Rattle.matching.proofs.Reaching.{gets_share}

-- the bounds of plain lot sharing
lots_bounds : (lot q m : ℕ) (ps : List Part) → Rising m ps → q ≤ total part_size ps → (p : Part) → Memᴰ p ps
    → LotBounds lot q (total part_size ps) p.size (lot_share lot q ps p)
lots_bounds lot q m ps r h p k = record { at_least = lots_least lot q ps p; at_most = lots_most lot q ps m r p k; within_size = lots_within lot q ps m r h p k }

same_bounds : {lot d e t u m n x y : ℕ} → d ≡ e → t ≡ u → m ≡ n → x ≡ y → LotBounds lot d t m x → LotBounds lot e u n y
same_bounds a b c d h = rw (← a, ← b, ← c, ← d) h

-- pro rata is without the variation or with it
either : (alg : Algorithm) → ¬ (alg ≡ PriceTime) → (alg ≡ ProRata) ⊎ (alg ≡ PriceSetter)
either PriceTime pro = absurd (pro refl)
either ProRata pro = inl refl
either PriceSetter pro = inr refl

module _ (lot : ℕ) (l : 0 < lot) (alg : Algorithm) (i : Incoming) (os : List Order) (rise : rising 0 os ≡ true) (marks : setters_sound os ≡ true) where
  -- the executions of a take
  abbrev es : List Execution
  es = (outcome lot alg i os).executions

  -- D and T of a price, and what of an order counts
  abbrev D : ℕ → ℕ
  D price = divided_at lot alg i os es price

  abbrev S : ℕ → ℕ
  S price = total_at lot alg i os es price

  abbrev size : Order → ℕ
  size o = counted_size lot alg i os es o

  abbrev lots : Group
  lots = pro_rata_group lot Two

  module _ (price : ℕ) where
    -- the group of displayed round lots at a price
    abbrev part : Order → Part
    part = lot_part lot i price

    abbrev group : List Part
    group = map part os

    group_rising : Rising 0 group
    group_rising = parts_rising i.taker price lots 0 os rise

    -- the shares divided among the group
    abbrev q : ℕ
    q = divided (reaching i es price) group

    divided_is : q ≡ D price
    divided_is = min_comm (reaching i es price) (total part_size group) ∙ ap (λ n. min n (reaching i es price)) (counted_total lot i price os)

    -- an order that shares at the price
    record Here (o : Order) : Type 0 where
      shares : Sharing lot alg i os es o
      here : price_of o ≡ price

    module _ (o : Order) (a : Here o) where
      size_is : (part o).size ≡ size o
      size_is = counted_size_lem lot i price o ∙ ap (λ n. counted lot i n o) (sym a.here)

      in_lots_lem : in_lots lot i price o ≡ true
      in_lots_lem = counted_in lot i price o (subst (λ (n : ℕ). 0 < counted lot i n o) a.here a.shares.counts)

      in_group_lem : Memᴰ (part o) group
      in_group_lem = Memᴰ.map part a.shares.member

      -- what it gets is its part's share of the group
      gets_first : ¬ (alg ≡ PriceTime) → gets es o ≡ allot_share lot alg Two (reaching i es price) group (part o)
      gets_first pro =
          let w = T_true (within_limit i.taker.side i.taker.limit.0 (price_of o)) a.shares.in_limit in
          let t = true_and (stands_means i.taker price lots o in_lots_lem).0 w in
          gets_share lot alg i os rise o a.shares.member t price a.here ∙ rw (pro_rata_group_lem lot alg pro Two)

      gets_by : (x : Algorithm) → ¬ (x ≡ PriceTime) → alg ≡ x → gets es o ≡ allot_share lot x Two (reaching i es price) group (part o)
      gets_by x pro v = gets_first (λ e. pro (sym v ∙ e)) ∙ ap (λ y. allot_share lot y Two (reaching i es price) group (part o)) v

      gets_varied : alg ≡ PriceSetter → gets es o ≡ setter_share lot q group (part o)
      gets_varied = gets_by PriceSetter (λ e. let z : ◌≡◌ {A = ℕ} 0 1 = cc in omega arith)

      -- plain lot sharing is within the bounds
      share_bounds : LotBounds lot (D price) (S price) (size o) (lot_share lot q group (part o))
      share_bounds =
          same_bounds divided_is (counted_total lot i price os) size_is refl (lots_bounds lot q 0 group group_rising (omega arith) (part o) in_group_lem)

      plain_bounds : gets es o ≡ lot_share lot q group (part o) → LotBounds lot (D price) (S price) (size o) (gets es o)
      plain_bounds e = same_bounds refl refl refl (sym e) share_bounds

    -- the price-setter variation: the setter of the price gets the guarantee
    abbrev kept : Bool
    kept = keeps_guarantee lot q group

    module _ (v : alg ≡ PriceSetter) where
      module _ (s : Order) (a : Here s) (m : s.setter ≡ true) where
        marked_part : (part s).setter ≡ true
        marked_part = rw (part_in_lem i.taker price lots s (in_lots_lem s a)) m

        -- the setter's number of a list beside the group is its part's
        of_the_setter : (f : Part → ℕ) → of_setter group (map f group) ≡ f (part s)
        of_the_setter f = setter_number 0 group group_rising (one_setter i.taker price lots os marks) f (part s) (in_group_lem s a) marked_part

        guarantee_is : guarantee q (part s) ≡ guaranteed (D price) (size s)
        guarantee_is = rw (size_is s a, divided_is)

        gets_kept : kept ≡ true → gets es s ≡ guaranteed (D price) (size s)
        gets_kept k = gets_varied s a v ∙ setter_kept lot q group k (part s) marked_part ∙ guarantee_is

        gets_more : kept ≡ false → guaranteed (D price) (size s) < gets es s
        gets_more k =
            let x = plain_means lot q group k (any_member is_setter group (part s) (in_group_lem s a) marked_part) in
            let y = of_the_setter (guarantee q) in
            let z = of_the_setter (lot_share lot q group) in
            let w = gets_varied s a v ∙ setter_plain lot q group k (part s) in
            omega (arith, guarantee_is)

        -- the setter gets at least its exact share, rounded down to whole lots, where the guarantee is kept: plain sharing gives it no more
        kept_least : kept ≡ true → round_down lot (size s * D price / S price) ≤ gets es s
        kept_least k =
            let x = (kept_means lot q group k).1 in
            let y = of_the_setter (guarantee q) in
            let z = of_the_setter (lot_share lot q group) in
            omega (arith, guarantee_is, gets_kept k, (share_bounds s a).at_least)

        -- beside a setter that gets the guarantee the others are within the bounds, with what it leaves and their own total
        other_bounds : kept ≡ true → (o : Order) → Here o → ¬ (o.number ≡ s.number) → LotBounds lot (D price - gets es s) (S price - size s) (size o) (gets es o)
        other_bounds k o b n =
            let h : q ≤ total part_size group = omega arith in
            let z = no_minimum lot ProRata Two refl i.taker price os in
            let j = in_group_lem o b in
            let d = of_the_setter (guarantee q) ∙ guarantee_is ∙ sym (gets_kept k) in
            let t = of_the_setter part_size ∙ size_is s a in
            same_bounds (rw (d, divided_is)) (others_total group ∙ rw (t, counted_total lot i price os)) (size_is o b) (sym (gets_varied o b v))
            (record {
              at_least = other_least lot q 0 group l h group_rising z k (part o) j unmarked;
              at_most = other_most lot q 0 group l h group_rising z k (part o) j unmarked;
              within_size = other_within lot q 0 group l h group_rising z k (part o) j unmarked;
            })
          where
            unmarked : (part o).setter ≡ false
            unmarked = go (part o).setter refl
              where
                go : (c : Bool) → (part o).setter ≡ c → c ≡ false
                go true e =
                    absurd (n (sym (part_number i.taker price lots o)
                    ∙ one_setter i.taker price lots os marks (part o) (part s) (in_group_lem o b) (in_group_lem s a) e marked_part
                    ∙ part_number i.taker price lots s))
                go false e = refl

      -- where the guarantee is kept, the setter of the price is held to it
      held : kept ≡ true → (o : Order) → Here o → (s : Order) × HeldToGuarantee lot alg i os es s × (price_of s ≡ price)
      held k o a =
          let f = find_setter i.taker price lots os (kept_means lot q group k).0 in
          let s = f.0 in
          let e = (stands_means i.taker price lots s f.2).1 in
          let same = e ∙ sym a.here in
          let b : Sharing lot alg i os es s = record {
            member = f.1;
            counts = subst⁻¹ (λ (n : ℕ). 0 < counted lot i n s) e (in_counted lot i price l s f.2);
            in_limit = subst⁻¹ (λ (n : ℕ). T (within_limit i.taker.side i.taker.limit.0 n)) same a.shares.in_limit;
            reached = subst⁻¹ (λ (n : ℕ). 0 < reaching i es n) same a.shares.reached;
          } in (
            s,
            record {
              setter = record { variation = v; shares = b; marked = true_T s.setter f.3 };
              exactly = subst⁻¹ (λ (n : ℕ). gets es s ≡ guaranteed (D n) (size s)) e (gets_kept s (record { shares = b; here = e }) f.3 k);
            },
            e,
          )

  -- the lot bounds, where the price has no setter that gets exactly what it is guaranteed
  pub lot_bounds_lem : ¬ (alg ≡ PriceTime) → (o : Order) → Sharing lot alg i os es o
      → ((s : Order) → HeldToGuarantee lot alg i os es s → price_of s ≡ price_of o → ⊥)
      → LotBounds lot (divided_at lot alg i os es (price_of o)) (total_at lot alg i os es (price_of o)) (counted_size lot alg i os es o) (gets es o)
  lot_bounds_lem pro o b n =
      elim (either alg pro) [
        | inl v ↦ plain_bounds (price_of o) o a (gets_by (price_of o) o a ProRata (λ e. pro (v ∙ e)) v)
        | inr v ↦ go v (kept (price_of o)) refl
      ]
    where
      a : Here (price_of o) o
      a = record { shares = b; here = refl }

      go : alg ≡ PriceSetter → (k : Bool) → kept (price_of o) ≡ k → LotBounds lot (D (price_of o)) (S (price_of o)) (size o) (gets es o)
      go v true k = let h = held (price_of o) v k o a in absurd (n h.0 h.1 h.2)
      go v false k =
          plain_bounds (price_of o) o a (gets_varied (price_of o) o a v ∙ setter_plain lot (q (price_of o)) (group (price_of o)) k (part (price_of o) o))

  -- the price setter gets at least what it is guaranteed
  pub setter_share_lem : (s : Order) → Setter lot alg i os es s → guaranteed (divided_at lot alg i os es (price_of s)) (counted_size lot alg i os es s) ≤ gets es s
  setter_share_lem s h = go (kept (price_of s)) refl
    where
      a : Here (price_of s) s
      a = record { shares = h.shares; here = refl }

      go : (k : Bool) → kept (price_of s) ≡ k → guaranteed (D (price_of s)) (size s) ≤ gets es s
      go true k = omega (arith, gets_kept (price_of s) h.variation s a (T_true s.setter h.marked) k)
      go false k = omega (arith, gets_more (price_of s) h.variation s a (T_true s.setter h.marked) k)

  -- nor does it get less than its exact share, rounded down to whole lots
  pub setter_least_lem : (s : Order) → Setter lot alg i os es s
      → round_down lot (counted_size lot alg i os es s * divided_at lot alg i os es (price_of s) / total_at lot alg i os es (price_of s)) ≤ gets es s
  setter_least_lem s h = go (kept (price_of s)) refl
    where
      a : Here (price_of s) s
      a = record { shares = h.shares; here = refl }

      go : (k : Bool) → kept (price_of s) ≡ k → round_down lot (size s * D (price_of s) / S (price_of s)) ≤ gets es s
      go true k = kept_least (price_of s) h.variation s a (T_true s.setter h.marked) k
      go false k =
          let e = gets_varied (price_of s) s a h.variation ∙ setter_plain lot (q (price_of s)) (group (price_of s)) k (part (price_of s) s) in
          (plain_bounds (price_of s) s a e).at_least

  -- beside a setter that gets exactly what it is guaranteed, the lot bounds hold for the others, with what it leaves and their own total
  pub beside_setter_lem : (s : Order) → HeldToGuarantee lot alg i os es s → (o : Order) → Sharing lot alg i os es o → price_of o ≡ price_of s → ¬ (o.number ≡ s.number)
      → LotBounds lot (divided_at lot alg i os es (price_of s) - gets es s) (total_at lot alg i os es (price_of s) - counted_size lot alg i os es s)
      (counted_size lot alg i os es o) (gets es o)
  beside_setter_lem s h o b e n = other_bounds (price_of s) h.setter.variation s a m (go (kept (price_of s)) refl) o (record { shares = b; here = e }) n
    where
      a : Here (price_of s) s
      a = record { shares = h.setter.shares; here = refl }

      m : s.setter ≡ true
      m = T_true s.setter h.setter.marked

      go : (k : Bool) → kept (price_of s) ≡ k → k ≡ true
      go true k = refl
      go false k = absurd (omega (arith, gets_more (price_of s) h.setter.variation s a m k, h.exactly))
