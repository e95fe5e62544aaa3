-- Where an order's shares stand: under each algorithm those of one visibility stand in the group of exactly one paragraph.
use Prim.Native.Nat.{ℕ, zero, suc, ◌≤◌, ◌<◌}
use mathlib.Core.Path.{◌≡◌, refl, sym, ap, subst, ◌∙◌}
use mathlib.Core.Logic.{◌⊎◌, inl, inr}
use mathlib.Core.Bool.{Bool, true, false, not, ◌&&◌, ◌||◌, false≢true, true≢false}
use mathlib.Core.List.{List, [], ◌∷◌, Memᴰ}
use native.Mathlib.Omega.{arith}
use lib.Dec.{leb, ltb, eqb}
use borrow.Author.Tests.{leb-true, leb-false, ltb-true, le-ltb, lt-ltb, eqb-true, not-true, not-false}
use Rattle.units.specs.Lists.{all}
use Rattle.units.proofs.Members.{Every, all_member}
use Rattle.units.proofs.Tests.{and_true}
use Rattle.orders.specs.declared.order.Order.{Order}
use Rattle.orders.specs.Order.{Visibility, shown, hidden, shares_of, only_of, interest_of, is_minimum_quantity}
use Rattle.matching.specs.declared.Algorithm.{Algorithm}
use Rattle.matching.specs.declared.Algorithm.TheVariants.{PriceTime, ProRata, PriceSetter}
use Rattle.matching.specs.declared.Paragraph.{Paragraph}
use Rattle.matching.specs.declared.Paragraph.TheVariants.{Two, Three, Four, Five, Six}
use Rattle.matching.specs.Paragraph.{paragraphs, paragraph_number, Group, group_of, pro_rata_group, in_group}
use Rattle.matching.specs.Numbered.{paragraph_numbered}
use Rattle.matching.specs.Reserve.{same_visibility}

pub same_visibility_lem : (v w : Visibility) → same_visibility v w ≡ true → v ≡ w
same_visibility_lem shown shown e = refl
same_visibility_lem shown hidden e = absurd (false≢true e)
same_visibility_lem hidden shown e = absurd (false≢true e)
same_visibility_lem hidden hidden e = refl

same_self : (v : Visibility) → same_visibility v v ≡ true
same_self shown = refl
same_self hidden = refl

-- shares of one visibility are none of the other
pub own_shares : (v : Visibility) (n : ℕ) → shares_of v (only_of v n) ≡ n
own_shares shown n = refl
own_shares hidden n = refl

pub other_shares : (v w : Visibility) (n : ℕ) → same_visibility v w ≡ false → shares_of v (only_of w n) ≡ 0
other_shares shown shown n e = absurd (false≢true (sym e))
other_shares shown hidden n e = refl
other_shares hidden shown n e = refl
other_shares hidden hidden n e = absurd (false≢true (sym e))

-- n shares of a visibility, of a minimum quantity order or not, stand in a group
abbrev pub stands_in : Visibility → Bool → ℕ → Group → Bool
stands_in v m n g = same_visibility v g.visibility && (ltb 0 n && g.holds m n)

-- they pass its test, if there are any
abbrev passes : Visibility → Bool → ℕ → Group → Bool
passes v m n g = same_visibility v g.visibility && g.holds m n

-- g is another paragraph than x
abbrev pub other : Paragraph → Paragraph → Bool
other g x = not (eqb (paragraph_number g) (paragraph_number x))

-- the paragraph of a paragraph's number
pub numbered_back : (g : Paragraph) → paragraph_numbered (paragraph_number g) ≡ g
numbered_back Two = refl
numbered_back Three = refl
numbered_back Four = refl
numbered_back Five = refl
numbered_back Six = refl

-- paragraphs of one number are one
same_paragraph : (g h : Paragraph) → paragraph_number g ≡ paragraph_number h → g ≡ h
same_paragraph g h e = sym (numbered_back g) ∙ ap paragraph_numbered e ∙ numbered_back h

-- the numbers of the paragraphs
pub record Numbered (n : ℕ) : Type 0 where
  pub least : 2 ≤ n
  pub most : n ≤ 6

-- a paragraph's number is one of them
pub number_numbered : (g : Paragraph) → Numbered (paragraph_number g)
number_numbered Two = record { least = omega arith; most = omega arith }
number_numbered Three = record { least = omega arith; most = omega arith }
number_numbered Four = record { least = omega arith; most = omega arith }
number_numbered Five = record { least = omega arith; most = omega arith }
number_numbered Six = record { least = omega arith; most = omega arith }

-- and each of them is that of its paragraph
pub number_back : (n : ℕ) → Numbered n → paragraph_number (paragraph_numbered n) ≡ n
number_back zero h = absurd (omega (arith, h.least))
number_back (suc zero) h = absurd (omega (arith, h.least))
number_back (suc (suc zero)) h = refl
number_back (suc (suc (suc zero))) h = refl
number_back (suc (suc (suc (suc zero)))) h = refl
number_back (suc (suc (suc (suc (suc zero))))) h = refl
number_back (suc (suc (suc (suc (suc (suc zero)))))) h = refl
number_back (suc (suc (suc (suc (suc (suc (suc n))))))) h = absurd (omega (arith, h.most))

-- a test that exactly one paragraph passes
pub record One (t : Paragraph → Bool) : Type 0 where
  pub place : Paragraph
  pub inside : t place ≡ true
  pub outside : (g : Paragraph) → other g place ≡ true → t g ≡ false

-- a paragraph that passes it is that one
one_only : {t : Paragraph → Bool} (o : One t) (g : Paragraph) → t g ≡ true → g ≡ o.place
one_only o g a = go (other g o.place) refl
  where
    go : (b : Bool) → other g o.place ≡ b → g ≡ o.place
    go true e = absurd (true≢false (sym a ∙ o.outside g e))
    go false e = same_paragraph g o.place (eqb-true (paragraph_number g) (paragraph_number o.place) (not-false _ e))

one_of : {s t : Paragraph → Bool} → ((g : Paragraph) → s g ≡ t g) → One s → One t
one_of h o = record { place = o.place; inside = sym (h o.place) ∙ o.inside; outside = λ g n. sym (h g) ∙ o.outside g n }

every_paragraph : (g : Paragraph) → Memᴰ g paragraphs
every_paragraph Two = Memᴰ.head refl
every_paragraph Three = Memᴰ.tail (Memᴰ.head refl)
every_paragraph Four = Memᴰ.tail (Memᴰ.tail (Memᴰ.head refl))
every_paragraph Five = Memᴰ.tail (Memᴰ.tail (Memᴰ.tail (Memᴰ.head refl)))
every_paragraph Six = Memᴰ.tail (Memᴰ.tail (Memᴰ.tail (Memᴰ.tail (Memᴰ.head refl))))

-- a test that a paragraph passes, and no other of the five
one_at : {t : Paragraph → Bool} (x : Paragraph) → t x ≡ true → all (λ g. not (other g x) || not (t g)) paragraphs ≡ true → One t
one_at {t} x e f = record {
  place = x;
  inside = e;
  outside = λ g n. let a = all_member (λ g. not (other g x) || not (t g)) paragraphs f g (every_paragraph g) in not-true (t g) (rw n at a);
}

time_one : (v : Visibility) (m : Bool) (n lot : ℕ) → One (λ g. passes v m n (group_of lot PriceTime g))
time_one shown m n lot = one_at Two refl refl
time_one hidden m n lot = one_at Three refl refl

-- where a lot or more stands under pro rata, and where less
lot_test : Visibility → Bool → Bool → Paragraph → Bool
lot_test v m lots Two = same_visibility v shown && lots
lot_test v m lots Three = same_visibility v shown && not lots
lot_test v m lots Four = same_visibility v hidden && (not m && lots)
lot_test v m lots Five = same_visibility v hidden && m
lot_test v m lots Six = same_visibility v hidden && (not m && not lots)

lot_one : (v : Visibility) (m lots : Bool) → One (lot_test v m lots)
unfolding lot_test
lot_one shown m true = one_at Two refl refl
lot_one shown m false = one_at Three refl refl
lot_one hidden true lots = one_at Five refl refl
lot_one hidden false true = one_at Four refl refl
lot_one hidden false false = one_at Six refl refl

below : (lot n : ℕ) → not (leb lot n) ≡ ltb n lot
below lot n = go (leb lot n) refl
  where
    go : (b : Bool) → leb lot n ≡ b → not b ≡ ltb n lot
    go true e = sym (le-ltb n lot (leb-true lot n e))
    go false e = sym (lt-ltb n lot (leb-false lot n e))

lot_tests : (v : Visibility) (m : Bool) (n lot : ℕ) (g : Paragraph) → lot_test v m (leb lot n) g ≡ passes v m n (pro_rata_group lot g)
unfolding lot_test
lot_tests v m n lot Two = refl
lot_tests v m n lot Three = ap (λ b. same_visibility v shown && b) (below lot n)
lot_tests v m n lot Four = refl
lot_tests v m n lot Five = refl
lot_tests v m n lot Six = ap (λ b. same_visibility v hidden && (not m && b)) (below lot n)

-- a paragraph has the test that they pass, and no other has
passing_one : (lot : ℕ) (alg : Algorithm) (v : Visibility) (m : Bool) (n : ℕ) → One (λ g. passes v m n (group_of lot alg g))
passing_one lot PriceTime v m n = time_one v m n lot
passing_one lot ProRata v m n = one_of (lot_tests v m n lot) (lot_one v m (leb lot n))
passing_one lot PriceSetter v m n = one_of (lot_tests v m n lot) (lot_one v m (leb lot n))

-- shares of a visibility stand in one paragraph
pub standing_one : (lot : ℕ) (alg : Algorithm) (v : Visibility) (m : Bool) (n : ℕ) → 0 < n → One (λ g. stands_in v m n (group_of lot alg g))
standing_one lot alg v m n h = one_of (λ g. rw (lt-ltb 0 n h)) (passing_one lot alg v m n)

-- Where an order's shares of each visibility stand.
module _ (lot : ℕ) (alg : Algorithm) (o : Order) where
  -- those of a visibility stand in a paragraph's group
  abbrev pub part_in : Visibility → Paragraph → Bool
  part_in v g = stands_in v (is_minimum_quantity o.kind) (shares_of v (interest_of o)) (group_of lot alg g)

  -- those of the group's visibility do where the order is in the group
  pub in_part : (g : Paragraph) → part_in (group_of lot alg g).visibility g ≡ in_group (group_of lot alg g) o
  in_part g = rw (same_self (group_of lot alg g).visibility)

  -- so with shares of one visibility it is in the group of one paragraph at most
  pub group_alone : (g h : Paragraph) → (group_of lot alg h).visibility ≡ (group_of lot alg g).visibility → in_group (group_of lot alg g) o ≡ true
      → in_group (group_of lot alg h) o ≡ true → h ≡ g
  group_alone g h e a b =
      let v = (group_of lot alg g).visibility in
      let m = is_minimum_quantity o.kind in
      let n = shares_of v (interest_of o) in
      let one = standing_one lot alg v m n (ltb-true 0 n (and_true (ltb 0 n) ((group_of lot alg g).holds m n) a).0) in
      one_only one h (subst (λ (w : Visibility). part_in w h ≡ true) e (in_part h ∙ b)) ∙ sym (one_only one g (in_part g ∙ a))

-- a paragraph stands in a list once
abbrev pub Once : Paragraph → List Paragraph → Type 0
Once x [] = ⊥
Once x (g ∷ gs) = ((g ≡ x) × Every (λ h. other h x ≡ true) gs) ⊎ ((other g x ≡ true) × Once x gs)

pub paragraphs_once : (g : Paragraph) → Once g paragraphs
paragraphs_once Two = inl (refl, (refl, (refl, (refl, (refl, tt)))))
paragraphs_once Three = inr (refl, inl (refl, (refl, (refl, (refl, tt)))))
paragraphs_once Four = inr (refl, inr (refl, inl (refl, (refl, (refl, tt)))))
paragraphs_once Five = inr (refl, inr (refl, inr (refl, inl (refl, (refl, tt)))))
paragraphs_once Six = inr (refl, inr (refl, inr (refl, inr (refl, inl (refl, tt)))))
