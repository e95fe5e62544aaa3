-- A part of an order stands in the group of one paragraph: that of its number.
use Prim.Native.Nat.{ℕ, ◌<◌}
use mathlib.Core.Path.{◌≡◌, refl, sym, ap, ◌∙◌}
use mathlib.Core.Bool.{Bool, true, false, true≢false}
use native.Mathlib.Omega.{arith}
use lib.Dec.{ltb, eqb}
use borrow.Author.Tests.{lt-ltb, ltb-false, le-leb, eqb-true, eq-eqb, not-false}
use Rattle.units.proofs.Tests.{same_test, pick_least}
use Rattle.orders.specs.Order.{Visibility, shown, hidden}
use Rattle.matching.specs.declared.Algorithm.{Algorithm}
use Rattle.matching.specs.declared.Algorithm.TheVariants.{PriceTime, ProRata, PriceSetter}
use Rattle.matching.specs.declared.Paragraph.{Paragraph}
use Rattle.matching.specs.Paragraph.{group_of, pro_rata_group, paragraph_number}
use Rattle.matching.specs.Numbered.{paragraph_numbered}
use Rattle.matching.proofs.Places.{Numbered, One, other, stands_in, standing_one, numbered_back, number_back}
use Rattle.parts.specs.Parts.{time_paragraph, pro_rata_paragraph, paragraph_for}

time_numbered : (v : Visibility) → Numbered (time_paragraph v)
time_numbered shown = record { least = omega arith; most = omega arith }
time_numbered hidden = record { least = omega arith; most = omega arith }

pro_rata_numbered : (lot : ℕ) (v : Visibility) (m : Bool) (n : ℕ) → Numbered (pro_rata_paragraph lot v m n)
pro_rata_numbered lot shown m n = record { least = omega arith; most = omega (arith, pick_least (ltb n lot) 1) }
pro_rata_numbered lot hidden true n = record { least = omega arith; most = omega arith }
pro_rata_numbered lot hidden false n = record { least = omega arith; most = omega (arith, pick_least (ltb n lot) 2) }

-- it is a paragraph's number
pub for_numbered : (lot : ℕ) (alg : Algorithm) (v : Visibility) (m : Bool) (n : ℕ) → Numbered (paragraph_for lot alg v m n)
for_numbered lot PriceTime v m n = time_numbered v
for_numbered lot ProRata v m n = pro_rata_numbered lot v m n
for_numbered lot PriceSetter v m n = pro_rata_numbered lot v m n

-- The paragraph that passes a test which no other passes.
module _ {t : Paragraph → Bool} (one : One t) where
  only : (g : Paragraph) → t g ≡ true → g ≡ one.place
  only g e = go (other g one.place) refl
    where
      go : (b : Bool) → other g one.place ≡ b → g ≡ one.place
      go true o = absurd (true≢false (sym e ∙ one.outside g o))
      go false o =
          sym (numbered_back g)
          ∙ ap paragraph_numbered (eqb-true (paragraph_number g) (paragraph_number one.place) (not-false _ o))
          ∙ numbered_back one.place

  -- it is the one of a number whose paragraph passes
  by_number : (n : ℕ) → Numbered n → t (paragraph_numbered n) ≡ true → (g : Paragraph) → t g ≡ eqb n (paragraph_number g)
  by_number n h e g =
      same_test (t g) (eqb n (paragraph_number g))
      (λ f. eq-eqb n (paragraph_number g) (sym (number_back n h) ∙ ap paragraph_number (only (paragraph_numbered n) e ∙ sym (only g f))))
      (λ f. ap t (sym (ap paragraph_numbered (eqb-true n (paragraph_number g) f) ∙ numbered_back g)) ∙ e)

module _ (lot n : ℕ) (h : 0 < n) (m : Bool) where
  stands_pro_rata : (v : Visibility) → stands_in v m n (pro_rata_group lot (paragraph_numbered (pro_rata_paragraph lot v m n))) ≡ true
  stands_pro_rata v = go (ltb n lot) refl v m
    where
      go : (b : Bool) → ltb n lot ≡ b → (v : Visibility) (m : Bool) → stands_in v m n (pro_rata_group lot (paragraph_numbered (pro_rata_paragraph lot v m n))) ≡ true
      go true e shown m = rw (e, lt-ltb 0 n h, e)
      go false e shown m = rw (e, lt-ltb 0 n h, le-leb lot n (ltb-false n lot e))
      go b e hidden true = rw (lt-ltb 0 n h)
      go true e hidden false = rw (e, lt-ltb 0 n h, e)
      go false e hidden false = rw (e, lt-ltb 0 n h, le-leb lot n (ltb-false n lot e))

  stands_time : (v : Visibility) → stands_in v m n (group_of lot PriceTime (paragraph_numbered (time_paragraph v))) ≡ true
  stands_time shown = rw (lt-ltb 0 n h)
  stands_time hidden = rw (lt-ltb 0 n h)

  stands_for : (alg : Algorithm) (v : Visibility) → stands_in v m n (group_of lot alg (paragraph_numbered (paragraph_for lot alg v m n))) ≡ true
  stands_for PriceTime v = stands_time v
  stands_for ProRata v = stands_pro_rata v
  stands_for PriceSetter v = stands_pro_rata v

  -- shares of a visibility stand in the group of the paragraph of their number, and in no other
  pub in_paragraph : (alg : Algorithm) (v : Visibility) (g : Paragraph) → stands_in v m n (group_of lot alg g) ≡ eqb (paragraph_for lot alg v m n) (paragraph_number g)
  in_paragraph alg v = by_number (standing_one lot alg v m n h) (paragraph_for lot alg v m n) (for_numbered lot alg v m n) (stands_for alg v)
