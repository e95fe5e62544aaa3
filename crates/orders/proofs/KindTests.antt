-- Tests of an order's kind by the numbers that say it.
use Prim.Native.Nat.{ℕ, ◌+◌}
use mathlib.Core.Path.{◌≡◌, refl, sym, ◌∙◌}
use mathlib.Core.Bool.{Bool, true, false, cond, not, ◌||◌}
use native.Mathlib.Omega.{arith}
use lib.Dec.{leb, eqb}
use borrow.Author.Tests.{eqb-true, ne_eqb, le-leb}
use Rattle.orders.specs.declared.order.Kind.{Kind}
use Rattle.orders.specs.declared.order.Kind.TheVariants.{Displayed, NonDisplayed, MinimumQuantity, Reserve}
use Rattle.orders.specs.Order.{kind_number, kind_of, minimum_of, is_displayed, interest_by, all_shares}

-- a kind by the numbers of a record, test by test
module _ (k m h r : ℕ) where
  abbrev by_tests : Bool → Bool → Bool → Kind
  by_tests a b c = cond a Displayed (cond b NonDisplayed (cond c (MinimumQuantity (record { 0 = m })) (Reserve (record { 0 = h }) (record { 0 = r }))))

  -- a number is no other
  apart : (x y : ℕ) → (x ≡ y → ⊥) → eqb k x ≡ true → eqb k y ≡ false
  apart x y n e = ne_eqb k y (λ f. n (sym (eqb-true k x e) ∙ f))

  -- a minimum is met by so many shares
  pub minimum_test : (shares : ℕ) → (not (eqb k 3) || leb m shares) ≡ leb (minimum_of (kind_of k m h r)) shares
  minimum_test shares = go (eqb k 1) (eqb k 2) (eqb k 3) refl refl refl
    where
      met : true ≡ leb 0 shares
      met = sym (le-leb 0 shares (omega arith))

      go : (a b c : Bool) → eqb k 1 ≡ a → eqb k 2 ≡ b → eqb k 3 ≡ c → (not c || leb m shares) ≡ leb (minimum_of (by_tests a b c)) shares
      go true b c e f g = rw (sym g, apart 1 3 (λ z. omega arith) e) met
      go false true c e f g = rw (sym g, apart 2 3 (λ z. omega arith) f) met
      go false false true e f g = refl
      go false false false e f g = met

  -- it counts as displayed
  pub displayed_test : not (eqb k 2 || eqb k 3) ≡ is_displayed (kind_of k m h r)
  displayed_test = go (eqb k 1) (eqb k 2) (eqb k 3) refl refl refl
    where
      go : (a b c : Bool) → eqb k 1 ≡ a → eqb k 2 ≡ b → eqb k 3 ≡ c → not (b || c) ≡ is_displayed (by_tests a b c)
      go true b c e f g = rw (sym f, sym g, apart 1 2 (λ z. omega arith) e, apart 1 3 (λ z. omega arith) e)
      go false true c e f g = refl
      go false false true e f g = refl
      go false false false e f g = refl

  -- the shares of both visibilities, where only kind 4 hides any
  pub all_by : (n : ℕ) → (eqb k 4 ≡ false → h ≡ 0) → all_shares (interest_by (kind_of k m h r) n) ≡ n + h
  all_by n z = go (eqb k 1) (eqb k 2) (eqb k 3) refl refl refl
    where
      go : (a b c : Bool) → eqb k 1 ≡ a → eqb k 2 ≡ b → eqb k 3 ≡ c → all_shares (interest_by (by_tests a b c) n) ≡ n + h
      go true b c e f g = omega (arith, z (apart 1 4 (λ y. omega arith) e))
      go false true c e f g = omega (arith, z (apart 2 4 (λ y. omega arith) f))
      go false false true e f g = omega (arith, z (apart 3 4 (λ y. omega arith) g))
      go false false false e f g = refl

-- the kind that a kind's number says counts as displayed where the kind does
pub number_displayed : (k : Kind) → is_displayed (kind_of (kind_number k) 0 0 0) ≡ is_displayed k
number_displayed Displayed = refl
number_displayed NonDisplayed = refl
number_displayed (MinimumQuantity m) = refl
number_displayed (Reserve h r) = refl
