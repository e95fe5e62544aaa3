-- The two kinds of interest of an order together, and whether a loss leaves any.
use Prim.Native.Nat.{ℕ, ◌+◌, ◌-◌, min}
use mathlib.Core.Path.{◌≡◌, refl, sym, ap, ◌∙◌}
use mathlib.Core.Bool.{Bool, true, false, ◌||◌}
use native.Mathlib.Omega.{arith}
use native.Mathlib.Nat.{zero-add, add-zero, sub-zero}
use lib.Dec.{leb, ltb}
use borrow.Author.Tests.{ne_eqb, leb-true, le-leb, ltb-true, ltb-false, lt-ltb}
use Rattle.units.specs.Lists.{or_zero, is_zero}
use Rattle.units.proofs.Tests.{same_test}
use Rattle.orders.specs.declared.order.Kind.{Kind}
use Rattle.orders.specs.declared.order.Kind.TheVariants.{Displayed, NonDisplayed, MinimumQuantity, Reserve}
use Rattle.orders.specs.declared.order.Order.{Order}
use Rattle.orders.specs.Order.{Interest, interest, size_of, all_shares, less, refreshed, interest_by, interest_of, size_from, kind_from, with_interest, settled, is_resting}

-- two numbers are together as many as a third where one is as many as the other leaves of it
pub together_least : (n a b : ℕ) → leb (n - a) b ≡ leb n (a + b)
together_least n a b =
    same_test (leb (n - a) b) (leb n (a + b)) (λ e. le-leb n (a + b) (omega (arith, leb-true (n - a) b e)))
    (λ e. le-leb (n - a) b (omega (arith, leb-true n (a + b) e)))

-- a refresh shows hidden shares, and makes none
pub all_refreshed : (r : ℕ) (i : Interest) → all_shares (refreshed r i) ≡ all_shares i
all_refreshed r i = go (is_zero i.displayed)
  where
    go : (b : Bool)
        → i.displayed + or_zero b (min r i.non_displayed) + (i.non_displayed - or_zero b (min r i.non_displayed)) ≡ i.displayed + i.non_displayed
    go true = omega arith
    go false = omega arith

-- what is shown and hidden after it, where nothing was shown and where something was
pub refreshed_none : (r s h : ℕ) → s ≡ 0 → interest (min r h) (h - min r h) ≡ refreshed r (interest s h)
refreshed_none r s h e = rw (e, zero-add)

pub refreshed_some : (r s h : ℕ) → (s ≡ 0 → ⊥) → interest s h ≡ refreshed r (interest s h)
refreshed_some r s h e = rw (ne_eqb s 0 e, add-zero, sub-zero)

-- something is left of two numbers where something is left of one
left_some : (a b x y : ℕ) → (ltb x a || ltb y b) ≡ ltb 0 (a - x + (b - y))
left_some a b x y = go (ltb x a) refl
  where
    go : (t : Bool) → ltb x a ≡ t → (t || ltb y b) ≡ ltb 0 (a - x + (b - y))
    go true e = sym (lt-ltb 0 (a - x + (b - y)) (omega (arith, ltb-true x a e)))
    go false e =
        same_test (ltb y b) (ltb 0 (a - x + (b - y))) (λ f. lt-ltb 0 (a - x + (b - y)) (omega (arith, ltb-true y b f)))
        (λ f. lt-ltb y b (omega (arith, ltb-false x a e, ltb-true 0 (a - x + (b - y)) f)))

left_by : (k : Kind) (size : ℕ) (loss : Interest)
    → all_shares (interest_by (kind_from k (less (interest_by k size) loss)) (size_from k (less (interest_by k size) loss)))
    ≡ all_shares (less (interest_by k size) loss)
left_by Displayed size loss = omega arith
left_by NonDisplayed size loss = omega arith
left_by (MinimumQuantity m) size loss = omega arith
left_by (Reserve h r) size loss = all_refreshed r.0 (less (interest size h.0) loss)

-- an order has in all what the loss leaves of each visibility
pub all_settled : (loss : Interest) (o : Order) → all_shares (interest_of (settled loss o)) ≡ all_shares (less (interest_of o) loss)
unfolding settled with_interest
all_settled loss o = left_by o.kind (size_of o) loss

-- an order still rests where a loss leaves shares of one visibility
pub rests_settled : (o : Order) (shown hidden : ℕ)
    → (ltb shown (interest_of o).displayed || ltb hidden (interest_of o).non_displayed) ≡ is_resting (settled (interest shown hidden) o)
rests_settled o shown hidden =
    left_some (interest_of o).displayed (interest_of o).non_displayed shown hidden ∙ ap (ltb 0) (sym (all_settled (interest shown hidden) o))
