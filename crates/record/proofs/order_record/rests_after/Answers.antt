-- `record::order_record::rests_after` meets its contract: shares of one visibility are left.
use Prim.Native.Nat.{ℕ}
use mathlib.Core.Path.{◌≡◌, refl, sym, ◌∙◌}
use mathlib.Core.Bool.{true, false, ◌||◌, true≢false, false≢true}
use native.Mathlib.Omega.{arith}
use borrow.Author.Tests.{le-ltb}
use lib.Dec.{ltb}
use Rattle.orders.specs.declared.order.Kind.{Kind}
use Rattle.orders.specs.declared.order.Kind.TheVariants.{Displayed, NonDisplayed, MinimumQuantity, Reserve}
use Rattle.orders.specs.Order.{is_displayed, hidden_of, size_of, interest_by}
use Rattle.orders.proofs.KindTests.{number_displayed}
use Rattle.orders.proofs.Interests.{rests_settled}
use Rattle.record.specs.Record.{numbers_of}
use Rattle.record.proofs.order_record.rests_after.Goals as goal

module _ (size shown hidden : ℕ) where
  -- of a kind that counts as displayed, and of another
  shown_left : (k : Kind) → is_displayed k ≡ true
      → (ltb shown size || ltb hidden (hidden_of k)) ≡ (ltb shown (interest_by k size).displayed || ltb hidden (interest_by k size).non_displayed)
  shown_left Displayed e = refl
  shown_left NonDisplayed e = absurd (false≢true e)
  shown_left (MinimumQuantity m) e = absurd (false≢true e)
  shown_left (Reserve h r) e = refl

  other_left : (k : Kind) → is_displayed k ≡ false
      → ltb hidden size ≡ (ltb shown (interest_by k size).displayed || ltb hidden (interest_by k size).non_displayed)
  other_left Displayed e = absurd (true≢false e)
  other_left NonDisplayed e = rw (le-ltb shown 0 (omega arith))
  other_left (MinimumQuantity m) e = rw (le-ltb shown 0 (omega arith))
  other_left (Reserve h r) e = absurd (true≢false e)

pub returns-then-not-is_displayed : goal.returns-then-not-is_displayed
unfolding numbers_of
returns-then-not-is_displayed c =
    λ o e.
    let k : is_displayed o.kind ≡ c.is_displayed.result = sym (number_displayed o.kind) ∙ sym (rw e at (c.is_displayed.ensures 0 0 0)) in
    rw e (other_left (size_of o) _ _ o.kind (k ∙ c.if-not-is_displayed.true) ∙ rests_settled o _ _)

pub returns : goal.returns
unfolding numbers_of
returns c =
    λ o e.
    let k : is_displayed o.kind ≡ c.is_displayed.result = sym (number_displayed o.kind) ∙ sym (rw e at (c.is_displayed.ensures 0 0 0)) in
    rw e (shown_left (size_of o) _ _ o.kind (k ∙ c.if-not-is_displayed.false) ∙ rests_settled o _ _)
