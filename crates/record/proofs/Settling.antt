-- What an order keeps when it loses shares, and what it has left.
use Prim.Native.Nat.{ℕ, zero, suc, ◌-◌, ◌≤◌, ◌<◌, min}
use mathlib.Core.Path.{◌≡◌, refl, sym, ap, ◌∙◌}
use mathlib.Core.Bool.{true, false, true≢false}
use native.Mathlib.Omega.{arith}
use native.Mathlib.Nat.{sub-zero}
use borrow.Author.Tests.{ltb-true, lt-ltb}
use Rattle.units.specs.Lists.{or_zero, is_zero}
use Rattle.orders.specs.declared.order.Kind.{Kind}
use Rattle.orders.specs.declared.order.Kind.TheVariants.{Displayed, NonDisplayed, MinimumQuantity, Reserve}
use Rattle.orders.specs.declared.order.Order.{Order}
use Rattle.orders.specs.Order.{minimum_of, hidden_of, refresh_of, is_displayed, is_minimum_quantity, is_reserve, size_of}
use Rattle.orders.specs.Order.{Interest, interest, no_interest, all_shares, less, interest_by, interest_of, refreshed, size_from, kind_from, with_interest, settled, is_resting}
use Rattle.orders.proofs.Interests.{refreshed_some}
use Rattle.record.proofs.Orders.{OrderSound, OrderFacts, order_facts, facts_order}

module _ (loss : Interest) (o : Order) where
  -- an order keeps its side
  pub settled_side : (settled loss o).side ≡ o.side
  unfolding settled with_interest
  settled_side = refl

  -- its number
  pub settled_number : (settled loss o).number ≡ o.number
  unfolding settled with_interest
  settled_number = refl

  -- its price
  pub settled_price : (settled loss o).price ≡ o.price
  unfolding settled with_interest
  settled_price = refl

  -- its setter mark
  pub settled_setter : (settled loss o).setter ≡ o.setter
  unfolding settled with_interest
  settled_setter = refl

  -- its security
  pub settled_security : (settled loss o).security ≡ o.security
  unfolding settled with_interest
  settled_security = refl

  -- whether it is displayed
  pub settled_displayed : is_displayed (settled loss o).kind ≡ is_displayed o.kind
  unfolding settled with_interest
  settled_displayed = go o.kind
    where
      go : (k : Kind) → is_displayed (kind_from k (less (interest_by k (size_of o)) loss)) ≡ is_displayed k
      go Displayed = refl
      go NonDisplayed = refl
      go (MinimumQuantity m) = refl
      go (Reserve h r) = refl

  -- whether it is a minimum quantity order
  pub settled_minimum_quantity : is_minimum_quantity (settled loss o).kind ≡ is_minimum_quantity o.kind
  unfolding settled with_interest
  settled_minimum_quantity = go o.kind
    where
      go : (k : Kind) → is_minimum_quantity (kind_from k (less (interest_by k (size_of o)) loss)) ≡ is_minimum_quantity k
      go Displayed = refl
      go NonDisplayed = refl
      go (MinimumQuantity m) = refl
      go (Reserve h r) = refl

  -- whether it is a reserve order, and its refresh size
  pub settled_reserve : is_reserve (settled loss o).kind ≡ is_reserve o.kind
  unfolding settled with_interest
  settled_reserve = go o.kind
    where
      go : (k : Kind) → is_reserve (kind_from k (less (interest_by k (size_of o)) loss)) ≡ is_reserve k
      go Displayed = refl
      go NonDisplayed = refl
      go (MinimumQuantity m) = refl
      go (Reserve h r) = refl

  pub settled_refresh : refresh_of (settled loss o).kind ≡ refresh_of o.kind
  unfolding settled with_interest
  settled_refresh = go o.kind
    where
      go : (k : Kind) → refresh_of (kind_from k (less (interest_by k (size_of o)) loss)) ≡ refresh_of k
      go Displayed = refl
      go NonDisplayed = refl
      go (MinimumQuantity m) = refl
      go (Reserve h r) = refl

  -- a minimum above its new size becomes the new size
  pub settled_minimum : minimum_of (settled loss o).kind ≡ min (minimum_of o.kind) (size_of (settled loss o))
  unfolding settled with_interest
  settled_minimum = go o.kind
    where
      go : (k : Kind)
          → minimum_of (kind_from k (less (interest_by k (size_of o)) loss)) ≡ min (minimum_of k) (size_from k (less (interest_by k (size_of o)) loss))
      go Displayed = omega arith
      go NonDisplayed = omega arith
      go (MinimumQuantity m) = refl
      go (Reserve h r) = omega arith

  -- an order that isn't a reserve order has what the loss leaves of its size
  pub settled_size : is_reserve o.kind ≡ false → size_of (settled loss o) ≡ size_of o - size_from o.kind loss
  unfolding settled with_interest
  settled_size = go o.kind
    where
      go : (k : Kind) → is_reserve k ≡ false → size_from k (less (interest_by k (size_of o)) loss) ≡ size_of o - size_from k loss
      go Displayed e = refl
      go NonDisplayed e = refl
      go (MinimumQuantity m) e = refl
      go (Reserve h r) e = absurd (true≢false e)

  -- it hides no more than before
  pub settled_hidden : hidden_of (settled loss o).kind ≤ hidden_of o.kind
  unfolding settled with_interest
  settled_hidden = go o.kind
    where
      go : (k : Kind) → hidden_of (kind_from k (less (interest_by k (size_of o)) loss)) ≤ hidden_of k
      go Displayed = omega arith
      go NonDisplayed = omega arith
      go (MinimumQuantity m) = omega arith
      go (Reserve h r) = fewer (or_zero (is_zero (size_of o - loss.displayed)) (min r.0 (h.0 - loss.non_displayed)))
        where
          fewer : (n : ℕ) → h.0 - loss.non_displayed - n ≤ h.0
          fewer n = omega arith

  -- its size is within its range where it still has shares
  pub settled_range : OrderFacts o → is_resting (settled loss o) ≡ true → (1 ≤ size_of (settled loss o)) × (size_of (settled loss o) ≤ 999999)
  unfolding settled with_interest
  settled_range f e = go o.kind f.refresh_least f.hidden_most (ltb-true 0 (all_shares (interest_of (settled loss o))) e)
    where
      small : ℕ
      small = size_of o

      go : (k : Kind) → (is_reserve k ≡ true → 1 ≤ refresh_of k) → hidden_of k ≤ 999999
          → 0 < all_shares (interest_by (kind_from k (less (interest_by k small) loss)) (size_from k (less (interest_by k small) loss)))
          → (1 ≤ size_from k (less (interest_by k small) loss)) × (size_from k (less (interest_by k small) loss) ≤ 999999)
      go Displayed l m p = let q = f.size_most in (omega arith, omega arith)
      go NonDisplayed l m p = let q = f.size_most in (omega arith, omega arith)
      go (MinimumQuantity n) l m p = let q = f.size_most in (omega arith, omega arith)
      go (Reserve h r) l m p = last (small - loss.displayed) (h.0 - loss.non_displayed) (omega (arith, f.size_most)) (omega arith) (l refl) p
        where
          last : (a b : ℕ) → a ≤ 999999 → b ≤ 999999 → 1 ≤ r.0 → 0 < all_shares (refreshed r.0 (interest a b))
              → (1 ≤ (refreshed r.0 (interest a b)).displayed) × ((refreshed r.0 (interest a b)).displayed ≤ 999999)
          last zero b x y z w = (omega arith, omega arith)
          last (suc a) b x y z w =
              let e : suc a ≡ (refreshed r.0 (interest (suc a) b)).displayed = ap (λ i. i.displayed) (refreshed_some r.0 (suc a) b (λ q. omega arith)) in
              (omega (arith, e), omega (arith, e))

  -- a sound order that still rests is sound
  pub settled_sound : OrderSound o → is_resting (settled loss o) ≡ true → OrderSound (settled loss o)
  settled_sound e r =
      let h = order_facts o e in
      let z = settled_range h r in
      let m = settled_minimum in
      facts_order (settled loss o) record {
        number_least = omega (arith, settled_number);
        number_most = omega (arith, settled_number);
        price_least = omega (arith, ap (λ p. p.0) settled_price);
        price_most = omega (arith, ap (λ p. p.0) settled_price);
        size_least = z.0;
        size_most = z.1;
        minimum_least = λ q. let l = h.minimum_least (sym settled_minimum_quantity ∙ q) in omega (arith, z.0);
        minimum_most = omega arith;
        marked = λ q. settled_displayed ∙ h.marked (sym settled_setter ∙ q);
        hidden_most = omega (arith, settled_hidden, h.hidden_most);
        refresh_least = λ q. rw settled_refresh (h.refresh_least (sym settled_reserve ∙ q));
        refresh_most = rw settled_refresh h.refresh_most;
        security_most = rw settled_security h.security_most;
      }

-- a sound order has shares
pub sound_rests : (o : Order) → OrderSound o → is_resting o ≡ true
sound_rests o e = lt-ltb 0 (all_shares (interest_of o)) (go o.kind (order_facts o e).size_least)
  where
    go : (k : Kind) → 1 ≤ size_of o → 0 < all_shares (interest_by k (size_of o))
    go Displayed l = omega arith
    go NonDisplayed l = omega arith
    go (MinimumQuantity m) l = omega arith
    go (Reserve h r) l = omega arith

-- what loses nothing shows what it showed
same_shown : (r n h : ℕ) → 1 ≤ n → refreshed r (less (interest n h) no_interest) ≡ interest n h
same_shown r n h l = rw (sub-zero n, sub-zero h) (sym (refreshed_some r n h (λ e. omega arith)))

same_size : (k : Kind) (size : ℕ) → 1 ≤ size → size_from k (less (interest_by k size) no_interest) ≡ size
same_size Displayed size l = sub-zero size
same_size NonDisplayed size l = sub-zero size
same_size (MinimumQuantity m) size l = sub-zero size
same_size (Reserve h r) size l = ap (λ i. i.displayed) (same_shown r.0 size h.0 l)

same_kind : (k : Kind) (size : ℕ) → 1 ≤ size → minimum_of k ≤ size → kind_from k (less (interest_by k size) no_interest) ≡ k
same_kind Displayed size l h = refl
same_kind NonDisplayed size l h = refl
same_kind (MinimumQuantity m) size l h = let e : min m.0 (size - 0) ≡ m.0 = omega arith in rw e
same_kind (Reserve b r) size l h = ap (λ n. Reserve (record { 0 = n }) r) (ap (λ i. i.non_displayed) (same_shown r.0 size b.0 l))

-- a sound order that loses nothing stays as it is
pub settled_nothing : (o : Order) → OrderSound o → settled no_interest o ≡ o
unfolding settled with_interest
settled_nothing o e =
    let f = order_facts o e in
    rw (same_size o.kind (size_of o) f.size_least, same_kind o.kind (size_of o) f.size_least f.minimum_most)
