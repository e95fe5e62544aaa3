-- What each order loses by allocations: what they give it of each visibility.
use Prim.Native.Nat.{ℕ, zero, suc, ◌+◌, ◌-◌, ◌≤◌, ◌<◌}
use mathlib.Core.Path.{◌≡◌, refl, sym, ap, ap₂, ◌∙◌}
use mathlib.Core.List.{List, [], ◌∷◌, map}
use native.Mathlib.Omega.{arith}
use lib.ListN.{length, get_or, take, length-map, get_or-map}
use lib.Seq.{length-take-le, get_or-take}
use Rattle.units.specs.Lists.{zip_with}
use Rattle.orders.specs.declared.order.Order.{Order}
use Rattle.orders.specs.declared.order.Taker.{Taker}
use Rattle.orders.specs.Order.{Visibility, shown, hidden, Interest, interest, no_interest, shares_of, only_of, together}
use Rattle.orders.specs.Losses.{losses_in}
use Rattle.matching.specs.declared.Algorithm.{Algorithm}
use Rattle.matching.specs.Take.{Allocation, used, allocation_at, losses_of}
use Rattle.matching.proofs.Entries.{Aligned}
use Rattle.matching.proofs.Parts.{allotted}
use Rattle.allocation.proofs.Along.{Cell, along}

module _ {A B C : Type 0} (f : A → B → C) where
  -- lists side by side, at a place
  get_zip : (xs : List A) (ys : List B) (j : ℕ) (x : A) (y : B) (z : C) → j < length xs → j < length ys
      → get_or (zip_with f xs ys) j z ≡ f (get_or xs j x) (get_or ys j y)
  get_zip [] ys j x y z h k = absurd (omega arith)
  get_zip (a ∷ xs) [] j x y z h k = absurd (omega arith)
  get_zip (a ∷ xs) (b ∷ ys) zero x y z h k = refl
  get_zip (a ∷ xs) (b ∷ ys) (suc j) x y z h k = get_zip xs ys j x y z (omega arith) (omega arith)

  length_zip : (xs : List A) (ys : List B) → length xs ≡ length ys → length (zip_with f xs ys) ≡ length ys
  length_zip [] [] e = refl
  length_zip [] (y ∷ ys) e = absurd (omega arith)
  length_zip (x ∷ xs) [] e = absurd (omega arith)
  length_zip (x ∷ xs) (y ∷ ys) e = ap suc (length_zip xs ys (omega arith))

-- lists with the same at each place
same_places : (xs ys : List Interest) → length xs ≡ length ys → ((j : ℕ) → j < length xs → get_or xs j no_interest ≡ get_or ys j no_interest) → xs ≡ ys
same_places [] [] e h = refl
same_places [] (y ∷ ys) e h = absurd (omega arith)
same_places (x ∷ xs) [] e h = absurd (omega arith)
same_places (x ∷ xs) (y ∷ ys) e h = ap₂ ◌∷◌ (h 0 (omega arith)) (same_places xs ys (omega arith) (λ j l. h (suc j) (omega arith)))

-- what allocations take from the order at a place
abbrev pub loss_at : List Allocation → ℕ → Interest
loss_at [] j = no_interest
loss_at (a ∷ rows) j = together (only_of a.visibility (get_or a.allotment j 0)) (loss_at rows j)

-- the shares of a visibility of two interests together
pub shares_both : (v : Visibility) (a b : Interest) → shares_of v (together a b) ≡ shares_of v a + shares_of v b
shares_both shown a b = refl
shares_both hidden a b = refl

module _ (os : List Order) where
  losses_long : (rows : List Allocation) → Aligned os rows → length (losses_of os rows) ≡ length os
  unfolding losses_of
  losses_long [] a = length-map os (λ o. no_interest)
  losses_long (r ∷ rows) a =
      let l = losses_long rows a.1 in
      length_zip together (map (only_of r.visibility) r.allotment) (losses_of os rows)
      (length-map r.allotment (only_of r.visibility) ∙ a.0 ∙ sym l) ∙ l

  losses_at : (rows : List Allocation) → Aligned os rows → (j : ℕ) → j < length os → get_or (losses_of os rows) j no_interest ≡ loss_at rows j
  unfolding losses_of
  losses_at [] a j h = none os j
    where
      none : (xs : List Order) (k : ℕ) → get_or (map (λ o. no_interest) xs) k no_interest ≡ no_interest
      none [] k = refl
      none (x ∷ xs) zero = refl
      none (x ∷ xs) (suc k) = none xs k
  losses_at (r ∷ rows) a j h =
      let v = only_of r.visibility in
      get_zip together (map v r.allotment) (losses_of os rows) j (v 0) no_interest no_interest (omega (arith, length-map r.allotment v, a.0))
      (omega (arith, losses_long rows a.1))
      ∙ ap₂ together (get_or-map v r.allotment j 0) (losses_at rows a.1 j h)

module _ (lot : ℕ) (alg : Algorithm) (t : Taker) (os : List Order) where
  aligned_along : (cs : List Cell) (left : ℕ) → Aligned os (along lot alg t os cs left)
  unfolding along
  aligned_along [] left = tt
  aligned_along (c ∷ cs) left =
      (rw (allotted lot alg t os c.0 c.1 left, length-map, length-map), aligned_along cs (left - used (allocation_at lot alg t os c.0 c.1 left)))

  -- the orders lose what the allocations give them of each visibility
  pub losses_are : (cs : List Cell) (left : ℕ) (ss hs : List ℕ) → length os ≤ length ss → length os ≤ length hs
      → ((j : ℕ) → j < length os → loss_at (along lot alg t os cs left) j ≡ interest (get_or ss j 0) (get_or hs j 0))
      → losses_of os (along lot alg t os cs left) ≡ losses_in (length os) ss hs
  losses_are cs left ss hs l m e =
      let rows = along lot alg t os cs left in
      let a = aligned_along cs left in
      let x = length-take-le (length os) ss l in
      let y = length-take-le (length os) hs m in
      let long = losses_long os rows a in
      same_places (losses_of os rows) (losses_in (length os) ss hs)
      (long ∙ sym (length_zip interest (take (length os) ss) (take (length os) hs) (x ∙ sym y) ∙ y))
      (λ j h.
      let k : j < length os = omega (arith, long) in
      losses_at os rows a j k
      ∙ e j k
      ∙ sym (get_zip interest (take (length os) ss) (take (length os) hs) j 0 0 no_interest (omega (arith, x)) (omega (arith, y))
      ∙ ap₂ interest (get_or-take (length os) ss j 0 k) (get_or-take (length os) hs j 0 k)))
