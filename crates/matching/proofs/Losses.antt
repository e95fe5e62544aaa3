-- What an order of the book afterwards comes of: an order at entry, and what it lost in the allocations.
use Prim.Native.Nat.{ℕ, ◌+◌, ◌<◌}
use mathlib.Core.Path.{◌≡◌, refl, sym, ap, ◌∙◌, subst⁻¹}
use mathlib.Core.Bool.{true}
use mathlib.Core.List.Memᴰ
use mathlib.Core.List.{List, [], ◌∷◌, map, Memᴰ}
use native.Mathlib.Omega.{arith}
use native.Mathlib.Nat.{zero-add, add-zero}
use lib.Dec.{ltb}
use lib.ListN.{length, length-map}
use borrow.Author.Tests.{eq-eqb, ne_eqb}
use Rattle.units.specs.Lists.{total, zip_with}
use Rattle.units.proofs.Tests.{and_true}
use Rattle.units.proofs.Members.{every_member}
use Rattle.orders.specs.declared.order.Order.{Order}
use Rattle.orders.specs.Order.{Visibility, shown, hidden, Interest, no_interest, shares_of, only_of, together}
use Rattle.book.specs.Sound.{rising}
use Rattle.matching.specs.Take.{Allocation, losses_of}
use Rattle.matching.proofs.Entries.{share_in, orders_above, absent, Aligned}
use Rattle.matching.proofs.Leftover.{lost}

-- an order and an entry stand at one place of two lists
pub data Beside {A : Type 0} : List Order → List A → Order → A → Type 0 where
  first : {o : Order} {os : List Order} {x : A} {xs : List A} → Beside (o ∷ os) (x ∷ xs) o x
  next : {p o : Order} {os : List Order} {y x : A} {xs : List A} → Beside os xs o x → Beside (p ∷ os) (y ∷ xs) o x

module _ {A : Type 0} where
  pub beside_member : {os : List Order} {xs : List A} {o : Order} {x : A} → Beside os xs o x → Memᴰ o os
  beside_member first = Memᴰ.head refl
  beside_member (next b) = Memᴰ.tail (beside_member b)

  -- where both are as long, an order has an entry beside it
  pub member_beside : (os : List Order) (xs : List A) → length xs ≡ length os → (o : Order) → Memᴰ o os → (x : A) × Beside os xs o x
  member_beside [] xs h o m = absurd (Memᴰ.not-nil m)
  member_beside (p ∷ os) [] h o m = absurd (omega arith)
  member_beside (p ∷ os) (x ∷ xs) h o (Memᴰ.head e) = (x, subst⁻¹ (λ (y : Order). Beside (p ∷ os) (x ∷ xs) y x) e first)
  member_beside (p ∷ os) (x ∷ xs) h o (Memᴰ.tail m) = let r = member_beside os xs (omega arith) o m in (r.0, next r.1)

  -- an order and its entry make an element of two lists put together
  pub beside_zip_member : {B : Type 0} (f : A → Order → B) {os : List Order} {xs : List A} {o : Order} {x : A} → Beside os xs o x → Memᴰ (f x o) (zip_with f xs os)
  beside_zip_member f first = Memᴰ.head refl
  beside_zip_member f (next b) = Memᴰ.tail (beside_zip_member f b)

  -- an element of two lists put together comes of an order and its entry
  pub zip_beside : {B : Type 0} (f : A → Order → B) (xs : List A) (os : List Order) (y : B) → Memᴰ y (zip_with f xs os)
      → (o : Order) × (x : A) × Beside os xs o x × (y ≡ f x o)
  zip_beside f [] os y m = absurd (Memᴰ.not-nil m)
  zip_beside f (x ∷ xs) [] y m = absurd (Memᴰ.not-nil m)
  zip_beside f (x ∷ xs) (o ∷ os) y (Memᴰ.head e) = (o, x, first, e)
  zip_beside f (x ∷ xs) (o ∷ os) y (Memᴰ.tail m) = let r = zip_beside f xs os y m in (r.0, r.1, next r.2, r.3)

  beside_same : {c x : A} (os : List Order) {o : Order} → Beside os (map (λ p. c) os) o x → x ≡ c
  beside_same {c = c} [] {o = o} x'' = elim x'' [ ]
  beside_same (o ∷ os) first = refl
  beside_same (o ∷ os) (next b) = beside_same os b

module _ {A B : Type 0} where
  beside_map : (f : A → B) {os : List Order} (xs : List A) {o : Order} {y : B} → Beside os (map f xs) o y → (x : A) × Beside os xs o x × (y ≡ f x)
  beside_map f {os = os} [] {o = o} {y = y} x' = elim x' [ ]
  beside_map f (x ∷ xs) first = (x, first, refl)
  beside_map f (x ∷ xs) (next b) = let r = beside_map f xs b in (r.0, next r.1, r.2)

module _ {A B C : Type 0} where
  beside_zip : (f : A → B → C) {os : List Order} (xs : List A) (ys : List B) {o : Order} {z : C} → Beside os (zip_with f xs ys) o z
      → (x : A) × (y : B) × Beside os xs o x × Beside os ys o y × (z ≡ f x y)
  beside_zip f {os = os} [] ys {o = o} {z = z} x' = elim x' [ ]
  beside_zip f {os = os} (x ∷ xs) [] {o = o} {z = z} x4 = elim x4 [ ]
  beside_zip f (x ∷ xs) (y ∷ ys) first = (x, y, first, first, refl)
  beside_zip f (x ∷ xs) (y ∷ ys) (next b) = let r = beside_zip f xs ys b in (r.0, r.1, next r.2, next r.3, r.4)

-- an entry is that of the order's number
beside_share_lem : (m : ℕ) {os : List Order} → rising m os ≡ true → {ns : List ℕ} {o : Order} {n : ℕ} → Beside os ns o n → share_in o.number os ns ≡ n
unfolding share_in
beside_share_lem m r (first {o = o} {os = os} {xs = ns}) =
    let a = and_true (ltb m o.number) (rising o.number os) r in
    rw (eq-eqb o.number o.number refl, absent o.number os (orders_above o.number os a.1) ns, add-zero)
beside_share_lem m r (next {p = p} {o = o} {os = os} b) =
    let a = and_true (ltb m p.number) (rising p.number os) r in
    let l = every_member (λ y. p.number < y.number) os (orders_above p.number os a.1) o (beside_member b) in
    rw (ne_eqb p.number o.number (λ e. omega arith), zero-add) (beside_share_lem p.number a.1 b)

shares_none : (v : Visibility) → shares_of v no_interest ≡ 0
shares_none shown = refl
shares_none hidden = refl

shares_together : (v : Visibility) (a b : Interest) → shares_of v (together a b) ≡ shares_of v a + shares_of v b
shares_together shown a b = refl
shares_together hidden a b = refl

-- the losses of an order are what it lost in each allocation
pub loss_shares : (os : List Order) → rising 0 os ≡ true → (rows : List Allocation) {o : Order} {l : Interest} → Beside os (losses_of os rows) o l
    → (v : Visibility) → shares_of v l ≡ total (lost os v o) rows
unfolding losses_of
loss_shares os r [] b v = ap (shares_of v) (beside_same os b) ∙ shares_none v
loss_shares os r (a ∷ rows) b v =
    let z = beside_zip together (map (only_of a.visibility) a.allotment) (losses_of os rows) b in
    let x = beside_map (only_of a.visibility) a.allotment z.2 in
    let n = beside_share_lem 0 r x.1 in
    let i = loss_shares os r rows z.3 v in
    rw (z.4, shares_together v z.0 z.1, x.2, ← n, i)

length_zip : {A B C : Type 0} (f : A → B → C) (xs : List A) (ys : List B) → length xs ≡ length ys → length (zip_with f xs ys) ≡ length ys
length_zip f [] [] h = refl
length_zip f [] (y ∷ ys) h = absurd (omega arith)
length_zip f (x ∷ xs) [] h = absurd (omega arith)
length_zip f (x ∷ xs) (y ∷ ys) h = omega (arith, length_zip f xs ys (omega arith))

-- there is one loss for each order
pub losses_aligned : (os : List Order) (rows : List Allocation) → Aligned os rows → length (losses_of os rows) ≡ length os
unfolding losses_of
losses_aligned os [] h = rw length-map
losses_aligned os (a ∷ rows) h =
    let i = losses_aligned os rows h.1 in
    length_zip together (map (only_of a.visibility) a.allotment) (losses_of os rows) (rw length-map (h.0 ∙ sym i)) ∙ i
