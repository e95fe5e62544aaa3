-- Laws of totals, and of lists made number by number.
use Prim.Native.Nat.{ℕ, ◌+◌, ◌*◌, ◌≤◌}
use mathlib.Core.Path.{◌≡◌, refl, sym, ap, ◌∙◌, subst⁻¹}
use mathlib.Core.Bool.{Bool, true, false}
use mathlib.Core.List.Memᴰ
use mathlib.Core.List.{List, [], ◌∷◌, ◌++◌, map, append-nil, append_assoc, Memᴰ}
use native.Mathlib.Omega.{arith}
use native.Mathlib.Nat.{zero-add, add_comm, zero-mul, mul-zero, mul-suc, add-mul}
use lib.ListN.{length, length-append}
use Rattle.units.specs.Lists.{total, flat_map, zip_with, cons_if, filter}

module _ {A : Type 0} where
  pub total_append : (f : A → ℕ) (xs ys : List A) → total f (xs ++ ys) ≡ total f xs + total f ys
  total_append f [] ys = sym (zero-add (total f ys))
  total_append f (x ∷ xs) ys = omega (arith, total_append f xs ys)

  pub total_add : (f g : A → ℕ) (xs : List A) → total (λ x. f x + g x) xs ≡ total f xs + total g xs
  total_add f g [] = refl
  total_add f g (x ∷ xs) = omega (arith, total_add f g xs)

  pub total_mul : (f : A → ℕ) (k : ℕ) (xs : List A) → total f xs * k ≡ total (λ x. f x * k) xs
  total_mul f k [] = zero-mul k
  total_mul f k (x ∷ xs) = add-mul (f x) (total f xs) k ∙ ap (λ n. f x * k + n) (total_mul f k xs)

  -- no more at any member
  pub total_le : {f g : A → ℕ} (xs : List A) → ((x : A) → Memᴰ x xs → f x ≤ g x) → total f xs ≤ total g xs
  total_le [] h = omega arith
  total_le (x ∷ xs) h = omega (arith, h x (Memᴰ.head refl), total_le xs (λ y m. h y (Memᴰ.tail m)))

  pub total_none : (xs : List A) → total (λ x. 0) xs ≡ 0
  total_none [] = refl
  total_none (x ∷ xs) = omega (arith, total_none xs)

  -- equal at every member
  pub total_same : {f g : A → ℕ} (xs : List A) → ((x : A) → Memᴰ x xs → f x ≡ g x) → total f xs ≡ total g xs
  total_same [] h = refl
  total_same (x ∷ xs) h = omega (arith, h x (Memᴰ.head refl), total_same xs (λ y m. h y (Memᴰ.tail m)))

  -- a total that is no more at any member, and is reached, is reached at each
  pub total_full : {f g : A → ℕ} (xs : List A) → ((x : A) → Memᴰ x xs → f x ≤ g x) → total g xs ≤ total f xs → (x : A) → Memᴰ x xs → f x ≡ g x
  total_full [] h e x m = absurd (Memᴰ.not-nil m)
  total_full {f} {g} (y ∷ ys) h e x (Memᴰ.head k) =
      let a = h y (Memᴰ.head refl) in
      let b = total_le ys (λ z m. h z (Memᴰ.tail m)) in
      let c : f y ≡ g y = omega arith in
      subst⁻¹ (λ (z : A). f z ≡ g z) k c
  total_full (y ∷ ys) h e x (Memᴰ.tail k) = let a = h y (Memᴰ.head refl) in total_full ys (λ z m. h z (Memᴰ.tail m)) (omega arith) x k

  -- a member's number is in the total
  pub total_member : (f : A → ℕ) (xs : List A) (x : A) → Memᴰ x xs → f x ≤ total f xs
  total_member f [] x m = absurd (Memᴰ.not-nil m)
  total_member f (y ∷ ys) x (Memᴰ.head k) = omega (arith, ap f k)
  total_member f (y ∷ ys) x (Memᴰ.tail k) = omega (arith, total_member f ys x k)

module _ {A B : Type 0} where
  -- equal at every member
  pub map_same : {f g : A → B} (xs : List A) → ((x : A) → Memᴰ x xs → f x ≡ g x) → map f xs ≡ map g xs
  map_same [] h = refl
  map_same (x ∷ xs) h = rw (h x (Memᴰ.head refl), map_same xs (λ y m. h y (Memᴰ.tail m)))

  -- lists of the elements of two lists, one behind the other
  pub flat_append : (f : A → List B) (xs ys : List A) → flat_map f (xs ++ ys) ≡ flat_map f xs ++ flat_map f ys
  flat_append f [] ys = refl
  flat_append f (x ∷ xs) ys = rw (flat_append f xs ys) (sym (append_assoc (f x) (flat_map f xs) (flat_map f ys)))

  -- the list of one element more
  pub flat_last : (f : A → List B) (xs : List A) (x : A) → flat_map f (xs ++ (x ∷ [])) ≡ flat_map f xs ++ f x
  flat_last f xs x = flat_append f xs (x ∷ []) ∙ ap (λ l. flat_map f xs ++ l) (append-nil (f x))

  -- lists of one length, one behind another
  pub length_flat : (f : A → List B) (w : ℕ) → ((x : A) → length (f x) ≡ w) → (xs : List A) → length (flat_map f xs) ≡ w * length xs
  length_flat f w h [] = sym (mul-zero w)
  length_flat f w h (x ∷ xs) =
      length-append (f x) (flat_map f xs) ∙ rw (h x, length_flat f w h xs, mul-suc w (length xs)) (add_comm w (w * length xs))

  -- over lists one behind another
  pub total_flat : (f : B → ℕ) (g : A → List B) (xs : List A) → total f (flat_map g xs) ≡ total (λ x. total f (g x)) xs
  total_flat f g [] = refl
  total_flat f g (x ∷ xs) = omega (arith, total_append f (g x) (flat_map g xs), total_flat f g xs)

  pub total_map : (f : B → ℕ) (g : A → B) (xs : List A) → total f (map g xs) ≡ total (λ x. f (g x)) xs
  total_map f g [] = refl
  total_map f g (x ∷ xs) = ap (λ n. f (g x) + n) (total_map f g xs)

-- an element that may come in front of two lists comes in front of the first
pub cons_append : {A : Type 0} (b : Bool) (x : A) (xs ys : List A) → cons_if b x (xs ++ ys) ≡ cons_if b x xs ++ ys
cons_append true x xs ys = refl
cons_append false x xs ys = refl

-- those of two lists that pass a test, one list behind the other
pub filter_append : {A : Type 0} (p : A → Bool) (xs ys : List A) → filter p (xs ++ ys) ≡ filter p xs ++ filter p ys
filter_append p [] ys = refl
filter_append p (x ∷ xs) ys = ap (cons_if (p x) x) (filter_append p xs ys) ∙ cons_append (p x) x (filter p xs) (filter p ys)

module _ {A B C : Type 0} where
  pub zip_map : (f : B → C → ℕ) (g : A → B) (h : A → C) (xs : List A) → zip_with f (map g xs) (map h xs) ≡ map (λ x. f (g x) (h x)) xs
  zip_map f g h [] = refl
  zip_map f g h (x ∷ xs) = ap (λ l. f (g x) (h x) ∷ l) (zip_map f g h xs)
