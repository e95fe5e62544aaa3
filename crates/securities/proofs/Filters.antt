-- Laws of filters: tests that look only at what a filter keeps, and filters of what is made of each element.
use mathlib.Core.Path.{◌≡◌, refl, ap}
use mathlib.Core.Bool.{Bool, true, false, ◌&&◌, ◌||◌}
use mathlib.Core.List.{List, [], ◌∷◌, map, Memᴰ}
use Rattle.units.specs.Lists.{all, any, filter, cons_if}

module _ {A : Type 0} (kept : A → Bool) (p : A → Bool) where
  -- whether any element passes a test that only those kept can pass
  pub any_kept : ((x : A) → kept x ≡ false → p x ≡ false) → (xs : List A) → any p xs ≡ any p (filter kept xs)
  any_kept h [] = refl
  any_kept h (x ∷ xs) = go (kept x) refl (any_kept h xs)
    where
      go : (b : Bool) → kept x ≡ b → any p xs ≡ any p (filter kept xs) → (p x || any p xs) ≡ any p (cons_if b x (filter kept xs))
      go true e i = ap (λ b. p x || b) i
      go false e i = rw (h x e) i

  -- whether all elements pass a test that the others pass
  pub all_kept : ((x : A) → kept x ≡ false → p x ≡ true) → (xs : List A) → all p xs ≡ all p (filter kept xs)
  all_kept h [] = refl
  all_kept h (x ∷ xs) = go (kept x) refl (all_kept h xs)
    where
      go : (b : Bool) → kept x ≡ b → all p xs ≡ all p (filter kept xs) → (p x && all p xs) ≡ all p (cons_if b x (filter kept xs))
      go true e i = ap (λ b. p x && b) i
      go false e i = rw (h x e) i

  -- the elements that pass a test that only those kept can pass
  pub filter_kept : ((x : A) → kept x ≡ false → p x ≡ false) → (xs : List A) → filter p xs ≡ filter p (filter kept xs)
  filter_kept h [] = refl
  filter_kept h (x ∷ xs) = go (kept x) refl (filter_kept h xs)
    where
      go : (b : Bool) → kept x ≡ b → filter p xs ≡ filter p (filter kept xs) → cons_if (p x) x (filter p xs) ≡ filter p (cons_if b x (filter kept xs))
      go true e i = ap (cons_if (p x) x) i
      go false e i = rw (h x e) i

  -- of two filters either may come first
  pub filter_swap : (xs : List A) → filter kept (filter p xs) ≡ filter p (filter kept xs)
  filter_swap [] = refl
  filter_swap (x ∷ xs) = go (kept x) (p x) refl refl (filter_swap xs)
    where
      go : (a b : Bool) → kept x ≡ a → p x ≡ b → filter kept (filter p xs) ≡ filter p (filter kept xs)
          → filter kept (cons_if b x (filter p xs)) ≡ filter p (cons_if a x (filter kept xs))
      go true true e f i = rw (e, f) (ap (λ l. x ∷ l) i)
      go true false e f i = rw f i
      go false true e f i = rw e i
      go false false e f i = i

module _ {A B : Type 0} where
  -- a filter of what is made of each element, by a test that says the same of the element
  pub filter_map : (p : B → Bool) (q : A → Bool) (f : A → B) (xs : List A) → ((x : A) → Memᴰ x xs → p (f x) ≡ q x)
      → filter p (map f xs) ≡ map f (filter q xs)
  filter_map p q f [] h = refl
  filter_map p q f (x ∷ xs) h = rw (h x (Memᴰ.head refl)) (go (q x) (filter_map p q f xs (λ y m. h y (Memᴰ.tail m))))
    where
      go : (b : Bool) → filter p (map f xs) ≡ map f (filter q xs) → cons_if b (f x) (filter p (map f xs)) ≡ map f (cons_if b x (filter q xs))
      go true i = ap (λ l. f x ∷ l) i
      go false i = i
