-- Tests and lists that are the same at every element of a list.
use mathlib.Core.Path.{◌≡◌, refl, ap₂}
use mathlib.Core.Bool.{Bool, ◌&&◌, ◌||◌}
use mathlib.Core.List.{List, [], ◌∷◌, ◌++◌, Memᴰ}
use Rattle.units.specs.Lists.{all, any, filter, flat_map}

module _ {A : Type 0} where
  -- whether any passes
  pub any_same : {p q : A → Bool} (xs : List A) → ((x : A) → Memᴰ x xs → p x ≡ q x) → any p xs ≡ any q xs
  any_same [] h = refl
  any_same (x ∷ xs) h = ap₂ ◌||◌ (h x (Memᴰ.head refl)) (any_same xs (λ y m. h y (Memᴰ.tail m)))

  -- whether all pass
  pub all_same : {p q : A → Bool} (xs : List A) → ((x : A) → Memᴰ x xs → p x ≡ q x) → all p xs ≡ all q xs
  all_same [] h = refl
  all_same (x ∷ xs) h = ap₂ ◌&&◌ (h x (Memᴰ.head refl)) (all_same xs (λ y m. h y (Memᴰ.tail m)))

  -- those that pass
  pub filter_same : {p q : A → Bool} (xs : List A) → ((x : A) → Memᴰ x xs → p x ≡ q x) → filter p xs ≡ filter q xs
  filter_same [] h = refl
  filter_same (x ∷ xs) h = rw (h x (Memᴰ.head refl), filter_same xs (λ y m. h y (Memᴰ.tail m)))

  -- lists of them, one behind another
  pub flat_same : {B : Type 0} {f g : A → List B} (xs : List A) → ((x : A) → Memᴰ x xs → f x ≡ g x) → flat_map f xs ≡ flat_map g xs
  flat_same [] h = refl
  flat_same (x ∷ xs) h = ap₂ ◌++◌ (h x (Memᴰ.head refl)) (flat_same xs (λ y m. h y (Memᴰ.tail m)))
