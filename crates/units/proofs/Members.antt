-- What holds of every element of a list, and tests over lists as facts about members.
use Prim.Native.Nat.{ℕ, zero, suc, ◌≤◌, ◌<◌}
use mathlib.Core.Path.{◌≡◌, refl, sym, ap, ◌∙◌, subst⁻¹}
use mathlib.Core.Bool.{Bool, true, false, ◌&&◌, ◌||◌, and_assoc, true≢false, false≢true}
use mathlib.Core.List.Memᴰ
use mathlib.Core.List.{List, [], ◌∷◌, ◌++◌, Memᴰ}
use native.Mathlib.Omega.{arith}
use lib.ListN.{length, get_or}
use Rattle.units.specs.Lists.{all, any, filter, cons_if, flat_map}
use Rattle.units.proofs.Tests.{and_true, or_false, or_true}

module _ {A : Type 0} where
  -- a fact of every element
  abbrev pub Every : (A → Type 0) → List A → Type 0
  Every P [] = Unit {0}
  Every P (x ∷ xs) = P x × Every P xs

  pub every_member : (P : A → Type 0) (xs : List A) → Every P xs → (x : A) → Memᴰ x xs → P x
  every_member P [] e x m = absurd (Memᴰ.not-nil m)
  every_member P (y ∷ ys) e x (Memᴰ.head k) = subst⁻¹ P k e.0
  every_member P (y ∷ ys) e x (Memᴰ.tail k) = every_member P ys e.1 x k

  pub member_every : (P : A → Type 0) (xs : List A) → ((x : A) → Memᴰ x xs → P x) → Every P xs
  member_every P [] h = tt
  member_every P (x ∷ xs) h = (h x (Memᴰ.head refl), member_every P xs (λ y m. h y (Memᴰ.tail m)))

  pub every_weaken : {P Q : A → Type 0} → ((x : A) → P x → Q x) → (xs : List A) → Every P xs → Every Q xs
  every_weaken h [] e = tt
  every_weaken h (x ∷ xs) e = (h x e.0, every_weaken h xs e.1)

  pub every_both : {P Q R : A → Type 0} → ((x : A) → P x → Q x → R x) → (xs : List A) → Every P xs → Every Q xs → Every R xs
  every_both h [] e f = tt
  every_both h (x ∷ xs) e f = (h x e.0 f.0, every_both h xs e.1 f.1)

  -- of two lists, one behind the other
  pub every_append : (P : A → Type 0) (xs ys : List A) → Every P xs → Every P ys → Every P (xs ++ ys)
  every_append P [] ys e f = f
  every_append P (x ∷ xs) ys e f = (e.0, every_append P xs ys e.1 f)

  pub every_split : (P : A → Type 0) (xs ys : List A) → Every P (xs ++ ys) → Every P xs × Every P ys
  every_split P [] ys e = (tt, e)
  every_split P (x ∷ xs) ys e = let h = every_split P xs ys e.1 in ((e.0, h.0), h.1)

  pub all_append : (p : A → Bool) (xs ys : List A) → all p (xs ++ ys) ≡ (all p xs && all p ys)
  all_append p [] ys = refl
  all_append p (x ∷ xs) ys = ap (λ b. p x && b) (all_append p xs ys) ∙ sym (and_assoc (p x) (all p xs) (all p ys))

  pub all_member : (p : A → Bool) (xs : List A) → all p xs ≡ true → (x : A) → Memᴰ x xs → p x ≡ true
  all_member p [] e x m = absurd (Memᴰ.not-nil m)
  all_member p (y ∷ ys) e x (Memᴰ.head k) = ap p k ∙ (and_true (p y) (all p ys) e).0
  all_member p (y ∷ ys) e x (Memᴰ.tail k) = all_member p ys (and_true (p y) (all p ys) e).1 x k

  pub any_member : (p : A → Bool) (xs : List A) (x : A) → Memᴰ x xs → p x ≡ true → any p xs ≡ true
  any_member p [] x m e = absurd (Memᴰ.not-nil m)
  any_member p (y ∷ ys) x (Memᴰ.head k) e = rw (ap p (sym k) ∙ e)
  any_member p (y ∷ ys) x (Memᴰ.tail k) e = or_true (p y) (any_member p ys x k e)

  pub none_member : (p : A → Bool) (xs : List A) → any p xs ≡ false → (x : A) → Memᴰ x xs → p x ≡ false
  none_member p [] e x m = absurd (Memᴰ.not-nil m)
  none_member p (y ∷ ys) e x (Memᴰ.head k) = ap p k ∙ (or_false (p y) (any p ys) e).0
  none_member p (y ∷ ys) e x (Memᴰ.tail k) = none_member p ys (or_false (p y) (any p ys) e).1 x k

  pub member_any : (p : A → Bool) (xs : List A) → any p xs ≡ true → (x : A) × Memᴰ x xs × (p x ≡ true)
  member_any p [] e = absurd (false≢true e)
  member_any p (x ∷ xs) e = go (p x) refl e (λ f. member_any p xs f)
    where
      go : (b : Bool) → p x ≡ b → (b || any p xs) ≡ true → (any p xs ≡ true → (y : A) × Memᴰ y xs × (p y ≡ true))
          → (y : A) × Memᴰ y (x ∷ xs) × (p y ≡ true)
      go true f e ih = (x, Memᴰ.head refl, f)
      go false f e ih = let r = ih e in (r.0, Memᴰ.tail r.1, r.2)

  -- what the filter keeps
  pub filter_member : (p : A → Bool) (xs : List A) (x : A) → Memᴰ x (filter p xs) → Memᴰ x xs × (p x ≡ true)
  filter_member p [] x m = absurd (Memᴰ.not-nil m)
  filter_member p (y ∷ ys) x m = go (p y) refl m (λ k. filter_member p ys x k)
    where
      go : (b : Bool) → p y ≡ b → Memᴰ x (cons_if b y (filter p ys)) → (Memᴰ x (filter p ys) → Memᴰ x ys × (p x ≡ true))
          → Memᴰ x (y ∷ ys) × (p x ≡ true)
      go true e (Memᴰ.head k) ih = (Memᴰ.head k, ap p k ∙ e)
      go true e (Memᴰ.tail k) ih = let i = ih k in (Memᴰ.tail i.0, i.1)
      go false e k ih = let i = ih k in (Memᴰ.tail i.0, i.1)

  pub member_filter : (p : A → Bool) (xs : List A) (x : A) → Memᴰ x xs → p x ≡ true → Memᴰ x (filter p xs)
  member_filter p [] x m e = absurd (Memᴰ.not-nil m)
  member_filter p (y ∷ ys) x m e = go (p y) refl m (λ k. member_filter p ys x k e)
    where
      go : (b : Bool) → p y ≡ b → Memᴰ x (y ∷ ys) → (Memᴰ x ys → Memᴰ x (filter p ys)) → Memᴰ x (cons_if b y (filter p ys))
      go true f (Memᴰ.head k) ih = Memᴰ.head k
      go true f (Memᴰ.tail k) ih = Memᴰ.tail (ih k)
      go false f (Memᴰ.head k) ih = absurd (true≢false (sym e ∙ (ap p k ∙ f)))
      go false f (Memᴰ.tail k) ih = ih k

  -- a filter that every element passes keeps them all
  pub filter_all : (p : A → Bool) (xs : List A) → Every (λ x. p x ≡ true) xs → filter p xs ≡ xs
  filter_all p [] h = refl
  filter_all p (x ∷ xs) h = rw (h.0, filter_all p xs h.1)

  -- one that none passes keeps none
  pub filter_none : (p : A → Bool) (xs : List A) → Every (λ x. p x ≡ false) xs → filter p xs ≡ []
  filter_none p [] h = refl
  filter_none p (x ∷ xs) h = rw h.0 (filter_none p xs h.1)

  -- none keeps more than there are
  pub filter_fewer : (p : A → Bool) (xs : List A) → length (filter p xs) ≤ length xs
  filter_fewer p [] = omega arith
  filter_fewer p (x ∷ xs) = go (p x) (filter_fewer p xs)
    where
      go : (b : Bool) → length (filter p xs) ≤ length xs → length (cons_if b x (filter p xs)) ≤ suc (length xs)
      go true h = omega arith
      go false h = omega arith

-- what holds of every number holds of the one at a place
pub every_at : (P : ℕ → Type 0) (xs : List ℕ) → Every P xs → (k : ℕ) → k < length xs → P (get_or xs k 0)
every_at P [] e k h = absurd (omega arith)
every_at P (x ∷ xs) e zero h = e.0
every_at P (x ∷ xs) e (suc k) h = every_at P xs e.1 k (omega arith)

module _ {A B : Type 0} where
  -- of lists one behind another
  pub every_flat : (P : B → Type 0) (f : A → List B) (xs : List A) → Every (λ x. Every P (f x)) xs → Every P (flat_map f xs)
  every_flat P f [] h = tt
  every_flat P f (x ∷ xs) h = every_append P (f x) (flat_map f xs) h.0 (every_flat P f xs h.1)
