-- Lists beside the orders of a book, and beside those of one security.
use Prim.Native.Nat.{ℕ, ◌+◌}
use mathlib.Core.Path.{◌≡◌, refl, sym, ap, ◌∙◌}
use mathlib.Core.Bool.{Bool, true, false}
use mathlib.Core.List.{List, [], ◌∷◌, map, Memᴰ}
use native.Mathlib.Nat.{zero-add}
use lib.Dec.{ltb}
use Rattle.units.specs.Lists.{filter, cons_if, total, sum, zip_with}
use Rattle.units.proofs.Totals.{total_map}
use Rattle.sharing.specs.Rank.{Part}
use Rattle.sharing.proofs.Thin.{Thin, none, keep, drop}
use Rattle.orders.specs.declared.order.Order.{Order}
use Rattle.matching.specs.Take.{executions_by}

-- Beside all orders and beside those that are kept: one entry for each order, and for the others nothing.
pub record Beside {A : Type 0} (nothing : A) (kept : Order → Bool) (os : List Order) (xs ys : List A) : Type 0 where
  pub entry : Order → A
  pub of_all : xs ≡ map entry os
  pub of_kept : ys ≡ map entry (filter kept os)
  pub of_others : (o : Order) → Memᴰ o os → kept o ≡ false → entry o ≡ nothing

-- two lists made of one, put together
pub zip_both : {A B C D : Type 0} (h : B → C → D) (f : A → B) (g : A → C) (xs : List A) → zip_with h (map f xs) (map g xs) ≡ map (λ x. h (f x) (g x)) xs
zip_both h f g [] = refl
zip_both h f g (x ∷ xs) = ap (λ l. h (f x) (g x) ∷ l) (zip_both h f g xs)

-- a list and one made of it
pub zip_self : {A B C : Type 0} (h : B → A → C) (f : A → B) (xs : List A) → zip_with h (map f xs) xs ≡ map (λ x. h (f x) x) xs
zip_self h f [] = refl
zip_self h f (x ∷ xs) = ap (λ l. h (f x) x ∷ l) (zip_self h f xs)

module _ {kept : Order → Bool} where
  -- parts of the others are left out
  pub thin_kept : {Z : Part → Type 0} (f : Order → Part) → ((o : Order) → kept o ≡ false → Z (f o)) → (os : List Order) → Thin Z (map f os) (map f (filter kept os))
  thin_kept f h [] = none
  thin_kept {Z} f h (o ∷ os) = go (kept o) refl (thin_kept f h os)
    where
      go : (b : Bool) → kept o ≡ b → Thin Z (map f os) (map f (filter kept os)) → Thin Z (f o ∷ map f os) (map f (cons_if b o (filter kept os)))
      go true e t = keep t
      go false e t = drop (h o e) t

  -- a total of what is nothing for the others
  total_kept : (f : Order → ℕ) (os : List Order) → ((o : Order) → Memᴰ o os → kept o ≡ false → f o ≡ 0) → total f os ≡ total f (filter kept os)
  total_kept f [] h = refl
  total_kept f (o ∷ os) h = go (kept o) refl (total_kept f os (λ p m. h p (Memᴰ.tail m)))
    where
      go : (b : Bool) → kept o ≡ b → total f os ≡ total f (filter kept os) → f o + total f os ≡ total f (cons_if b o (filter kept os))
      go true e i = ap (λ n. f o + n) i
      go false e i = rw (h o (Memᴰ.head refl) e, zero-add) i

  -- executions of which the others have none
  executions_kept : (g price : ℕ) (f : Order → ℕ) (os : List Order) → ((o : Order) → Memᴰ o os → kept o ≡ false → f o ≡ 0)
      → executions_by g price os (map f os) ≡ executions_by g price (filter kept os) (map f (filter kept os))
  executions_kept g price f [] h = refl
  executions_kept g price f (o ∷ os) h = go (kept o) refl (executions_kept g price f os (λ p m. h p (Memᴰ.tail m)))
    where
      go : (b : Bool) → kept o ≡ b → executions_by g price os (map f os) ≡ executions_by g price (filter kept os) (map f (filter kept os))
          → executions_by g price (o ∷ os) (f o ∷ map f os) ≡ executions_by g price (cons_if b o (filter kept os)) (map f (cons_if b o (filter kept os)))
      go true e i = ap (cons_if (ltb 0 (f o)) (record { number = o.number; price = record { 0 = price }; shares = record { 0 = f o }; paragraph = g })) i
      go false e i = rw (h o (Memᴰ.head refl) e) i

  module _ {os : List Order} {ns ks : List ℕ} (b : Beside 0 kept os ns ks) where
    -- numbers beside both have one sum
    pub same_sum : sum ns ≡ sum ks
    same_sum =
        ap sum b.of_all ∙ total_map (λ n. n) b.entry os ∙ total_kept b.entry os b.of_others
        ∙ sym (total_map (λ n. n) b.entry (filter kept os)) ∙ ap sum (sym b.of_kept)

    -- and give the same executions
    pub same_executions : (g price : ℕ) → executions_by g price os ns ≡ executions_by g price (filter kept os) ks
    same_executions g price = rw (b.of_all, b.of_kept) (executions_kept g price b.entry os b.of_others)
