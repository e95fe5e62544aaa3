-- Refusals of two calls that differ only in those of the whole book.
use Prim.Native.Nat.{ℕ}
use mathlib.Core.Path.{◌≡◌, refl, sym, ap, ◌∙◌, subst}
use mathlib.Core.Bool.{Bool, true, false, cond, not, true≢false, false≢true}
use mathlib.Core.List.{List, [], ◌∷◌, ◌++◌}
use mathlib.Core.Logic.{◌⊎◌, inl, inr}
use Rattle.book.specs.Refusal.{Refusal, refuse, first_refusal, Refusals, refusal_of}
use Rattle.book.specs.Securities.{of_whole_book}

-- two refusals have one number, and hold both or neither unless they are of the whole book
abbrev pub Alike : Refusal → Refusal → Type 0
Alike r s = (r.number ≡ s.number) × ((r.holds ≡ s.holds) ⊎ of_whole_book r.number)

-- two lists of them
abbrev pub AllAlike : List Refusal → List Refusal → Type 0
AllAlike [] [] = Unit {0}
AllAlike [] (s ∷ ss) = ⊥
AllAlike (r ∷ rs) [] = ⊥
AllAlike (r ∷ rs) (s ∷ ss) = Alike r s × AllAlike rs ss

alike_append : (rs ss xs ys : List Refusal) → AllAlike rs ss → AllAlike xs ys → AllAlike (rs ++ xs) (ss ++ ys)
alike_append [] [] xs ys h k = k
alike_append [] (s ∷ ss) xs ys h k = absurd h
alike_append (r ∷ rs) [] xs ys h k = absurd h
alike_append (r ∷ rs) (s ∷ ss) xs ys h k = (h.0, alike_append rs ss xs ys h.1 k)

-- the first that holds is the same, unless one is of the whole book
first_alike : (rs ss : List Refusal) → AllAlike rs ss → ¬ of_whole_book (first_refusal rs) → ¬ of_whole_book (first_refusal ss) → first_refusal rs ≡ first_refusal ss
first_alike [] [] h m n = refl
first_alike [] (s ∷ ss) h m n = absurd h
first_alike (r ∷ rs) [] h m n = absurd h
first_alike (r ∷ rs) (s ∷ ss) h m n = go r.holds s.holds h.0.1 m n (first_alike rs ss h.1)
  where
    go : (a b : Bool) → (a ≡ b) ⊎ of_whole_book r.number
        → ¬ of_whole_book (cond a r.number (first_refusal rs)) → ¬ of_whole_book (cond b s.number (first_refusal ss))
        → (¬ of_whole_book (first_refusal rs) → ¬ of_whole_book (first_refusal ss) → first_refusal rs ≡ first_refusal ss)
        → cond a r.number (first_refusal rs) ≡ cond b s.number (first_refusal ss)
    go true true w m n ih = h.0.0
    go true false (inl e) m n ih = absurd (true≢false e)
    go true false (inr w) m n ih = absurd (m w)
    go false true (inl e) m n ih = absurd (false≢true e)
    go false true (inr w) m n ih = absurd (n (subst (λ (k : ℕ). of_whole_book k) h.0.0 w))
    go false false w m n ih = ih m n

-- the refusals of two calls are alike
pub record SameRefusals (rs ss : Refusals) : Type 0 where
  pub of_call : AllAlike rs.of_call ss.of_call
  pub of_book : AllAlike rs.of_book ss.of_book

-- both hold or neither
abbrev pub alike : {n : ℕ} {a b : Bool} → a ≡ b → Alike (refuse n a) (refuse n b)
alike e = (refl, inl e)

-- one of the whole book
abbrev pub alike_whole : {n : ℕ} {a b : Bool} → of_whole_book n → Alike (refuse n a) (refuse n b)
alike_whole w = (refl, inr w)

-- on two sound books such calls are refused the same, unless one is refused for the whole book
pub same_refusal : {rs ss : Refusals} (a b : Bool) → SameRefusals rs ss → a ≡ true → b ≡ true
    → ¬ of_whole_book (refusal_of rs a) → ¬ of_whole_book (refusal_of ss b) → refusal_of rs a ≡ refusal_of ss b
same_refusal {rs} {ss} a b h e f m n =
    first_alike (rs.of_call ++ (refuse 2 (not a) ∷ rs.of_book)) (ss.of_call ++ (refuse 2 (not b) ∷ ss.of_book))
    (alike_append rs.of_call ss.of_call (refuse 2 (not a) ∷ rs.of_book) (refuse 2 (not b) ∷ ss.of_book) h.of_call
    (alike (ap not (e ∙ sym f)), h.of_book)) m n
