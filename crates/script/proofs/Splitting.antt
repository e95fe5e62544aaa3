-- The fields of a line, as the library's `split` gives them.
use Prim.Native.Nat.{ℕ}
use mathlib.Core.Path.{◌≡◌, refl, ap, subst, ◌∙◌}
use mathlib.Core.Bool.{Bool, true, false, cond}
use mathlib.Core.List.{List, [], ◌∷◌, ◌++◌}
use native.Mathlib.Omega.{arith}
use lib.Dec.{eqb}
use lib.ListN.{length, get_or}
use denote.Ref.{Bor}
use denote.Param.Members.{Mut}
use Rattle.std.specs.Prelude.{Some}
use Rattle.std.specs.Bool.{MatchBool}
use Rattle.std.specs.Fn.{ComputesKey, CalledAt}
use Rattle.std.specs.List.{All, slice_split, onto_first, IsFirstMatchOrLen}
use Rattle.std.specs.declared.slice.Split.{Split}
use Rattle.std.specs.Slice.Iter.{split_steps}
use Rattle.std.proofs.lemmas.List.Splits.{slice_split_none, slice_split_at}
use Rattle.std.proofs.lemmas.Fn.{always_returns_same}
use Rattle.std.proofs.lemmas.Grind.{common_steps}
use Rattle.units.specs.Text.{space}
use Rattle.script.specs.Text.{cut_at, prepend, fields_of}

-- the library cuts a text as `cut_at` does
prepend_same : (x : ℕ) (ps : List (List ℕ)) → prepend x ps ≡ onto_first x ps
prepend_same x [] = refl
prepend_same x (p ∷ ps) = refl

cut_same : (b : ℕ) (s : List ℕ) → cut_at b ([] ∷ []) s ≡ slice_split (λ x. eqb x b) s
unfolding cut_at
cut_same b [] = refl
cut_same b (x ∷ xs) =
    ap (λ ps. cond (eqb x b) ([] ∷ ps) (prepend x ps)) (cut_same b xs)
    ∙ ap (λ ps. cond (eqb x b) ([] ∷ slice_split (λ y. eqb y b) xs) ps) (prepend_same x (slice_split (λ y. eqb y b) xs))

-- the fields that are still to come
abbrev pub fields_left : Split ℕ (Unit {0}) → List (List ℕ)
fields_left s = cond s.done [] (fields_of s.rest.now)

-- the first part, and those behind it
part : (p : ℕ → Bool) (xs x rest : List ℕ) (done : Bool) → MatchBool done (xs ≡ x) ((y : ℕ) × (xs ≡ x ++ (y ∷ rest)))
    → IsFirstMatchOrLen p xs (length x) → slice_split p xs ≡ x ∷ cond done [] (slice_split p rest)
part p xs x rest true e h =
    ap (slice_split p) e ∙ slice_split_none p x (λ k d l. subst (λ ys. p (get_or ys k d) ≡ false) e (h.0 k d (omega arith) l))
part p xs x rest false e h =
    let front : All (λ z. p z ≡ false) x = λ k d l. let a = h.0 k d (omega arith) l in let b = e.1 in grind (arith, common_steps) in
    let hit : p e.0 ≡ true = let b = e.1 in let a = h.1 (grind (arith, common_steps)) e.0 in grind (arith, common_steps) in
    ap (slice_split p) e.1 ∙ slice_split_at p x e.0 rest front hit

-- the next call gives the first field that is left
pub first_left : (g : Mut (Unit {0}) (Bor ℕ × Unit {0}) Bool) (s t : Split ℕ (Unit {0})) (x : Bor (List ℕ))
    → ((y : ℕ) (b : Bool) (q : Unit {0}) → CalledAt g s.pred y b q → (q ≡ s.pred) × (b ≡ eqb y space))
    → split_steps g s (Some x) t → fields_left s ≡ x.now ∷ fields_left t
first_left g s t x tests step =
    let p : ℕ → Bool = λ b. eqb b space in
    let computes : ComputesKey g p s.pred =
    always_returns_same g (λ a r. r ≡ p a.0.now) s.pred
    (λ a r q k. let m = tests a.0.now r q (record { shown = a.0; shows = refl; called = k }) in (m.1, m.0)) in
    rw (step.0, cut_same space s.rest.now, cut_same space t.rest.now)
    (part p s.rest.now x.now t.rest.now t.done step.1 (step.2 p computes).1)

-- none is left once it gives none
pub none_left : (s : Split ℕ (Unit {0})) → s.done ≡ true → fields_left s ≡ []
none_left s e = rw e
