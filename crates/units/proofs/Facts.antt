-- Tests as facts: long chains of tests, ranges of numbers, and lists with the same numbers.
use Rattle.units.specs.declared.Shares.{Shares}
use Prim.Native.Nat.{ℕ, ◌≤◌, ◌<◌}
use mathlib.Core.Path.{◌≡◌, refl, sym, ap, ◌∙◌}
use mathlib.Core.Bool.{Bool, true, false, ◌&&◌, and_assoc, false≢true}
use mathlib.Core.List.{List, [], ◌∷◌}
use native.Mathlib.Omega.{arith}
use lib.Dec.{leb, ltb, eqb}
use borrow.Author.Tests.{leb-true, le-leb, lt-leb, lt-ltb, le-ltb, eqb-true, eq-eqb}
use Rattle.std.proofs.Common.{Ordering, Less, Equal, Greater, is_le, is_lt, nat_cmp}
use Rattle.std.specs.Ordering.{MatchOrdering}
use Rattle.std.specs.Cmp.{ranks}
use Rattle.units.specs.Lists.{all, in_range, same_numbers}
use Rattle.units.proofs.Tests.{and_true, true_and}
use Rattle.units.proofs.Members.{Every}

-- b && c && d .. as it is written in a definition
abbrev pub chain : Bool → List Bool → Bool
chain b [] = b
chain b (c ∷ cs) = chain (b && c) cs

-- a chain that holds holds at each test
pub chain_true : (b : Bool) (cs : List Bool) → chain b cs ≡ true → Every (λ c. c ≡ true) (b ∷ cs)
chain_true b [] e = (e, tt)
chain_true b (c ∷ cs) e =
    let h = chain_true (b && c) cs e in
    let a = and_true b c h.0 in
    (a.0, (a.1, h.1))

-- a test in front of a chain is one test more
pub and_chain : (a b : Bool) (cs : List Bool) → (a && chain b cs) ≡ chain (a && b) cs
and_chain a b [] = refl
and_chain a b (c ∷ cs) = and_chain a (b && c) cs ∙ ap (λ d. chain d cs) (sym (and_assoc a b c))

-- a chain is its first test and all the others
pub chain_all : (b : Bool) (cs : List Bool) → chain b cs ≡ (b && all (λ c. c) cs)
chain_all true [] = refl
chain_all false [] = refl
chain_all b (c ∷ cs) = chain_all (b && c) cs ∙ and_assoc b c (all (λ d. d) cs)

-- what follows once each test holds
abbrev pub Given : List Bool → Type 0 → Type 0
Given [] G = G
Given (c ∷ cs) G = c ≡ true → Given cs G

-- a chain holds where each test does
pub true_chain : (b : Bool) (cs : List Bool) → b ≡ true → Given cs (chain b cs ≡ true)
true_chain b [] h = h
true_chain b (c ∷ cs) h = λ k. true_chain (b && c) cs (true_and h k)

-- a number in a range is at least the lower bound and at most the upper
pub range_true : (lo hi n : ℕ) → in_range lo hi n ≡ true → (lo ≤ n) × (n ≤ hi)
range_true lo hi n e = let a = and_true (leb lo n) (leb n hi) e in (leb-true lo n a.0, leb-true n hi a.1)

-- a number between the bounds is in the range
pub true_range : (lo hi n : ℕ) → lo ≤ n → n ≤ hi → in_range lo hi n ≡ true
true_range lo hi n h k = true_and (le-leb lo n h) (le-leb n hi k)

-- a list has the numbers that it has
pub same_numbers_lem : (s : List ℕ) → same_numbers s s ≡ true
same_numbers_lem [] = refl
same_numbers_lem (x ∷ s) = true_and (eq-eqb x x refl) (same_numbers_lem s)

-- lists with the same numbers are equal
pub numbers_same : (s t : List ℕ) → same_numbers s t ≡ true → s ≡ t
numbers_same [] [] e = refl
numbers_same [] (y ∷ t) e = absurd (false≢true e)
numbers_same (x ∷ s) [] e = absurd (false≢true e)
numbers_same (x ∷ s) (y ∷ t) e =
    let a = and_true (eqb x y) (same_numbers s t) e in
    let h = eqb-true x y a.0 in
    let i = numbers_same s t a.1 in
    cc

-- a count of shares is its number
pub shares_are : (a : Shares) {n : ℕ} → a.0 ≡ n → a ≡ record { 0 = n }
shares_are a e = ap (λ (n : ℕ). record { 0 = n }) e

-- The library's comparisons of numbers as the tests of the definitions.
module _ (a b : ℕ) where
  pub at_most : is_le (nat_cmp a b) ≡ leb a b
  at_most = go (nat_cmp a b) (ranks a b)
    where
      go : (o : Ordering) → MatchOrdering o (a < b) (a ≡ b) (b < a) → is_le o ≡ leb a b
      go Less h = sym (le-leb a b (omega arith))
      go Equal h = sym (le-leb a b (omega arith))
      go Greater h = sym (lt-leb a b h)

  pub below : is_lt (nat_cmp a b) ≡ ltb a b
  below = go (nat_cmp a b) (ranks a b)
    where
      go : (o : Ordering) → MatchOrdering o (a < b) (a ≡ b) (b < a) → is_lt o ≡ ltb a b
      go Less h = sym (lt-ltb a b h)
      go Equal h = sym (le-ltb a b (omega arith))
      go Greater h = sym (le-ltb a b (omega arith))
