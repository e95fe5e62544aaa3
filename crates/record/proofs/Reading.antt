-- Numbers read from their own bytes, and the numbers of a record each at its own place.
use Prim.Native.Nat.{ℕ, zero, suc, ◌+◌, ◌*◌, max}
use mathlib.Core.Path.{◌≡◌, refl, sym, ap, ◌∙◌}
use mathlib.Core.Bool.{◌&&◌, and-true, and_assoc}
use mathlib.Core.List.{List, [], ◌∷◌}
use native.Mathlib.Omega.{arith}
use native.Mathlib.Numerals.{unary_clauses}
use Rattle.std.specs.List.{fold}
use lib.ListN.{length, get_or, take, drop}
use lib.Seq.{drop-drop, take-add, take-nil}
use borrow.Author.Tests.{ne_eqb}
use Rattle.units.specs.Lists.{all, is_zero}
use Rattle.units.proofs.Members.{all_append}
use Rattle.record.specs.Codec.{Form, from_bytes, split, decode}

-- a number of one byte more is its first byte and 256 times the number in the others
pub from_more : (w at next : ℕ) (s : List ℕ) → next ≡ suc at
    → from_bytes (take (suc w) (drop at s)) ≡ get_or s at 0 + 256 * from_bytes (take w (drop next s))
from_more w at next s q = rw q (go at s)
  where
    go : (at : ℕ) (s : List ℕ) → from_bytes (take (suc w) (drop at s)) ≡ get_or s at 0 + 256 * from_bytes (take w (drop (suc at) s))
    go zero [] = rw (take-nil w)
    go zero (x ∷ s) = refl
    go (suc at) [] = rw (take-nil w)
    go (suc at) (x ∷ s) = go at s

-- a number of one byte is the byte
pub from_one : (at : ℕ) (s : List ℕ) → from_bytes (take 1 (drop at s)) ≡ get_or s at 0
from_one at s = omega (arith, from_more 0 at (suc at) s refl)

zero_more : (a b : ℕ) → is_zero (a + 256 * b) ≡ (is_zero a && is_zero b)
zero_more zero zero = refl
zero_more zero (suc b) = rw (ne_eqb (0 + 256 * suc b) 0 (λ e. omega arith), ne_eqb (suc b) 0 (λ e. omega arith))
zero_more (suc a) b = rw (ne_eqb (suc a + 256 * b) 0 (λ e. omega arith), ne_eqb (suc a) 0 (λ e. omega arith))

-- a number is zero where its bytes are
from_zero : (s : List ℕ) → is_zero (from_bytes s) ≡ all is_zero s
from_zero [] = refl
from_zero (b ∷ s) = zero_more b (from_bytes s) ∙ ap (λ z. is_zero b && z) (from_zero s)

-- a number is zero where its first bytes are and those behind them
pub zero_parts : (w v at : ℕ) (s : List ℕ)
    → is_zero (from_bytes (take (w + v) (drop at s))) ≡ (is_zero (from_bytes (take w (drop at s))) && is_zero (from_bytes (take v (drop (at + w) s))))
zero_parts w v at s =
    rw (
      from_zero (take (w + v) (drop at s)),
      from_zero (take w (drop at s)),
      from_zero (take v (drop (at + w) s)),
      take-add w v (drop at s),
      all_append is_zero (take w (drop at s)) (take v (drop w (drop at s))),
      drop-drop w at s,
    )

max_zero : (a b : ℕ) → is_zero (max a b) ≡ (is_zero a && is_zero b)
max_zero zero b = simp unary_clauses
max_zero (suc a) b = rw (ne_eqb (max (suc a) b) 0 (λ e. omega arith), ne_eqb (suc a) 0 (λ e. omega arith))

-- the highest of a number and others is zero where all are
pub highest_zero : (h : ℕ) (s : List ℕ) → is_zero (fold max h s) ≡ (is_zero h && all is_zero s)
highest_zero h [] = sym (and-true (is_zero h))
highest_zero h (x ∷ s) = rw (highest_zero (max h x) s, max_zero h x, and_assoc)

-- numbers of so many bytes each, one behind the other, the first at a given place
abbrev pub numbers_at : List ℕ → ℕ → List ℕ → List ℕ
numbers_at [] at s = []
numbers_at (w ∷ ws) at s = from_bytes (take w (drop at s)) ∷ numbers_at ws (at + w) s

-- what is split behind a place is read at its own places
split_at : (ws : List ℕ) (at : ℕ) (s : List ℕ) → split ws (drop at s) ≡ numbers_at ws at s
split_at [] at s = refl
split_at (w ∷ ws) at s = ap (λ l. from_bytes (take w (drop at s)) ∷ l) (ap (split ws) (drop-drop w at s) ∙ split_at ws (at + w) s)

-- the numbers of a record stand behind its mark
pub decode_at : (f : Form) (s : List ℕ) → decode f s ≡ numbers_at f.widths (length f.mark) s
unfolding decode
decode_at f s = split_at f.widths (length f.mark) s
