-- A text cut into lines: its first line and the others.
use Prim.Native.Nat.{ℕ, suc, ◌+◌, ◌-◌, ◌≤◌, ◌<◌}
use mathlib.Core.Path.{◌≡◌, refl}
use mathlib.Core.Bool.{Bool, true, false}
use mathlib.Core.List.{List, [], ◌∷◌}
use native.Mathlib.Omega.{arith}
use native.Mathlib.Numerals.{add-one}
use lib.Dec.{eqb}
use lib.ListN.{length, take, drop, length-drop}
use lib.Seq.{drop-drop}
use borrow.Author.Tests.{eq-eqb, ne_eqb}
use Rattle.std.specs.Prelude.{Option, MatchOption}
use Rattle.std.specs.Option.{unwrap_or}
use Rattle.std.specs.List.{AllWithin, HoldsAt}
use Rattle.std.proofs.lemmas.Iterator.{index_from_first}
use Rattle.units.specs.Text.{line_feed}
use Rattle.script.specs.Text.{cut_at, span, FirstLine}

-- the first byte b, as the library finds it
pub span_found : (b : ℕ) (s : List ℕ) (r : Option ℕ)
    → MatchOption r (AllWithin (λ x. x ≡ b → ⊥) s 0 (length s))
    (λ i. (i < length s) × HoldsAt (λ x. x ≡ b) s i × AllWithin (λ x. x ≡ b → ⊥) s 0 i)
    → span b s ≡ unwrap_or r (length s)
unfolding span
span_found b =
    index_from_first (span b) (λ x. x ≡ b) (λ x. x ≡ b → ⊥) refl (λ x xs e. rw (eq-eqb x b e)) (λ x xs e. rw (ne_eqb x b e, add-one))

-- A text that isn't empty, cut into lines: the first is what comes before the first line feed.
abbrev Lined : ℕ → List ℕ → Type 0
Lined b s = cut_at b [] s ≡ take (span b s) s ∷ cut_at b [] (drop (suc (span b s)) s)

-- by whether it begins with a line feed, and whether more follows
line_more : (b x : ℕ) (xs : List ℕ) (t : Bool) → eqb x b ≡ t → (0 < length xs → Lined b xs) → Lined b (x ∷ xs)
unfolding cut_at span
line_more b x xs true e h = rw e
line_more b x [] false e h = rw e
line_more b x (y ∷ ys) false e h = rw (e, h (omega arith))

first_line : (b : ℕ) (s : List ℕ) → 0 < length s → Lined b s
first_line b [] h = absurd (omega arith)
first_line b (x ∷ xs) h = line_more b x xs (eqb x b) refl (first_line b xs)

-- from a place of a text on
pub line_here : (text : List ℕ) (at end : ℕ) → at < length text → end ≡ at + span line_feed (drop at text) → end ≤ length text → FirstLine text at end
line_here text at end h e w =
    let n : end - at ≡ span line_feed (drop at text) = omega arith in
    let m : at + suc (span line_feed (drop at text)) ≡ end + 1 = omega arith in
    record {
      behind = omega arith;
      within = w;
      first =
          rw (n, ← m, ← drop-drop (suc (span line_feed (drop at text))) at text)
          (first_line line_feed (drop at text) (omega (arith, length-drop at text)));
    }
