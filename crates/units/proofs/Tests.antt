-- Laws of tests, and of a number that a test picks.
use Prim.Native.Nat.{ℕ, ◌+◌, ◌≤◌}
use mathlib.Core.Path.{◌≡◌, refl, sym, ◌∙◌}
use mathlib.Core.Bool.{Bool, true, false, not, ◌&&◌, ◌||◌, true≢false, false≢true}
use native.Mathlib.Omega.{arith}
use lib.Dec.{T}
use Rattle.units.specs.Lists.{or_zero}

pub and_true : (a b : Bool) → (a && b) ≡ true → (a ≡ true) × (b ≡ true)
and_true true b e = (refl, e)
and_true false b e = absurd (false≢true e)

pub true_and : {a b : Bool} → a ≡ true → b ≡ true → (a && b) ≡ true
true_and e f = rw (e, f)

pub false_and : {a : Bool} (b : Bool) → a ≡ false → (a && b) ≡ false
false_and b e = rw e

pub and_false : (a : Bool) {b : Bool} → b ≡ false → (a && b) ≡ false
and_false true e = e
and_false false e = refl

pub or_false : (a b : Bool) → (a || b) ≡ false → (a ≡ false) × (b ≡ false)
or_false true b e = absurd (true≢false e)
or_false false b e = (refl, e)

pub or_true : (a : Bool) {b : Bool} → b ≡ true → (a || b) ≡ true
or_true true e = refl
or_true false e = e

-- tests that hold together are the same
pub same_test : (a b : Bool) → (a ≡ true → b ≡ true) → (b ≡ true → a ≡ true) → a ≡ b
same_test true b h k = sym (h refl)
same_test false true h k = k refl
same_test false false h k = refl

-- a test that fails wherever another does holds nowhere but where that one does
pub true_back : (a : Bool) {b : Bool} → (a ≡ false → b ≡ false) → b ≡ true → a ≡ true
true_back true h e = refl
true_back false h e = absurd (false≢true (sym (h refl) ∙ e))

pub T_true : (b : Bool) → T b → b ≡ true
T_true true h = refl
T_true false h = absurd h

pub true_T : (b : Bool) → b ≡ true → T b
true_T true e = tt
true_T false e = absurd (false≢true e)

-- a number that a test picks
pub pick_zero : (b : Bool) {n : ℕ} → n ≡ 0 → or_zero b n ≡ 0
pick_zero true e = e
pick_zero false e = refl

pub pick_least : (b : Bool) (n : ℕ) → or_zero b n ≤ n
pick_least true n = omega arith
pick_least false n = omega arith

pub pick_mono : (b : Bool) {m n : ℕ} → m ≤ n → or_zero b m ≤ or_zero b n
pick_mono true h = h
pick_mono false h = omega arith

pub pick_add : (b : Bool) (m n : ℕ) → or_zero b m + or_zero b n ≡ or_zero b (m + n)
pick_add true m n = refl
pick_add false m n = refl

-- those that it picks and the others are all
pub pick_both : (b : Bool) (n : ℕ) → or_zero b n + or_zero (not b) n ≡ n
pick_both true n = omega arith
pick_both false n = omega arith
