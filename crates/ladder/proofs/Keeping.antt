-- Calls that keep a ladder: their refusals way by way, and what holds of what they answer and leave.
use Prim.Native.Nat.{ℕ, ◌-◌, ◌*◌, ◌≤◌}
use mathlib.Core.Path.{◌≡◌, refl, sym, ap, ◌∙◌}
use mathlib.Core.Bool.{Bool, true, false, cond, not}
use mathlib.Core.List.{List, [], ◌∷◌}
use native.Mathlib.Omega.{arith}
use lib.ListN.{length, drop, replicate}
use borrow.Author.Tests.{eq-eqb, ne_eqb, not-false}
use Rattle.units.specs.Lists.{same_numbers}
use Rattle.units.proofs.Facts.{numbers_same}
use Rattle.book.specs.Sound.{sound, orders_of}
use Rattle.book.specs.Lookup.{orders_for}
use Rattle.book.specs.Refusal.{Refusal, refuse, first_refusal, Refusals, refusal_of}
use Rattle.ladder.specs.Rows.{rows_of}
use Rattle.ladder.specs.Ladder.{ladder_bytes, made_of, is_other_length, is_other_ladder, with_ladder}
use Rattle.ladder.specs.Seen.{Look, seen_of}
use Rattle.ladder.proofs.Security.{security_few}
use Rattle.ladder.proofs.Making.{rows_few, ladder_long, ladder_behind}

-- What is seen of book and ladder, in the order of the refusals.
module _ (j : ℕ) (s l : List ℕ) where
  -- a book that isn't sound
  pub kept_unsound : sound s ≡ false → record { refusal = 2; records = 0; rows = 0 } ≡ seen_of j s l
  unfolding seen_of
  kept_unsound f = rw f

  module _ (f : sound s ≡ true) where
    -- a ladder of another length
    pub kept_length : (length l ≡ ladder_bytes → ⊥) → record { refusal = 9; records = 0; rows = 0 } ≡ seen_of j s l
    unfolding seen_of
    kept_length n = rw (f, ne_eqb (length l) ladder_bytes n)

    module _ (n : length l ≡ ladder_bytes) where
      -- a ladder that isn't that of the security
      pub kept_other : same_numbers l (made_of j s) ≡ false → record { refusal = 10; records = 0; rows = 0 } ≡ seen_of j s l
      unfolding seen_of
      kept_other o = rw (f, eq-eqb (length l) ladder_bytes n, o)

      -- its own
      pub kept_own : same_numbers l (made_of j s) ≡ true → record { refusal = 0; records = length (orders_of s); rows = length (rows_of (orders_for j s)) } ≡ seen_of j s l
      unfolding seen_of
      kept_own o = rw (f, eq-eqb (length l) ladder_bytes n, o)

-- The three refusals, and others behind them.
module _ (x y z : Bool) (rest : ℕ) where
  three : ℕ → ℕ
  three n = cond x 2 (cond y 9 (cond z 10 n))

  none_holds : three 0 ≡ 0 → (x ≡ false) × (y ≡ false) × (z ≡ false)
  unfolding three
  none_holds e = go x y z e
    where
      go : (x y z : Bool) → cond {A = ℕ} x 2 (cond y 9 (cond z 10 0)) ≡ 0 → (x ≡ false) × (y ≡ false) × (z ≡ false)
      go true y z e = absurd (omega arith)
      go false true z e = absurd (omega arith)
      go false false true e = absurd (omega arith)
      go false false false e = (refl, refl, refl)

  one_holds : (three 0 ≡ 0 → ⊥) → three rest ≡ three 0
  unfolding three
  one_holds e = go x y z e
    where
      go : (x y z : Bool) → (cond {A = ℕ} x 2 (cond y 9 (cond z 10 0)) ≡ 0 → ⊥) → cond {A = ℕ} x 2 (cond y 9 (cond z 10 rest)) ≡ cond x 2 (cond y 9 (cond z 10 0))
      go true y z e = refl
      go false true z e = refl
      go false false true e = refl
      go false false false e = absurd (e refl)

-- What was seen says.
module _ (j : ℕ) (s l : List ℕ) (c : Look) (k : c ≡ seen_of j s l) where
  refusal_is : c.refusal ≡ three (not (sound s)) (is_other_length l) (is_other_ladder j s l) 0 0
  unfolding seen_of three
  refusal_is = ap (λ x. x.refusal) k

  -- accepted: the book is sound, the ladder is that of the security, and so many are the records in use and the rows
  pub record Own : Type 0 where
    pub is_sound : sound s ≡ true
    pub counted : c.records ≡ length (orders_of s)
    pub long : length l ≡ ladder_bytes
    pub few : c.rows ≤ 256
    pub clear : drop (24 * c.rows) l ≡ replicate (24 * (256 - c.rows)) 0

  pub kept_accepted : c.refusal ≡ 0 → Own
  kept_accepted a =
      let h = none_holds (not (sound s)) (is_other_length l) (is_other_ladder j s l) 0 (sym refusal_is ∙ a) in
      let f = not-false (sound s) h.0 in
      let o = not-false (same_numbers l (made_of j s)) h.2 in
      let e = numbers_same l (made_of j s) o in
      let m = security_few j s f in
      let n = ap length e ∙ ladder_long (orders_for j s) m in
      let w = k ∙ sym (kept_own j s l f n o) in
      let r : c.rows ≡ length (rows_of (orders_for j s)) = ap (λ x. x.rows) w in
      record {
        is_sound = f;
        counted = ap (λ x. x.records) w;
        long = n;
        few = omega (arith, rows_few (orders_for j s));
        clear = rw (r, e) (ladder_behind (orders_for j s));
      }

  -- A call whose numbers are in range where a test holds.
  module _ (rs : List Refusal) where
    abbrev refusals : Bool → Refusals
    refusals b = record { of_call = refuse 1 (not b) ∷ []; of_book = rs }

    -- it is refused what was seen
    pub form_refused : {b : Bool} → b ≡ true → (c.refusal ≡ 0 → ⊥) → refusal_of (with_ladder j s l (refusals b)) (sound s) ≡ c.refusal
    unfolding three
    form_refused t n =
        rw t (one_holds (not (sound s)) (is_other_length l) (is_other_ladder j s l) (first_refusal rs) (λ z. n (refusal_is ∙ z)) ∙ sym refusal_is)

    -- or what the plain call is refused
    pub form_plain : {b : Bool} → b ≡ true → c.refusal ≡ 0 → refusal_of (with_ladder j s l (refusals b)) (sound s) ≡ refusal_of (refusals b) (sound s)
    form_plain t a =
        let h = none_holds (not (sound s)) (is_other_length l) (is_other_ladder j s l) 0 (sym refusal_is ∙ a) in
        rw (t, h.0, h.1, h.2)
