-- A column of numbers that is written place by place.
use Prim.Native.Nat.{ℕ, suc, ◌+◌, ◌≤◌, ◌<◌}
use mathlib.Core.Path.{◌≡◌, refl, sym, ap, ◌∙◌, subst}
use mathlib.Core.Bool.{Bool, true, false}
use mathlib.Core.List.{List, [], ◌∷◌, ◌++◌, append-nil, append_assoc}
use native.Mathlib.Omega.{arith}
use native.Mathlib.Nat.{add-zero}
use native.Mathlib.Numerals.{add-one}
use lib.ListN.{length, get_or, take, drop, set, length-set}
use lib.Seq.{take_all, drop-cons, take-suc-set, take-set-le, drop-set-lt, get_or-drop, set-get_or, append_snoc}
use Rattle.units.specs.Lists.{cons_if, or_zero}

-- A column that is written from the front: up to i it is as it shall be, from i on as it was.
pub record Put (old target now : List ℕ) (i : ℕ) (coming : List ℕ) : Type 0 where
  pub long : length now ≡ length old
  pub within : i ≤ length old
  pub kept : drop i now ≡ drop i old
  pub whole : take i now ++ coming ≡ target

pub put_none : (old target : List ℕ) → Put old target old 0 target
put_none old target = record { long = refl; within = omega arith; kept = refl; whole = refl }

module _ {old target now : List ℕ} {i : ℕ} {coming : List ℕ} (p : Put old target now i coming) where
  pub put_at : get_or now i 0 ≡ get_or old i 0
  put_at = rw (get_or-drop i now 0 0, get_or-drop i old 0 0, add-zero) at (ap (λ (l : List ℕ). get_or l 0 0) p.kept)

  pub put_more : i < length old → {v : ℕ} {next : List ℕ} → coming ≡ v ∷ next → Put old target (set now i v) (i + 1) next
  put_more h {v} {next} e =
      let k : i < length now = omega (arith, p.long) in
      let a = drop-cons now i 0 k in
      let b = drop-cons old i 0 h in
      let t : drop (suc i) now ≡ drop (suc i) old = cc p.kept in
      record {
        long = length-set now i v ∙ p.long;
        within = omega arith;
        kept = rw (add-one, drop-set-lt (suc i) now i v (omega arith)) t;
        whole = rw (add-one, take-suc-set now i v k) (simp append_assoc (ap (λ l. take i now ++ l) (sym e) ∙ p.whole));
      }

  -- a place that stays as it is
  pub put_skip : i < length old → {next : List ℕ} → coming ≡ get_or old i 0 ∷ next → Put old target now (i + 1) next
  put_skip h {next} e = subst (λ (l : List ℕ). Put old target l (i + 1) next) (set-get_or now i 0) (put_more h (e ∙ rw put_at))

  pub put_done : length old ≤ i → coming ≡ [] → now ≡ target
  put_done h e =
      sym (take_all i now (omega (arith, p.long))) ∙ sym (append-nil (take i now)) ∙ ap (λ l. take i now ++ l) (sym e) ∙ p.whole

-- Numbers that are kept or not: each is written behind those kept so far, and stays there if it passes a test. Those kept, with one more if
-- it passes, and what is to come.
pub kept_more : (b : Bool) (column : List ℕ) (count x : ℕ) (rest : List ℕ) → count < length column
    → take (count + or_zero b 1) (set column count x) ++ rest ≡ take count column ++ cons_if b x rest
kept_more true column count x rest h = rw (add-one, take-suc-set column count x h) (append_snoc (take count column) x rest)
kept_more false column count x rest h = rw (add-zero count, take-set-le count column count x (omega arith))
