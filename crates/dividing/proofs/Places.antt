-- A round by keys, largest first, place by place: what those want that are above a key or have their turn before a place, added up, and what
-- the one at a place takes of what they leave.
use Prim.Native.Nat.{ℕ, zero, suc, ◌+◌, ◌-◌, ◌*◌, ◌≤◌, ◌<◌, min}
use mathlib.Core.Path.{◌≡◌, refl, sym, ap, ◌∙◌}
use mathlib.Core.Bool.{Bool, true, false, ◌&&◌, ◌||◌, or-false}
use mathlib.Core.List.{List, [], ◌∷◌}
use native.Mathlib.Omega.{arith}
use native.Mathlib.Numerals.{add-one}
use lib.Dec.{leb, ltb}
use lib.ListN.{length, get_or, drop, set, length-set}
use lib.Seq.{drop-cons, get_or-set_same, get_or-set_other}
use borrow.Author.Count.{below_more}
use borrow.Author.Tests.{ltb-true, ltb-false, le-leb}
use Rattle.std.specs.Int.{from_bool}
use Rattle.units.specs.Lists.{or_zero, sum}
use Rattle.units.proofs.Tests.{pick_least}
use Rattle.dividing.specs.Columns.{want_above, above, ahead_at, may_take, turn_at}
use Rattle.dividing.proofs.Walking.{picked, zip_more, zip_done}

-- those above a key want together no more than all
above_within : (t : ℕ) (xs ws : List ℕ) → above t xs ws ≤ sum ws
above_within t [] ws = omega arith
above_within t (x ∷ xs) [] = omega arith
above_within t (x ∷ xs) (w ∷ ws) = omega (arith, pick_least (ltb t x) w, above_within t xs ws)

-- and so do those before one of key x
ahead_within : (x k : ℕ) (ys ws : List ℕ) → ahead_at x k ys ws ≤ sum ws
ahead_within x zero ys ws = above_within x ys ws
ahead_within x (suc k) [] ws = omega arith
ahead_within x (suc k) (y ∷ ys) [] = omega arith
ahead_within x (suc k) (y ∷ ys) (w ∷ ws) = omega (arith, pick_least (leb x y) w, ahead_within x k ys ws)

-- one place more is added up, where a test picks it
adds_up : (b : Bool) (w s next : ℕ) {rest whole most n : ℕ} → n ≡ from_bool b → rest ≡ or_zero b w + next → whole ≤ most → s + rest ≡ whole
    → (s + n * w ≤ most) × (s + n * w + next ≡ whole)
adds_up b w s next e r h i = let a = picked b w e in (omega arith, omega arith)

pub above_more : (t : ℕ) (xs ws : List ℕ) (j : ℕ) → j < length xs → j < length ws → {n : ℕ} → n ≡ from_bool (ltb t (get_or xs j 0))
    → (s : ℕ) → s + above t (drop j xs) (drop j ws) ≡ above t xs ws
    → (s + n * get_or ws j 0 ≤ sum ws) × (s + n * get_or ws j 0 + above t (drop (j + 1) xs) (drop (j + 1) ws) ≡ above t xs ws)
above_more t xs ws j h k e s i = adds_up (ltb t (get_or xs j 0)) (get_or ws j 0) s _ e (ap sum (zip_more (want_above t) xs ws j h k)) (above_within t xs ws) i

-- the one at place j has its turn before one of key x at place k
abbrev first : ℕ → ℕ → ℕ → ℕ → Bool
first x k j y = ltb x y || (ltb j k && leb x y)

pub ahead_more : (x k : ℕ) (ys ws : List ℕ) (j : ℕ) → j < length ys → j < length ws → {n : ℕ} → n ≡ from_bool (first x k j (get_or ys j 0))
    → (s : ℕ) → s + ahead_at x (k - j) (drop j ys) (drop j ws) ≡ ahead_at x k ys ws
    → (s + n * get_or ws j 0 ≤ sum ws) × (s + n * get_or ws j 0 + ahead_at x (k - (j + 1)) (drop (j + 1) ys) (drop (j + 1) ws) ≡ ahead_at x k ys ws)
ahead_more x k ys ws j h l e s i = adds_up (first x k j (get_or ys j 0)) (get_or ws j 0) s _ e (go (ltb j k) refl) (ahead_within x k ys ws) i
  where
    y : ℕ
    y = get_or ys j 0

    either : (b : Bool) → ltb x y ≡ b → b || leb x y ≡ leb x y
    either true f = let m = ltb-true x y f in sym (le-leb x y (omega arith))
    either false f = refl

    go : (b : Bool) → ltb j k ≡ b → ahead_at x (k - j) (drop j ys) (drop j ws)
        ≡ or_zero (ltb x y || (b && leb x y)) (get_or ws j 0) + ahead_at x (k - (j + 1)) (drop (j + 1) ys) (drop (j + 1) ws)
    go true f =
        let m = ltb-true j k f in
        let p : k - j ≡ suc (k - (j + 1)) = omega arith in
        rw (p, drop-cons ys j 0 h, drop-cons ws j 0 l, ← add-one j, either (ltb x y) refl)
    go false f =
        let m = ltb-false j k f in
        let p : k - j ≡ 0 = omega arith in
        let q : k - (j + 1) ≡ 0 = omega arith in
        rw (p, q, or-false (ltb x y)) (ap sum (zip_more (want_above x) ys ws j h l))

pub ahead_done : (x k : ℕ) (ys ws : List ℕ) (j : ℕ) → k ≤ j → length ys ≤ j → ahead_at x (k - j) (drop j ys) ws ≡ 0
ahead_done x k ys ws j h l = let p : k - j ≡ 0 = omega arith in rw p (ap sum (zip_done (want_above x) ys ws j l))

-- no more is taken than is wanted, or is left
pub taken_least : (minimum w left : ℕ) → (may_take minimum w left ≤ w) × (may_take minimum w left ≤ left)
taken_least minimum w left = let a = pick_least (leb minimum left) (min w left) in (omega arith, omega arith)

pub turn_least : (top rest : ℕ) (xs ws : List ℕ) (i : ℕ) → turn_at top rest xs ws i ≤ get_or ws i 0
turn_least top rest xs ws i = (taken_least (top - get_or xs i 0) (get_or ws i 0) (rest - ahead_at (get_or xs i 0) i xs ws)).0

-- A round that is served place by place: up to j each has what it shall have, from j on what it had.
pub record ServedTo (top rest : ℕ) (keys wants had has : List ℕ) (j : ℕ) : Type 0 where
  pub long : length has ≡ length had
  pub done : (i : ℕ) → i < j → get_or has i 0 ≡ get_or had i 0 + turn_at top rest keys wants i
  pub kept : (i : ℕ) → j ≤ i → get_or has i 0 ≡ get_or had i 0

pub serve_more : {top rest : ℕ} {keys wants had has : List ℕ} {j : ℕ} → ServedTo top rest keys wants had has j → j < length had
    → {n : ℕ} → n ≡ turn_at top rest keys wants j → ServedTo top rest keys wants had (set has j (get_or has j 0 + n)) (j + 1)
serve_more {top} {rest} {keys} {wants} {had} {has} {j} p h {n} e =
    let v = get_or has j 0 + n in
    let others : (i : ℕ) → (i ≡ j → ⊥) → get_or (set has j v) i 0 ≡ get_or has i 0 = λ i d. get_or-set_other has j i v 0 d in
    record {
      long = length-set has j v ∙ p.long;
      done = below_more (λ (i : ℕ). get_or (set has j v) i 0 ≡ get_or had i 0 + turn_at top rest keys wants i) j
          (λ i l. others i (λ d. omega arith) ∙ p.done i l) (get_or-set_same has j v 0 (omega (arith, p.long)) ∙ rw (p.kept j (omega arith), e));
      kept = λ i l. others i (λ d. omega arith) ∙ p.kept i (omega arith);
    }
