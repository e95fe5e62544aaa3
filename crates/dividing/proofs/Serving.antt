-- A round by keys, largest first, by a threshold on the key, on columns alone.
use Prim.Native.Nat.{ℕ, zero, suc, ◌+◌, ◌-◌, ◌≤◌, ◌<◌, min}
use mathlib.Core.Path.{◌≡◌, refl, sym, ap, ◌∙◌}
use mathlib.Core.Bool.{Bool, true, false}
use mathlib.Core.List.{List, [], ◌∷◌}
use native.Mathlib.Omega.{arith}
use native.Mathlib.Nat.{add-zero, sub-zero, zero-add}
use lib.Dec.{leb, ltb, eqb}
use lib.ListN.{length, get_or}
use borrow.Author.Tests.{ltb-true, ltb-false, lt-ltb, le-ltb, eq-eqb, ne_eqb, eqb-true, eqb-false, leb-true, leb-false, le-leb, lt-leb}
use Rattle.units.specs.Lists.{or_zero, zip_with}
use Rattle.dividing.specs.Columns.{want_above, above, ahead_at, may_take, takes_at, in_order, Served}
use Rattle.dividing.proofs.Walking.{never, zip_at, zip_long}
use Rattle.dividing.proofs.Places.{taken_least}

apart : (a b : ℕ) → a ≤ b → (a ≡ b → ⊥) → a < b
apart a b h k = omega arith

-- a number that a stricter test picks is no more
pick_weaker : (a b : Bool) (w : ℕ) → (a ≡ true → b ≡ true) → or_zero a w ≤ or_zero b w
pick_weaker true b w h = rw (h refl) (omega arith)
pick_weaker false b w h = omega arith

-- a lower threshold has no less above it
above_lower : (s t : ℕ) → s ≤ t → (xs ws : List ℕ) → above t xs ws ≤ above s xs ws
above_lower s t h [] ws = omega arith
above_lower s t h (x ∷ xs) [] = omega arith
above_lower s t h (x ∷ xs) (w ∷ ws) =
    omega (arith, above_lower s t h xs ws, pick_weaker (ltb t x) (ltb s x) w (λ e. let l = ltb-true t x e in lt-ltb s x (omega arith)))

-- above the largest there is nothing
pub above_top : (t : ℕ) (xs ws : List ℕ) → ((i : ℕ) → get_or xs i 0 ≤ t) → above t xs ws ≡ 0
above_top t [] ws h = refl
above_top t (x ∷ xs) [] h = refl
above_top t (x ∷ xs) (w ∷ ws) h = rw (le-ltb t x (h 0)) (omega (arith, above_top t xs ws (λ i. h (suc i))))

-- A threshold that is sought: it lies in lo .. hi.
pub record Halving (xs ws : List ℕ) (top rest lo hi : ℕ) : Type 0 where
  pub ordered : lo ≤ hi
  pub within : hi ≤ top
  pub served : above hi xs ws ≤ rest
  pub unserved : (s : ℕ) → s < lo → rest < above s xs ws

module _ {xs ws : List ℕ} {top rest lo hi : ℕ} (p : Halving xs ws top rest lo hi) (mid : ℕ) where
  pub halve_low : lo ≤ mid → mid < hi → above mid xs ws ≤ rest → Halving xs ws top rest lo mid
  halve_low h l k = record { ordered = h; within = omega arith; served = k; unserved = p.unserved }

  pub halve_high : mid < hi → rest < above mid xs ws → Halving xs ws top rest (mid + 1) hi
  halve_high h k =
      record { ordered = omega arith; within = p.within; served = p.served; unserved = λ s l. omega (arith, above_lower s mid (omega arith) xs ws) }

-- those before one of key x are all above x at least
ahead_above : (x k : ℕ) (ys ws : List ℕ) → above x ys ws ≤ ahead_at x k ys ws
ahead_above x zero ys ws = omega arith
ahead_above x (suc k) [] ws = omega arith
ahead_above x (suc k) (y ∷ ys) [] = omega arith
ahead_above x (suc k) (y ∷ ys) (w ∷ ws) =
    omega (arith, ahead_above x k ys ws, pick_weaker (ltb x y) (leb x y) w (λ e. let l = ltb-true x y e in le-leb x y (omega arith)))

-- one above t and all before it are above t
ahead_one : (t x k : ℕ) (ys ws : List ℕ) → k < length ys → k < length ws → get_or ys k 0 ≡ x → t < x → ahead_at x k ys ws + get_or ws k 0 ≤ above t ys ws
ahead_one t x k [] ws h l e m = absurd (never h)
ahead_one t x k (y ∷ ys) [] h l e m = absurd (never l)
ahead_one t x zero (y ∷ ys) (w ∷ ws) h l e m =
    rw (le-ltb x y (omega arith), lt-ltb t y (omega arith)) (omega (arith, above_lower t x (omega arith) ys ws))
ahead_one t x (suc k) (y ∷ ys) (w ∷ ws) h l e m =
    let i = ahead_one t x k ys ws (omega arith) (omega arith) e m in
    omega (arith, i, pick_weaker (leb x y) (ltb t y) w (λ f. let n = leb-true x y f in lt-ltb t y (omega arith)))

-- what the earlier ones of key t want
abbrev equal_before : ℕ → ℕ → List ℕ → List ℕ → ℕ
equal_before t zero ys ws = 0
equal_before t (suc k) [] ws = 0
equal_before t (suc k) (y ∷ ys) [] = 0
equal_before t (suc k) (y ∷ ys) (w ∷ ws) = or_zero (eqb y t) w + equal_before t k ys ws

-- before one of key t are those above t and the earlier ones of key t
ahead_equal : (t k : ℕ) (ys ws : List ℕ) → ahead_at t k ys ws ≡ above t ys ws + equal_before t k ys ws
ahead_equal t zero ys ws = sym (add-zero (above t ys ws))
ahead_equal t (suc k) [] ws = refl
ahead_equal t (suc k) (y ∷ ys) [] = refl
ahead_equal t (suc k) (y ∷ ys) (w ∷ ws) = omega (arith, ahead_equal t k ys ws, one (ltb t y) refl (eqb y t) refl)
  where
    one : (b : Bool) → ltb t y ≡ b → (c : Bool) → eqb y t ≡ c → or_zero (leb t y) w ≡ or_zero b w + or_zero c w
    one true e true f = let l = ltb-true t y e in let k = eqb-true y t f in absurd (never {k = y} (omega arith))
    one true e false f = let l = ltb-true t y e in rw (le-leb t y (omega arith)) (sym (add-zero w))
    one false e true f = let k = eqb-true y t f in rw (le-leb t y (omega arith)) (sym (zero-add w))
    one false e false f = let l = ltb-false t y e in rw (lt-leb t y (apart y t l (eqb-false y t f)))

module _ (t minimum : ℕ) where
  -- one of key t takes of what the earlier ones of its key leave: to pass one over is to stop
  equal_at : (left k : ℕ) (ys ws : List ℕ) → k < length ys → k < length ws → get_or ys k 0 ≡ t
      → get_or (in_order (takes_at t minimum) left ys ws) k 0 ≡ may_take minimum (get_or ws k 0) (left - equal_before t k ys ws)
  unfolding in_order
  equal_at left k [] ws h l e = absurd (never h)
  equal_at left k (y ∷ ys) [] h l e = absurd (never l)
  equal_at left zero (y ∷ ys) (w ∷ ws) h l e = rw (eq-eqb y t e, sub-zero)
  equal_at left (suc k) (y ∷ ys) (w ∷ ws) h l e =
      equal_at (left - takes_at t minimum y w left) k ys ws (omega arith) (omega arith) e
      ∙ one (eqb y t) (leb minimum left) refl (get_or ws k 0) (equal_before t k ys ws)
    where
      one : (b c : Bool) → leb minimum left ≡ c → (v n : ℕ)
          → may_take minimum v (left - or_zero b (or_zero c (min w left)) - n) ≡ may_take minimum v (left - (or_zero b w + n))
      one true true k v n = let i : left - min w left - n ≡ left - (w + n) = omega arith in ap (λ i. may_take minimum v i) i
      one true false k v n =
          let l = leb-false minimum left k in
          rw (lt-leb minimum (left - 0 - n) (omega arith), lt-leb minimum (left - (w + n)) (omega arith))
      one false c k v n = let i : left - 0 - n ≡ left - (0 + n) = omega arith in ap (λ i. may_take minimum v i) i

  -- and one of another key nothing
  equal_other : (left k : ℕ) (ys ws : List ℕ) → (get_or ys k 0 ≡ t → ⊥) → get_or (in_order (takes_at t minimum) left ys ws) k 0 ≡ 0
  unfolding in_order
  equal_other left k [] ws e = refl
  equal_other left k (y ∷ ys) [] e = refl
  equal_other left zero (y ∷ ys) (w ∷ ws) e = rw (ne_eqb y t e)
  equal_other left (suc k) (y ∷ ys) (w ∷ ws) e = equal_other (left - takes_at t minimum y w left) k ys ws e

order_long : (takes : ℕ → ℕ → ℕ → ℕ) (left : ℕ) (xs ws : List ℕ) → length ws ≡ length xs → length (in_order takes left xs ws) ≡ length xs
unfolding in_order
order_long takes left [] ws e = refl
order_long takes left (x ∷ xs) [] e = absurd (never {k = length xs} (omega arith))
order_long takes left (x ∷ xs) (w ∷ ws) e = ap suc (order_long takes (left - takes x w left) xs ws (omega arith))

module _ (top rest t : ℕ) (xs ws : List ℕ) (l : length ws ≡ length xs) (low : above t xs ws ≤ rest) (high : (s : ℕ) → s < t → rest < above s xs ws)
    (fits : (i : ℕ) → i < length xs → top - get_or xs i 0 ≤ get_or ws i 0) where
  -- what one gets by the threshold is what it takes of what those before it leave
  at_key : (i : ℕ) → i < length xs
      → want_above t (get_or xs i 0) (get_or ws i 0) + get_or (in_order (takes_at t (top - t)) (rest - above t xs ws) xs ws) i 0
      ≡ may_take (top - get_or xs i 0) (get_or ws i 0) (rest - ahead_at (get_or xs i 0) i xs ws)
  at_key i h = go (get_or xs i 0) refl (ltb t (get_or xs i 0)) refl (eqb (get_or xs i 0) t) refl
    where
      go : (x : ℕ) → get_or xs i 0 ≡ x → (b : Bool) → ltb t x ≡ b → (c : Bool) → eqb x t ≡ c
          → or_zero b (get_or ws i 0) + get_or (in_order (takes_at t (top - t)) (rest - above t xs ws) xs ws) i 0
          ≡ may_take (top - x) (get_or ws i 0) (rest - ahead_at x i xs ws)
      go x k true e c f =
          let a = ltb-true t x e in
          let n = ahead_one t x i xs ws h (omega arith) k a in
          let m : top - x ≤ get_or ws i 0 = omega (arith, fits i h, k) in
          rw (equal_other t (top - t) (rest - above t xs ws) i xs ws (λ d. omega arith), le-leb (top - x) (rest - ahead_at x i xs ws) (omega arith)) (omega arith)
      go x k false e true f =
          let a = eqb-true x t f in
          let n : rest - ahead_at t i xs ws ≡ rest - above t xs ws - equal_before t i xs ws = omega (arith, ahead_equal t i xs ws) in
          rw (a, n, equal_at t (top - t) (rest - above t xs ws) i xs ws h (omega arith) (k ∙ a)) (zero-add _)
      go x k false e false f =
          let n : rest - ahead_at x i xs ws ≡ 0 = omega (arith, ahead_above x i xs ws, high x (apart x t (ltb-false t x e) (eqb-false x t f))) in
          rw (equal_other t (top - t) (rest - above t xs ws) i xs ws (λ d. eqb-false x t f (sym k ∙ d)), n)
          (omega (arith, taken_least (top - x) (get_or ws i 0) 0))

  -- so the two steps serve a round
  pub served : (gs : List ℕ) → length gs ≡ length xs → {most put : List ℕ} → most ≡ zip_with ◌+◌ gs (zip_with (want_above t) xs ws)
      → {remains : ℕ} → remains ≡ rest - above t xs ws → {minimum : ℕ} → minimum ≡ top - t
      → put ≡ zip_with ◌+◌ most (in_order (takes_at t minimum) remains xs ws) → Served top rest xs ws gs put
  served gs g {most} {put} a {remains} b {minimum} c e =
      let x = zip_long (want_above t) xs ws l in
      let y : length most ≡ length gs = ap length a ∙ zip_long ◌+◌ gs (zip_with (want_above t) xs ws) (omega arith) in
      let z = order_long (takes_at t minimum) remains xs ws l in
      record {
        long = ap length e ∙ zip_long ◌+◌ most (in_order (takes_at t minimum) remains xs ws) (omega arith) ∙ y;
        each = λ i h.
            ap (λ ns. get_or ns i 0) e ∙ zip_at ◌+◌ most (in_order (takes_at t minimum) remains xs ws) i (omega arith) (omega arith)
            ∙ rw (
              a,
              zip_at ◌+◌ gs (zip_with (want_above t) xs ws) i h (omega arith),
              zip_at (want_above t) xs ws i (omega arith) (omega arith),
              b,
              c,
              ← at_key i (omega arith),
            )
            (omega arith);
      }

-- where those above t were served, there is room for those at t
pub room_at : (t : ℕ) (gs xs ws : List ℕ) (most : ℕ) → ((i : ℕ) → get_or gs i 0 + get_or ws i 0 < most)
    → {put : List ℕ} → put ≡ zip_with ◌+◌ gs (zip_with (want_above t) xs ws) → (i : ℕ) → get_or xs i 0 ≡ t → get_or put i 0 + get_or ws i 0 < most
room_at t [] xs ws most h e i k = rw e (omega (arith, h i))
room_at t (x ∷ gs) [] ws most h e i k = rw e (omega (arith, h i))
room_at t (x ∷ gs) (y ∷ xs) [] most h e i k = rw e (omega (arith, h i))
room_at t (x ∷ gs) (y ∷ xs) (w ∷ ws) most h e zero k = rw (e, le-ltb t y (omega arith)) (omega (arith, h 0))
room_at t (x ∷ gs) (y ∷ xs) (w ∷ ws) most h e (suc i) k = rw e (room_at t gs xs ws most (λ j. h (suc j)) refl i k)
