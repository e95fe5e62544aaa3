-- A buffer that is filled from its front on, while what stands behind a byte is still as it was.
use Prim.Native.Nat.{ℕ, ◌+◌, ◌-◌, ◌≤◌}
use mathlib.Core.Path.{◌≡◌, refl, sym, ap, ap₂, ◌∙◌}
use mathlib.Core.List.{List, [], ◌++◌, append_assoc}
use native.Mathlib.Omega.{arith}
use lib.ListN.{length, take, drop, length-append, take-append-drop}
use lib.Seq.{drop-append-add, drop-drop}
use Rattle.record.specs.Codec.{replaced}
use Rattle.record.proofs.Pasting.{take_replaced, length_replaced}

-- Buffer b was s: it begins with these bytes, and is the same from a byte on.
pub record Filled (front : List ℕ) (from : ℕ) (s b : List ℕ) : Type 0 where
  pub long : length b ≡ length s
  pub begins : take (length front) b ≡ front
  pub same : drop from b ≡ drop from s

-- at first it is the same from its start on
pub filled_none : (s : List ℕ) → Filled [] 0 s s
filled_none s = record { long = refl; begins = refl; same = refl }

module _ {front : List ℕ} {from : ℕ} {s b : List ℕ} (f : Filled front from s b) where
  -- what is the same from a byte on is so from a later one on
  same_later : (k : ℕ) → from ≤ k → drop k b ≡ drop k s
  same_later k h =
      let e : from + (k - from) ≡ k = omega arith in
      ap (λ j. drop j b) (sym e)
      ∙ sym (drop-drop (k - from) from b)
      ∙ ap (drop (k - from)) f.same
      ∙ drop-drop (k - from) from s
      ∙ ap (λ j. drop j s) e

  -- nothing is put in, and less is known to be the same
  pub filled_same : (k : ℕ) → from ≤ k → Filled front k s b
  filled_same k h = record { long = f.long; begins = f.begins; same = same_later k h }

  -- more bytes are put in behind the front
  module _ (new : List ℕ) (k : ℕ) (h : length front + length new ≤ k) (l : from ≤ k) (m : k ≤ length s) where
    -- what stands behind them
    abbrev rest : List ℕ
    rest = drop (length front + length new) b

    parts : replaced (length front) new b ≡ (front ++ new) ++ rest
    parts = ap (λ t. t ++ (new ++ rest)) f.begins ∙ sym (append_assoc front new rest)

    count : length (front ++ new) ≡ length front + length new
    count = length-append front new

    more_same : drop k (replaced (length front) new b) ≡ drop k s
    more_same =
        let j = k - (length front + length new) in
        let e : length (front ++ new) + j ≡ k = omega (arith, count) in
        let q : length front + length new + j ≡ k = omega arith in
        ap₂ drop (sym e) parts
        ∙ drop-append-add (front ++ new) rest j
        ∙ drop-drop j (length front + length new) b
        ∙ ap (λ i. drop i b) q
        ∙ same_later k l

    pub filled_more : {at : ℕ} → at ≡ length front → Filled (front ++ new) k s (replaced at new b)
    filled_more e = rw e record {
      long = length_replaced (length front) new b (omega (arith, f.long)) ∙ f.long;
      begins = ap (λ n. take n (replaced (length front) new b)) count ∙ take_replaced (length front) new b (omega (arith, f.long)) ∙ ap (λ t. t ++ new) f.begins;
      same = more_same;
    }

  -- the front reaches to where the buffer is the same
  pub filled_done : length front ≡ from → b ≡ front ++ drop from s
  filled_done e = sym (take-append-drop from b) ∙ ap₂ (λ x y. x ++ y) (ap (λ k. take k b) (sym e) ∙ f.begins) f.same
