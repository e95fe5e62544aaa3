-- Bytes put in the place of others one by one: after i of them, a list x is what paste says, and after the last it is what replaced says.
use Prim.Native.Nat.{ℕ, ◌+◌, ◌-◌, ◌≤◌, ◌<◌}
use mathlib.Core.Path.{◌≡◌, sym, ap, ap₂, ◌∙◌}
use mathlib.Core.List.{List, ◌++◌, append-nil, append_assoc}
use native.Mathlib.Omega.{arith}
use native.Mathlib.Numerals.{add-one}
use lib.ListN.{length, get_or, take, drop, set, length-append, length-drop, take-append-drop}
use lib.Seq.{paste, paste-suc, drop-paste, take-append_seam, length-take-le, drop-length, drop-append-add, drop-drop, get_or-drop}
use Rattle.record.specs.Codec.{replaced}

module _ (d s : List ℕ) (at : ℕ) (h : at + length s ≤ length d) (x : List ℕ) (i : ℕ) (e : x ≡ paste d at s i) where
  -- one byte more is put in
  paste_more : i < length s → (v : ℕ) → v ≡ get_or s i 0 → set x (at + i) v ≡ paste d at s (i + 1)
  paste_more l v q = rw (e, q, add-one) (paste-suc d at s i 0 (omega arith) l)

  -- what stands behind the bytes that were put in is as it was
  paste_behind : i ≤ length s → (k : ℕ) → get_or x (at + i + k) 0 ≡ get_or d (at + i + k) 0
  paste_behind l k =
      let q : drop (at + i) x ≡ drop (at + i) d = ap (drop (at + i)) e ∙ drop-paste d at s i (omega arith) l in
      sym (get_or-drop (at + i) x k 0) ∙ ap (λ t. get_or t k 0) q ∙ get_or-drop (at + i) d k 0

-- What stands k bytes behind a place moves up to it, byte by byte: x is the list after i of them.
module _ (d : List ℕ) (at k : ℕ) (h : at + k ≤ length d)
    (x : List ℕ) (i : ℕ) (l : i ≤ length d - k - at) (e : x ≡ paste d at (drop (at + k) d) i) where
  count : length (drop (at + k) d) ≡ length d - k - at
  count = length-drop (at + k) d ∙ omega arith

  fits : at + length (drop (at + k) d) ≤ length d
  fits = omega (arith, count)

  within : i ≤ length (drop (at + k) d)
  within = omega (arith, count)

  -- one byte more moves
  pub move_more : i < length d - k - at → set x (at + i) (get_or x (at + k + i) 0) ≡ paste d at (drop (at + k) d) (i + 1)
  move_more m =
      let s = drop (at + k) d in
      let q : at + k + i ≡ at + i + k = omega arith in
      let v : get_or x (at + k + i) 0 ≡ get_or s i 0 = rw (get_or-drop (at + k) d i 0, q) (paste_behind d s at fits x i e within k) in
      paste_more d s at fits x i e (omega (arith, count)) (get_or x (at + k + i) 0) v

-- Bytes put in the place of others, all within a buffer.
module _ (at : ℕ) (new b : List ℕ) (h : at + length new ≤ length b) where
  abbrev behind : List ℕ
  behind = drop (at + length new) b

  -- they stand behind those before them
  pub take_replaced : take (at + length new) (replaced at new b) ≡ take at b ++ new
  take_replaced =
      let front = take at b in
      let n : at + length new ≡ length (front ++ new) = omega (arith, length-append front new, length-take-le at b (omega arith)) in
      ap₂ take n (sym (append_assoc front new behind)) ∙ take-append_seam (front ++ new) behind

  -- the buffer stays as long as it was
  pub length_replaced : length (replaced at new b) ≡ length b
  length_replaced =
      omega (
        arith,
        length-append (take at b) (new ++ behind),
        length-append new behind,
        length-take-le at b (omega arith),
        length-drop (at + length new) b,
      )

-- bytes put directly behind others that were put in are put in with them
pub replaced_next : (at : ℕ) (a b t : List ℕ) → at + (length a + length b) ≤ length t
    → replaced (at + length a) b (replaced at a t) ≡ replaced at (a ++ b) t
replaced_next at a b t h =
    let front = take at t in
    let n : length (front ++ a) ≡ at + length a = length-append front a ∙ omega (arith, length-take-le at t (omega arith)) in
    let m : at + length a + length b ≡ at + length (a ++ b) = omega (arith, length-append a b) in
    let behind : drop (at + length a + length b) (replaced at a t) ≡ drop (at + length (a ++ b)) t =
    ap₂ drop (ap (λ k. k + length b) (sym n)) (sym (append_assoc front a (drop (at + length a) t)))
    ∙ drop-append-add (front ++ a) (drop (at + length a) t) (length b)
    ∙ drop-drop (length b) (at + length a) t
    ∙ ap (λ k. drop k t) m in
    ap₂ (λ x y. x ++ (b ++ y)) (take_replaced at a t (omega arith)) behind
    ∙ append_assoc front a (b ++ drop (at + length (a ++ b)) t)
    ∙ ap (λ l. front ++ l) (sym (append_assoc a b (drop (at + length (a ++ b)) t)))

-- bytes put in the place of as many, all of them, are what is there
pub replaced_all : (new b : List ℕ) → length new ≡ length b → replaced 0 new b ≡ new
replaced_all new b e = let q : 0 + length new ≡ length b = omega arith in rw (q, drop-length b) (append-nil new)

-- bytes put in their own place leave the buffer as it was
pub replaced_same : (at n : ℕ) (b : List ℕ) → at + n ≤ length b → replaced at (take n (drop at b)) b ≡ b
replaced_same at n b h =
    let l : length (take n (drop at b)) ≡ n = length-take-le n (drop at b) (omega (arith, length-drop at b)) in
    rw (l, ← drop-drop n at b, take-append-drop n (drop at b)) (take-append-drop at b)
