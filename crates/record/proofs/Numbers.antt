-- Numbers in bytes and rows of numbers in bytes, both ways: one law for every width.
use Prim.Native.Nat.{ℕ, zero, suc, ◌+◌, ◌*◌, ◌/◌, ◌%◌, ◌^◌, ◌<◌}
use mathlib.Core.Path.{◌≡◌, refl, sym, ap, ◌∙◌}
use mathlib.Core.List.{List, [], ◌∷◌, ◌++◌, append_assoc}
use native.Mathlib.Omega.{arith}
use native.Mathlib.Nat.{pow-suc}
use lib.ListN.{length, get_or, take, drop, length-append, length-drop, take-append-drop}
use lib.Seq.{take_at, drop_at, length-take-le}
use Rattle.units.specs.Lists.{sum}
use Rattle.units.proofs.Members.{Every}
use Rattle.record.specs.Codec.{to_bytes, from_bytes, join, split}

-- there is a number for every width, and it fits
abbrev pub Fits : List ℕ → List ℕ → Type 0
Fits [] [] = Unit {0}
Fits [] (n ∷ ns) = ⊥
Fits (w ∷ ws) [] = ⊥
Fits (w ∷ ws) (n ∷ ns) = (n < 256 ^ w) × Fits ws ns

-- numbers that fit more widths fit the first of these, as far as they go
pub fits_first : (ws vs ns : List ℕ) → Fits (ws ++ vs) ns → Fits ws (take (length ws) ns)
fits_first [] vs ns h = tt
fits_first (w ∷ ws) vs [] h = elim h [ ]
fits_first (w ∷ ws) vs (n ∷ ns) h = (h.0, fits_first ws vs ns h.1)

-- each is a byte
abbrev pub AreBytes : List ℕ → Type 0
AreBytes = Every (λ b. b < 256)

-- numbers that are below 256 at every place are bytes
pub are_bytes : (s : List ℕ) → ((k : ℕ) → get_or s k 0 < 256) → AreBytes s
are_bytes [] h = tt
are_bytes (x ∷ s) h = (h 0, are_bytes s (λ k. h (suc k)))

-- the first bytes of bytes are bytes
pub bytes_take : (w : ℕ) (s : List ℕ) → AreBytes s → AreBytes (take w s)
bytes_take zero s b = tt
bytes_take (suc w) [] b = tt
bytes_take (suc w) (x ∷ s) b = (b.0, bytes_take w s b.1)

-- the bytes behind the first are bytes
pub bytes_drop : (w : ℕ) (s : List ℕ) → AreBytes s → AreBytes (drop w s)
bytes_drop zero s b = b
bytes_drop (suc w) [] b = tt
bytes_drop (suc w) (x ∷ s) b = bytes_drop w s b.1

-- a number takes as many bytes as its width
pub length_bytes : (w n : ℕ) → length (to_bytes w n) ≡ w
length_bytes zero n = refl
length_bytes (suc w) n = ap suc (length_bytes w (n / 256))

-- a number that fits its width is read back as it was written
pub from_to : (w n : ℕ) → n < 256 ^ w → from_bytes (to_bytes w n) ≡ n
from_to zero n h = omega arith
from_to (suc w) n h =
    let k : n < 256 ^ w * 256 = rw pow-suc at h in
    let i = from_to w (n / 256) (omega arith) in
    rw i (omega arith)

-- bytes that are read as a number are written back as they were
pub to_from : (s : List ℕ) → AreBytes s → to_bytes (length s) (from_bytes s) ≡ s
to_from [] b = refl
to_from (x ∷ s) b =
    let l = b.0 in
    let e : (x + 256 * from_bytes s) % 256 ≡ x = omega arith in
    let f : (x + 256 * from_bytes s) / 256 ≡ from_bytes s = omega arith in
    rw (e, f, to_from s b.1)

-- a row of numbers takes the sum of its widths
pub length_join : (ws ns : List ℕ) → length ns ≡ length ws → length (join ws ns) ≡ sum ws
length_join [] [] e = refl
length_join [] (n ∷ ns) e = refl
length_join (w ∷ ws) [] e = absurd (omega arith)
length_join (w ∷ ws) (n ∷ ns) e =
    length-append (to_bytes w n) (join ws ns) ∙ omega (arith, length_bytes w n, length_join ws ns (omega arith))

-- a row of more numbers than widths is that of its first numbers
pub join_first : (ws ns : List ℕ) → join ws (take (length ws) ns) ≡ join ws ns
join_first [] ns = refl
join_first (w ∷ ws) [] = refl
join_first (w ∷ ws) (n ∷ ns) = ap (λ l. to_bytes w n ++ l) (join_first ws ns)

-- a split gives a number for every width
pub length_split : (ws s : List ℕ) → length (split ws s) ≡ length ws
length_split [] s = refl
length_split (w ∷ ws) s = ap suc (length_split ws (drop w s))

-- a row of numbers that fit is read back as it was written, whatever stands behind it
pub split_join : (ws ns t : List ℕ) → Fits ws ns → split ws (join ws ns ++ t) ≡ ns
split_join [] (n ∷ ns) t h = elim h [ ]
split_join (w ∷ ws) [] t h = elim h [ ]
split_join [] [] t h = refl
split_join (w ∷ ws) (n ∷ ns) t h =
    let l = length_bytes w n in
    rw (
      append_assoc,
      take_at (to_bytes w n) (join ws ns ++ t) w l,
      drop_at (to_bytes w n) (join ws ns ++ t) w l,
      from_to w n h.0,
      split_join ws ns t h.1,
    )

-- bytes of some widths and bytes of others are split each by their own
pub split_append : (ws vs a b : List ℕ) → length a ≡ sum ws → split (ws ++ vs) (a ++ b) ≡ split ws a ++ split vs b
split_append [] vs [] b e = refl
split_append [] vs (x ∷ a) b e = absurd (omega arith)
split_append (w ∷ ws) vs a b e =
    let l : length (take w a) ≡ w = length-take-le w a (omega arith) in
    let p : a ++ b ≡ take w a ++ (drop w a ++ b) = ap (λ x. x ++ b) (sym (take-append-drop w a)) ∙ append_assoc (take w a) (drop w a) b in
    rw (p, take_at (take w a) (drop w a ++ b) w l, drop_at (take w a) (drop w a ++ b) w l)
    (ap (λ ns. from_bytes (take w a) ∷ ns) (split_append ws vs (drop w a) b (length-drop w a ∙ omega arith)))

-- bytes that are read as a row of numbers are written back as they were
pub join_split : (ws s : List ℕ) → AreBytes s → length s ≡ sum ws → join ws (split ws s) ≡ s
join_split [] [] b e = refl
join_split [] (x ∷ s) b e = absurd (omega arith)
join_split (w ∷ ws) s b e =
    let l : length (take w s) ≡ w = length-take-le w s (omega arith) in
    let t : to_bytes w (from_bytes (take w s)) ≡ take w s = rw l at (to_from (take w s) (bytes_take w s b)) in
    rw (t, join_split ws (drop w s) (bytes_drop w s b) (length-drop w s ∙ omega arith)) (take-append-drop w s)
