-- Zero bytes as records.
use Prim.Native.Nat.{ℕ, zero, suc, ◌+◌, ◌*◌}
use mathlib.Core.Path.{◌≡◌, refl, sym, ap, ap₂, ◌∙◌}
use mathlib.Core.Bool.{true}
use mathlib.Core.List.{List, [], ◌∷◌, ◌++◌}
use native.Mathlib.Omega.{arith}
use native.Mathlib.Nat.{mul-zero, mul-suc}
use lib.ListN.{length, take, drop, replicate, length-drop, length-replicate, replicate-append-replicate, take-append-drop}
use lib.Seq.{take_at, drop_at, length-take-le}
use borrow.Author.Tests.{eqb-true}
use Rattle.units.specs.Lists.{all, is_zero}
use Rattle.units.proofs.Tests.{and_true, true_and}
use Rattle.record.specs.Record.{OrderForm, order_bytes}
use Rattle.book.specs.Sound.{is_unused, occupied, behind, first_records}

-- so many zero bytes
abbrev pub zeros : ℕ → List ℕ
zeros n = replicate n 0

zeros_unused : (n : ℕ) → is_unused (zeros n) ≡ true
zeros_unused zero = refl
zeros_unused (suc n) = refl

zeros_are : (n : ℕ) → all is_zero (zeros n) ≡ true
zeros_are zero = refl
zeros_are (suc n) = zeros_are n

all_zeros : (s : List ℕ) → all is_zero s ≡ true → s ≡ zeros (length s)
all_zeros [] e = refl
all_zeros (x ∷ s) e =
    let a = and_true (is_zero x) (all is_zero s) e in
    let p = eqb-true x 0 a.0 in
    let q = all_zeros s a.1 in
    cc

-- Of any form of record.
module _ (f : OrderForm) where
  -- the zeros of one record more
  pub zeros_more : (n : ℕ) → zeros (order_bytes f * suc n) ≡ zeros (order_bytes f) ++ zeros (order_bytes f * n)
  zeros_more n =
      let e : order_bytes f * suc n ≡ order_bytes f + order_bytes f * n = omega (arith, mul-suc (order_bytes f) n) in
      ap zeros e ∙ sym (replicate-append-replicate (order_bytes f) (order_bytes f * n) 0)

  -- the records of zeros
  pub first_zeros : (n : ℕ) → first_records f n (zeros (order_bytes f * n)) ≡ replicate n (zeros (order_bytes f))
  first_zeros zero = refl
  first_zeros (suc n) =
      let z = zeros (order_bytes f * n) in
      let l = length-replicate {A = ℕ} (order_bytes f) 0 in
      rw (zeros_more n, take_at (zeros (order_bytes f)) z (order_bytes f) l, drop_at (zeros (order_bytes f)) z (order_bytes f) l, first_zeros n)

  -- zero records are not occupied
  pub occupied_zeros : (n : ℕ) → occupied (replicate n (zeros (order_bytes f))) ≡ []
  occupied_zeros zero = refl
  occupied_zeros (suc n) = rw (zeros_unused (order_bytes f))

  -- they all stand behind the orders
  pub behind_zeros : (n : ℕ) → behind (replicate n (zeros (order_bytes f))) ≡ replicate n (zeros (order_bytes f))
  behind_zeros zero = refl
  behind_zeros (suc n) = rw (zeros_unused (order_bytes f))

  -- and are zero
  pub zeros_zero : (n : ℕ) → all (all is_zero) (replicate n (zeros (order_bytes f))) ≡ true
  zeros_zero zero = refl
  zeros_zero (suc n) = true_and (zeros_are (order_bytes f)) (zeros_zero n)

  -- a buffer whose records are zero is zero
  pub records_zeros : (n : ℕ) (s : List ℕ) → length s ≡ order_bytes f * n → all (all is_zero) (first_records f n s) ≡ true → s ≡ zeros (order_bytes f * n)
  records_zeros zero [] l e = rw (mul-zero (order_bytes f))
  records_zeros zero (x ∷ s) l e = absurd (omega (arith, mul-zero (order_bytes f)))
  records_zeros (suc n) s l e =
      let r = take (order_bytes f) s in
      let t = drop (order_bytes f) s in
      let a = and_true (all is_zero r) (all (all is_zero) (first_records f n t)) e in
      let m : length r ≡ order_bytes f = length-take-le (order_bytes f) s (omega (arith, mul-suc (order_bytes f) n)) in
      let p = all_zeros r a.0 ∙ ap zeros m in
      let q = records_zeros n t (length-drop (order_bytes f) s ∙ omega (arith, mul-suc (order_bytes f) n)) a.1 in
      sym (take-append-drop (order_bytes f) s) ∙ ap₂ (λ x y. x ++ y) p q ∙ sym (zeros_more n)
