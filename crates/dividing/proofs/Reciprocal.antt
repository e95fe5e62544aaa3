-- A quotient by a reciprocal: x × y ÷ d is x × c ÷ 2³² or one more, where c is 2³² × y ÷ d.
use Prim.Native.Nat.{ℕ, ◌+◌, ◌-◌, ◌*◌, ◌/◌, ◌%◌, ◌^◌, ◌≤◌, ◌<◌}
use mathlib.Core.Path.{◌≡◌, sym, ap, ◌∙◌}
use native.Mathlib.Omega.{arith}
use native.Mathlib.Nat.{mul-add, add-mul, mul_assoc, mul_left_comm, mul_right_comm, mul-le-mul, mul-le-mul_right, mul-le-mul_left, div-add-mod', mod-lt, div-eq_of_lt-le, div-le_of_le-mul, one-mul}

-- what the remainders of the two divisions make
parts : (x y d c e m r : ℕ) → c * d + r ≡ 4294967296 * y → e * 4294967296 + m ≡ x * c
    → 4294967296 * (x * y) ≡ 4294967296 * (e * d) + m * d + x * r
parts x y d c e m r h k =
    let a : x * (c * d) + x * r ≡ x * (4294967296 * y) = sym (mul-add x (c * d) r) ∙ ap (λ n. x * n) h in
    let b : e * 4294967296 * d + m * d ≡ x * (c * d) = sym (add-mul (e * 4294967296) m d) ∙ ap (λ n. n * d) k ∙ mul_assoc x c d in
    omega (arith, mul_left_comm x 4294967296 y, mul_right_comm e 4294967296 d)

module _ (x y d c : ℕ) (p : (x < 2 ^ 32) × (y < 2 ^ 32) × (y ≤ d) × (0 < d) × (c ≡ 4294967296 * y / d)) where
  abbrev e : ℕ
  e = x * c / 4294967296

  between : (e * d ≤ x * y) × (x * y < e * d + 2 * d)
  between =
      let r = 4294967296 * y % d in
      let m = x * c % 4294967296 in
      let b = parts x y d c e m r (ap (λ n. n * d + r) p.4 ∙ div-add-mod' (4294967296 * y) d) (div-add-mod' (x * c) 4294967296) in
      let a : r < d = mod-lt (4294967296 * y) p.3 in
      let g : m < 4294967296 = mod-lt (x * c) (omega arith) in
      let f : m * d ≤ 4294967295 * d = mul-le-mul_right d (omega arith) in
      let h : x * r ≤ 4294967295 * d = mul-le-mul (omega arith) (omega arith) in
      (omega arith, omega arith)

  -- the estimate is no more than the quotient
  pub estimate_low : x * c / 4294967296 * d ≤ x * y
  estimate_low = between.0

  -- it is one less
  pub estimate_more : d ≤ x * y - x * c / 4294967296 * d → x * c / 4294967296 + 1 ≡ x * y / d
  estimate_more k =
      sym (div-eq_of_lt-le d
      (omega (arith, add-mul e 1 d, one-mul d, estimate_low))
      (omega (arith, add-mul (e + 1) 1 d, add-mul e 1 d, one-mul d, between.1)))

  -- or it is the quotient
  pub estimate_same : x * y - x * c / 4294967296 * d < d → x * c / 4294967296 ≡ x * y / d
  estimate_same k = sym (div-eq_of_lt-le d estimate_low (omega (arith, add-mul e 1 d, one-mul d, estimate_low)))

  -- the product with the reciprocal has 64 bits at most
  pub reciprocal_fits : x * c < 18446744073709551616
  reciprocal_fits =
      let a : c ≤ 4294967296 = rw p.4 (div-le_of_le-mul d (omega (arith, mul-le-mul_left 4294967296 p.2))) in
      let b : x * c ≤ 4294967295 * 4294967296 = mul-le-mul {n₂ = 4294967295} (omega arith) a in
      omega arith

-- the product of two counts has 64 bits at most
pub product_fits : {a b : ℕ} → a < 2 ^ 32 → b < 2 ^ 32 → a * b < 2 ^ 64
product_fits {a} {b} h k = omega (arith, mul-le-mul {n₁ = a} {m₁ = b} {n₂ = 4294967295} {m₂ = 4294967295} (omega arith) (omega arith))
