-- A record read by four bytes: its numbers of one byte are in what is read so, and it is sound where that passes the tests.
use Prim.Native.Nat.{ℕ, zero, suc, ◌+◌, ◌*◌, ◌/◌, ◌%◌, ◌<◌}
use mathlib.Core.Path.{◌≡◌, refl, sym}
use mathlib.Core.Bool.{Bool, true, ◌&&◌, ◌||◌}
use mathlib.Core.Bool as bool
use mathlib.Core.List.{List, [], ◌∷◌}
use native.Mathlib.Omega.{arith}
use borrow.Author.Tests.{ne_eqb, lt-leb}
use lib.Dec.{leb, eqb}
use lib.ListN.{get_or, take, drop}
use Rattle.units.specs.Lists.{in_range, is_zero}
use Rattle.units.proofs.Tests.{and_true, true_and, and_false, same_test}
use Rattle.units.proofs.Facts.{chain, chain_true, true_chain}
use Rattle.orders.specs.Order.{number_in_range, price_in_range, shares_in_range, security_in_range, minimum_in_range, reserve_in_range}
use Rattle.record.specs.Codec.{from_bytes, has_mark}
use Rattle.record.specs.Record.{new_form, new_tells, numbers_sound, record_sound}
use Rattle.record.proofs.Reading.{from_more, from_one, zero_parts, decode_at}

-- a security in the lowest byte of a number whose others are zero is that number
security_alone : (b u : ℕ) → b < 256 → security_in_range (b + 256 * u) ≡ (security_in_range b && is_zero u)
security_alone b zero h =
    let e : b + 256 * 0 ≡ b = omega arith in
    rw e (sym (bool.and-true (security_in_range b)))
security_alone b (suc u) h =
    rw (lt-leb (b + 256 * suc u) 1 (omega arith), ne_eqb (suc u) 0 (λ e. omega arith), bool.and-false (leb 0 (b + 256 * suc u)))
    (sym (and_false (security_in_range b) refl))

-- the tests in the order of the bytes, and in that of the definitions
module _ (mark side kind number price size minimum setter security z a b reserve : Bool) where
  abbrev bytewise : List Bool
  bytewise = kind ∷ number ∷ price ∷ size ∷ minimum ∷ setter ∷ (security && z) ∷ a ∷ b ∷ reserve ∷ []

  abbrev common : List Bool
  common = number ∷ price ∷ size ∷ minimum ∷ setter ∷ (a && b) ∷ []

  abbrev told : List Bool
  told = security ∷ z ∷ reserve ∷ []

  regroup : chain (mark && side) bytewise ≡ (mark && (chain side common && chain kind told))
  regroup = same_test _ _ there back
    where
      there : chain (mark && side) bytewise ≡ true → (mark && (chain side common && chain kind told)) ≡ true
      there e =
          let t = chain_true (mark && side) bytewise e in
          let m = and_true mark side t.0 in
          let n = t.1.1 in
          let l = n.1.1.1.1 in
          let v = and_true security z l.1.0 in
          true_and m.0
          (true_and
          (true_chain side common m.1 n.0 n.1.0 n.1.1.0 n.1.1.1.0 l.0 (true_and l.1.1.0 l.1.1.1.0))
          (true_chain kind told t.1.0 v.0 v.1 l.1.1.1.1.0))

      back : (mark && (chain side common && chain kind told)) ≡ true → chain (mark && side) bytewise ≡ true
      back e =
          let m = and_true mark (chain side common && chain kind told) e in
          let h = and_true (chain side common) (chain kind told) m.1 in
          let c = chain_true side common h.0 in
          let k = chain_true kind told h.1 in
          let n = c.1 in
          let l = n.1.1.1.1 in
          let x = and_true a b l.1.0 in
          true_chain (mark && side) bytewise (true_and m.0 c.0) k.0 n.0 n.1.0 n.1.1.0 n.1.1.1.0
          l.0 (true_and k.1.0 k.1.1.0) x.0 x.1 k.1.1.1.0

module _ (s : List ℕ) (bytes : (k : ℕ) → get_or s k 0 < 256) where
  abbrev four : ℕ → ℕ
  four at = from_bytes (take 4 (drop at s))

  first_four : four 0 ≡ get_or s 0 0 + 256 * get_or s 1 0 + 65536 * get_or s 2 0 + 16777216 * get_or s 3 0
  first_four = omega (arith, from_more 3 0 1 s refl, from_more 2 1 2 s refl, from_more 1 2 3 s refl, from_one 3 s)

  kind_byte : four 0 / 16777216 ≡ get_or s 3 0
  kind_byte = omega (arith, first_four, bytes 0, bytes 1, bytes 2, bytes 3)

  side_byte : four 0 / 65536 % 256 ≡ get_or s 2 0
  side_byte = omega (arith, first_four, bytes 0, bytes 1, bytes 2, bytes 3)

  setter_byte : four 20 % 256 ≡ get_or s 20 0
  setter_byte = omega (arith, from_more 3 20 21 s refl, bytes 20)

  -- the security and the two zeros behind it are one number
  security_bytes : security_in_range (four 20 / 256) ≡ (security_in_range (get_or s 21 0) && is_zero (from_bytes (take 2 (drop 22 s))))
  security_bytes =
      let e : four 20 / 256 ≡ from_bytes (take 3 (drop 21 s)) = omega (arith, from_more 3 20 21 s refl, bytes 20) in
      rw (e, from_more 2 21 22 s refl) (security_alone (get_or s 21 0) (from_bytes (take 2 (drop 22 s))) (bytes 21))

  abbrev kind : ℕ
  kind = four 0 / 16777216

  -- what is read by four bytes passes these tests
  abbrev fours : List Bool
  fours =
      in_range 1 4 kind ∷
      number_in_range (four 4) ∷
      price_in_range (four 8) ∷
      shares_in_range (four 12) ∷
      minimum_in_range kind (four 12) (four 16) ∷
      (is_zero (four 20 % 256) || (eqb (four 20 % 256) 1 && (eqb kind 1 || eqb kind 4))) ∷
      security_in_range (four 20 / 256) ∷
      is_zero (four 24) ∷
      is_zero (four 28) ∷
      reserve_in_range kind (four 32) (four 36) ∷ []

  -- a record is sound where it does
  pub sound_by_fours : chain (has_mark new_form.layout s && in_range 1 2 (four 0 / 65536 % 256)) fours ≡ record_sound new_form s
  unfolding numbers_sound new_tells
  sound_by_fours =
      rw (
        side_byte,
        kind_byte,
        setter_byte,
        security_bytes,
        decode_at new_form.layout s,
        from_one 2 s,
        from_one 3 s,
        from_one 20 s,
        from_one 21 s,
        zero_parts 4 4 24 s,
      )
      (regroup (has_mark new_form.layout s) (in_range 1 2 (get_or s 2 0)) (in_range 1 4 (get_or s 3 0)) (number_in_range (four 4)) (price_in_range (four 8))
      (shares_in_range (four 12)) (minimum_in_range (get_or s 3 0) (four 12) (four 16))
      (is_zero (get_or s 20 0) || (eqb (get_or s 20 0) 1 && (eqb (get_or s 3 0) 1 || eqb (get_or s 3 0) 4)))
      (security_in_range (get_or s 21 0)) (is_zero (from_bytes (take 2 (drop 22 s)))) (is_zero (four 24)) (is_zero (four 28))
      (reserve_in_range (get_or s 3 0) (four 32) (four 36)))
