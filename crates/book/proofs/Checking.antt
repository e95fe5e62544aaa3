-- Soundness in the parts that are looked at, by the number of records in use; what is known of a book that was looked at; and check, way by way.
use Prim.Native.Nat.{ℕ, zero, suc, ◌+◌, ◌*◌, ◌%◌, ◌≤◌}
use mathlib.Core.Path.{◌≡◌, refl, sym, ap, ◌∙◌}
use mathlib.Core.Bool.{Bool, true, false, cond, not, ◌&&◌}
use mathlib.Core.List.{List, [], ◌∷◌, map}
use native.Mathlib.Omega.{arith}
use native.Mathlib.Nat.{mul-zero, mul-suc, div-add-mod}
use lib.ListN.{length, take, drop, length-map, length-drop, take-append-drop}
use lib.Seq.{drop-drop}
use lib.Dec.{leb, eqb}
use borrow.Author.Tests.{eqb-true, leb-true}
use Rattle.std.specs.Prelude.{Result, Ok, Err, MatchResult, is_ok}
use Rattle.units.specs.Lists.{all, is_zero}
use Rattle.units.proofs.Tests.{and_true}
use Rattle.units.proofs.Members.{all_append}
use Rattle.record.specs.Record.{OrderForm, order_bytes, decode_order, record_sound}
use Rattle.orders.specs.Order.{security_in_range}
use Rattle.book.specs.declared.refusal.Refusal.{Refusal}
use Rattle.book.specs.declared.refusal.Refusal.TheVariants.{UnsoundBook}
use Rattle.book.specs.Sound.{most_orders, form, record_bytes, rising, setters_sound, is_unused, occupied, behind}
use Rattle.book.specs.Sound.{first_records, records_in, capacity_in, sound_in, first_orders_in, sound, orders_of, first_orders}
use Rattle.book.specs.Lookup.{orders_for, check_call}
use Rattle.book.proofs.Soundness.{orders_fit, capacity_most, capacity_bytes}

-- Books of any form of record.
module _ (f : OrderForm) where
  -- of the first n records the occupied ones come first
  occupied_among : (n : ℕ) (s : List ℕ) → occupied (first_records f n s) ≡ first_records f (length (occupied (first_records f n s))) s
  occupied_among zero s = refl
  occupied_among (suc n) s = go (is_unused r) (occupied_among n (drop (order_bytes f) s))
    where
      r : List ℕ
      r = take (order_bytes f) s

      rs : List (List ℕ)
      rs = first_records f n (drop (order_bytes f) s)

      go : (b : Bool) → occupied rs ≡ first_records f (length (occupied rs)) (drop (order_bytes f) s)
          → cond b [] (r ∷ occupied rs) ≡ first_records f (length (cond b [] (r ∷ occupied rs))) s
      go true ih = refl
      go false ih = ap (λ l. r ∷ l) ih

  -- records are all zero where their bytes are
  zero_records : (n : ℕ) (s : List ℕ) → length s ≡ order_bytes f * n → all (all is_zero) (first_records f n s) ≡ all is_zero s
  zero_records zero [] l = refl
  zero_records zero (x ∷ s) l = absurd (omega (arith, mul-zero (order_bytes f)))
  zero_records (suc n) s l =
      let r = take (order_bytes f) s in
      let t = drop (order_bytes f) s in
      ap (λ b. all is_zero r && b) (zero_records n t (length-drop (order_bytes f) s ∙ omega arith))
      ∙ sym (all_append is_zero r t)
      ∙ ap (all is_zero) (take-append-drop (order_bytes f) s)

  -- the records behind the occupied ones are zero where the bytes behind these are
  zero_behind : (n : ℕ) (s : List ℕ) → length s ≡ order_bytes f * n
      → all (all is_zero) (behind (first_records f n s)) ≡ all is_zero (drop (order_bytes f * length (occupied (first_records f n s))) s)
  zero_behind zero [] l = rw (mul-zero (order_bytes f))
  zero_behind zero (x ∷ s) l = absurd (omega (arith, mul-zero (order_bytes f)))
  zero_behind (suc n) s l = go (is_unused r) (zero_behind n t (length-drop (order_bytes f) s ∙ omega arith))
    where
      r : List ℕ
      r = take (order_bytes f) s

      t : List ℕ
      t = drop (order_bytes f) s

      rs : List (List ℕ)
      rs = first_records f n t

      go : (b : Bool) → all (all is_zero) (behind rs) ≡ all is_zero (drop (order_bytes f * length (occupied rs)) t)
          → all (all is_zero) (cond b (r ∷ rs) (behind rs)) ≡ all is_zero (drop (order_bytes f * length (cond b [] (r ∷ occupied rs))) s)
      go true ih = rw (mul-zero (order_bytes f)) (zero_records (suc n) s l)
      go false ih =
          let k = length (occupied rs) in
          let e : order_bytes f + order_bytes f * k ≡ order_bytes f * suc k = omega (arith, mul-suc (order_bytes f) k) in
          ih ∙ ap (all is_zero) (drop-drop (order_bytes f * k) (order_bytes f) s ∙ ap (λ i. drop i s) e)

  module _ (s : List ℕ) where
    -- the occupied records are the first ones
    pub occupied_first : occupied (records_in f s) ≡ first_records f (length (occupied (records_in f s))) s
    occupied_first = occupied_among (capacity_in f s) s

    -- the records behind the orders are zero where the bytes are
    pub behind_zero : length s % order_bytes f ≡ 0
        → all (all is_zero) (behind (records_in f s)) ≡ all is_zero (drop (order_bytes f * length (occupied (records_in f s))) s)
    behind_zero h = zero_behind (capacity_in f s) s (omega (arith, div-add-mod (length s) (order_bytes f)))

    -- a length that is no whole number of records, at most 256, is no sound book's
    pub sound_length_in : (leb (length s) (most_orders * order_bytes f) && is_zero (length s % order_bytes f)) ≡ false → sound_in f s ≡ false
    sound_length_in h = rw h

    -- a whole number of records, at most 256, is a sound book where its first n and the bytes behind them pass these four tests
    pub sound_parts_in : (n : ℕ) → n ≡ length (occupied (records_in f s))
        → (leb (length s) (most_orders * order_bytes f) && is_zero (length s % order_bytes f)) ≡ true
        → sound_in f s
        ≡ (all (record_sound f) (first_records f n s)
        && all is_zero (drop (order_bytes f * n) s)
        && rising 0 (first_orders_in f n s)
        && setters_sound (first_orders_in f n s))
    sound_parts_in n e h =
        let w = and_true (leb (length s) (most_orders * order_bytes f)) (is_zero (length s % order_bytes f)) h in
        let z = behind_zero (eqb-true (length s % order_bytes f) 0 w.1) in
        rw (h, z, ← e, occupied_first, ← e)

-- Books of the new form.
module _ (s : List ℕ) where
  -- a book has as many orders as occupied records
  pub orders_count : length (orders_of s) ≡ length (occupied (records_in form s))
  unfolding orders_of
  orders_count = length-map (occupied (records_in form s)) (decode_order form)

  -- they are those of its first records
  pub orders_first : orders_of s ≡ first_orders (length (orders_of s)) s
  unfolding orders_of
  orders_first = ap (map (decode_order form)) (occupied_first form s) ∙ ap (λ k. first_orders k s) (sym orders_count)

  -- a length that is no whole number of records, at most 256, is no sound book's
  pub sound_length : (leb (length s) (most_orders * record_bytes) && is_zero (length s % record_bytes)) ≡ false → sound s ≡ false
  unfolding sound
  sound_length h = sound_length_in form s h

  -- any other has at most 10,240 bytes
  pub whole_most : (leb (length s) (most_orders * record_bytes) && is_zero (length s % record_bytes)) ≡ true → length s ≤ 10240
  whole_most h = leb-true (length s) 10240 (and_true (leb (length s) (most_orders * record_bytes)) (is_zero (length s % record_bytes)) h).0

  -- the orders of a sound book lie in its bytes, and are at most 256
  pub sound_fits : sound s ≡ true → (40 * length (orders_of s) ≤ length s) × (length (orders_of s) ≤ 256)
  sound_fits e = omega (arith, orders_fit s, capacity_most s e, capacity_bytes s e)

  module _ (n : ℕ) (e : n ≡ length (occupied (records_in form s))) where
    -- a whole number of records, at most 256, is a sound book where its first n and the bytes behind them pass these four tests
    pub sound_parts : (leb (length s) (most_orders * record_bytes) && is_zero (length s % record_bytes)) ≡ true
        → sound s
        ≡ (all (record_sound form) (first_records form n s)
        && all is_zero (drop (40 * n) s)
        && rising 0 (first_orders n s)
        && setters_sound (first_orders n s))
    unfolding sound
    sound_parts h = sound_parts_in form s n e h

  -- an answer that says which of both the book is
  pub known_test : (r : Result ℕ Refusal)
      → MatchResult r (λ n. (sound s ≡ true) × (n ≡ length (orders_of s))) (λ e. (sound s ≡ false) × (e ≡ UnsoundBook)) → is_ok r ≡ sound s
  known_test (Ok n) h = sym h.0
  known_test (Err e) h = sym h.0

  module _ (k : ℕ) where
    -- check, refusal 1: there is no such security
    pub check_range : security_in_range k ≡ false → record { refusal = 1; orders = 0 } ≡ check_call k s
    unfolding check_call
    check_range h = rw h

    module _ (r : security_in_range k ≡ true) where
      -- refusal 2: the book is not sound
      pub check_unsound : sound s ≡ false → record { refusal = 2; orders = 0 } ≡ check_call k s
      unfolding check_call
      check_unsound h = rw (r, h)

      -- accepted: the number of the security's orders
      pub check_sound : sound s ≡ true → record { refusal = 0; orders = length (orders_for k s) } ≡ check_call k s
      unfolding check_call
      check_sound h = rw (r, h)
