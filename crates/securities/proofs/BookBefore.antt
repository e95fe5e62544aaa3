-- Books of which every order is of security 0, check and find: as before there were securities.
use Prim.Native.Nat.{ℕ, ◌-◌, ◌*◌}
use mathlib.Core.Path.{◌≡◌, refl, sym, ap, ap₂, ◌∙◌}
use mathlib.Core.Bool.{true, not, ◌&&◌, and-true}
use mathlib.Core.List.Memᴰ
use mathlib.Core.List.{List, [], ◌∷◌, ◌++◌, Memᴰ}
use lib.ListN.{length, get_or, replicate}
use borrow.Author.Tests.{eqb-true, eq-eqb}
use Rattle.units.proofs.Members.{member_every, filter_all}
use Rattle.orders.specs.declared.order.Order.{Order}
use Rattle.orders.specs.Trading.{of_security}
use Rattle.record.specs.Codec.{decode}
use Rattle.record.specs.Record.{new_tells, numbers_of, order_of, encode_order, decode_order, record_sound}
use Rattle.book.specs.Sound.{form, record_bytes, same_setter, setters_sound, occupied, records_in, sound, orders_of, book_of}
use Rattle.book.specs.Lookup.{is_named, is_unknown, place_of, check_call, find_call}
use Rattle.securities.specs.BookBefore.{tells_before, form_before, same_setter_before, setters_before, sound_before, encode_before, book_before}
use Rattle.securities.specs.BookBefore.{check_before, is_named_before, is_unknown_before, place_before, find_before}
use Rattle.securities.proofs.Same.{any_same, all_same, flat_same}

-- orders of one security
abbrev pub Only : ℕ → List Order → Type 0
Only k os = (o : Order) → Memᴰ o os → of_security k o ≡ true

-- its number is that of each
security_is : (k : ℕ) (os : List Order) → Only k os → (o : Order) → Memᴰ o os → o.security ≡ k
security_is k os h o m = eqb-true o.security k (h o m)

-- one order fewer
only_rest : (k : ℕ) (o : Order) (os : List Order) → Only k (o ∷ os) → Only k os
only_rest k o os h p m = h p (Memᴰ.tail m)

-- a record of security 0 has zero in byte 21
record_before : (r : List ℕ) → of_security 0 (decode_order form r) ≡ true → record_sound form r ≡ record_sound form_before r
unfolding order_of new_tells tells_before
record_before r e = rw (eqb-true (get_or (decode form.layout r) 7 0) 0 e)

-- setter marks of one security are one per side and price
setters_before_lem : (k : ℕ) (os : List Order) → Only k os → setters_sound os ≡ setters_before os
setters_before_lem k [] h = refl
setters_before_lem k (o ∷ os) h =
    ap₂ (λ a b. not a && b) (any_same os (λ p m. same p (security_is k (o ∷ os) h o (Memᴰ.head refl) ∙ sym (security_is k (o ∷ os) h p (Memᴰ.tail m)))))
    (setters_before_lem k os (only_rest k o os h))
  where
    same : (p : Order) → o.security ≡ p.security → same_setter o p ≡ same_setter_before o p
    same p e = rw (eq-eqb o.security p.security e, and-true (o.setter && p.setter))

-- the record of an order of security 0
encode_before_lem : (o : Order) → o.security ≡ 0 → encode_order form o ≡ encode_before o
unfolding numbers_of encode_before
encode_before_lem o e = rw e

-- the book of orders of security 0
pub book_before_lem : (capacity : ℕ) (os : List Order) → Only 0 os → book_of capacity os ≡ book_before capacity os
unfolding book_of book_before
book_before_lem capacity os h = ap (λ l. l ++ replicate (record_bytes * (capacity - length os)) 0) (flat_same os (λ o m. encode_before_lem o (security_is 0 os h o m)))

-- A book whose orders are of security 0.
module _ (s : List ℕ) (h : Only 0 (orders_of s)) where
  -- it is sound where it was
  pub sound_before_lem : sound s ≡ sound_before s
  unfolding sound sound_before orders_of
  sound_before_lem =
      rw (all_same (occupied (records_in form s)) (λ r m. record_before r (h (decode_order form r) (Memᴰ.map (decode_order form) m))), setters_before_lem 0 (orders_of s) h)

  -- check answers as before
  pub check_before_lem : check_call 0 s ≡ check_before s
  unfolding check_call check_before
  check_before_lem = rw (sound_before_lem, filter_all (of_security 0) (orders_of s) (member_every (λ o. of_security 0 o ≡ true) (orders_of s) h))

-- an order is named by its number
pub named_before : (k n : ℕ) (os : List Order) → Only k os → (o : Order) → Memᴰ o os → is_named k n o ≡ is_named_before n o
named_before k n os h o m = rw (h o m)

-- it is unknown where it was
pub unknown_before : (k n : ℕ) (os : List Order) → Only k os → is_unknown k n os ≡ is_unknown_before n os
unknown_before k n os h = ap not (any_same os (named_before k n os h))

-- and stands where it did
place_before_lem : (k n : ℕ) (os : List Order) → Only k os → place_of k n os ≡ place_before n os
place_before_lem k n [] h = refl
place_before_lem k n (o ∷ os) h = rw (named_before k n (o ∷ os) h o (Memᴰ.head refl), place_before_lem k n os (only_rest k o os h))

-- find answers as before
pub find_before_lem : (s : List ℕ) → Only 0 (orders_of s) → (n : ℕ) → find_call 0 n s ≡ find_before n s
unfolding find_call find_before
find_before_lem s h n = rw (sound_before_lem s h, unknown_before 0 n (orders_of s) h, place_before_lem 0 n (orders_of s) h)
