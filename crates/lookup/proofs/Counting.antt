-- Orders that pass a test counted as a book is read, and that fewer than two marked ones are apart.
use Prim.Native.Nat.{ℕ, ◌+◌, ◌≤◌, ◌<◌}
use mathlib.Core.Path.{◌≡◌, refl, sym}
use mathlib.Core.Bool.{Bool, true, false, cond, and-false}
use mathlib.Core.List.{List, [], ◌∷◌, map}
use native.Mathlib.Omega.{arith}
use Rattle.std.specs.List.{count_by, AllWithin, HoldsAt}
use Rattle.std.specs.Option.{MatchOption, unwrap_or}
use Rattle.std.proofs.Common.{Option}
use Rattle.std.proofs.lemmas.Iterator.{index_from_first}
use Rattle.book.specs.Lookup.{is_named, place_of}
use Rattle.std.proofs.lemmas.List.Recursion.{is_count_by}
use lib.ListN.{length}
use Rattle.units.specs.Lists.{any, filter, cons_if}
use Rattle.orders.specs.declared.order.Order.{Order}
use Rattle.record.specs.Record.{decode_order}
use Rattle.book.specs.Sound.{form, same_setter, setters_sound}
use Rattle.lookup.specs.Setters.{count_of, marked_in}
use Rattle.lookup.proofs.Marks.{apart}

-- records whose orders pass a test, counted
pub counted : (p : Order → Bool) (rs : List (List ℕ)) → count_by (λ r. p (decode_order form r)) rs ≡ count_of p (map (decode_order form) rs)
counted p rs = sym (is_count_by (λ l. count_of p (map (decode_order form) l)) (λ r. p (decode_order form r)) refl (λ r l. one_more (p (decode_order form r)) (decode_order form r) _) rs)
  where
    one_more : (b : Bool) (o : Order) (os : List Order) → length (cons_if b o os) ≡ cond b (1 + length os) (length os)
    one_more true o os = omega arith
    one_more false o os = refl

-- an order has no mark in common with others of which none is marked
none_apart : (o : Order) (os : List Order) → marked_in os ≤ 0 → any (same_setter o) os ≡ false
none_apart o [] h = refl
none_apart o (p ∷ os) h = go p.setter refl h (none_apart o os)
  where
    go : (b : Bool) → p.setter ≡ b → length (cons_if b p (filter (λ q. q.setter) os)) ≤ 0 → (marked_in os ≤ 0 → any (same_setter o) os ≡ false)
        → any (same_setter o) (p ∷ os) ≡ false
    go true e h ih = absurd (omega arith)
    go false e h ih = rw (e, and-false o.setter) (ih h)

-- fewer than two marked orders are apart
pub few_apart : (os : List Order) → marked_in os < 2 → setters_sound os ≡ true
few_apart [] h = refl
few_apart (o ∷ os) h = go o.setter refl h (few_apart os)
  where
    go : (b : Bool) → o.setter ≡ b → length (cons_if b o (filter (λ p. p.setter) os)) < 2 → (marked_in os < 2 → setters_sound os ≡ true)
        → setters_sound (o ∷ os) ≡ true
    go true e h ih = rw (none_apart o os (omega arith)) (ih (omega arith))
    go false e h ih = rw (apart o os e) (ih h)

-- the first record that is named stands behind as many as the place says, and all do where none is named
pub named_place : (k n : ℕ) (rs : List (List ℕ)) (place : Option ℕ)
    → MatchOption place
    (AllWithin (λ r. is_named k n (decode_order form r) ≡ false) rs 0 (length rs))
    (λ i. (i < length rs) × HoldsAt (λ r. is_named k n (decode_order form r) ≡ true) rs i × AllWithin (λ r. is_named k n (decode_order form r) ≡ false) rs 0 i)
    → place_of k n (map (decode_order form) rs) ≡ unwrap_or place (length rs)
named_place k n rs place =
    index_from_first (λ l. place_of k n (map (decode_order form) l))
    (λ r. is_named k n (decode_order form r) ≡ true) (λ r. is_named k n (decode_order form r) ≡ false)
    refl (λ r l h. rw h) (λ r l h. rw h (omega arith)) rs place
