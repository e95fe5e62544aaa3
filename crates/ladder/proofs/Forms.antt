-- What a form that keeps a ladder answers and leaves, by the plain call.
use Prim.Native.Nat.{ℕ}
use mathlib.Core.Path.{◌≡◌, refl, sym, ap, ◌∙◌}
use mathlib.Core.Bool.{Bool, true, false, cond, not}
use mathlib.Core.List.{List, [], ◌∷◌, ◌++◌}
use native.Mathlib.Omega.{arith}
use lib.Dec.{eqb}
use lib.ListN.{length}
use borrow.Author.Tests.{eq-eqb, ne_eqb, eqb-true, eqb-false, not-false}
use Rattle.units.proofs.Facts.{same_numbers_lem}
use Rattle.book.specs.Sound.{sound}
use Rattle.book.specs.Lookup.{orders_for}
use Rattle.book.specs.Refusal.{Refusal, refuse, first_refusal, Refusals, refusal_of, Changed}
use Rattle.ladder.specs.Ladder.{ladder_bytes, made_of, is_other_length, is_other_ladder, with_ladder, kept_ladder, Kept, keeping}
use Rattle.ladder.specs.Seen.{Look, seen_of}
use Rattle.ladder.proofs.Security.{security_few}
use Rattle.ladder.proofs.Making.{ladder_long}
use Rattle.ladder.proofs.Keeping.{form_refused, form_plain}

-- two refusals behind another that hold nowhere but where it does
skipped : (xs ys : List Refusal) (u y z : Bool) → (u ≡ false → (y ≡ false) × (z ≡ false))
    → first_refusal (xs ++ (refuse 2 u ∷ refuse 9 y ∷ refuse 10 z ∷ ys)) ≡ first_refusal (xs ++ (refuse 2 u ∷ ys))
skipped [] ys true y z h = refl
skipped [] ys false y z h = let n = h refl in rw (n.0, n.1)
skipped (x ∷ xs) ys u y z h = ap (cond x.holds x.number) (skipped xs ys u y z h)

-- a list of refusals none of which is given
none_given : (xs ys : List Refusal) (u y z : Bool) → first_refusal (xs ++ (refuse 2 u ∷ refuse 9 y ∷ refuse 10 z ∷ ys)) ≡ 0
    → first_refusal (xs ++ (refuse 2 u ∷ ys)) ≡ 0
none_given [] ys true y z e = absurd (omega arith)
none_given [] ys false true z e = absurd (omega arith)
none_given [] ys false false true e = absurd (omega arith)
none_given [] ys false false false e = e
none_given (x ∷ xs) ys u y z e = go x.holds e (none_given xs ys u y z)
  where
    go : (b : Bool) → cond b x.number (first_refusal (xs ++ (refuse 2 u ∷ refuse 9 y ∷ refuse 10 z ∷ ys))) ≡ 0
        → (first_refusal (xs ++ (refuse 2 u ∷ refuse 9 y ∷ refuse 10 z ∷ ys)) ≡ 0 → first_refusal (xs ++ (refuse 2 u ∷ ys)) ≡ 0)
        → cond b x.number (first_refusal (xs ++ (refuse 2 u ∷ ys))) ≡ 0
    go true e i = e
    go false e i = i e

-- a refused call leaves the ladder as it was
pub kept_refused : (j r : ℕ) (b l : List ℕ) → (r ≡ 0 → ⊥) → l ≡ kept_ladder j r b l
kept_refused j r b l n = rw (ne_eqb r 0 n)

module _ (j : ℕ) (rs : Refusals) (s l : List ℕ) where
  -- a form that is accepted is so as the plain call
  pub form_accepted : refusal_of (with_ladder j s l rs) (sound s) ≡ 0 → refusal_of rs (sound s) ≡ 0
  form_accepted e = none_given rs.of_call rs.of_book (not (sound s)) (is_other_length l) (is_other_ladder j s l) e

  -- with the security's own ladder it is refused what the plain call is
  own_refusal : l ≡ made_of j s → refusal_of (with_ladder j s l rs) (sound s) ≡ refusal_of rs (sound s)
  own_refusal e = skipped rs.of_call rs.of_book (not (sound s)) (is_other_length l) (is_other_ladder j s l) own
    where
      own : not (sound s) ≡ false → (is_other_length l ≡ false) × (is_other_ladder j s l ≡ false)
      own n =
          let f = not-false (sound s) n in
          let k = ap length e ∙ ladder_long (orders_for j s) (security_few j s f) in
          (rw (eq-eqb (length l) ladder_bytes k), rw (e, same_numbers_lem (made_of j s)))

-- A call that changes a book, without a ladder: which test its numbers pass, what else it may be refused, and what it gives. Refused it
-- leaves the book, and accepted a sound one.
pub record Plain (s : List ℕ) : Type 0 where
  pub in_range : Bool
  pub of_book : List Refusal
  pub call : Changed
  pub same : call.refusal ≡ refusal_of (record { of_call = refuse 1 (not in_range) ∷ []; of_book = of_book }) (sound s)
  pub leaves : (call.refusal ≡ 0 → ⊥) → call.book ≡ s
  pub keeps : call.refusal ≡ 0 → sound call.book ≡ true

module _ (j : ℕ) {s : List ℕ} (plain : Plain s) (l : List ℕ) where
  abbrev refusals : Refusals
  refusals = record { of_call = refuse 1 (not plain.in_range) ∷ []; of_book = plain.of_book }

  -- its form that keeps a ladder
  abbrev pub form : Kept
  form = keeping j refusals plain.call s l

  -- what the caller of the form gets
  pub record Gets (r : ℕ) (b m : List ℕ) : Type 0 where
    pub refused : r ≡ form.refusal
    pub bytes : b ≡ form.book
    pub ladder_bytes : m ≡ form.ladder
    pub kept_sound : r ≡ 0 → sound b ≡ true
    pub kept_ladder : r ≡ 0 → m ≡ made_of j b
    pub unchanged : (r ≡ 0 → ⊥) → (b ≡ s) × (m ≡ l)
    pub as_plain : l ≡ made_of j s → (r ≡ plain.call.refusal) × (b ≡ plain.call.book)

  -- an accepted form's book is the plain call's
  pub accepted_book : form.refusal ≡ 0 → form.book ≡ plain.call.book
  accepted_book e = rw (eq-eqb form.refusal 0 e)

  accepted_ladder : form.refusal ≡ 0 → form.ladder ≡ made_of j form.book
  accepted_ladder e = rw (eq-eqb form.refusal 0 e)

  -- a refused one changes nothing
  refused_bytes : (form.refusal ≡ 0 → ⊥) → (form.book ≡ s) × (form.ladder ≡ l)
  refused_bytes n = (rw (ne_eqb form.refusal 0 n), rw (ne_eqb form.refusal 0 n))

  own_plain : l ≡ made_of j s → (form.refusal ≡ plain.call.refusal) × (form.book ≡ plain.call.book)
  own_plain e =
      let p : form.refusal ≡ plain.call.refusal = own_refusal j refusals s l e ∙ sym plain.same in
      (p, go (eqb form.refusal 0) refl p)
    where
      go : (b : Bool) → eqb form.refusal 0 ≡ b → form.refusal ≡ plain.call.refusal → form.book ≡ plain.call.book
      go true f p = rw f
      go false f p = rw f (sym (plain.leaves (λ z. eqb-false form.refusal 0 f (p ∙ z))))

  gets : {r : ℕ} {b m : List ℕ} → r ≡ form.refusal → b ≡ form.book → m ≡ form.ladder → Gets r b m
  gets {r} {b} {m} x y z = record {
    refused = x;
    bytes = y;
    ladder_bytes = z;
    kept_sound = λ e. rw (y, accepted_book (sym x ∙ e)) (plain.keeps (plain.same ∙ form_accepted j refusals s l (sym x ∙ e)));
    kept_ladder = λ e. z ∙ accepted_ladder (sym x ∙ e) ∙ ap (made_of j) (sym y);
    unchanged = λ n. let w = refused_bytes (λ e. n (x ∙ e)) in (y ∙ w.0, z ∙ w.1);
    as_plain = λ e. let w = own_plain e in (x ∙ w.0, y ∙ w.1);
  }

  gets_refused : {r : ℕ} → r ≡ form.refusal → (r ≡ 0 → ⊥) → Gets r s l
  gets_refused x n = let w = refused_bytes (λ e. n (x ∙ e)) in gets x (sym w.0) (sym w.1)

  -- decided as the plain call, with the ladder kept
  gets_plain : {p : ℕ} {b m : List ℕ} → form.refusal ≡ plain.call.refusal → p ≡ plain.call.refusal → b ≡ plain.call.book
      → m ≡ kept_ladder j p b l → Gets p b m
  gets_plain {p} {b} {m} f x y z = go (eqb form.refusal 0) refl
    where
      go : (a : Bool) → eqb form.refusal 0 ≡ a → Gets p b m
      go true a =
          let e = eqb-true form.refusal 0 a in
          gets (x ∙ sym f) (y ∙ sym (accepted_book e))
          (z ∙ rw (eq-eqb p 0 (x ∙ sym f ∙ e)) (ap (made_of j) (y ∙ sym (accepted_book e)) ∙ sym (accepted_ladder e)))
      go false a =
          let n = eqb-false form.refusal 0 a in
          let w = refused_bytes n in
          gets (x ∙ sym f) (y ∙ plain.leaves (λ e. n (f ∙ e)) ∙ sym w.0) (z ∙ rw (ne_eqb p 0 (λ e. n (f ∙ sym x ∙ e))) (sym w.1))

  -- The ways of the form: a number out of its range,
  pub form_range : plain.in_range ≡ false → Gets 1 s l
  form_range e = gets_refused (rw e) (λ z. omega arith)

  module _ (e : plain.in_range ≡ true) (c : Look) (k : c ≡ seen_of j s l) where
    -- book and ladder seen and refused,
    pub form_seen : (c.refusal ≡ 0 → ⊥) → Gets c.refusal s l
    form_seen n = gets_refused (sym (form_refused j s l c k plain.of_book e n)) n

    -- or the call made, and the ladder kept.
    pub form_made : c.refusal ≡ 0 → {p : ℕ} {b m : List ℕ} → p ≡ plain.call.refusal → b ≡ plain.call.book → m ≡ kept_ladder j p b l → Gets p b m
    form_made a x y z = gets_plain (form_plain j s l c k plain.of_book e a ∙ sym plain.same) x y z

  -- as the clauses of a contract
  abbrev pub Answers : ℕ → List ℕ → List ℕ → Type 0
  Answers r b m =
      (r ≡ form.refusal)
      × ((b ≡ form.book)
      × ((m ≡ form.ladder)
      × ((r ≡ 0 → sound b ≡ true)
      × ((r ≡ 0 → m ≡ made_of j b)
      × (((r ≡ 0 → ⊥) → (b ≡ s) × (m ≡ l))
      × (l ≡ made_of j s → (r ≡ plain.call.refusal) × (b ≡ plain.call.book)))))))

  pub answers : {r : ℕ} {b m : List ℕ} → Gets r b m → Answers r b m
  answers g = (g.refused, (g.bytes, (g.ladder_bytes, (g.kept_sound, (g.kept_ladder, (g.unchanged, g.as_plain))))))
