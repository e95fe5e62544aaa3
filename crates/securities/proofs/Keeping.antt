-- What it takes that a call keeps to a security: its refusals, the book and all else that it gives depend on the records of the security
-- alone, but for refusals 4 and 6.
use Prim.Native.Nat.{ℕ, ◌≤◌}
use mathlib.Core.Path.{◌≡◌, refl, sym, ap, ◌∙◌, subst}
use mathlib.Core.Bool.{Bool, true, false, cond}
use mathlib.Core.List.{List, map}
use lib.ListN.{length}
use lib.Dec.{eqb}
use borrow.Author.Tests.{eqb-true, eqb-false}
use Rattle.units.specs.Lists.{filter}
use Rattle.units.proofs.Members.{Every}
use Rattle.orders.specs.declared.order.Order.{Order}
use Rattle.orders.specs.Trading.{of_security}
use Rattle.record.specs.Record.{encode_order}
use Rattle.record.proofs.Orders.{OrderSound}
use Rattle.book.specs.Sound.{form, sound, orders_of, book_of, capacity_of}
use Rattle.book.specs.Refusal.{Refusals, refusal_of, changed_unless}
use Rattle.book.specs.Lookup.{orders_for}
use Rattle.book.specs.Securities.{records_for, Result, of_whole_book, NonInterfering, LeavesOthers}
use Rattle.book.proofs.Soundness.{OrdersSound, orders_sound}
use Rattle.book.proofs.Refusing.{book_accepted, book_refused}
use Rattle.securities.proofs.Refusing.{SameRefusals, same_refusal}
use Rattle.securities.proofs.Records.{same_orders, records_book, records_sound}

-- two sound books with equal records of a security
pub record SameFor (k : ℕ) (s t : List ℕ) : Type 0 where
  pub first : sound s ≡ true
  pub second : sound t ≡ true
  pub records : records_for k s ≡ records_for k t

-- their orders of the security are equal
pub orders_same : {k : ℕ} {s t : List ℕ} → SameFor k s t → orders_for k s ≡ orders_for k t
orders_same {k} {s} {t} b = same_orders k s t b.records

-- what comes of the orders of the security, where orders are sound, is the same in both
pub same_of : {B : Type 0} {k : ℕ} {s t : List ℕ} (f g : List Order → B) → ((os : List Order) → OrdersSound os → f os ≡ g (filter (of_security k) os))
    → SameFor k s t → f (orders_of s) ≡ f (orders_of t)
same_of {s = s} {t = t} f g h b =
    h (orders_of s) (orders_sound s b.first) ∙ ap g (orders_same b) ∙ sym (h (orders_of t) (orders_sound t b.second))

-- A call with these refusals keeps to a security: on two such books they are alike, and where it is refused the same it leaves the same
-- records of the security and gives the same.
pub record Keeping {A : Type 0} (k : ℕ) (refusals : List ℕ → Refusals) (call : List ℕ → Result A) : Type 0 where
  pub refusal : (s : List ℕ) → (call s).refusal ≡ refusal_of (refusals s) (sound s)
  pub alike : (s t : List ℕ) → SameFor k s t → SameRefusals (refusals s) (refusals t)
  pub records : (s t : List ℕ) → SameFor k s t → (call s).refusal ≡ (call t).refusal → records_for k (call s).book ≡ records_for k (call t).book
  pub others : (s t : List ℕ) → SameFor k s t → (call s).refusal ≡ (call t).refusal → records_for k (call s).book ≡ records_for k (call t).book
      → (call s).others ≡ (call t).others

-- such a call doesn't interfere
pub keeps : {A : Type 0} {k : ℕ} {refusals : List ℕ → Refusals} {call : List ℕ → Result A} → Keeping k refusals call → NonInterfering k call
keeps {k = k} {refusals = refusals} {call = call} c s t a b e m n =
    let books : SameFor k s t = record { first = a; second = b; records = e } in
    let r = c.refusal s ∙ same_refusal (sound s) (sound t) (c.alike s t books) a b (whole s m) (whole t n) ∙ sym (c.refusal t) in
    let i = c.records s t books r in
    record { refusal = r; others = c.others s t books r i; records = i }
  where
    whole : (s : List ℕ) → ¬ of_whole_book (call s).refusal → ¬ of_whole_book (refusal_of (refusals s) (sound s))
    whole s m = subst (λ (r : ℕ). ¬ of_whole_book r) (c.refusal s) m

-- sound orders for which a sound book has room
pub record Roomy (s : List ℕ) (os : List Order) : Type 0 where
  pub is_sound : sound s ≡ true
  pub fit : length os ≤ capacity_of s
  pub each : Every OrderSound os

-- A call that changes the book: accepted, it leaves that of these orders, of which those of the security come of the security's, and
-- those of every other are as they were.
pub record Changing {A : Type 0} (k : ℕ) (call : List ℕ → Result A) : Type 0 where
  pub orders : List ℕ → List Order
  pub book : (s : List ℕ) → (call s).book ≡ (changed_unless (call s).refusal s (book_of (capacity_of s) (orders s))).book
  pub roomy : (s : List ℕ) → (call s).refusal ≡ 0 → Roomy s (orders s)
  pub own : (s t : List ℕ) → SameFor k s t → filter (of_security k) (orders s) ≡ filter (of_security k) (orders t)
  pub others : (s : List ℕ) → sound s ≡ true → (j : ℕ) → ¬ (j ≡ k) → filter (of_security j) (orders s) ≡ orders_for j s

module _ {A : Type 0} {k : ℕ} {call : List ℕ → Result A} (c : Changing k call) where
  -- refused, it leaves the records as they were
  refused : (j : ℕ) (s : List ℕ) → ((call s).refusal ≡ 0 → ⊥) → records_for j (call s).book ≡ records_for j s
  refused j s z = ap (records_for j) (c.book s ∙ book_refused (call s).refusal s (book_of (capacity_of s) (c.orders s)) z)

  -- accepted, those of its orders
  accepted : (j : ℕ) (s : List ℕ) → (call s).refusal ≡ 0 → records_for j (call s).book ≡ map (encode_order form) (filter (of_security j) (c.orders s))
  accepted j s e =
      let o = c.roomy s e in
      ap (records_for j) (c.book s ∙ book_accepted (call s).refusal s (book_of (capacity_of s) (c.orders s)) e)
      ∙ records_book j (capacity_of s) (c.orders s) o.fit o.each

  -- on two books with equal records of the security it leaves equal records of it
  pub same_records : (s t : List ℕ) → SameFor k s t → (call s).refusal ≡ (call t).refusal → records_for k (call s).book ≡ records_for k (call t).book
  same_records s t b r = go (eqb (call s).refusal 0) refl
    where
      go : (x : Bool) → eqb (call s).refusal 0 ≡ x → records_for k (call s).book ≡ records_for k (call t).book
      go true f =
          let z = eqb-true (call s).refusal 0 f in
          accepted k s z ∙ ap (map (encode_order form)) (c.own s t b) ∙ sym (accepted k t (sym r ∙ z))
      go false f =
          let z = eqb-false (call s).refusal 0 f in
          refused k s z ∙ b.records ∙ sym (refused k t (λ y. z (r ∙ y)))

  -- the records of every other security stay
  pub leaves : LeavesOthers k call
  leaves s a j n = go (eqb (call s).refusal 0) refl
    where
      go : (x : Bool) → eqb (call s).refusal 0 ≡ x → records_for j (call s).book ≡ records_for j s
      go true f =
          let z = eqb-true (call s).refusal 0 f in
          let b = (c.roomy s z).is_sound in
          accepted j s z ∙ ap (map (encode_order form)) (c.others s b j n) ∙ sym (records_sound j s b a)
      go false f = refused j s (eqb-false (call s).refusal 0 f)

-- a form of such a call that may be refused more often, and else leaves the book that the call leaves, changes it likewise
pub form_changing : {A B : Type 0} {k : ℕ} {call : List ℕ → Result A} {formed : List ℕ → Result B} → Changing k call
    → ((s : List ℕ) → (formed s).refusal ≡ 0 → (call s).refusal ≡ 0) → ((s : List ℕ) → (formed s).book ≡ (changed_unless (formed s).refusal s (call s).book).book)
    → Changing k formed
form_changing {call = call} {formed = formed} c h e = record {
  orders = c.orders;
  book = λ s. e s ∙ go s (eqb (formed s).refusal 0) refl;
  roomy = λ s z. c.roomy s (h s z);
  own = c.own;
  others = c.others;
}
  where
    go : (s : List ℕ) (x : Bool) → eqb (formed s).refusal 0 ≡ x → cond x (call s).book s ≡ cond x (book_of (capacity_of s) (c.orders s)) s
    go s true f =
        c.book s ∙ book_accepted (call s).refusal s (book_of (capacity_of s) (c.orders s)) (h s (eqb-true (formed s).refusal 0 f))
    go s false f = refl
