-- Laws of refusals: what an accepted call has, and what a refused call leaves.
use Prim.Native.Nat.{ℕ}
use mathlib.Core.Path.{◌≡◌, refl, sym}
use mathlib.Core.Bool.{Bool, true, false, cond, not, ◌&&◌, true≢false}
use mathlib.Core.List.{List, [], ◌∷◌, ◌++◌}
use native.Mathlib.Omega.{arith}
use lib.Dec.{ltb, eqb}
use borrow.Author.Tests.{ltb-true, eq-eqb, ne_eqb, not-false}
use Rattle.units.specs.Lists.{all}
use Rattle.units.proofs.Tests.{and_true}
use Rattle.units.proofs.Members.{Every, every_split}
use Rattle.book.specs.Refusal.{Refusal, refuse, first_refusal, Refusals, refusal_of, changed_unless}

-- a refusal's number is above 0
abbrev pub is_numbered : Refusal → Bool
is_numbered r = ltb 0 r.number

-- it does not hold
abbrev pub NotHeld : Refusal → Type 0
NotHeld r = r.holds ≡ false

-- an accepted call: its book is sound and none of its refusals holds
pub record Accepted (rs : Refusals) (is_sound : Bool) : Type 0 where
  pub of_call : Every NotHeld rs.of_call
  pub book : is_sound ≡ true
  pub of_book : Every NotHeld rs.of_book

none_held : (rs : List Refusal) → all is_numbered rs ≡ true → first_refusal rs ≡ 0 → Every NotHeld rs
none_held [] n e = tt
none_held (r ∷ rs) n e = let a = and_true (is_numbered r) (all is_numbered rs) n in go r.holds refl e a.0 (λ f. none_held rs a.1 f)
  where
    go : (b : Bool) → r.holds ≡ b → cond b r.number (first_refusal rs) ≡ 0 → is_numbered r ≡ true → (first_refusal rs ≡ 0 → Every NotHeld rs)
        → NotHeld r × Every NotHeld rs
    go true h f m ih = absurd (omega (arith, ltb-true 0 r.number m))
    go false h f m ih = (h, ih f)

-- every refusal of a call, refusal 2 among them
abbrev pub refusals_of : Refusals → Bool → List Refusal
refusals_of rs is_sound = rs.of_call ++ (refuse 2 (not is_sound) ∷ rs.of_book)

-- a call that gives 0 is accepted, where every refusal has a number
pub accepted : (rs : Refusals) (is_sound : Bool) → all is_numbered (refusals_of rs is_sound) ≡ true → refusal_of rs is_sound ≡ 0 → Accepted rs is_sound
accepted rs is_sound n e =
    let h = every_split NotHeld rs.of_call (refuse 2 (not is_sound) ∷ rs.of_book) (none_held (refusals_of rs is_sound) n e) in
    record { of_call = h.0; book = not-false is_sound h.1.0; of_book = h.1.1 }

-- a refusal that has the number n and holds
abbrev gives : ℕ → Refusal → Bool
gives n r = eqb r.number n && r.holds

first_not_given : (n : ℕ) (r : Refusal) (rest : ℕ) (b : Bool) → r.holds ≡ b → not (gives n r) ≡ true → (rest ≡ n → ⊥) → cond b r.number rest ≡ n → ⊥
first_not_given n r rest true e h k f = let z = rw (e, eq-eqb r.number n f) at h in true≢false (sym z)
first_not_given n r rest false e h k f = k f

-- a number that no refusal gives isn't given
pub not_given : (n : ℕ) → (n ≡ 0 → ⊥) → (rs : List Refusal) → all (λ r. not (gives n r)) rs ≡ true → first_refusal rs ≡ n → ⊥
not_given n z [] h e = z (sym e)
not_given n z (r ∷ rs) h e =
    let a = and_true (not (gives n r)) (all (λ r. not (gives n r)) rs) h in
    first_not_given n r (first_refusal rs) r.holds refl a.0 (not_given n z rs a.1) e

-- an accepted call leaves the book that it makes
pub book_accepted : (r : ℕ) (before after : List ℕ) → r ≡ 0 → (changed_unless r before after).book ≡ after
book_accepted r before after e = rw (eq-eqb r 0 e)

-- a refused call leaves the book as it was
pub book_refused : (r : ℕ) (before after : List ℕ) → (r ≡ 0 → ⊥) → (changed_unless r before after).book ≡ before
book_refused r before after h = rw (ne_eqb r 0 h)
