-- Check and find keep to their security.
use Prim.Native.Nat.{ℕ, zero, suc, ◌+◌, ◌*◌}
use mathlib.Core.Path.{◌≡◌, refl, sym, ap, ap₂, ◌∙◌}
use mathlib.Core.Bool.{Bool, true, false, cond, not, ◌&&◌, ◌||◌, true≢false}
use mathlib.Core.List.{List, [], ◌∷◌}
use native.Mathlib.Omega.{arith}
use lib.ListN.{length, take, drop}
use lib.Seq.{drop-drop}
use lib.Dec.{eqb}
use borrow.Author.Tests.{ne_eqb}
use Rattle.units.specs.Lists.{any, filter, cons_if, or_zero}
use Rattle.orders.specs.declared.order.Order.{Order}
use Rattle.orders.specs.Trading.{of_security}
use Rattle.record.specs.Record.{decode_order}
use Rattle.book.specs.Sound.{form, occupied, records_in, first_records, first_orders, orders_of}
use Rattle.book.specs.Refusal.{is_accepted}
use Rattle.book.specs.Lookup.{check_refusals, check_call, is_named, is_unknown, place_of, find_refusals, find_call, found_part}
use Rattle.book.specs.Securities.{is_record_of, records_for, NonInterfering, LeavesOthers}
use Rattle.book.proofs.Checking.{occupied_first, orders_count, orders_first}
use Rattle.book.proofs.Placing.{find_accepted}
use Rattle.securities.specs.Calls.{check_on, find_on}
use Rattle.securities.proofs.Filters.{any_kept}
use Rattle.securities.proofs.Refusing.{alike}
use Rattle.securities.proofs.Records.{record_of}
use Rattle.securities.proofs.Keeping.{Keeping, orders_same, same_of, keeps}

-- check looks at the orders of the security alone
check_keeping : (k : ℕ) → Keeping k (λ s. check_refusals k) (check_on k)
unfolding check_call
check_keeping k = record {
  refusal = λ s. refl;
  alike = λ s t b. record { of_call = (alike refl, tt); of_book = tt };
  records = λ s t b r. b.records;
  others = λ s t b r i. ap₂ (λ x os. or_zero (is_accepted x) (length os)) r (orders_same b);
}

-- check on two sound books with equal records of the security gives the same
pub check_keeps : (k : ℕ) → NonInterfering k (check_on k)
check_keeps k = keeps (check_keeping k)

-- and leaves the book as it was
pub check_others : (k : ℕ) → LeavesOthers k (check_on k)
check_others k s b j n = refl

-- the record with a number among records
abbrev named : ℕ → List (List ℕ) → List ℕ
named n [] = []
named n (r ∷ rs) = cond (eqb (decode_order form r).number n) r (named n rs)

module _ (k n : ℕ) where
  -- the record at the place of the order that is named is the one with its number among those of the security
  at_place : (m : ℕ) (s : List ℕ) → is_unknown k n (first_orders m s) ≡ false
      → take 40 (drop (40 * place_of k n (first_orders m s)) s) ≡ named n (filter (is_record_of k) (first_records form m s))
  at_place zero s e = absurd (true≢false e)
  at_place (suc m) s e = rw (record_of k r) (go (of_security k o) (eqb o.number n) refl e (at_place m t))
    where
      r : List ℕ
      r = take 40 s

      o : Order
      o = decode_order form r

      t : List ℕ
      t = drop 40 s

      place : ℕ
      place = place_of k n (first_orders m t)

      rs : List (List ℕ)
      rs = filter (is_record_of k) (first_records form m t)

      behind : take 40 (drop (40 * place) t) ≡ named n rs → take 40 (drop (40 * suc place) s) ≡ named n rs
      behind i =
          let q : 40 * suc place ≡ 40 + 40 * place = omega arith in
          rw (q, ← drop-drop (40 * place) 40 s) i

      go : (a b : Bool) → eqb o.number n ≡ b → not ((a && b) || any (is_named k n) (first_orders m t)) ≡ false
          → (is_unknown k n (first_orders m t) ≡ false → take 40 (drop (40 * place) t) ≡ named n rs)
          → take 40 (drop (40 * cond (a && b) 0 (suc place)) s) ≡ named n (cons_if a r rs)
      go true true f e ih = rw f
      go true false f e ih = rw f (behind (ih e))
      go false b f e ih = behind (ih e)

  -- what a find that is accepted answers with
  part : (s : List ℕ) → is_unknown k n (orders_of s) ≡ false → take 40 (drop (40 * place_of k n (orders_of s)) s) ≡ named n (records_for k s)
  part s e =
      let m = length (orders_of s) in
      let q : occupied (records_in form s) ≡ first_records form m s = occupied_first form s ∙ ap (λ i. first_records form i s) (sym (orders_count s)) in
      let f = orders_first s in
      ap (λ os. take 40 (drop (40 * place_of k n os) s)) f ∙ at_place m s (ap (is_unknown k n) (sym f) ∙ e)
      ∙ ap (λ rs. named n (filter (is_record_of k) rs)) (sym q)

  -- a find answers with the record that has the number among those of the security, or with nothing
  found : (s : List ℕ) → found_part (find_call k n s) s ≡ cond (is_accepted (find_call k n s).refusal) (named n (records_for k s)) []
  unfolding find_call
  found s = go (find_call k n s).refusal (λ e. part s (find_accepted k n s e).of_book.0)
    where
      go : (r : ℕ) → (r ≡ 0 → take 40 (drop (40 * place_of k n (orders_of s)) s) ≡ named n (records_for k s))
          → take (or_zero (is_accepted r) 40) (drop (or_zero (is_accepted r) (40 * place_of k n (orders_of s))) s)
          ≡ cond (is_accepted r) (named n (records_for k s)) []
      go zero h = h refl
      go (suc r) h = rw (ne_eqb (suc r) 0 (λ e. omega arith))

  -- the order that is named is looked for among those of the security
  pub unknown_for : (os : List Order) → is_unknown k n os ≡ is_unknown k n (filter (of_security k) os)
  unknown_for os = ap not (any_kept (of_security k) (is_named k n) (λ o e. rw e) os)

  -- find looks at the records of the security alone
  find_keeping : Keeping k (λ s. find_refusals k n (orders_of s)) (find_on k n)
  unfolding find_call
  find_keeping = record {
    refusal = λ s. refl;
    alike = λ s t b. record { of_call = (alike refl, tt); of_book = (alike (same_of (is_unknown k n) (is_unknown k n) (λ os h. unknown_for os) b), tt) };
    records = λ s t b r. b.records;
    others = λ s t b r i. found s ∙ ap₂ (λ x rs. cond (is_accepted x) (named n rs) []) r b.records ∙ sym (found t);
  }

  -- find on two sound books with equal records of the security gives the same bytes
  pub find_keeps : NonInterfering k (find_on k n)
  find_keeps = keeps find_keeping

  -- and leaves the book as it was
  pub find_others : LeavesOthers k (find_on k n)
  find_others s b j m = refl
