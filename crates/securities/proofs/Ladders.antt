-- The ladder call, and the forms of add, reduce and take that keep a ladder, keep to their security.
use Prim.Native.Nat.{ℕ}
use mathlib.Core.Path.{◌≡◌, refl, sym, ap, ap₂, ◌∙◌}
use mathlib.Core.Bool.{Bool, true, false, cond, not}
use mathlib.Core.List.{List}
use lib.Dec.{eqb}
use borrow.Author.Tests.{eqb-true}
use Rattle.units.specs.Lists.{same_numbers, or_zero}
use Rattle.book.specs.Sound.{orders_of, capacity_of}
use Rattle.book.specs.Refusal.{Refusals, is_accepted}
use Rattle.book.specs.Securities.{records_for, NonInterfering, LeavesOthers}
use Rattle.entry.specs.declared.admission.AddRequest.{AddRequest}
use Rattle.entry.specs.Add.{add_refusals, add_call}
use Rattle.entry.specs.Reduce.{reduce_refusals, reduce_call}
use Rattle.matching.specs.declared.Taken.{Taken}
use Rattle.matching.specs.declared.TakeRequest.{TakeRequest}
use Rattle.matching.specs.TakeCall.{take_refusals, outcome_of, take_call}
use Rattle.ladder.specs.Ladder.{ladder_of, ladder_refusals, ladder_call, with_ladder, kept_ladder, add_ladder_call, reduce_ladder_call, take_ladder_call}
use Rattle.ladder.proofs.Forms.{form_accepted}
use Rattle.securities.specs.Calls.{take_on, ladder_on, add_ladder_on, reduce_ladder_on, take_ladder_on}
use Rattle.securities.proofs.Refusing.{SameRefusals, alike}
use Rattle.securities.proofs.Records.{same_orders}
use Rattle.securities.proofs.Keeping.{SameFor, Keeping, Changing, orders_same, keeps, same_records, leaves, form_changing}
use Rattle.securities.proofs.Adding.{add_keeping, add_changing}
use Rattle.securities.proofs.Reducing.{reduce_keeping, reduce_changing}
use Rattle.securities.proofs.Taking.{take_keeping, take_changing}

module _ (k : ℕ) (l : List ℕ) where
  ladder_keeping : Keeping k (λ s. ladder_refusals k l) (ladder_on k l)
  unfolding ladder_call
  ladder_keeping = record {
    refusal = λ s. refl;
    alike = λ s t b. record { of_call = (alike refl, tt); of_book = (alike refl, tt) };
    records = λ s t b r. b.records;
    others = λ s t b r i. ap₂ (λ x os. cond (is_accepted x) (ladder_of os) l) r (orders_same b);
  }

  -- the ladder call on two sound books with equal records of the security makes the same ladder
  pub ladder_keeps : NonInterfering k (ladder_on k l)
  ladder_keeps = keeps ladder_keeping

  -- and leaves the book as it was
  pub ladder_others : LeavesOthers k (ladder_on k l)
  ladder_others s b j n = refl

  -- refusals 9 and 10 are alike on two such books
  with_ladder_lem : {rs ss : Refusals} {s t : List ℕ} → SameFor k s t → SameRefusals rs ss → SameRefusals (with_ladder k s l rs) (with_ladder k t l ss)
  with_ladder_lem b h = record {
    of_call = h.of_call;
    of_book = (alike refl, (alike (ap (λ os. not (same_numbers l (ladder_of os))) (orders_same b)), h.of_book));
  }

  -- books with equal records of the security have one ladder
  same_kept : (r q : ℕ) (a b : List ℕ) → r ≡ q → records_for k a ≡ records_for k b → kept_ladder k r a l ≡ kept_ladder k q b l
  same_kept r q a b e f = ap₂ (λ x os. cond (is_accepted x) (ladder_of os) l) e (same_orders k a b f)

module _ (q : AddRequest) (l : List ℕ) where
  abbrev adds : List ℕ → Refusals
  adds s = add_refusals q (capacity_of s) (orders_of s)

  add_ladder_changing : Changing q.security (add_ladder_on q l)
  unfolding add_ladder_call add_call
  add_ladder_changing = form_changing (add_changing q) (λ s e. form_accepted q.security (adds s) s l e) (λ s. refl)

  add_ladder_keeping : Keeping q.security (λ s. with_ladder q.security s l (adds s)) (add_ladder_on q l)
  unfolding add_ladder_call
  add_ladder_keeping = record {
    refusal = λ s. refl;
    alike = λ s t b. with_ladder_lem q.security l b ((add_keeping q).alike s t b);
    records = same_records add_ladder_changing;
    others = λ s t b r i. same_kept q.security l _ _ _ _ r i;
  }

  -- add with a ladder gives the same on two such books, and leaves the same records of the security
  pub add_ladder_keeps : NonInterfering q.security (add_ladder_on q l)
  add_ladder_keeps = keeps add_ladder_keeping

  -- and leaves every other security's records as they were
  pub add_ladder_others : LeavesOthers q.security (add_ladder_on q l)
  add_ladder_others = leaves add_ladder_changing

module _ (k n shares : ℕ) (l : List ℕ) where
  abbrev reduces : List ℕ → Refusals
  reduces s = reduce_refusals k n shares (orders_of s)

  reduce_ladder_changing : Changing k (reduce_ladder_on k n shares l)
  unfolding reduce_ladder_call reduce_call
  reduce_ladder_changing = form_changing (reduce_changing k n shares) (λ s e. form_accepted k (reduces s) s l e) (λ s. refl)

  reduce_ladder_keeping : Keeping k (λ s. with_ladder k s l (reduces s)) (reduce_ladder_on k n shares l)
  unfolding reduce_ladder_call
  reduce_ladder_keeping = record {
    refusal = λ s. refl;
    alike = λ s t b. with_ladder_lem k l b ((reduce_keeping k n shares).alike s t b);
    records = same_records reduce_ladder_changing;
    others = λ s t b r i. same_kept k l _ _ _ _ r i;
  }

  -- so does reduce with a ladder
  pub reduce_ladder_keeps : NonInterfering k (reduce_ladder_on k n shares l)
  reduce_ladder_keeps = keeps reduce_ladder_keeping

  pub reduce_ladder_others : LeavesOthers k (reduce_ladder_on k n shares l)
  reduce_ladder_others = leaves reduce_ladder_changing

module _ (q : TakeRequest) (x l : List ℕ) where
  abbrev takes : List ℕ → Refusals
  takes s = take_refusals q (outcome_of q (orders_of s)).executions x

  -- an accepted form is an accepted take
  take_accepted : (s : List ℕ) → (take_ladder_on q x l s).refusal ≡ 0 → (take_on q x s).refusal ≡ 0
  unfolding take_ladder_call take_call
  take_accepted s e = form_accepted q.security (takes s) s l e

  take_ladder_changing : Changing q.security (take_ladder_on q x l)
  unfolding take_ladder_call
  take_ladder_changing = form_changing (take_changing q x) take_accepted (λ s. refl)

  -- what it gives beside the ladder, by what the plain take gives
  plainly : ℕ → Taken × List ℕ → Taken × List ℕ
  plainly r a =
      (record { refusal = r; count = or_zero (is_accepted r) a.0.count; left = or_zero (is_accepted r) a.0.left }, cond (is_accepted r) a.1 x)

  same_plainly : (s t : List ℕ) → SameFor q.security s t → (r w : ℕ) → (take_ladder_on q x l s).refusal ≡ r → (take_ladder_on q x l t).refusal ≡ w → r ≡ w
      → plainly r (take_on q x s).others ≡ plainly w (take_on q x t).others
  unfolding plainly
  same_plainly s t b r w f g e = go (eqb r 0) refl
    where
      go : (c : Bool) → eqb r 0 ≡ c → plainly r (take_on q x s).others ≡ plainly w (take_on q x t).others
      go true h =
          let z = eqb-true r 0 h in
          let m = take_accepted s (f ∙ z) ∙ sym (take_accepted t (g ∙ sym e ∙ z)) in
          ap₂ plainly e ((take_keeping q x).others s t b m ((take_keeping q x).records s t b m))
      go false h = rw (sym e, h)

  take_ladder_keeping : Keeping q.security (λ s. with_ladder q.security s l (takes s)) (take_ladder_on q x l)
  unfolding take_ladder_call plainly
  take_ladder_keeping = record {
    refusal = λ s. refl;
    alike = λ s t b. with_ladder_lem q.security l b ((take_keeping q x).alike s t b);
    records = same_records take_ladder_changing;
    others = λ s t b r i. ap₂ (λ (a : Taken × List ℕ) (m : List ℕ). (a.0, (a.1, m))) (same_plainly s t b _ _ refl refl r) (same_kept q.security l _ _ _ _ r i);
  }

  -- and take with a ladder
  pub take_ladder_keeps : NonInterfering q.security (take_ladder_on q x l)
  take_ladder_keeps = keeps take_ladder_keeping

  pub take_ladder_others : LeavesOthers q.security (take_ladder_on q x l)
  take_ladder_others = leaves take_ladder_changing
