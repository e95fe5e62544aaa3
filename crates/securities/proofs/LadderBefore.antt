-- Calls that make and keep the ladder of a book of one security answer as before there were two.
use Prim.Native.Nat.{ℕ}
use mathlib.Core.Path.{◌≡◌, refl, sym, ap, ap₂, ◌∙◌, subst}
use mathlib.Core.Bool.{Bool, true, false, cond}
use mathlib.Core.List.{List, map}
use borrow.Author.Tests.{eqb-true}
use Rattle.units.specs.Lists.{or_zero}
use Rattle.units.proofs.Members.{member_every, filter_all}
use Rattle.orders.specs.Trading.{of_security}
use Rattle.book.specs.Sound.{sound, orders_of, capacity_of}
use Rattle.book.specs.Refusal.{Refusals, refusal_of, is_accepted, Changed}
use Rattle.book.specs.Lookup.{orders_for}
use Rattle.entry.specs.declared.admission.AddRequest.{AddRequest}
use Rattle.entry.specs.Add.{add_refusals, add_call}
use Rattle.entry.specs.Reduce.{reduce_refusals, reduce_call}
use Rattle.entry.proofs.Adding.{add_orders}
use Rattle.entry.proofs.Reducing.{reduction_of, reduce_orders}
use Rattle.matching.specs.declared.TakeRequest.{TakeRequest}
use Rattle.matching.specs.TakeCall.{take_refusals, outcome_of, TakeAnswer, take_call}
use Rattle.matching.proofs.Taking.{take_orders}
use Rattle.ladder.specs.Ladder.{made_of, with_ladder, ladder_call, Kept, TakeKept, keeping, add_ladder_call, reduce_ladder_call, take_ladder_call}
use Rattle.ladder.proofs.Forms.{form_accepted}
use Rattle.securities.specs.LadderBefore.{made_before, keeping_before, ladder_before, add_ladder_before, reduce_ladder_before, take_ladder_before}
use Rattle.securities.proofs.BookBefore.{Only, sound_before_lem}
use Rattle.securities.proofs.EntryBefore.{add_only, add_refusals_before_lem, add_before_lem, reduce_refusals_before_lem, reduce_before_lem}
use Rattle.securities.proofs.TakeBefore.{only_settled, orders_before, take_refusals_before_lem, take_before_lem}

-- orders of security 0 alone are all orders
orders_only : (s : List ℕ) → Only 0 (orders_of s) → orders_for 0 s ≡ orders_of s
orders_only s h = filter_all (of_security 0) (orders_of s) (member_every (λ o. of_security 0 o ≡ true) (orders_of s) h)

-- the ladder call answers as before, and makes the same ladder
pub ladder_before_lem : (s l : List ℕ) → Only 0 (orders_of s) → ladder_call 0 s l ≡ ladder_before s l
unfolding ladder_call ladder_before
ladder_before_lem s l h = rw (sound_before_lem s h, orders_only s h)

-- A call without a ladder, by its refusals and what it gives.
module _ (rs : Refusals) (plain : Changed) (s l : List ℕ) where
  -- its form, by the refusal and by what a ladder is made of
  abbrev made : (List ℕ → List ℕ) → ℕ → Kept
  made ladder r =
      let b = cond (is_accepted r) plain.book s in
      record { refusal = r; book = b; ladder = cond (is_accepted r) (ladder b) l }

  same_made : (r : ℕ) → (r ≡ 0 → Only 0 (orders_of plain.book)) → made (made_of 0) r ≡ made made_before r
  same_made r k = go (is_accepted r) refl
    where
      go : (b : Bool) → is_accepted r ≡ b → made (made_of 0) r ≡ made made_before r
      go true e = rw (e, orders_only plain.book (k (eqb-true r 0 e)))
      go false e = rw e

  -- the form of a book of security 0 is as it was, where the call leaves such a book
  kept_before : Only 0 (orders_of s) → (refusal_of rs (sound s) ≡ 0 → Only 0 (orders_of plain.book)) → keeping 0 rs plain s l ≡ keeping_before rs plain s l
  kept_before h k =
      same_made (refusal_of (with_ladder 0 s l rs) (sound s)) (λ z. k (form_accepted 0 rs s l z)) ∙ ap (made made_before) (rw (sound_before_lem s h, orders_only s h))

-- with other refusals and another plain call that are the same
keeping_same : {rs qs : Refusals} {p q : Changed} (s l : List ℕ) → rs ≡ qs → p ≡ q → keeping_before rs p s l ≡ keeping_before qs q s l
keeping_same s l e f = ap₂ (λ x y. keeping_before x y s l) e f

-- add with a ladder
pub add_ladder_before_lem : (q : AddRequest) (s l : List ℕ) → q.security ≡ 0 → Only 0 (orders_of s) → add_ladder_call q s l ≡ add_ladder_before q s l
unfolding add_ladder_call add_ladder_before add_call
add_ladder_before_lem q s l e h =
    let rs = add_refusals q (capacity_of s) (orders_of s) in
    ap (λ k. keeping k rs (add_call q s) s l) e
    ∙ kept_before rs (add_call q s) s l h (λ z. subst (Only 0) (sym (add_orders q s z)) (add_only q (orders_of s) e h))
    ∙ keeping_same s l (add_refusals_before_lem q (capacity_of s) (orders_of s) e (rw e h)) (add_before_lem q s e h)

-- reduce with a ladder
pub reduce_ladder_before_lem : (n shares : ℕ) (s l : List ℕ) → Only 0 (orders_of s) → reduce_ladder_call 0 n shares s l ≡ reduce_ladder_before n shares s l
unfolding reduce_ladder_call reduce_ladder_before reduce_call
reduce_ladder_before_lem n shares s l h =
    kept_before (reduce_refusals 0 n shares (orders_of s)) (reduce_call 0 n shares s) s l h
    (λ z. subst (Only 0) (sym (reduce_orders 0 n shares s z)) (only_settled 0 (map (reduction_of 0 n shares) (orders_of s)) (orders_of s) h))
    ∙ keeping_same s l (reduce_refusals_before_lem n shares (orders_of s) h) (reduce_before_lem n shares s h)

-- what take with a ladder gives, by the plain take and the form of its book
given : List ℕ → TakeAnswer → Kept → TakeKept
given x plain kept =
    let b = is_accepted kept.refusal in
    record {
      taken = record { refusal = kept.refusal; count = or_zero b plain.taken.count; left = or_zero b plain.taken.left };
      book = kept.book;
      executions = cond b plain.executions x;
      ladder = kept.ladder;
    }

-- a take as a call that changes the book
abbrev changed : TakeAnswer → Changed
changed a = record { refusal = a.taken.refusal; book = a.book }

-- Take with a ladder.
module _ (q : TakeRequest) (s x l : List ℕ) (e : q.security ≡ 0) (h : Only 0 (orders_of s)) where
  abbrev refusals : Refusals
  refusals = take_refusals q (outcome_of q (orders_of s)).executions x

  leaves : refusal_of refusals (sound s) ≡ 0 → Only 0 (orders_of (take_call q s x).book)
  unfolding take_call outcome_of
  leaves z = subst (Only 0) (sym (take_orders q s x z)) (orders_before q (orders_of s) h)

  pub take_ladder_before_lem : take_ladder_call q s x l ≡ take_ladder_before q s x l
  unfolding take_ladder_call take_ladder_before given
  take_ladder_before_lem =
      let t = take_call q s x in
      ap₂ (given x) (take_before_lem q s x e h)
      (ap (λ k. keeping k refusals (changed t) s l) e
      ∙ kept_before refusals (changed t) s l h leaves
      ∙ keeping_same s l (take_refusals_before_lem q (orders_of s) x e (rw e h)) (ap changed (take_before_lem q s x e h)))
