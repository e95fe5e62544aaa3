-- What an accepted take leaves of a reserve order.
use Prim.Native.Nat.{ℕ, ◌+◌, ◌-◌, ◌≤◌, ◌<◌, min}
use mathlib.Core.Path.{◌≡◌, refl, sym, ap, subst, subst⁻¹, ◌∙◌}
use mathlib.Core.Bool.{Bool, true, false, ◌&&◌, false≢true}
use mathlib.Core.List.{List, Memᴰ}
use native.Mathlib.Omega.{arith}
use lib.Dec.{ltb, eqb}
use borrow.Author.Tests.{ltb-true, lt-ltb, eq-eqb}
use Rattle.units.specs.Lists.{or_zero, total, zip_with}
use Rattle.units.specs.Lots.{round_lot}
use Rattle.units.proofs.Tests.{pick_least}
use Rattle.units.proofs.Members.{Every, every_member, filter_member, member_filter}
use Rattle.units.proofs.Totals.{total_add, total_le, total_none, total_same}
use Rattle.orders.specs.declared.order.Kind.{Kind}
use Rattle.orders.specs.declared.order.Kind.TheVariants.{Displayed, NonDisplayed, MinimumQuantity, Reserve}
use Rattle.orders.specs.declared.order.Order.{Order}
use Rattle.orders.specs.declared.order.Taker.{Taker}
use Rattle.orders.specs.Order.{Visibility, shown, hidden, Interest, interest, all_shares, less, shares_of, only_of, refreshed, interest_by, interest_of}
use Rattle.orders.specs.Order.{size_from, kind_from, with_interest, settled, is_resting, is_reserve, hidden_of, refresh_of, price_of, size_of}
use Rattle.orders.proofs.Interests.{refreshed_none, refreshed_some, all_settled}
use Rattle.record.proofs.Orders.{OrderSound, order_facts}
use Rattle.record.proofs.Settling.{settled_number}
use Rattle.record.specs.declared.execution.Execution.{Execution}
use Rattle.book.specs.Sound.{orders_of}
use Rattle.book.proofs.Soundness.{OrdersSound, order_shares}
use Rattle.matching.specs.declared.Algorithm.{Algorithm}
use Rattle.matching.specs.declared.Paragraph.{Paragraph}
use Rattle.matching.specs.declared.TakeRequest.{TakeRequest}
use Rattle.matching.specs.declared.incoming.Incoming.{Incoming}
use Rattle.matching.specs.Levels.{price_levels}
use Rattle.matching.specs.Paragraph.{algorithm_of, paragraphs, group_of, part_of}
use Rattle.matching.specs.Numbered.{paragraph_numbered}
use Rattle.matching.specs.Take.{Allocation, allocation_at, allocations_over, allocations, executions_of, losses_of, outcome}
use Rattle.matching.specs.TakeCall.{incoming_of, outcome_of, take_call}
use Rattle.matching.specs.Fairness.{executed_shares}
use Rattle.matching.specs.Parts.{is_of}
use Rattle.matching.specs.Reserve.{same_visibility, executed_of, lost_of, showing, Alone, Remains, ReserveTake}
use Rattle.matching.proofs.Levels.{levels_sorted}
use Rattle.matching.proofs.Entries.{share_in, pick, picked_entries}
use Rattle.matching.proofs.Parts.{stands, part_size_lem, every_over, most_over, aligned_over}
use Rattle.matching.proofs.Groups.{stands_means}
use Rattle.matching.proofs.Places.{same_visibility_lem, numbered_back, part_in, in_part}
use Rattle.matching.proofs.Allotting.{allotment_filled}
use Rattle.matching.proofs.Leftover.{lost}
use Rattle.matching.proofs.Losses.{Beside, member_beside, beside_member, beside_zip_member, zip_beside, loss_shares, losses_aligned}
use Rattle.matching.proofs.Counting.{sorted_once, part_once, number_alone}
use Rattle.matching.proofs.Taking.{outcome_sound, sound_orders, take_orders, take_executions}

-- shares of one visibility, picked out of those of a visibility
only_picked : (v w : Visibility) (n : ℕ) → or_zero (same_visibility v w) n ≡ shares_of v (only_of w n)
only_picked shown shown n = refl
only_picked shown hidden n = refl
only_picked hidden shown n = refl
only_picked hidden hidden n = refl

-- what an order lost of both visibilities are the shares of its executions
lost_both : (lot : ℕ) (alg : Algorithm) (es : List Execution) (o : Order) → lost_of lot alg shown es o + lost_of lot alg hidden es o ≡ executed_of es o
lost_both lot alg es o =
    sym (total_add (λ e. or_zero (is_of o e && of shown e) (executed_shares e)) (λ e. or_zero (is_of o e && of hidden e) (executed_shares e)) es)
    ∙ total_same es (λ e m. go (is_of o e) (group_of lot alg (paragraph_numbered e.paragraph)).visibility (executed_shares e))
  where
    of : Visibility → Execution → Bool
    of v e = same_visibility v (group_of lot alg (paragraph_numbered e.paragraph)).visibility

    go : (b : Bool) (w : Visibility) (n : ℕ) → or_zero (b && same_visibility shown w) n + or_zero (b && same_visibility hidden w) n ≡ or_zero b n
    go true shown n = omega arith
    go true hidden n = omega arith
    go false w n = refl

-- a reserve order has its size displayed, and hides the rest
reserve_shown : (o : Order) → is_reserve o.kind ≡ true → (interest_of o).displayed ≡ size_of o
reserve_shown o = go o.kind
  where
    go : (k : Kind) → is_reserve k ≡ true → (interest_by k (size_of o)).displayed ≡ size_of o
    go Displayed e = refl
    go NonDisplayed e = absurd (false≢true e)
    go (MinimumQuantity n) e = absurd (false≢true e)
    go (Reserve h r) e = refl

reserve_hidden : (o : Order) → is_reserve o.kind ≡ true → (interest_of o).non_displayed ≡ hidden_of o.kind
reserve_hidden o = go o.kind
  where
    go : (k : Kind) → is_reserve k ≡ true → (interest_by k (size_of o)).non_displayed ≡ hidden_of k
    go Displayed e = refl
    go NonDisplayed e = absurd (false≢true e)
    go (MinimumQuantity n) e = absurd (false≢true e)
    go (Reserve h r) e = refl

-- made anew of what losses leave, it shows and hides what a refresh leaves of that
settled_kind : (k : Kind) → is_reserve k ≡ true → (size s h a b : ℕ) → interest a b ≡ refreshed (refresh_of k) (interest (size - s) (hidden_of k - h))
    → (kind_from k (less (interest_by k size) (interest s h)) ≡ Reserve (record { 0 = b }) (record { 0 = refresh_of k }))
    × (size_from k (less (interest_by k size) (interest s h)) ≡ a)
settled_kind Displayed e size s h a b f = absurd (false≢true e)
settled_kind NonDisplayed e size s h a b f = absurd (false≢true e)
settled_kind (MinimumQuantity n) e size s h a b f = absurd (false≢true e)
settled_kind (Reserve x r) e size s h a b f = (ap (λ (i : Interest). Reserve (record { 0 = i.non_displayed }) r) (sym f), ap (λ (i : Interest). i.displayed) (sym f))

settled_showing : (o : Order) → is_reserve o.kind ≡ true → (s h a b : ℕ)
    → interest a b ≡ refreshed (refresh_of o.kind) (interest (size_of o - s) (hidden_of o.kind - h)) → settled (interest s h) o ≡ showing a b o
unfolding settled with_interest
settled_showing o e s h a b f = let k = settled_kind o.kind e (size_of o) s h a b f in rw (k.0, k.1)

module _ (lot : ℕ) (hl : 0 < lot) (alg : Algorithm) (i : Incoming) (os : List Order) (sound : OrdersSound os) where
  abbrev t : Taker
  t = i.taker

  abbrev rows : List Allocation
  rows = allocations_over lot alg t os (price_levels t os) i.size.0

  module _ (o : Order) (m : Memᴰ o os) where
    -- what it lost by its executions it lost in the allocations
    lost_is : (v : Visibility) → lost_of lot alg v (executions_of os rows) o ≡ total (lost os v o) rows
    unfolding allocation_at
    lost_is v =
        picked_entries (λ g. same_visibility v (group_of lot alg (paragraph_numbered g)).visibility) os rows o.number
        ∙ total_same rows (λ a k. rw (numbered_back a.paragraph, ← (every_member Own rows own a k))
        (only_picked v a.visibility (share_in o.number os a.allotment)))
      where
        Own : Allocation → Type 0
        Own a = a.visibility ≡ (group_of lot alg a.paragraph).visibility

        own : Every Own rows
        own = every_over lot alg t os Own (λ price g left. refl) (price_levels t os) i.size.0

    -- in each only what stands there, at its price
    row_lost : (v : Visibility) (price : ℕ) (g : Paragraph) (left : ℕ)
        → lost os v o (allocation_at lot alg t os price g left) ≤ or_zero (eqb price (price_of o) && part_in lot alg o v g) (shares_of v (interest_of o))
    unfolding allocation_at
    row_lost v price g left = rw (← (only_picked v w entry)) (go (same_visibility v w) refl (stands t price (group_of lot alg g) o) refl)
      where
        w : Visibility
        w = (group_of lot alg g).visibility

        entry : ℕ
        entry = share_in o.number os (allocation_at lot alg t os price g left).allotment

        fits : entry ≤ or_zero (stands t price (group_of lot alg g) o) (shares_of w (interest_of o))
        fits =
            let f = (allotment_filled lot hl t os sound.rise sound.setters price left alg g).fits in
            omega (
              arith,
              pick (λ p k. k ≤ p.size) (part_of t price (group_of lot alg g)) 0 os sound.rise (allocation_at lot alg t os price g left).allotment f o m,
              part_size_lem t price (group_of lot alg g) o,
            )

        go : (a : Bool) → same_visibility v w ≡ a → (b : Bool) → stands t price (group_of lot alg g) o ≡ b
            → or_zero a entry ≤ or_zero (eqb price (price_of o) && part_in lot alg o v g) (shares_of v (interest_of o))
        go true e true f =
            let s = stands_means t price (group_of lot alg g) o f in
            let same = same_visibility_lem v w e in
            let p : part_in lot alg o v g ≡ true = subst⁻¹ (λ (x : Visibility). part_in lot alg o x g ≡ true) same (in_part lot alg o g ∙ s.2) in
            let k : entry ≤ shares_of w (interest_of o) = rw f at fits in
            rw (eq-eqb price (price_of o) (sym s.1), p, same) k
        go true e false f = let k : entry ≤ 0 = rw f at fits in omega arith
        go false e b f = omega arith

    -- so no more than it had
    lost_within : (v : Visibility) → total (lost os v o) rows ≤ shares_of v (interest_of o)
    lost_within v =
        omega (
          arith,
          most_over lot alg t os (lost os v o) (λ price g. or_zero (eqb price (price_of o) && part_in lot alg o v g) n) (row_lost v) (price_levels t os) i.size.0,
          total_le {f = λ price. total (λ g. or_zero (eqb price (price_of o) && part_in lot alg o v g) n) paragraphs} {g = λ price. or_zero (eqb price (price_of o)) n}
              (price_levels t os) (λ price k. at (eqb price (price_of o))),
          sorted_once t.side (price_of o) n (price_levels t os) (levels_sorted t os),
        )
      where
        n : ℕ
        n = shares_of v (interest_of o)

        at : (b : Bool) → total (λ g. or_zero (b && part_in lot alg o v g) n) paragraphs ≤ or_zero b n
        at true = omega (arith, part_once lot alg o v n, pick_least (ltb 0 n) n)
        at false = omega (arith, total_none paragraphs)

    -- what it lost
    abbrev lost_shown : ℕ
    lost_shown = lost_of lot alg shown (executions_of os rows) o

    abbrev lost_hidden : ℕ
    lost_hidden = lost_of lot alg hidden (executions_of os rows) o

    loss_is : {l : Interest} → Beside os (losses_of os rows) o l → l ≡ interest lost_shown lost_hidden
    loss_is b =
        rw (lost_is shown, lost_is hidden, ← (loss_shares os sound.rise rows b shown), ← (loss_shares os sound.rise rows b hidden))

    abbrev after : List Order
    after = (outcome lot alg i os).orders

    -- it rests with what the losses leave
    rests : (a b : ℕ) → settled (interest lost_shown lost_hidden) o ≡ showing a b o → 0 < a → Alone after (showing a b o)
    unfolding outcome allocations
    rests a b e p = record { there = there; alone = λ x k n. number_alone 0 after (outcome_sound lot alg i os sound).rise x (showing a b o) k there n }
      where
        there : Memᴰ (showing a b o) after
        there =
            let l = member_beside os (losses_of os rows) (losses_aligned os rows (aligned_over lot alg t os (price_levels t os) i.size.0)) o m in
            let f : settled l.0 o ≡ showing a b o = rw (loss_is l.1) e in
            subst (λ (x : Order). Memᴰ x after) f
            (member_filter is_resting (zip_with settled (losses_of os rows) os) (settled l.0 o) (beside_zip_member settled l.1)
            (ap is_resting f ∙ lt-ltb 0 (a + b) (omega arith)))

    -- an order of its number that rests still has shares
    has_left : (x : Order) → Memᴰ x after → x.number ≡ o.number → 0 < all_shares (less (interest_of o) (interest lost_shown lost_hidden))
    unfolding outcome allocations
    has_left x k n =
        let f = filter_member is_resting (zip_with settled (losses_of os rows) os) x k in
        let z = zip_beside settled (losses_of os rows) os x f.0 in
        let l = z.1 in
        let same = number_alone 0 os sound.rise z.0 o (beside_member z.2) m (sym (settled_number l z.0) ∙ ap (λ (y : Order). y.number) (sym z.3) ∙ n) in
        let b = subst (λ (y : Order). Beside os (losses_of os rows) y l) same z.2 in
        let e : x ≡ settled (interest lost_shown lost_hidden) o = z.3 ∙ ap (settled l) same ∙ ap (λ (j : Interest). settled j o) (loss_is b) in
        let r = ltb-true 0 (all_shares (interest_of x)) f.1 in
        omega (arith, ap (λ (y : Order). all_shares (interest_of y)) e, all_settled (interest lost_shown lost_hidden) o)

    remains : is_reserve o.kind ≡ true → Remains after o lost_shown lost_hidden (executed_of (executions_of os rows) o)
    remains e = record {
      in_all = lost_both lot alg (executions_of os rows) o;
      of_shown = omega (arith, lost_is shown, lost_within shown, reserve_shown o e);
      of_hidden = omega (arith, lost_is hidden, lost_within hidden, reserve_hidden o e);
      kept = λ k.
          rests (size_of o - lost_shown) (hidden_of o.kind - lost_hidden)
          (settled_showing o e lost_shown lost_hidden _ _ (refreshed_some (refresh_of o.kind) (size_of o - lost_shown) (hidden_of o.kind - lost_hidden) (λ z. omega arith)))
          (omega arith);
      refreshed = λ k h.
          let left = hidden_of o.kind - lost_hidden in
          let n = min (refresh_of o.kind) left in
          let r = (order_facts o (every_member OrderSound os sound.each o m)).refresh_least e in
          rests n (left - n) (settled_showing o e lost_shown lost_hidden _ _ (refreshed_none (refresh_of o.kind) (size_of o - lost_shown) left (omega arith))) (omega arith);
      gone = λ k h x j n. omega (arith, has_left x j n, reserve_shown o e, reserve_hidden o e);
      shows = λ x k n. (order_shares after (outcome_sound lot alg i os sound) x k).1;
    }

-- so it is in every accepted take
pub take_reserve : (q : TakeRequest) (s x : List ℕ) → ReserveTake q s (take_call q s x)
unfolding outcome_of outcome allocations
take_reserve q s x e o m r =
    rw (take_executions q s x e, take_orders q s x e)
    (remains round_lot (omega arith) (algorithm_of q.algorithm) (incoming_of q) (orders_of s) (sound_orders q s x e) o m r)
