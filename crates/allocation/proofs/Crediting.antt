-- What parts get, kept: part by part, and parts behind others.
use Prim.Native.Nat.{ℕ, suc, ◌+◌, ◌-◌, ◌^◌, ◌≤◌, ◌<◌, min}
use mathlib.Core.Path.{◌≡◌, refl, sym, ap, ◌∙◌}
use mathlib.Core.Bool.{Bool, true, false}
use mathlib.Core.List.{List, [], ◌∷◌, ◌++◌, map, map-append, append-nil, append_assoc}
use native.Mathlib.Omega.{arith}
use native.Mathlib.Numerals.{add-one}
use native.Mathlib.Nat.{add-zero, sub-zero}
use lib.Dec.{leb, ltb, eqb}
use lib.ListN.{length, get_or, take, drop, set, length-append, length-take, length-set, take-append-drop}
use lib.Seq.{take_all, take-suc, drop-cons, take-suc-set, take-set-le, get_or-set_same, get_or-set_other, set-get_or}
use borrow.Author.Tests.{eqb-true, eqb-false}
use Rattle.units.specs.Lists.{cons_if, or_zero, sum}
use Rattle.units.proofs.Members.{every_split}
use Rattle.units.proofs.Totals.{total_append}
use Rattle.orders.specs.declared.order.Order.{Order}
use Rattle.orders.specs.Order.{Visibility, shown, hidden, shares_of, only_of}
use Rattle.matching.specs.declared.Algorithm.{Algorithm}
use Rattle.matching.specs.declared.incoming.Incoming.{Incoming}
use Rattle.matching.specs.Incoming.{executed}
use Rattle.parts.specs.Key.{group_in, paragraph_in, place_in, with_shares}
use Rattle.parts.proofs.Keys.{with_group, with_place, with_shares_lem}
use Rattle.allocation.proofs.Places.{take_within}
use Rattle.parts.specs.Visible.{last_shown, visibility_in}
use Rattle.parts.specs.Execution.{execution_in, execution_of}
use Rattle.allocation.specs.Walk.{executions_from, fills_of}
use Rattle.allocation.specs.declared.Progress.{Progress}
use Rattle.allocation.specs.Credit.{seen, noted, Ledger, ledger, left_in, logged, Room, Credited}
use Rattle.allocation.proofs.Gets.{fills_append, executions_append, got_append, got_within}
use Rattle.allocation.proofs.Places.{total_next}

-- there are no more fills than parts
pub fills_few : (keys gets : List ℕ) → length (fills_of keys gets) ≤ length keys
fills_few [] gets = omega arith
fills_few (k ∷ keys) [] = omega arith
fills_few (k ∷ keys) (n ∷ gets) = go (ltb 0 n) (fills_few keys gets)
  where
    go : (b : Bool) → length (fills_of keys gets) ≤ length keys → length (cons_if b (with_shares n k) (fills_of keys gets)) ≤ suc (length keys)
    go true h = omega arith
    go false h = omega arith

-- shares executed one after another
executed_more : (m n : ℕ) (i : Incoming) → executed n (executed m i) ≡ executed (m + n) i
executed_more m n i = let e : i.size.0 - m - n ≡ i.size.0 - (m + n) = omega arith in rw e

-- nobody gets anything
pub credited_none : {alg : Algorithm} (l : Ledger) → Credited alg [] [] l l
credited_none l = record {
  left = rw sub-zero;
  count = omega arith;
  fills = sym (append-nil (take l.progress.count l.fills));
  executions = λ at. sym (append-nil (logged at l));
  allotment = λ v i. omega arith;
  room = refl;
  records = λ v. refl;
}

-- parts behind others
pub credited_append : {alg : Algorithm} {keys gets later more : List ℕ} {a b c : Ledger} → Credited alg keys gets a b → Credited alg later more b c
    → length gets ≡ length keys → Credited alg (keys ++ later) (gets ++ more) a c
credited_append {alg} {keys} {gets} {later} {more} {a} p q e =
    let f = fills_append keys later gets more e in
    record {
      left =
          q.left ∙ ap (executed (sum more)) p.left ∙ executed_more (sum gets) (sum more) a.progress.incoming
          ∙ ap (λ n. executed n a.progress.incoming) (sym (total_append (λ n. n) gets more));
      count = omega (arith, p.count, q.count, ap length f, length-append (fills_of keys gets) (fills_of later more));
      fills =
          q.fills ∙ ap (λ l. l ++ fills_of later more) p.fills
          ∙ append_assoc (take a.progress.count a.fills) (fills_of keys gets) (fills_of later more)
          ∙ ap (λ l. take a.progress.count a.fills ++ l) (sym f);
      executions = λ at.
          q.executions at ∙ ap (λ l. l ++ executions_from at later more) (p.executions at)
          ∙ append_assoc (logged at a) (executions_from at keys gets) (executions_from at later more)
          ∙ ap (λ l. logged at a ++ l) (sym (executions_append at keys later gets more e));
      allotment = λ v i. omega (arith, p.allotment v i, q.allotment v i, got_append alg v i keys later gets more e);
      room = q.room ∙ p.room;
      records = λ v. q.records v ∙ p.records v;
    }

-- there is room for the parts behind those that have got theirs
pub room_after : {alg : Algorithm} {keys gets later : List ℕ} {a b : Ledger} → Room (keys ++ later) a → Credited alg keys gets a b → sum gets ≤ left_in a
    → Room later b
room_after {alg} {keys} {gets} {later} {a} r p h = record {
  fills = omega (arith, r.fills, p.count, p.room, length-append keys later, fills_few keys gets);
  places = λ v. rw (p.records v) (every_split (λ k. place_in k < length (a.allotment v)) keys later (r.places v)).1;
  bounded = λ v i. omega (arith, r.bounded v i, p.allotment v i, got_within alg v i keys gets, ap (λ x. x.size.0) p.left);
}

-- one part gets n shares
module _ (alg : Algorithm) (k n : ℕ) (l : Ledger) (h : l.progress.count < length l.fills) (p : (v : Visibility) → place_in k < length (l.allotment v))
    (low : n < 1048576) (then : Visibility → List ℕ) (note : (v : Visibility) → then v ≡ noted alg v k n (l.allotment v)) where
  abbrev count : ℕ
  count = l.progress.count

  counted : (b : Bool) → count + or_zero b 1 ≡ count + length (cons_if b (with_shares n k) [])
  counted true = refl
  counted false = refl

  filled : (b : Bool) → take (count + or_zero b 1) (set l.fills count (with_shares n k)) ≡ take count l.fills ++ cons_if b (with_shares n k) []
  filled true = rw add-one (take-suc-set l.fills count (with_shares n k) h)
  filled false = rw add-zero (take-set-le count l.fills count (with_shares n k) (omega arith) ∙ sym (append-nil (take count l.fills)))

  -- the fill keeps the paragraph of its part
  named : (at : ℕ → Order) (b : Bool) → map (execution_of at) (take (count + or_zero b 1) (set l.fills count (with_shares n k))) ≡ logged at l ++ cons_if b (execution_in at k n) []
  named at true =
      let one : execution_of at (with_shares n k) ≡ execution_in at k n = rw (with_place n k low, with_group n k low, with_shares_lem n k low) in
      ap (map (execution_of at)) (filled true) ∙ map-append (execution_of at) (take count l.fills) (with_shares n k ∷ []) ∙ ap (λ e. logged at l ++ (e ∷ [])) one
  named at false = ap (map (execution_of at)) (filled false) ∙ map-append (execution_of at) (take count l.fills) []

  allotted : (v : Visibility) (i : ℕ) (b : Bool) → eqb (place_in k) i ≡ b
      → get_or (noted alg v k n (l.allotment v)) i 0 ≡ get_or (l.allotment v) i 0 + (or_zero b (shares_of v (only_of (visibility_in alg k) n)) + 0)
  allotted v i true e =
      let m = shares_of v (only_of (visibility_in alg k) n) in
      let f = eqb-true (place_in k) i e in
      rw (sym f) (get_or-set_same (l.allotment v) (place_in k) (get_or (l.allotment v) (place_in k) 0 + m) 0 (p v) ∙ omega arith)
  allotted v i false e =
      let m = shares_of v (only_of (visibility_in alg k) n) in
      get_or-set_other (l.allotment v) (place_in k) i (get_or (l.allotment v) (place_in k) 0 + m) 0 (λ f. eqb-false (place_in k) i e (sym f)) ∙ omega arith

  credited_one : Credited alg (k ∷ []) (n ∷ []) l record {
    progress = record { incoming = executed n l.progress.incoming; count = count + or_zero (ltb 0 n) 1 };
    fills = set l.fills count (with_shares n k);
    allotment = then;
  }
  credited_one = record {
    left = ap (λ m. executed m l.progress.incoming) (sym (add-zero n));
    count = counted (ltb 0 n);
    fills = filled (ltb 0 n);
    executions = λ at. named at (ltb 0 n);
    allotment = λ v i. ap (λ ns. get_or ns i 0) (note v) ∙ allotted v i (eqb (place_in k) i) refl;
    room = length-set l.fills count (with_shares n k);
    records = λ v.
        ap length (note v) ∙ length-set (l.allotment v) (place_in k) (get_or (l.allotment v) (place_in k) 0 + shares_of v (only_of (visibility_in alg k) n));
  }

-- A part's record got shares of the part's visibility alone.
module _ (alg : Algorithm) (key n : ℕ) (ss hs : List ℕ) {place : ℕ} (p : place ≡ place_in key) where
  nothing_noted : (v : Visibility) (ns : List ℕ) → shares_of v (only_of (visibility_in alg key) n) ≡ 0 → ns ≡ noted alg v key n ns
  nothing_noted v ns z = sym (rw (z, add-zero) (set-get_or ns (place_in key) 0))

  pub noted_shown : leb (paragraph_in (group_in key)) (last_shown alg) ≡ true → (v : Visibility)
      → seen v (set ss place (get_or ss place 0 + n)) hs ≡ noted alg v key n (seen v ss hs)
  noted_shown e shown = rw (p, e)
  noted_shown e hidden = nothing_noted hidden hs (rw e)

  pub noted_hidden : leb (paragraph_in (group_in key)) (last_shown alg) ≡ false → (v : Visibility)
      → seen v ss (set hs place (get_or hs place 0 + n)) ≡ noted alg v key n (seen v ss hs)
  noted_hidden e shown = nothing_noted shown ss (rw e)
  noted_hidden e hidden = rw (p, e)

-- The first k parts have got their shares. There is room for all, and what they get comes in; the incoming order shrinks at the end.
pub record Begun (alg : Algorithm) (keys gets : List ℕ) (start : Ledger) (k used count : ℕ) (fills ss hs : List ℕ) : Type 0 where
  pub room : Room keys start
  pub many : length gets ≡ length keys
  pub enough : sum gets ≤ left_in start
  pub within : k ≤ length keys
  pub spent : used ≡ sum (take k gets)
  pub credited : Credited alg (take k keys) (take k gets) start
      (ledger (record { incoming = executed used start.progress.incoming; count = count }) fills ss hs)

pub begun_none : {alg : Algorithm} {keys gets fills ss hs : List ℕ} {from : Progress} → Room keys (ledger from fills ss hs) → length gets ≡ length keys
    → sum gets ≤ from.incoming.size.0 → Begun alg keys gets (ledger from fills ss hs) 0 0 from.count fills ss hs
begun_none {fills = fills} {ss = ss} {hs = hs} {from = from} r e h =
    record { room = r; many = e; enough = h; within = omega arith; spent = refl; credited = rw sub-zero (credited_none (ledger from fills ss hs)) }

-- What the next part's key and its shares need.
pub record Next (key n : ℕ) (used count : ℕ) (fills ss hs : List ℕ) : Type 0 where
  pub place : count < length fills
  pub entry : (v : Visibility) → place_in key < length (seen v ss hs)
  pub small : (v : Visibility) → get_or (seen v ss hs) (place_in key) 0 + n ≤ 999999
  pub sum : used + n ≤ 999999

module _ {alg : Algorithm} {keys gets : List ℕ} {start : Ledger} {k used count : ℕ} {fills ss hs : List ℕ}
    (s : Begun alg keys gets start k used count fills ss hs) where
  abbrev now : Ledger
  now = ledger (record { incoming = executed used start.progress.incoming; count = count }) fills ss hs

  -- all have theirs
  pub begun_all : length keys ≤ k → Credited alg keys gets start now
  begun_all h = rw (take_all k keys h, take_all k gets (omega (arith, s.many))) at s.credited

  module _ (h : k < length keys) where
    abbrev key : ℕ
    key = get_or keys k 0

    abbrev n : ℕ
    n = get_or gets k 0

    spent_more : used + n ≡ sum (take (k + 1) gets)
    spent_more = omega (arith, s.spent, total_next (λ n. n) gets k (omega (arith, s.many)))

    -- there is room for those that are left
    room_now : Room (key ∷ drop (suc k) keys) now
    room_now =
        rw (sym (drop-cons keys k 0 h))
        (room_after {keys = take k keys} (rw (take-append-drop k keys) s.room) s.credited (omega (arith, s.enough, take_within k gets)))

    pub begun_next : Next key n used count fills ss hs
    begun_next =
        let m = take_within (k + 1) gets in
        record {
          place = omega (arith, room_now.fills);
          entry = λ v. (room_now.places v).0;
          small = λ v. let b = room_now.bounded v (place_in key) in omega (arith, spent_more, s.enough);
          sum = omega (arith, spent_more, s.enough, s.room.bounded shown 0);
        }

    -- its record may be noted
    pub begun_note : {part shares : ℕ} → part ≡ key → shares ≡ n → (v : Visibility)
        → (place_in part < length (seen v ss hs)) × (get_or (seen v ss hs) (place_in part) 0 + shares < 2 ^ 32)
    begun_note p e v = let b = begun_next in rw (p, e) (b.entry v, omega (arith, b.small v))

    -- it gets its shares
    pub begun_more : {fill part shares spent counted : ℕ} {ss' hs' : List ℕ} → fill ≡ with_shares n key → part ≡ key → shares ≡ n → spent ≡ used + shares
        → counted ≡ count + or_zero (ltb 0 n) 1 → ((v : Visibility) → seen v ss' hs' ≡ noted alg v part shares (seen v ss hs))
        → Begun alg keys gets start (k + 1) spent counted (set fills count fill) ss' hs'
    begun_more f p e u m w = rw (u, e, f, m) (record {
      room = s.room;
      many = s.many;
      enough = s.enough;
      within = omega arith;
      spent = spent_more;
      credited =
          let l : k < length gets = omega (arith, s.many) in
          let d : start.progress.incoming.size.0 - (used + n) ≡ start.progress.incoming.size.0 - used - n = omega arith in
          let y : length (take k gets) ≡ length (take k keys) = length-take k gets ∙ ap (min k) s.many ∙ sym (length-take k keys) in
          rw (add-one k, take-suc keys k 0 h, take-suc gets k 0 l, d)
          (credited_append s.credited
          (credited_one alg key n now begun_next.place begun_next.entry (omega (arith, begun_next.small shown)) _ (λ v. rw (p, e) at (w v))) y);
    })
