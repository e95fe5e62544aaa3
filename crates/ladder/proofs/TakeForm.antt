-- What the form of take that keeps a ladder answers and leaves, by the plain take.
use Prim.Native.Nat.{ℕ}
use mathlib.Core.Path.{◌≡◌, refl, sym, ap, ◌∙◌}
use mathlib.Core.Bool.{Bool, true, false}
use native.Mathlib.Omega.{arith}
use mathlib.Core.List.{List}
use lib.Dec.{eqb}
use borrow.Author.Tests.{ne_eqb, eqb-false}
use Rattle.book.specs.Sound.{sound, orders_of}
use Rattle.book.specs.Refusal.{Refusal, refusal_of}
use Rattle.matching.specs.declared.Taken.{Taken}
use Rattle.matching.specs.declared.TakeRequest.{TakeRequest}
use Rattle.matching.specs.TakeCall.{request_in_range, TakeAnswer, take_refusals, outcome_of, take_call}
use Rattle.matching.specs.Fairness.{FairTake}
use Rattle.matching.proofs.Taking.{take_sound}
use Rattle.matching.proofs.TakeFair.{take_fair}
use Rattle.ladder.specs.Ladder.{made_of, kept_ladder, TakeKept, take_ladder_call}
use Rattle.ladder.specs.Seen.{Look, seen_of}
use Rattle.ladder.proofs.Forms as forms

module _ (q : TakeRequest) (s x l : List ℕ) where
  abbrev pub plain : TakeAnswer
  plain = take_call q s x

  -- the refusals behind refusal 2
  abbrev pub others : List Refusal
  others = (take_refusals q (outcome_of q (orders_of s)).executions x).of_book

  abbrev form : TakeKept
  form = take_ladder_call q s x l

  pub same : plain.taken.refusal ≡ refusal_of (take_refusals q (outcome_of q (orders_of s)).executions x) (sound s)
  unfolding take_call
  same = refl

  pub leaves : (plain.taken.refusal ≡ 0 → ⊥) → plain.book ≡ s
  unfolding take_call
  leaves n = rw (ne_eqb plain.taken.refusal 0 n)

  -- a refused take has no other numbers, and writes no execution
  plain_refused : (plain.taken.refusal ≡ 0 → ⊥) → (plain.taken.count ≡ 0) × (plain.taken.left ≡ 0) × (plain.executions ≡ x)
  unfolding take_call
  plain_refused n =
      let a = ne_eqb plain.taken.refusal 0 n in
      (rw a, rw a, rw a)

  -- the take seen as a call that changes the book
  abbrev pub book_alone : forms.Plain s
  book_alone = record {
    in_range = request_in_range q;
    of_book = others;
    call = record { refusal = plain.taken.refusal; book = plain.book };
    same = same;
    leaves = leaves;
    keeps = take_sound q s x;
  }

  -- what holds of refusal, book and ladder
  abbrev pub Gets : ℕ → List ℕ → List ℕ → Type 0
  Gets = forms.Gets q.security book_alone l

  -- what the caller gets
  abbrev pub Answers : Taken → List ℕ → List ℕ → List ℕ → Type 0
  Answers r b y m =
      (r ≡ form.taken)
      × ((b ≡ form.book)
      × ((y ≡ form.executions)
      × ((m ≡ form.ladder)
      × (FairTake q s (record { taken = r; book = b; executions = y })
      × ((r.refusal ≡ 0 → sound b ≡ true)
      × ((r.refusal ≡ 0 → m ≡ made_of q.security b)
      × (((r.refusal ≡ 0 → ⊥) → (b ≡ s) × (y ≡ x) × (m ≡ l))
      × (l ≡ made_of q.security s → (r ≡ plain.taken) × (b ≡ plain.book) × (y ≡ plain.executions)))))))))

  -- refused otherwise than the plain take, it gives its number alone and leaves the execution buffer
  form_refused : (form.taken.refusal ≡ 0 → ⊥) → (form.taken ≡ record { refusal = form.taken.refusal; count = 0; left = 0 }) × (form.executions ≡ x)
  unfolding take_ladder_call
  form_refused n = let a = ne_eqb form.taken.refusal 0 n in (rw a, rw a)

  -- refused as the plain take, it is the plain take
  form_plain : form.taken.refusal ≡ plain.taken.refusal → (form.taken ≡ plain.taken) × (form.executions ≡ plain.executions)
  unfolding take_ladder_call take_call
  form_plain e = go (eqb form.taken.refusal 0) refl
    where
      go : (b : Bool) → eqb form.taken.refusal 0 ≡ b → (form.taken ≡ plain.taken) × (form.executions ≡ plain.executions)
      go true a = (rw (a, e), rw a)
      go false a =
          let p = plain_refused (λ z. eqb-false form.taken.refusal 0 a (e ∙ z)) in
          (rw (a, e, p.0, p.1), rw (a, p.2))

  -- the ladder's book and refusal
  kept : {r : ℕ} {b m : List ℕ} → Gets r b m → (r ≡ form.taken.refusal) × (b ≡ form.book) × (m ≡ form.ladder)
  unfolding take_ladder_call
  kept g = (g.refused, g.bytes, g.ladder_bytes)

  -- an accepted form is as fair as the plain take
  fair : {r : Taken} {b y : List ℕ} → (r.refusal ≡ 0 → (r ≡ plain.taken) × (b ≡ plain.book) × (y ≡ plain.executions))
      → FairTake q s (record { taken = r; book = b; executions = y })
  fair {r} {b} {y} h e =
      let p = h e in
      let f : FairTake q s (record { taken = r; book = b; executions = y }) = rw (p.0, p.1, p.2) (take_fair q s x) in
      f e

  -- with the plain take's numbers and executions where it is refused as that is, and else with nothing
  answers : {r : Taken} {b y m : List ℕ} → Gets r.refusal b m → r ≡ form.taken → y ≡ form.executions
      → (r.refusal ≡ 0 → form.taken.refusal ≡ plain.taken.refusal) → Answers r b y m
  answers {r} {b} {y} {m} g t u like =
      let k = kept g in
      let accepted : r.refusal ≡ 0 → (r ≡ plain.taken) × (b ≡ plain.book) × (y ≡ plain.executions) =
      λ e. let p = form_plain (like e) in (t ∙ p.0, g.bytes ∙ forms.accepted_book q.security book_alone l (sym g.refused ∙ e), u ∙ p.1) in
      (t, (k.1, (u, (k.2, (fair accepted, (g.kept_sound, (g.kept_ladder, (rest g t u, plainly g t u))))))))
    where
      rest : Gets r.refusal b m → r ≡ form.taken → y ≡ form.executions → (r.refusal ≡ 0 → ⊥) → (b ≡ s) × (y ≡ x) × (m ≡ l)
      rest g t u n = let w = g.unchanged n in (w.0, u ∙ (form_refused (λ e. n (ap (λ (v : Taken). v.refusal) t ∙ e))).1, w.1)

      plainly : Gets r.refusal b m → r ≡ form.taken → y ≡ form.executions → l ≡ made_of q.security s
          → (r ≡ plain.taken) × (b ≡ plain.book) × (y ≡ plain.executions)
      plainly g t u e =
          let w = g.as_plain e in
          let p = form_plain (sym (ap (λ (v : Taken). v.refusal) t) ∙ w.0) in
          (t ∙ p.0, w.1, u ∙ p.1)

  -- refused, with this number
  refuses : {k : ℕ} → Gets k s l → (k ≡ 0 → ⊥) → Answers (record { refusal = k; count = 0; left = 0 }) s x l
  refuses {k} g n =
      let f = (kept g).0 in
      let w = form_refused (λ e. n (f ∙ e)) in
      answers g (ap (λ (v : ℕ). record { refusal = v; count = 0; left = 0 }) f ∙ sym w.0) (sym w.1) (λ e. absurd (n e))

  -- a number out of its range
  pub take_range : request_in_range q ≡ false → Answers (record { refusal = 1; count = 0; left = 0 }) s x l
  take_range e = refuses (forms.form_range q.security book_alone l e) (λ z. omega arith)

  module _ (e : request_in_range q ≡ true) (c : Look) (k : c ≡ seen_of q.security s l) where
    -- book and ladder are seen, and refused
    pub take_seen : (c.refusal ≡ 0 → ⊥) → Answers (record { refusal = c.refusal; count = 0; left = 0 }) s x l
    take_seen n = refuses (forms.form_seen q.security book_alone l e c k n) n

    -- or the take is made, and the ladder kept
    pub take_made : c.refusal ≡ 0 → {r : Taken} {b y m : List ℕ} → r ≡ plain.taken → b ≡ plain.book → y ≡ plain.executions
        → m ≡ kept_ladder q.security r.refusal b l → Answers r b y m
    take_made a {r} t u v w =
        let g = forms.form_made q.security book_alone l e c k a (ap (λ (z : Taken). z.refusal) t) u w in
        let f : form.taken.refusal ≡ plain.taken.refusal = sym (kept g).0 ∙ ap (λ (z : Taken). z.refusal) t in
        let p = form_plain f in
        answers g (t ∙ sym p.0) (v ∙ sym p.1) (λ z. f)
