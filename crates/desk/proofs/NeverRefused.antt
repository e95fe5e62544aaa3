-- A desk whose book is sound and has no reserve order, and whose buffer has room for 256 executions, stays so, and refuses no command
-- with 2 or 8.
use Prim.Native.Nat.{ℕ, ◌*◌, ◌≤◌}
use mathlib.Core.Path.{◌≡◌, refl}
use mathlib.Core.Bool.{Bool, true, false, cond}
use mathlib.Core.List.{List, [], ◌∷◌}
use native.Mathlib.Omega.{arith}
use lib.Dec.{eqb}
use lib.ListN.{length, drop, length-append, length-drop}
use borrow.Author.Tests.{eqb-true, eqb-false, ne_eqb, le-ltb}
use Rattle.std.specs.Prelude.{Option, Some, None, Ok, Err}
use Rattle.units.specs.Lists.{flat_map}
use Rattle.units.specs.Lots.{round_lot}
use Rattle.record.specs.declared.execution.Execution.{Execution}
use Rattle.record.specs.Execution.{encode_execution}
use Rattle.record.proofs.Executions.{length_execution}
use Rattle.book.specs.Sound.{sound, orders_of, capacity_of}
use Rattle.book.specs.Refusal.{Refusal, first_refusal, is_accepted}
use Rattle.book.proofs.Refusing.{refusals_of, not_given}
use Rattle.book.proofs.Soundness.{orders_sound}
use Rattle.book.proofs.Checking.{sound_fits}
use Rattle.entry.specs.declared.admission.AddRequest.{AddRequest}
use Rattle.entry.specs.Add.{add_refusals, add_call}
use Rattle.entry.specs.Reduce.{reduce_refusals, reduce_call}
use Rattle.entry.proofs.Adding.{add_sound}
use Rattle.entry.proofs.Reducing.{reduce_sound}
use Rattle.matching.specs.declared.Filled.{Filled}
use Rattle.matching.specs.declared.TakeRequest.{TakeRequest}
use Rattle.matching.specs.Paragraph.{algorithm_of}
use Rattle.matching.specs.Take.{outcome}
use Rattle.matching.specs.TakeCall.{take_refusals, take_call, outcome_of, incoming_of, written}
use Rattle.matching.specs.Parts.{without_reserve}
use Rattle.matching.proofs.Counting.{executions_most}
use Rattle.matching.proofs.Before.{take_without_reserve}
use Rattle.matching.proofs.Taking.{take_sound, take_written}
use Rattle.script.specs.declared.command.Command.{Command}
use Rattle.script.specs.declared.command.Command.TheVariants.{Choose, Add, Reduce, Take}
use Rattle.desk.specs.Desk.{Answer, refused_or, Desk, performed}
use Rattle.desk.proofs.Plain.{add_plain, reduce_plain}

-- a sound book without reserve orders, and room for 256 executions
pub record Ready (d : Desk) : Type 0 where
  pub book : sound d.book ≡ true
  pub plain : without_reserve (orders_of d.book) ≡ true
  pub room : 4096 ≤ length d.executions

-- an accepted answer is no refusal
accepted_is : (a : Option Filled) (n : ℕ) → ◌≡◌ {A = Answer} (Ok a) (Err n) → ⊥
accepted_is a n e = let z : ◌≡◌ {A = ℕ} 0 1 = cc in omega arith

-- an answer that is a refusal has the call's number
refused_is : (b : Bool) (r n : ℕ) (a : Option Filled) → ◌≡◌ {A = Answer} (cond b (Ok a) (Err r)) (Err n) → r ≡ n
refused_is true r n a e = absurd (accepted_is a n e)
refused_is false r n a e = cc

-- the first of a call's refusals is the one it answers with
was_given : (rs : List Refusal) (n : ℕ) (a : Option Filled) → refused_or (first_refusal rs) a ≡ Err n → first_refusal rs ≡ n
was_given rs n a e = refused_is (is_accepted (first_refusal rs)) (first_refusal rs) n a e

-- a call is accepted or not
decided : (r : ℕ) (P : Type 0) → (r ≡ 0 → P) → ((r ≡ 0 → ⊥) → P) → P
decided r P h k = by_test (eqb r 0) refl
  where
    by_test : (b : Bool) → eqb r 0 ≡ b → P
    by_test true e = h (eqb-true r 0 e)
    by_test false e = k (eqb-false r 0 e)

-- executions have 16 bytes each
executions_long : (es : List Execution) → length (flat_map encode_execution es) ≡ 16 * length es
executions_long [] = refl
executions_long (e ∷ es) = omega (arith, length-append (encode_execution e) (flat_map encode_execution es), length_execution e, executions_long es)

-- On a sound book without reserve orders.
module _ (s : List ℕ) (h : sound s ≡ true) (p : without_reserve (orders_of s) ≡ true) where
  add_keeps : (q : AddRequest) → sound (add_call q s).book ≡ true
  unfolding add_call
  add_keeps q = decided (add_call q s).refusal (sound (add_call q s).book ≡ true) (add_sound q s) (λ n. rw (ne_eqb _ 0 n) h)

  add_stays_plain : (q : AddRequest) → q.hidden ≡ 0 → q.refresh ≡ 0 → without_reserve (orders_of (add_call q s).book) ≡ true
  unfolding add_call
  add_stays_plain q a b =
      decided (add_call q s).refusal (without_reserve (orders_of (add_call q s).book) ≡ true) (add_plain s p q a b) (λ n. rw (ne_eqb _ 0 n) p)

  reduce_keeps : (n shares : ℕ) → sound (reduce_call 0 n shares s).book ≡ true
  unfolding reduce_call
  reduce_keeps n shares =
      decided (reduce_call 0 n shares s).refusal (sound (reduce_call 0 n shares s).book ≡ true) (reduce_sound 0 n shares s) (λ m. rw (ne_eqb _ 0 m) h)

  reduce_stays_plain : (n shares : ℕ) → without_reserve (orders_of (reduce_call 0 n shares s).book) ≡ true
  unfolding reduce_call
  reduce_stays_plain n shares =
      decided (reduce_call 0 n shares s).refusal (without_reserve (orders_of (reduce_call 0 n shares s).book) ≡ true) (reduce_plain s p n shares) (λ m. rw (ne_eqb _ 0 m) p)

  module _ (q : TakeRequest) (x : List ℕ) where
    take_keeps : sound (take_call q s x).book ≡ true
    unfolding take_call
    take_keeps = decided (take_call q s x).taken.refusal (sound (take_call q s x).book ≡ true) (take_sound q s x) (λ n. rw (ne_eqb _ 0 n) h)

    take_stays_plain : without_reserve (orders_of (take_call q s x).book) ≡ true
    unfolding take_call
    take_stays_plain =
        decided (take_call q s x).taken.refusal (without_reserve (orders_of (take_call q s x).book) ≡ true) (λ e. take_without_reserve q s x e p) (λ n. rw (ne_eqb _ 0 n) p)

    take_room : length x ≤ length (take_call q s x).executions
    unfolding take_call written
    take_room =
        let es = (outcome_of q (orders_of s)).executions in
        decided (take_call q s x).taken.refusal (length x ≤ length (take_call q s x).executions)
        (λ e. rw (take_written q s x e)
        (omega (arith, length-append (flat_map encode_execution es) (drop (16 * length es) x), executions_long es, length-drop (16 * length es) x)))
        (λ n. rw (ne_eqb _ 0 n) (omega arith))

    -- no more executions than 256
    executions_fit : 16 * length (outcome_of q (orders_of s)).executions ≤ 4096
    unfolding outcome_of outcome
    executions_fit =
        omega (arith, executions_most round_lot (algorithm_of q.algorithm) (incoming_of q) (orders_of s) (orders_sound s h).rise p, (sound_fits s h).1)

module _ (d : Desk) (r : Ready d) where
  -- the desk stays so
  pub stays_ready : (c : Option Command) → Ready (performed c d).desk
  unfolding performed
  stays_ready (Some (Choose n)) = record { book = r.book; plain = r.plain; room = r.room }
  stays_ready (Some (Add side kind number price size minimum)) = record {
    book = add_keeps d.book r.book r.plain _;
    plain = add_stays_plain d.book r.book r.plain _ refl refl;
    room = r.room;
  }
  stays_ready (Some (Reduce number shares)) = record {
    book = reduce_keeps d.book r.book r.plain number shares;
    plain = reduce_stays_plain d.book r.book r.plain number shares;
    room = r.room;
  }
  stays_ready (Some (Take side limit size)) = record {
    book = take_keeps d.book r.book r.plain _ d.executions;
    plain = take_stays_plain d.book r.book r.plain _ d.executions;
    room = omega (arith, r.room, take_room d.book r.book r.plain (record { side = side; limit = limit; size = size; algorithm = d.algorithm; security = 0 }) d.executions);
  }
  stays_ready None = r

  -- the refusals of each call
  abbrev adds : AddRequest → List Refusal
  adds q = refusals_of (add_refusals q (capacity_of d.book) (orders_of d.book)) (sound d.book)

  abbrev reduces : ℕ → ℕ → List Refusal
  reduces n shares = refusals_of (reduce_refusals 0 n shares (orders_of d.book)) (sound d.book)

  abbrev takes : TakeRequest → List Refusal
  takes q = refusals_of (take_refusals q (outcome_of q (orders_of d.book)).executions d.executions) (sound d.book)

  -- what an accepted take lists
  abbrev listed : TakeRequest → Option Filled
  listed q = let t = (take_call q d.book d.executions).taken in Some (record { count = t.count; left = record { 0 = t.left } })

  -- no command is refused 2
  pub never_2 : (c : Option Command) → (performed c d).answer ≡ Err 2 → ⊥
  unfolding performed add_call reduce_call take_call
  never_2 (Some (Choose n)) e = accepted_is None 2 e
  never_2 (Some (Add side kind number price size minimum)) e =
      let q : AddRequest = record { side = side; kind = kind; number = number; price = price; size = size; minimum = minimum; hidden = 0; refresh = 0; security = 0 } in
      not_given 2 (λ z. omega arith) (adds q) (rw r.book) (was_given (adds q) 2 None e)
  never_2 (Some (Reduce number shares)) e =
      not_given 2 (λ z. omega arith) (reduces number shares) (rw r.book) (was_given (reduces number shares) 2 None e)
  never_2 (Some (Take side limit size)) e =
      let q : TakeRequest = record { side = side; limit = limit; size = size; algorithm = d.algorithm; security = 0 } in
      not_given 2 (λ z. omega arith) (takes q) (rw r.book) (was_given (takes q) 2 (listed q) e)
  never_2 None e = let z : ◌≡◌ {A = ℕ} 1 2 = cc in omega arith

  -- nor 8
  pub never_8 : (c : Option Command) → (performed c d).answer ≡ Err 8 → ⊥
  unfolding performed add_call reduce_call take_call
  never_8 (Some (Choose n)) e = accepted_is None 8 e
  never_8 (Some (Add side kind number price size minimum)) e =
      let q : AddRequest = record { side = side; kind = kind; number = number; price = price; size = size; minimum = minimum; hidden = 0; refresh = 0; security = 0 } in
      not_given 8 (λ z. omega arith) (adds q) refl (was_given (adds q) 8 None e)
  never_8 (Some (Reduce number shares)) e =
      not_given 8 (λ z. omega arith) (reduces number shares) refl (was_given (reduces number shares) 8 None e)
  never_8 (Some (Take side limit size)) e =
      let q : TakeRequest = record { side = side; limit = limit; size = size; algorithm = d.algorithm; security = 0 } in
      let f = le-ltb (length d.executions) (16 * length (outcome_of q (orders_of d.book)).executions)
      (omega (arith, r.room, executions_fit d.book r.book r.plain q d.executions)) in
      not_given 8 (λ z. omega arith) (takes q) (rw f) (was_given (takes q) 8 (listed q) e)
  never_8 None e = let z : ◌≡◌ {A = ℕ} 1 8 = cc in omega arith
