-- A take that is made as it was decided answers as it must, with room for its executions and without.
use Prim.Native.Nat.{ℕ, ◌*◌, ◌≤◌, ◌<◌}
use mathlib.Core.Path.{◌≡◌, refl, ap, ◌∙◌}
use mathlib.Core.Bool.{Bool, true, false}
use mathlib.Core.List.{List, map}
use native.Mathlib.Omega.{arith}
use lib.Dec.{ltb}
use lib.ListN.{length, take}
use lib.Seq.{length-take-le}
use borrow.Author.Tests.{ltb-true, ltb-false}
use Rattle.std.specs.Prelude.{Result, Ok, Err}
use Rattle.units.specs.declared.Shares.{Shares}
use Rattle.units.specs.Lists.{filter, zip_with}
use Rattle.orders.specs.Order.{shown, hidden, settled, is_resting}
use Rattle.orders.specs.Losses.{losses_in}
use Rattle.book.specs.declared.refusal.Refusal.{Refusal}
use Rattle.book.specs.declared.refusal.Refusal.TheVariants.{SmallBuffer}
use Rattle.book.specs.Sound.{sound, orders_of, order_at, book_of, capacity_of}
use Rattle.matching.specs.declared.Filled.{Filled}
use Rattle.matching.specs.declared.TakeRequest.{TakeRequest}
use Rattle.matching.specs.Answer.{taken}
use Rattle.matching.specs.TakeCall.{request_in_range, written}
use Rattle.parts.specs.Execution.{execution_of}
use Rattle.allocation.specs.Credit.{Ledger, left_in}
use Rattle.take.specs.Answers.{Answers}
use Rattle.take.proofs.Answers.{refused_room, accepted}
use Rattle.take.proofs.Deciding.{Decided}

module _ (q : TakeRequest) (s x : List ℕ) (e : request_in_range q ≡ true) (f : sound s ≡ true) {end : Ledger} (d : Decided q s end) where
  abbrev fills : List ℕ
  fills = take end.progress.count end.fills

  long : length fills ≡ end.progress.count
  long = length-take-le end.progress.count end.fills d.fits

  pub committed : {n : ℕ} {r : Result Filled Refusal} {left : Shares} {b y : List ℕ} → n ≡ length (orders_of s)
      → left.0 ≡ left_in end
      → (length x < 16 * length fills → (r ≡ Err SmallBuffer) × (b ≡ s) × (y ≡ x))
      → (16 * length fills ≤ length x
      → (r ≡ Ok (record { count = length fills; left = left }))
      × (b ≡ book_of (capacity_of s) (filter is_resting (zip_with settled (losses_in n (end.allotment shown) (end.allotment hidden)) (orders_of s))))
      × (y ≡ written (map (execution_of (order_at s)) fills) x))
      → Answers q s x (taken r) b y
  committed {n} {r} {left} {b} {y} c i short made = go (ltb (length x) (16 * length fills)) refl
    where
      go : (t : Bool) → ltb (length x) (16 * length fills) ≡ t → Answers q s x (taken r) b y
      go true h =
          let k = ltb-true (length x) (16 * length fills) h in
          let w = short k in
          rw (w.0, w.1, w.2) (refused_room q s x e f (omega (arith, k, long, d.count)))
      go false h =
          let k = ltb-false (length x) (16 * length fills) h in
          let w = made k in
          rw w.0
          (accepted q s x e f (long ∙ d.count) (i ∙ d.left) (w.1 ∙ ap (book_of (capacity_of s)) (d.orders n c)) (w.2 ∙ d.written x) k)
