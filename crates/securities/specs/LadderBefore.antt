-- Ladders as they were before there were securities: one for all orders of a book.
use Rattle.std.specs.Prelude.{ℕ, cond, not, List, [], ◌∷◌}
use Rattle.units.specs.Lists.{or_zero, same_numbers}
use Rattle.units.specs.Lots.{round_lot}
use Rattle.book.specs.Sound.{orders_of, capacity_of}
use Rattle.book.specs.Refusal.{Refusals, refuse, refusal_of, is_accepted, Changed}
use Rattle.entry.specs.declared.admission.AddRequest.{AddRequest}
use Rattle.matching.specs.declared.TakeRequest.{TakeRequest}
use Rattle.matching.specs.Paragraph.{algorithm_of}
use Rattle.matching.specs.TakeCall.{incoming_of}
use Rattle.ladder.specs.Ladder.{ladder_of, is_other_length, LadderAnswer, Kept, TakeKept}
use Rattle.securities.specs.BookBefore.{sound_before}
use Rattle.securities.specs.EntryBefore.{add_refusals_before, add_before, reduce_refusals_before, reduce_before}
use Rattle.securities.specs.TakeBefore.{outcome_before, take_refusals_before, take_before}

-- what the ladder call made of a book
abbrev pub made_before : List ℕ → List ℕ
made_before s = ladder_of (orders_of s)

-- it was refused 2, 9
unfoldable pub ladder_before : List ℕ → List ℕ → LadderAnswer
ladder_before s l =
    let r = refusal_of (record { of_call = []; of_book = refuse 9 (is_other_length l) ∷ [] }) (sound_before s) in
    record { refusal = r; ladder = cond (is_accepted r) (made_before s) l }

-- a call that kept a ladder had the refusals of the plain call, and directly after 2 the two of the ladder
abbrev pub keeping_before : Refusals → Changed → List ℕ → List ℕ → Kept
keeping_before rs plain s l =
    let more = refuse 9 (is_other_length l) ∷ refuse 10 (not (same_numbers l (made_before s))) ∷ rs.of_book in
    let r = refusal_of (record { of_call = rs.of_call; of_book = more }) (sound_before s) in
    let b = cond (is_accepted r) plain.book s in
    record { refusal = r; book = b; ladder = cond (is_accepted r) (made_before b) l }

-- add, reduce and take
unfoldable pub add_ladder_before : AddRequest → List ℕ → List ℕ → Kept
add_ladder_before q s l = keeping_before (add_refusals_before q (capacity_of s) (orders_of s)) (add_before q s) s l

unfoldable pub reduce_ladder_before : ℕ → ℕ → List ℕ → List ℕ → Kept
reduce_ladder_before n shares s l = keeping_before (reduce_refusals_before n shares (orders_of s)) (reduce_before n shares s) s l

unfoldable pub take_ladder_before : TakeRequest → List ℕ → List ℕ → List ℕ → TakeKept
take_ladder_before q s x l =
    let plain = take_before q s x in
    let rs = take_refusals_before q (outcome_before round_lot (algorithm_of q.algorithm) (incoming_of q) (orders_of s)).executions x in
    let kept = keeping_before rs (record { refusal = plain.taken.refusal; book = plain.book }) s l in
    let b = is_accepted kept.refusal in
    record {
      taken = record { refusal = kept.refusal; count = or_zero b plain.taken.count; left = or_zero b plain.taken.left };
      book = kept.book;
      executions = cond b plain.executions x;
      ladder = kept.ladder;
    }
