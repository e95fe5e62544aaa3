-- What holds of a take's answer and of both buffers afterwards.
use Rattle.std.specs.Prelude.{ℕ, ◌≡◌, true, List}
use Rattle.book.specs.Sound.{sound}
use Rattle.matching.specs.declared.Taken.{Taken}
use Rattle.matching.specs.declared.TakeRequest.{TakeRequest}
use Rattle.matching.specs.TakeCall.{take_call}
use Rattle.matching.specs.Fairness.{FairTake}

-- the numbers, the book's bytes and the execution buffer's are the definition's, the demand of fairness holds, and the book stays sound
abbrev pub Answers : TakeRequest → List ℕ → List ℕ → Taken → List ℕ → List ℕ → Type 0
Answers q s x r b y =
    (r ≡ (take_call q s x).taken)
    × ((b ≡ (take_call q s x).book)
    × ((y ≡ (take_call q s x).executions)
    × (FairTake q s (record { taken = r; book = b; executions = y }) × (r.refusal ≡ 0 → sound b ≡ true))))
