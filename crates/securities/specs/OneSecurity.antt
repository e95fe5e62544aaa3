-- What it means that a book of one security is answered as before there were two.
use Rattle.std.specs.Prelude.{ℕ, ◌≡◌, true, List}
use Rattle.units.specs.Lists.{all}
use Rattle.orders.specs.Trading.{of_security}
use Rattle.book.specs.Sound.{orders_of}
use Rattle.book.specs.Lookup.{check_call, find_call}
use Rattle.entry.specs.declared.admission.AddRequest.{AddRequest}
use Rattle.entry.specs.Add.{add_call}
use Rattle.entry.specs.Reduce.{reduce_call}
use Rattle.matching.specs.declared.TakeRequest.{TakeRequest}
use Rattle.matching.specs.TakeCall.{take_call}
use Rattle.ladder.specs.Ladder.{ladder_call, add_ladder_call, reduce_ladder_call, take_ladder_call}
use Rattle.securities.specs.BookBefore.{check_before, find_before}
use Rattle.securities.specs.EntryBefore.{add_before, reduce_before}
use Rattle.securities.specs.TakeBefore.{take_before}
use Rattle.securities.specs.LadderBefore.{ladder_before, add_ladder_before, reduce_ladder_before, take_ladder_before}

-- every order is of security 0
abbrev pub of_first : List ℕ → Type 0
of_first s = all (of_security 0) (orders_of s) ≡ true

-- each call with security 0 answers and leaves what it did
pub record AsBefore (s : List ℕ) : Type 0 where
  pub check : check_call 0 s ≡ check_before s
  pub find : (n : ℕ) → find_call 0 n s ≡ find_before n s
  pub reduce : (n shares : ℕ) → reduce_call 0 n shares s ≡ reduce_before n shares s
  pub add : (q : AddRequest) → q.security ≡ 0 → add_call q s ≡ add_before q s
  pub take : (q : TakeRequest) → q.security ≡ 0 → (x : List ℕ) → take_call q s x ≡ take_before q s x
  pub ladder : (l : List ℕ) → ladder_call 0 s l ≡ ladder_before s l
  pub add_ladder : (q : AddRequest) → q.security ≡ 0 → (l : List ℕ) → add_ladder_call q s l ≡ add_ladder_before q s l
  pub reduce_ladder : (n shares : ℕ) (l : List ℕ) → reduce_ladder_call 0 n shares s l ≡ reduce_ladder_before n shares s l
  pub take_ladder : (q : TakeRequest) → q.security ≡ 0 → (x l : List ℕ) → take_ladder_call q s x l ≡ take_ladder_before q s x l
