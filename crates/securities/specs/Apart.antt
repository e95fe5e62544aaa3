-- What is proved of each call that names a security: the one statement that it doesn't interfere, and that it leaves the other's records.
use Rattle.std.specs.Prelude.{ℕ, List}
use Rattle.book.specs.Securities.{Result, NonInterfering, LeavesOthers}
use Rattle.entry.specs.declared.admission.AddRequest.{AddRequest}
use Rattle.matching.specs.declared.TakeRequest.{TakeRequest}
use Rattle.securities.specs.Calls.{check_on, find_on, add_on, reduce_on, take_on, ladder_on, add_ladder_on, reduce_ladder_on, take_ladder_on}

-- of one call for a security
pub record Apart {A : Type 0} (k : ℕ) (call : List ℕ → Result A) : Type 0 where
  pub non_interfering : NonInterfering k call
  pub leaves_others : LeavesOthers k call

-- of each of the nine, whatever else it is given and lent
pub record AllApart : Type 0 where
  pub check : (k : ℕ) → Apart k (check_on k)
  pub find : (k n : ℕ) → Apart k (find_on k n)
  pub add : (q : AddRequest) → Apart q.security (add_on q)
  pub reduce : (k n shares : ℕ) → Apart k (reduce_on k n shares)
  pub take : (q : TakeRequest) (x : List ℕ) → Apart q.security (take_on q x)
  pub ladder : (k : ℕ) (l : List ℕ) → Apart k (ladder_on k l)
  pub add_ladder : (q : AddRequest) (l : List ℕ) → Apart q.security (add_ladder_on q l)
  pub reduce_ladder : (k n shares : ℕ) (l : List ℕ) → Apart k (reduce_ladder_on k n shares l)
  pub take_ladder : (q : TakeRequest) (x l : List ℕ) → Apart q.security (take_ladder_on q x l)
