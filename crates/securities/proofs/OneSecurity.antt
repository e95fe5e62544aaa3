-- A book of one security is answered as before there were two.
use Prim.Native.Nat.{ℕ}
use mathlib.Core.List.{List}
use Rattle.units.proofs.Members.{all_member}
use Rattle.orders.specs.Trading.{of_security}
use Rattle.book.specs.Sound.{orders_of}
use Rattle.securities.specs.OneSecurity.{of_first, AsBefore}
use Rattle.securities.proofs.BookBefore.{check_before_lem, find_before_lem}
use Rattle.securities.proofs.EntryBefore.{add_before_lem, reduce_before_lem}
use Rattle.securities.proofs.TakeBefore.{take_before_lem}
use Rattle.securities.proofs.LadderBefore.{ladder_before_lem, add_ladder_before_lem, reduce_ladder_before_lem, take_ladder_before_lem}

-- with every order of security 0, each call with security 0 answers as before
pub as_before : (s : List ℕ) → of_first s → AsBefore s
as_before s e =
    let h = all_member (of_security 0) (orders_of s) e in
    record {
      check = check_before_lem s h;
      find = find_before_lem s h;
      reduce = λ n shares. reduce_before_lem n shares s h;
      add = λ q z. add_before_lem q s z h;
      take = λ q z x. take_before_lem q s x z h;
      ladder = λ l. ladder_before_lem s l h;
      add_ladder = λ q z l. add_ladder_before_lem q s l z h;
      reduce_ladder = λ n shares l. reduce_ladder_before_lem n shares s l h;
      take_ladder = λ q z x l. take_ladder_before_lem q s x l z h;
    }
