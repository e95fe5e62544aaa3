-- Each of the nine calls that name a security keeps to it.
use Rattle.securities.specs.Apart.{AllApart}
use Rattle.securities.proofs.Looking.{check_keeps, check_others, find_keeps, find_others}
use Rattle.securities.proofs.Adding.{add_keeps, add_others}
use Rattle.securities.proofs.Reducing.{reduce_keeps, reduce_others}
use Rattle.securities.proofs.Taking.{take_keeps, take_others}
use Rattle.securities.proofs.Ladders.{ladder_keeps, ladder_others, add_ladder_keeps, add_ladder_others}
use Rattle.securities.proofs.Ladders.{reduce_ladder_keeps, reduce_ladder_others, take_ladder_keeps, take_ladder_others}

pub all_apart : AllApart
all_apart = record {
  check = λ k. record { non_interfering = check_keeps k; leaves_others = check_others k };
  find = λ k n. record { non_interfering = find_keeps k n; leaves_others = find_others k n };
  add = λ q. record { non_interfering = add_keeps q; leaves_others = add_others q };
  reduce = λ k n shares. record { non_interfering = reduce_keeps k n shares; leaves_others = reduce_others k n shares };
  take = λ q x. record { non_interfering = take_keeps q x; leaves_others = take_others q x };
  ladder = λ k l. record { non_interfering = ladder_keeps k l; leaves_others = ladder_others k l };
  add_ladder = λ q l. record { non_interfering = add_ladder_keeps q l; leaves_others = add_ladder_others q l };
  reduce_ladder = λ k n shares l. record { non_interfering = reduce_ladder_keeps k n shares l; leaves_others = reduce_ladder_others k n shares l };
  take_ladder = λ q x l. record { non_interfering = take_ladder_keeps q x l; leaves_others = take_ladder_others q x l };
}
