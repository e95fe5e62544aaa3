-- A group that is shared in part.
use Rattle.std.specs.Prelude.{ℕ, zero, suc, ◌-◌, ◌≤◌, ◌<◌, ◌≡◌, true, false, List, [], ◌∷◌, map, length}
use Rattle.units.specs.Lists.{total}
use Rattle.units.proofs.Members.{Every}
use Rattle.sharing.specs.declared.Method.{Method}
use Rattle.sharing.specs.declared.Method.TheVariants.{InTurn, Lots, Setter}
use Rattle.sharing.specs.Rank.{Part}
use Rattle.orders.specs.declared.order.Taker.{Taker}
use Rattle.book.specs.Sound.{sound, orders_of, order_at}
use Rattle.matching.specs.declared.Algorithm.{Algorithm}
use Rattle.parts.specs.Key.{group_in, shares_in}
use Rattle.allocation.specs.Walk.{part_in, Walks}
use Rattle.allocation.specs.Stretch.{Ends}
use Rattle.allocation.specs.Credit.{Ledger, left_in, Credited}
use Rattle.allocation.specs.Ready.{Ready}

-- keys of a sound book's orders, in their order, and a lot
pub record Book (s : List ℕ) (lot : ℕ) (alg : Algorithm) (t : Taker) (keys : List ℕ) : Type 0 where
  pub is_sound : sound s ≡ true
  pub has_lot : 0 < lot
  pub ready : Ready (order_at s) (length (orders_of s)) lot alg t keys
  pub few : length keys ≤ 512

-- the minimum of a part
abbrev pub minimum_in : List ℕ → ℕ → ℕ
minimum_in s key = (part_in (order_at s) key).minimum

-- columns as long as the keys
pub record Columns (keys sizes minimums gets : List ℕ) : Type 0 where
  pub for_sizes : length sizes ≡ length keys
  pub for_minimums : length minimums ≡ length keys
  pub for_gets : length gets ≡ length keys

-- The keys are of one group, which has more than the shares left.
pub record Shared (keys : List ℕ) (left : ℕ) : Type 0 where
  pub first : ℕ
  pub others : List ℕ
  pub are : keys ≡ first ∷ others
  pub same : Every (λ k. group_in k ≡ group_in first) others
  pub some : 0 < left
  pub more : left < total shares_in keys

-- the place of the first part that is a setter, or the number of parts where none is
abbrev pub FirstSetter : List Part → ℕ → Type 0
FirstSetter [] k = k ≡ 0
FirstSetter (p ∷ ps) zero = p.setter ≡ true
FirstSetter (p ∷ ps) (suc k) = (p.setter ≡ false) × FirstSetter ps k

-- what a method needs of keys besides their sizes: the minimums where it is in turn, the place of the first setter where it has one
abbrev pub Needed : List ℕ → List ℕ → Method → List ℕ → ℕ → Type 0
Needed s keys (InTurn rank) minimums setter = minimums ≡ map (minimum_in s) keys
Needed s keys Lots minimums setter = Unit {0}
Needed s keys Setter minimums setter = FirstSetter (map (part_in (order_at s)) keys) setter

-- a column long enough for any group of the keys
abbrev pub Holds : List ℕ → List ℕ → Type 0
Holds keys column = (from end : ℕ) → Ends keys from end → end - from ≤ length column

pub record Lent (keys sizes minimums gets : List ℕ) : Type 0 where
  pub sizes_long : Holds keys sizes
  pub minimums_long : Holds keys minimums
  pub gets_long : Holds keys gets

-- What an incoming order's way through the keys came to.
pub record Walked (s keys : List ℕ) (lot : ℕ) (alg : Algorithm) (start end : Ledger) : Type 0 where
  pub gets : List ℕ
  pub walks : Walks (order_at s) lot alg keys (left_in start) gets
  pub credited : Credited alg keys gets start end
