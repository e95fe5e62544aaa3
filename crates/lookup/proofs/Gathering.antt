-- The keys of marked orders, gathered as a book is read: what holds at each turn, and one turn.
use Prim.Native.Nat.{ℕ, ◌+◌, ◌≤◌}
use mathlib.Core.Path.{◌≡◌, sym, ap, ◌∙◌}
use mathlib.Core.Bool.{true, false}
use mathlib.Core.List.{List, ◌++◌, ◌∷◌, []}
use native.Mathlib.Omega.{arith}
use native.Mathlib.Numerals.{add-one}
use lib.ListN.{length, take, set, length-set}
use lib.Seq.{take-suc-set}
use lib.Dec.{eqb}
use Rattle.units.specs.Lists.{all, any}
use Rattle.units.proofs.Tests.{and_true}
use Rattle.orders.specs.declared.order.Order.{Order}
use Rattle.book.specs.Sound.{setters_sound}
use Rattle.lookup.specs.Setters.{setter_key, has_security}
use Rattle.lookup.proofs.Marks.{fresh, fresh_none, fresh_unmarked, fresh_met, fresh_more}

-- Of these orders m keys were gathered, and there is room for those of the orders that are left. Where all are of securities that there are,
-- the marks of all are apart if those of the orders that are left meet none of the keys and not each other.
pub record Gathered (os : List Order) (keys : List ℕ) (m : ℕ) (left : List Order) : Type 0 where
  pub few : m + length left ≤ 256
  pub room : length keys ≡ 256
  pub apart : all has_security os ≡ true → (all has_security left ≡ true) × (fresh (take m keys) left ≡ setters_sound os)

module _ {os : List Order} {keys : List ℕ} where
  -- before the first order there is no key
  pub gathered_none : length os ≤ 256 → length keys ≡ 256 → Gathered os keys 0 os
  gathered_none h e = record { few = omega arith; room = e; apart = λ a. (a, fresh_none os) }

  -- behind the last order none was met
  pub gathered_done : {m : ℕ} {left : List Order} → Gathered os keys m left → left ≡ [] → all has_security os ≡ true → true ≡ setters_sound os
  gathered_done {m = m} g h a = sym (ap (fresh (take m keys)) h) ∙ (g.apart a).1

  -- The next order.
  module _ {m : ℕ} {left rest : List Order} (g : Gathered os keys m left) {o : Order} (q : left ≡ o ∷ rest) where
    fewer : m + length (o ∷ rest) ≤ 256
    fewer = rw q at g.few

    module _ (a : all has_security os ≡ true) where
      turn : fresh (take m keys) (o ∷ rest) ≡ setters_sound os
      turn = sym (ap (fresh (take m keys)) q) ∙ (g.apart a).1

      ranges : all has_security (o ∷ rest) ≡ true
      ranges = sym (ap (all has_security) q) ∙ (g.apart a).0

      rest_ranges : all has_security rest ≡ true
      rest_ranges = (and_true (has_security o) (all has_security rest) ranges).1

    -- one that is not marked adds no key
    pub gathered_same : o.setter ≡ false → Gathered os keys m rest
    gathered_same e = record {
      few = omega (arith, fewer);
      room = g.room;
      apart = λ a. (rest_ranges a, sym (fresh_unmarked (take m keys) o rest e) ∙ turn a);
    }

    -- One that is marked.
    module _ (e : o.setter ≡ true) {k : ℕ} (p : k ≡ setter_key o) where
      -- its key was met: marks are not apart
      pub gathered_met : any (eqb k) (take m keys) ≡ true → all has_security os ≡ true → false ≡ setters_sound os
      gathered_met b a = sym (fresh_met (take m keys) o rest e (rw (← p) b)) ∙ turn a

      -- its key was not met, and is added
      pub gathered_more : any (eqb k) (take m keys) ≡ false → Gathered os (set keys m k) (m + 1) rest
      gathered_more b =
          let t : take (m + 1) (set keys m k) ≡ take m keys ++ (setter_key o ∷ []) =
          rw (add-one, p) (take-suc-set keys m (setter_key o) (omega (arith, fewer, g.room))) in
          record {
            few = omega (arith, fewer);
            room = length-set keys m k ∙ g.room;
            apart = λ a. (rest_ranges a, ap (λ ks. fresh ks rest) t ∙ sym (fresh_more (take m keys) o rest e (ranges a) (rw (← p) b)) ∙ turn a);
          }
