-- Orders that lose shares, each by itself, and leave where they have none: those of a security as if they were alone, and the others, which
-- lose nothing, as they were.
use Prim.Native.Nat.{ℕ}
use mathlib.Core.Path.{◌≡◌, refl, sym, ap, ap₂, ◌∙◌}
use mathlib.Core.Bool.{true, false}
use mathlib.Core.List.{List, [], ◌∷◌, map, Memᴰ}
use lib.Dec.{eqb}
use borrow.Author.Tests.{eqb-true, ne_eqb}
use Rattle.units.specs.Lists.{filter}
use Rattle.units.proofs.Members.{Every, every_member, member_every, filter_member, filter_all}
use Rattle.orders.specs.declared.order.Order.{Order}
use Rattle.orders.specs.Order.{is_resting}
use Rattle.orders.specs.Trading.{of_security}
use Rattle.record.proofs.Orders.{OrderSound}
use Rattle.record.proofs.Settling.{sound_rests}
use Rattle.securities.proofs.Filters.{filter_swap, filter_map}

-- an order of a security is of no other
pub other_security : (j k : ℕ) → ¬ (j ≡ k) → (o : Order) → of_security j o ≡ true → of_security k o ≡ false
other_security j k n o e = ne_eqb o.security k (λ f. n (sym (eqb-true o.security j e) ∙ f))

map_stays : (f : Order → Order) (os : List Order) → ((o : Order) → Memᴰ o os → f o ≡ o) → map f os ≡ os
map_stays f [] h = refl
map_stays f (o ∷ os) h = ap₂ ◌∷◌ (h o (Memᴰ.head refl)) (map_stays f os (λ p m. h p (Memᴰ.tail m)))

-- What is left of each order, which keeps its security.
module _ (f : Order → Order) (keeps : (o : Order) → (f o).security ≡ o.security) where
  -- of the security
  pub settled_for : (k : ℕ) (os : List Order) → filter (of_security k) (filter is_resting (map f os)) ≡ filter is_resting (map f (filter (of_security k) os))
  settled_for k os =
      filter_swap (of_security k) is_resting (map f os)
      ∙ ap (filter is_resting) (filter_map (of_security k) (of_security k) f os (λ o m. ap (λ n. eqb n k) (keeps o)))

  -- of another, whose sound orders lose nothing
  pub settled_others : (j : ℕ) (os : List Order) → Every OrderSound os → ((o : Order) → Memᴰ o os → of_security j o ≡ true → f o ≡ o)
      → filter (of_security j) (filter is_resting (map f os)) ≡ filter (of_security j) os
  settled_others j os h stays =
      let ps = filter (of_security j) os in
      settled_for j os
      ∙ ap (filter is_resting) (map_stays f ps (λ o m. let i = filter_member (of_security j) os o m in stays o i.0 i.1))
      ∙ filter_all is_resting ps (member_every (λ o. is_resting o ≡ true) ps
      (λ o m. sound_rests o (every_member OrderSound os h o (filter_member (of_security j) os o m).0)))
