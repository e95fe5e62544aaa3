-- The table of the paragraphs' numbers: where orders of a kind stand, with shares of a lot or more and with shares below.
use Prim.Native.Nat.{ℕ, zero, suc, ◌+◌, ◌*◌, ◌<◌}
use mathlib.Core.Path.{◌≡◌, refl}
use mathlib.Core.Bool.{Bool, true, false}
use mathlib.Core.List.{List, [], ◌∷◌}
use native.Mathlib.Omega.{arith}
use lib.ListN.{get_or}
use lib.Dec.{ltb}
use borrow.Author.Tests.{ltb-true}
use Rattle.units.specs.Lists.{all, or_zero}
use Rattle.units.proofs.Tests.{and_true}
use Rattle.orders.specs.declared.order.Kind.{Kind}
use Rattle.orders.specs.declared.order.Kind.TheVariants.{Displayed, NonDisplayed, MinimumQuantity, Reserve}
use Rattle.orders.specs.Order.{kind_number, is_minimum_quantity}
use Rattle.matching.specs.declared.Algorithm.TheVariants.{PriceTime}
use Rattle.parts.specs.Parts.{time_paragraph, pro_rata_paragraph}
use Rattle.parts.specs.Table.{visibility_of, Tells}

-- every number is below 8, and so is what is read behind the end
table_below : (ms : List ℕ) → all (λ n. ltb n 8) ms ≡ true → (k : ℕ) → get_or ms k 0 < 8
table_below [] e k = omega arith
table_below (n ∷ ns) e zero = ltb-true n 8 (and_true (ltb n 8) (all (λ m. ltb m 8) ns) e).0
table_below (n ∷ ns) e (suc k) = table_below ns (and_true (ltb n 8) (all (λ m. ltb m 8) ns) e).1 k

-- under price/time, and under pro rata
abbrev time_table : List ℕ
time_table = 2 ∷ 2 ∷ 2 ∷ 2 ∷ 3 ∷ 3 ∷ 3 ∷ 3 ∷ 2 ∷ 2 ∷ []

abbrev pro_rata_table : List ℕ
pro_rata_table = 2 ∷ 2 ∷ 2 ∷ 3 ∷ 4 ∷ 6 ∷ 5 ∷ 5 ∷ 2 ∷ 3 ∷ []

pub time_below : (k : ℕ) → get_or time_table k 0 < 8
time_below = table_below time_table refl

pub pro_rata_below : (k : ℕ) → get_or pro_rata_table k 0 < 8
pro_rata_below = table_below pro_rata_table refl

-- each column is the number for its kind
pub time_table_lem : Tells PriceTime time_table
time_table_lem n l kind = go (ltb n l) kind
  where
    go : (b : Bool) (kind : Kind) → get_or time_table (2 * kind_number kind + or_zero b 1) 0 ≡ time_paragraph (visibility_of kind)
    go true Displayed = refl
    go true NonDisplayed = refl
    go true (MinimumQuantity m) = refl
    go true (Reserve h r) = refl
    go false Displayed = refl
    go false NonDisplayed = refl
    go false (MinimumQuantity m) = refl
    go false (Reserve h r) = refl

pub pro_rata_table_lem : (n l : ℕ) (kind : Kind)
    → get_or pro_rata_table (2 * kind_number kind + or_zero (ltb n l) 1) 0 ≡ pro_rata_paragraph l (visibility_of kind) (is_minimum_quantity kind) n
pro_rata_table_lem n l kind = go (ltb n l) refl kind
  where
    go : (b : Bool) → ltb n l ≡ b → (kind : Kind)
        → get_or pro_rata_table (2 * kind_number kind + or_zero (ltb n l) 1) 0 ≡ pro_rata_paragraph l (visibility_of kind) (is_minimum_quantity kind) n
    go true e Displayed = rw e
    go true e NonDisplayed = rw e
    go true e (MinimumQuantity m) = rw e
    go true e (Reserve h r) = rw e
    go false e Displayed = rw e
    go false e NonDisplayed = rw e
    go false e (MinimumQuantity m) = rw e
    go false e (Reserve h r) = rw e
