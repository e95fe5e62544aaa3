-- A table of the paragraphs' numbers, for the functions that read it. No call's meaning rests on it.
use Rattle.std.specs.Prelude.{ℕ, ◌+◌, ◌*◌, ◌≡◌, cond, List, ltb, get_or}
use Rattle.units.specs.Lists.{or_zero}
use Rattle.orders.specs.declared.order.Kind.{Kind}
use Rattle.orders.specs.Order.{Visibility, shown, hidden, kind_number, is_displayed, is_minimum_quantity}
use Rattle.matching.specs.declared.Algorithm.{Algorithm}
use Rattle.parts.specs.Parts.{paragraph_for}

-- the visibility of the shares that are the size of an order of this kind
abbrev pub visibility_of : Kind → Visibility
visibility_of kind = cond (is_displayed kind) shown hidden

-- where the size of an order stands: at twice the number of its kind, and one more for a size below a lot
abbrev pub Tells : Algorithm → List ℕ → Type 0
Tells alg numbers = (n lot : ℕ) (kind : Kind)
    → get_or numbers (2 * kind_number kind + or_zero (ltb n lot) 1) 0 ≡ paragraph_for lot alg (visibility_of kind) (is_minimum_quantity kind) n
