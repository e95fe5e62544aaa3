-- The visibility of a part, by its paragraph. No call's meaning rests on it.
use Rattle.std.specs.Prelude.{ℕ, cond, leb}
use Rattle.orders.specs.Order.{Visibility, shown, hidden}
use Rattle.matching.specs.declared.Algorithm.{Algorithm}
use Rattle.matching.specs.declared.Algorithm.TheVariants.{PriceTime, ProRata, PriceSetter}
use Rattle.parts.specs.Key.{group_in, paragraph_in}

-- the number of the last paragraph in whose group displayed shares stand
abbrev pub last_shown : Algorithm → ℕ
last_shown PriceTime = 2
last_shown ProRata = 3
last_shown PriceSetter = 3

-- the visibility of the shares in a paragraph's group
abbrev pub visible_by : Algorithm → ℕ → Visibility
visible_by alg paragraph = cond (leb paragraph (last_shown alg)) shown hidden

-- of a part
abbrev pub visibility_in : Algorithm → ℕ → Visibility
visibility_in alg key = visible_by alg (paragraph_in (group_in key))
