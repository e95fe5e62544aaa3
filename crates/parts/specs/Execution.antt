-- The execution of a part. Orders are given by the places of their records.
use Rattle.std.specs.Prelude.{ℕ}
use Rattle.orders.specs.declared.order.Order.{Order}
use Rattle.record.specs.declared.execution.Execution.{Execution}
use Rattle.parts.specs.Key.{group_in, paragraph_in, place_in, shares_in}

-- n shares of a part: it names the paragraph of its group
abbrev pub execution_in : (ℕ → Order) → ℕ → ℕ → Execution
execution_in at key n =
    let o = at (place_in key) in
    record { number = o.number; price = o.price; shares = record { 0 = n }; paragraph = paragraph_in (group_in key) }

-- the execution that a fill is of: a part with the shares that it got
abbrev pub execution_of : (ℕ → Order) → ℕ → Execution
execution_of at fill = execution_in at fill (shares_in fill)
