-- The incoming order, which shrinks with each paragraph that it passes.
use Rattle.std.specs.Prelude.{ℕ, ◌-◌}
use Rattle.matching.specs.declared.incoming.Incoming.{Incoming}

-- the order with so many of its shares executed
abbrev pub executed : ℕ → Incoming → Incoming
executed n i = record { taker = i.taker; size = record { 0 = i.size.0 - n } }
