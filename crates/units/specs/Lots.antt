-- Round lots. A lot is a parameter of every definition that speaks of lots; this constant alone says how large it is.
use Rattle.std.specs.Prelude.{ℕ, ◌*◌, ◌/◌}

-- a round lot is 100 shares
abbrev pub round_lot : ℕ
round_lot = 100

-- a count of shares, rounded down to whole lots
abbrev pub round_down : ℕ → ℕ → ℕ
round_down lot n = n / lot * lot
