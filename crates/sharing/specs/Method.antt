-- The methods by which a group shares.
use Rattle.std.specs.Prelude.{ℕ, Bool, true, false, List}
use Rattle.sharing.specs.declared.Method.{Method}
use Rattle.sharing.specs.declared.Method.TheVariants.{InTurn, Lots, Setter}
use Rattle.sharing.specs.Rank.{Part, part_size, before_of}
use Rattle.sharing.specs.Round.{round}
use Rattle.sharing.specs.Lots.{divided, lot_sharing}
use Rattle.sharing.specs.Setter.{setter_sharing}

-- what each part gets of the shares left: in turn up to its size, or of Q by lots
abbrev pub allot_by : Method → ℕ → ℕ → List Part → List ℕ
allot_by (InTurn rank) lot left ps = round (before_of rank) part_size left ps
allot_by Lots lot left ps = lot_sharing lot (divided left ps) ps
allot_by Setter lot left ps = setter_sharing lot (divided left ps) ps

-- the methods by lots, which are for groups without minimums
abbrev pub is_by_lots : Method → Bool
is_by_lots (InTurn rank) = false
is_by_lots Lots = true
is_by_lots Setter = true
