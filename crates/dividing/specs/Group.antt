-- What a group that divides fewer shares than it has is lent as: columns of numbers in the order of place, which is by time.
use Rattle.std.specs.Prelude.{ℕ, zero, suc, ◌≤◌, ◌<◌, ◌≡◌, true, false, List, [], ◌∷◌, map, length, get_or}
use Rattle.units.specs.Lists.{sum}
use Rattle.sharing.specs.declared.Rank.TheVariants.{Time, Size, Minimum}
use Rattle.sharing.specs.declared.Method.{Method}
use Rattle.sharing.specs.declared.Method.TheVariants.{InTurn, Lots, Setter}
use Rattle.sharing.specs.Rank.{Part, part_size, Rising}
use Rattle.sharing.specs.Setter.{NoMinimum}

-- columns of one length, and some shares to divide, no more than the sizes' total
pub record Division (sizes wants gets : List ℕ) (total left lot : ℕ) : Type 0 where
  pub wanting : length wants ≡ length sizes
  pub getting : length gets ≡ length sizes
  pub totals : total ≡ sum sizes
  pub within : left ≤ total
  pub some : 0 < left
  pub lots : 0 < lot

abbrev pub part_minimum : Part → ℕ
part_minimum p = p.minimum

-- the part at place k is the setter, and no other; none is where no part stands there
abbrev pub SetterAt : ℕ → List Part → Type 0
SetterAt k [] = Unit {0}
SetterAt zero (p ∷ ps) = (p.setter ≡ true) × SetterAt (length ps) ps
SetterAt (suc k) (p ∷ ps) = (p.setter ≡ false) × SetterAt k ps

-- what a method asks of a group: in turn by time or by minimum its minimums, else that it has none, and of a setter its place
abbrev pub Asked : Method → List ℕ → ℕ → List Part → Type 0
Asked (InTurn Time) minimums k ps = minimums ≡ map part_minimum ps
Asked (InTurn Size) minimums k ps = NoMinimum ps
Asked (InTurn Minimum) minimums k ps = minimums ≡ map part_minimum ps
Asked Lots minimums k ps = NoMinimum ps
Asked Setter minimums k ps = NoMinimum ps × SetterAt k ps

-- parts whose numbers rise, of these sizes, that a method can divide among
pub record Group (method : Method) (sizes minimums : List ℕ) (setter : ℕ) (ps : List Part) : Type 0 where
  pub start : ℕ
  pub rising : Rising start ps
  pub sized : sizes ≡ map part_size ps
  pub asked : Asked method minimums setter ps

-- by the smallest minimum, each minimum is within the size
abbrev pub Within : Method → List ℕ → List ℕ → Type 0
Within (InTurn Time) minimums sizes = Unit {0}
Within (InTurn Size) minimums sizes = Unit {0}
Within (InTurn Minimum) minimums sizes = (i : ℕ) → get_or minimums i 0 ≤ get_or sizes i 0
Within Lots minimums sizes = Unit {0}
Within Setter minimums sizes = Unit {0}
