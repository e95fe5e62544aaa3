-- `settlement::commit` meets its contract where there is room for the executions.
use mathlib.Core.Path.{refl}
use native.Mathlib.Omega.{arith}
use Rattle.settlement.proofs.commit.Goals as goal

pub returns : goal.returns
returns c = record { refused = λ h. absurd (omega arith); made = λ h. (refl, c.settle.ensures.bytes, c.write.ensures) }
