-- What a line is that was read as a form.
use Prim.Native.Nat.{ℕ}
use mathlib.Core.Path.{◌≡◌, refl, ap, ◌∙◌}
use mathlib.Core.Bool.{Bool, true, false, cond}
use mathlib.Core.List.{List}
use Rattle.std.specs.Prelude.{Option, Some, None}
use Rattle.script.specs.declared.field.Field.{Field}
use Rattle.script.specs.declared.command.Command.{Command}
use Rattle.script.specs.Command.{fits, values_of, readings, form_or}

module _ (make : List ℕ → Option Command) (other : Option Command) where
  abbrev picked : Option (List ℕ) → Option Command
  picked (Some v) = make v
  picked None = other

  picks : (b : Bool) (v : List ℕ) → picked (cond b (Some v) None) ≡ cond b (make v) other
  picks true v = refl
  picks false v = refl

  module _ (form : List Field) (fs : List (List ℕ)) where
    read_or : picked (readings form fs) ≡ form_or form make fs other
    read_or = picks (fits form fs) (values_of form fs)

    -- it is of the form
    pub taken : {v : List ℕ} → Some v ≡ readings form fs → make v ≡ form_or form make fs other
    taken e = ap picked e ∙ read_or

    -- it isn't, and is what comes behind
    pub passed : None ≡ readings form fs → other ≡ form_or form make fs other
    passed e = ap picked e ∙ read_or
