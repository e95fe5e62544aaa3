-- The commands of a fillsheet, and which of them a line is.
use Rattle.std.specs.Prelude.{ℕ, Bool, true, false, cond, ◌&&◌, List, [], ◌∷◌, Option, Some, None, get_or}
use Prim.Native.Char.{code}
use Rattle.units.specs.Lists.{zip_with, in_range}
use Rattle.script.specs.Text.{fields_of}
use Rattle.script.specs.Field.{meaning, is_read, value_or0}
use Rattle.script.specs.declared.field.Field.{Field}
use Rattle.script.specs.declared.field.Field.TheVariants.{Letter, Side, Kind, Number}
use Rattle.script.specs.declared.command.Command.{Command}
use Rattle.script.specs.declared.command.Command.TheVariants.{Choose, Add, Reduce, Take}

-- A n
abbrev pub choose_form : List Field
choose_form = Letter (code "A") ∷ Number ∷ []

-- B or S, number, D, H or M, price, size, minimum
abbrev pub add_form : List Field
add_form = Side ∷ Number ∷ Kind ∷ Number ∷ Number ∷ Number ∷ []

-- X number shares
abbrev pub reduce_form : List Field
reduce_form = Letter (code "X") ∷ Number ∷ Number ∷ []

-- T, B or S, limit, size
abbrev pub take_form : List Field
take_form = Letter (code "T") ∷ Side ∷ Number ∷ Number ∷ []

-- the fields are those of the form, one for one
abbrev pub fits : List Field → List (List ℕ) → Bool
fits [] [] = true
fits [] (f ∷ fs) = false
fits (k ∷ ks) [] = false
fits (k ∷ ks) (f ∷ fs) = is_read (meaning k f) && fits ks fs

-- what each field stands for
abbrev pub values_of : List Field → List (List ℕ) → List ℕ
values_of = zip_with (λ k f. value_or0 (meaning k f))

-- what the fields stand for, where they are those of the form
abbrev pub readings : List Field → List (List ℕ) → Option (List ℕ)
readings form fs = cond (fits form fs) (Some (values_of form fs)) None

-- the command that has the form's values, where the fields are of the form, else what comes behind
abbrev pub form_or : List Field → (List ℕ → Option Command) → List (List ℕ) → Option Command → Option Command
form_or form make fs other = cond (fits form fs) (make (values_of form fs)) other

-- the algorithm is one of 1 to 3
abbrev pub chosen : List ℕ → Option Command
chosen v = cond (in_range 1 3 (get_or v 1 0)) (Some (Choose (get_or v 1 0))) None

-- the record's numbers of side and kind, and the other numbers
abbrev pub entered : List ℕ → Option Command
entered v = Some (Add (get_or v 0 0) (get_or v 2 0) (get_or v 1 0) (get_or v 3 0) (get_or v 4 0) (get_or v 5 0))

abbrev pub reduced : List ℕ → Option Command
reduced v = Some (Reduce (get_or v 1 0) (get_or v 2 0))

abbrev pub taking : List ℕ → Option Command
taking v = Some (Take (get_or v 1 0) (get_or v 2 0) (get_or v 3 0))

-- the command that a line is; any other line is none
unfoldable pub command_of : List ℕ → Option Command
command_of line =
    let fs = fields_of line in
    form_or choose_form chosen fs (form_or add_form entered fs (form_or reduce_form reduced fs (form_or take_form taking fs None)))
