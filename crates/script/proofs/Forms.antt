-- Fields of a line read as the places of a form, one at a time.
use Prim.Native.Nat.{ℕ, ◌+◌, ◌≤◌, ◌<◌}
use mathlib.Core.Path.{◌≡◌}
use mathlib.Core.Bool.{true, false}
use mathlib.Core.List.{List, [], ◌∷◌, ◌++◌, append_assoc, append-nil}
use native.Mathlib.Numerals.{add-one}
use lib.ListN.{length, get_or, set, take, drop, drop_of_length-le}
use lib.Seq.{drop-cons, take-suc-set, take_all}
use Rattle.std.specs.Prelude.{Some, None}
use Rattle.script.specs.declared.field.Field.{Field}
use Rattle.script.specs.Field.{meaning}
use Rattle.script.specs.Command.{fits, values_of}

-- The place i of a form.
module _ (form : List Field) (i : ℕ) (d : Field) (h : i < length form) where
  place_here : drop i form ≡ get_or form i d ∷ drop (i + 1) form
  place_here = rw (add-one) (drop-cons form i d h)

  -- no field is left for it
  pub fit_none : fits (drop i form) [] ≡ false
  fit_none = rw place_here

  -- A field is left, with others behind it.
  module _ (f : List ℕ) (fs : List (List ℕ)) where
    -- it isn't what the place wants
    pub fit_stop : meaning (get_or form i d) f ≡ None → fits (drop i form) (f ∷ fs) ≡ false
    fit_stop q = rw (place_here, q)

    -- it is, and the answer is that of those behind it
    module _ (v : ℕ) (q : meaning (get_or form i d) f ≡ Some v) where
      pub fit_more : fits (drop i form) (f ∷ fs) ≡ fits (drop (i + 1) form) fs
      fit_more = rw (place_here, q)

      pub values_more : (values : List ℕ) → i < length values
          → take (i + 1) (set values i v) ++ values_of (drop (i + 1) form) fs ≡ take i values ++ values_of (drop i form) (f ∷ fs)
      values_more values l = rw (place_here, q, add-one, take-suc-set values i v l) (append_assoc (take i values) (v ∷ []) _)

-- Once every place has been read.
module _ (form : List Field) (i : ℕ) (h : length form ≤ i) where
  past : drop i form ≡ []
  past = drop_of_length-le form h

  -- the line is of the form where no field is left
  pub fit_all : fits (drop i form) [] ≡ true
  fit_all = rw past

  pub fit_more_fields : (f : List ℕ) (fs : List (List ℕ)) → fits (drop i form) (f ∷ fs) ≡ false
  fit_more_fields f fs = rw past

  pub values_all : (values : List ℕ) (fs : List (List ℕ)) → length values ≤ i → take i values ++ values_of (drop i form) fs ≡ values
  values_all values fs l = rw (past, take_all i values l) (append-nil values)
