-- Records that both forms tell, for the functions that look for others. No call's meaning rests on it.
use Rattle.std.specs.Prelude.{ℕ, Bool, ◌&&◌, List}
use Rattle.record.specs.Codec.{decode, has_mark}
use Rattle.record.specs.Record.{OrderForm, old_form}

-- a record has its form's mark, and the old form tells its numbers
abbrev pub is_plain : OrderForm → List ℕ → Bool
is_plain f r = has_mark f.layout r && old_form.tells (decode f.layout r)
