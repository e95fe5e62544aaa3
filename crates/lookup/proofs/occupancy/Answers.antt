-- `lookup::occupancy` meets its contract: a length that is none of a book's, and then the four tests of the records that were counted.
use mathlib.Core.Path.{refl, sym, ◌∙◌}
use Rattle.book.proofs.Checking.{orders_count, sound_length, sound_parts}
use Rattle.lookup.proofs.occupancy.Goals as goal

pub returns-then-not-has_whole_records : goal.returns-then-not-has_whole_records
returns-then-not-has_whole_records c =
    (sound_length c.args.book.now (sym c.has_whole_records.ensures ∙ c.if-not-has_whole_records.true), refl)

pub returns-then-is_sound : goal.returns-then-is_sound
returns-then-is_sound c =
    let q = sound_parts c.args.book.now _ c.count_occupied-n.ensures.0 (sym c.has_whole_records.ensures ∙ c.if-not-has_whole_records.false) in
    (q ∙ sym c.is_sound.ensures ∙ c.if-is_sound.true, c.count_occupied-n.ensures.0 ∙ sym (orders_count c.args.book.now))

pub returns-else-is_sound : goal.returns-else-is_sound
returns-else-is_sound c =
    let q = sound_parts c.args.book.now _ c.count_occupied-n.ensures.0 (sym c.has_whole_records.ensures ∙ c.if-not-has_whole_records.false) in
    (q ∙ sym c.is_sound.ensures ∙ c.if-is_sound.false, refl)
