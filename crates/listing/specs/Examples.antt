-- Lines that the checker computes.
use Rattle.std.specs.Prelude.{◌≡◌, refl}
use Rattle.units.specs.Text.{ascii, line_feed}
use Rattle.listing.specs.Listing.{digits_before, field, execution_line, left_line, refusal_line}

execution : execution_line (record { number = 2; price = record { 0 = 100000 }; shares = record { 0 = 400 }; paragraph = 2 }) ≡ ascii "2 100000 400\n"
unfolding digits_before
execution = refl

left_none : left_line 0 ≡ ascii "left 0\n"
unfolding digits_before
left_none = refl

refused_five : refusal_line 5 ≡ ascii "refused 5\n"
unfolding digits_before
refused_five = refl

-- the largest number of four bytes
largest : field 4294967295 line_feed ≡ ascii "4294967295\n"
unfolding digits_before
largest = refl
