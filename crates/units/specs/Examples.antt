-- Worked values of lists, lots and texts, computed by the checker.
use Rattle.std.specs.Prelude.{◌+◌, ◌≡◌, refl, Bool, true, false, not, List, [], ◌∷◌, eqb}
use Rattle.units.specs.Lists.{filter, all, any, sum, zip_with, flat_map, in_range, or_zero, is_zero, same_numbers}
use Rattle.units.specs.Lots.{round_lot, round_down}
use Rattle.units.specs.Text.{ascii, digit_zero, line_feed, space}

values : List Bool
values =
    -- all and some of a list, and of an empty one
    all is_zero [] ∷
    all is_zero (0 ∷ 0 ∷ []) ∷
    not (all is_zero (0 ∷ 1 ∷ [])) ∷
    not (all is_zero (1 ∷ 0 ∷ [])) ∷
    not (any is_zero []) ∷
    any is_zero (0 ∷ 1 ∷ []) ∷
    any is_zero (1 ∷ 0 ∷ 1 ∷ []) ∷
    not (any is_zero (1 ∷ 1 ∷ [])) ∷
    -- lists made of lists
    same_numbers (filter is_zero (1 ∷ 0 ∷ 2 ∷ 0 ∷ [])) (0 ∷ 0 ∷ []) ∷
    same_numbers (zip_with ◌+◌ (1 ∷ 2 ∷ 3 ∷ []) (10 ∷ 20 ∷ [])) (11 ∷ 22 ∷ []) ∷
    same_numbers (flat_map (λ n. n ∷ n ∷ []) (1 ∷ 2 ∷ [])) (1 ∷ 1 ∷ 2 ∷ 2 ∷ []) ∷
    eqb (sum []) 0 ∷
    eqb (sum (2 ∷ 3 ∷ [])) 5 ∷
    -- lists of numbers are the same number by number
    same_numbers [] [] ∷
    same_numbers (1 ∷ 2 ∷ []) (1 ∷ 2 ∷ []) ∷
    not (same_numbers (1 ∷ []) []) ∷
    not (same_numbers [] (1 ∷ [])) ∷
    not (same_numbers (1 ∷ 2 ∷ []) (1 ∷ 3 ∷ [])) ∷
    not (same_numbers (1 ∷ 2 ∷ []) (3 ∷ 2 ∷ [])) ∷
    -- both ends belong to a range
    in_range 1 3 1 ∷
    in_range 1 3 3 ∷
    not (in_range 1 3 0) ∷
    not (in_range 1 3 4) ∷
    eqb (or_zero true 7) 7 ∷
    eqb (or_zero false 7) 0 ∷
    -- a round lot, and what is below one left out
    eqb round_lot 100 ∷
    eqb (round_down 100 299) 200 ∷
    eqb (round_down 100 300) 300 ∷
    eqb (round_down 7 20) 14 ∷
    -- a byte for each character
    same_numbers (ascii "A 3") (0x41 ∷ 0x20 ∷ 0x33 ∷ []) ∷
    eqb digit_zero 0x30 ∷
    eqb line_feed 0x0a ∷
    eqb space 0x20 ∷ []

-- a list fails by one element; values are listed by this test, so it has a fact of its own
one_fails : all is_zero (1 ∷ 0 ∷ []) ≡ false
one_fails = refl

worked : all (λ b. b) values ≡ true
unfolding values
worked = refl
