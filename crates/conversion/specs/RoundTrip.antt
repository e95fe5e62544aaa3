-- What a book turned into another form and back comes to, stated of the two calls on bytes.
use Rattle.std.specs.Prelude.{ℕ, ◌≡◌, List, length}
use Rattle.record.specs.Record.{OrderForm}
use Rattle.book.specs.Sound.{occupied, records_in}
use Rattle.book.specs.Refusal.{Changed}
use Rattle.conversion.specs.Conversion.{convert_call}

module _ (from to : OrderForm) (s t : List ℕ) where
  -- book s goes into target t
  abbrev pub forth : Changed
  forth = convert_call from to s t

  module _ (u : List ℕ) where
    -- and what came of that back, into target u
    abbrev pub back : Changed
    back = convert_call to from forth.book u

    -- both are accepted, the records are those of s, and where u is as long as s all bytes are
    pub record ThereAndBack : Type 0 where
      pub accepted_forth : forth.refusal ≡ 0
      pub accepted_back : back.refusal ≡ 0
      pub same_records : occupied (records_in from back.book) ≡ occupied (records_in from s)
      pub same_bytes : length u ≡ length s → back.book ≡ s
