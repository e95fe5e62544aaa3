-- What a form sees of book and ladder before it decides, for the function that looks. No call's meaning rests on it.
use Rattle.std.specs.Prelude.{ℕ, List, [], length, Result, Ok, Err}
use Rattle.units.specs.Lists.{or_zero}
use Rattle.book.specs.declared.refusal as declared
use Rattle.book.specs.Answer.{number_of}
use Rattle.book.specs.Sound.{sound, orders_of}
use Rattle.book.specs.Refusal.{Refusals, refusal_of, is_accepted}
use Rattle.book.specs.Lookup.{orders_for}
use Rattle.ladder.specs.declared.Seen.{Seen}
use Rattle.ladder.specs.Rows.{rows_of}
use Rattle.ladder.specs.Ladder.{with_ladder}

-- the refusal, and the numbers of records in use, of both securities, and of the security's rows
pub record Look : Type 0 where
  pub refusal : ℕ
  pub records : ℕ
  pub rows : ℕ

-- as the code says it
abbrev pub look : Result Seen declared.Refusal.Refusal → Look
look (Ok s) = record { refusal = 0; records = s.records; rows = s.rows }
look (Err r) = record { refusal = number_of r; records = 0; rows = 0 }

-- no refusal but 2, 9 and 10
abbrev pub no_others : Refusals
no_others = record { of_call = []; of_book = [] }

-- 2, 9, 10, and the numbers
unfoldable pub seen_of : ℕ → List ℕ → List ℕ → Look
seen_of k s l =
    let r = refusal_of (with_ladder k s l no_others) (sound s) in
    record {
      refusal = r;
      records = or_zero (is_accepted r) (length (orders_of s));
      rows = or_zero (is_accepted r) (length (rows_of (orders_for k s)));
    }
