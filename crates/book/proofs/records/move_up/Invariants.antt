-- `book::records::move_up` meets its contract: the first i bytes behind the record have moved.
use Rattle.std.proofs.Common.{◌≡◌, ◌+◌, drop}
use lib.Seq.{paste}
use Rattle.book.proofs.records.move_up.Given as goal

abbrev pub invariant-loop-i : goal.invariant-loop-i
invariant-loop-i l = l.book ≡ paste l.initial.book l.at (drop (l.at + 40) l.initial.book) l.i
