-- A record that leaves a book's bytes, for the function that takes one out. No call's meaning rests on it.
use Rattle.std.specs.Prelude.{ℕ, ◌+◌, List, ◌++◌, take, drop, replicate}
use Rattle.book.specs.Sound.{record_bytes}

-- the record from a place on leaves: what is behind it moves up, and zeros come in at the end
abbrev pub without_record : ℕ → List ℕ → List ℕ
without_record at s = take at s ++ (drop (at + record_bytes) s ++ replicate record_bytes 0)
