-- `book::records::first` meets its contract: the chunks of 40 bytes are the records.
use Rattle.std.proofs.Common.{◌∙◌, ◌*◌, take, arith}
use Rattle.book.specs.Sound.{form}
use Rattle.book.proofs.Walking.{chunks_records, records_front}
use Rattle.book.proofs.records.first.Goals as goal

pub returns : goal.returns
returns c =
    let front = records_front form (omega arith) c.args.n c.args.book.now c.requires in
    c.as_chunks.ensures.front ∙ chunks_records form _ (take (40 * c.args.n) c.args.book.now) ∙ front.1
