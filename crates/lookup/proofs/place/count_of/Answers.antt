-- `lookup::place::count_of` meets its contract: the records are counted whose order is of the security.
use Rattle.std.proofs.Common.{rules, ◌≡◌, ◌∙◌, arith, ℕ, List}
use Rattle.std.specs.List.{count_by}
use Rattle.std.proofs.lemmas.List.Sums.{count_by-le-length}
use Rattle.orders.specs.Trading.{of_security}
use Rattle.record.specs.Record.{decode_order}
use Rattle.book.specs.Sound.{form, first_records}
use Rattle.book.proofs.Soundness.{length_records}
use Rattle.lookup.proofs.Counting.{counted}
use Rattle.lookup.proofs.place.count_of.Goals as goal

pub overflow_cast-result : goal.overflow_cast-result
overflow_cast-result c =
    let rs = first_records form c.args.n c.args.book.now in
    let p = λ (r : List ℕ). of_security c.args.security (decode_order form r) in
    let e : c.count.result ≡ count_by p rs = search rules in
    omega (arith, count_by-le-length p rs, length_records form c.args.n c.args.book.now)

pub returns : goal.returns
returns c =
    let rs = first_records form c.args.n c.args.book.now in
    let e : c.count.result ≡ count_by (λ r. of_security c.args.security (decode_order form r)) rs = search rules in
    e ∙ counted (of_security c.args.security) rs
