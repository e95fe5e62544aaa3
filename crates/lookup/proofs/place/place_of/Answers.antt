-- `lookup::place::place_of` meets its contract: the place of the first record whose order is named.
use Rattle.std.proofs.Common.{rules, ◌≡◌, ◌∙◌, arith, true, false, length, sym, ap}
use borrow.Author.Tests.{tests}
use mathlib.Core.List.{map}
use lib.ListN.{length-map}
use Rattle.std.specs.Option.{unwrap_or}
use Rattle.std.proofs.lemmas.Iterator.{YieldsList-from_slice, IsFirst-from_position}
use Rattle.record.specs.Record.{decode_order}
use Rattle.book.specs.Sound.{form, first_records}
use Rattle.book.specs.Lookup.{is_named, place_of}
use Rattle.book.proofs.Finding.{place_most}
use Rattle.book.proofs.Soundness.{length_records}
use Rattle.lookup.proofs.Counting.{named_place}
use Rattle.lookup.proofs.place.place_of.Goals as goal

pub returns : goal.returns
returns c =
    let k = c.args.security in
    let n = c.args.number in
    let rs = first_records form c.args.n c.args.book.now in
    let first = IsFirst-from_position _ _ c.position.result (λ r. is_named k n (decode_order form r) ≡ true) (λ r. is_named k n (decode_order form r) ≡ false)
    c.position.ensures.ran (YieldsList-from_slice rs cc) (λ x q h. search (rules, tests)) (λ x q h. search (rules, tests)) in
    let long : length rs ≡ c.args.n = length_records form c.args.n c.args.book.now in
    let e : c.unwrap_or.result ≡ place_of k n (map (decode_order form) rs) =
    c.unwrap_or.ensures ∙ sym (ap (unwrap_or c.position.result) long) ∙ sym (named_place k n rs c.position.result first) in
    (e, omega (arith, place_most k n (map (decode_order form) rs), length-map rs (decode_order form)))
