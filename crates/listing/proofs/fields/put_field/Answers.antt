-- `listing::fields::put_field` meets its contract: the number's digits, as the library writes them, and the byte.
use Rattle.std.proofs.Common.{rules, ◌∙◌}
use Rattle.listing.proofs.Lines.{placed_behind, placed_as, field_of}
use Rattle.listing.proofs.fields.put_field.Goals as goal

pub returns-clause-ends : goal.returns-clause-ends
returns-clause-ends c =
    let t = field_of c.args.end c.ranges.n.fits (c.as_bytes.ensures.value ∙ c.format.ensures.text) in
    (placed_as t (placed_behind (search rules) c.put_text-behind.ensures c.put_text.ensures)).ends

pub returns-clause-bytes : goal.returns-clause-bytes
returns-clause-bytes c =
    let t = field_of c.args.end c.ranges.n.fits (c.as_bytes.ensures.value ∙ c.format.ensures.text) in
    (placed_as t (placed_behind (search rules) c.put_text-behind.ensures c.put_text.ensures)).bytes
