-- The paragraph of a number.
use Rattle.std.specs.Prelude.{ℕ, ◌-◌, get_or}
use Rattle.matching.specs.declared.Paragraph.{Paragraph}
use Rattle.matching.specs.declared.Paragraph.TheVariants.{Six}
use Rattle.matching.specs.Paragraph.{paragraphs}

-- below the first it is the first, and behind the last the last
abbrev pub paragraph_numbered : ℕ → Paragraph
paragraph_numbered n = get_or paragraphs (n - 2) Six
