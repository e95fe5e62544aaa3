-- The visibility of a part can be read from its paragraph.
use Prim.Native.Nat.{ℕ}
use mathlib.Core.Path.{◌≡◌, refl}
use mathlib.Core.Bool.{Bool, true, false}
use native.Mathlib.Omega.{arith}
use lib.Dec.{ltb}
use borrow.Author.Tests.{le-leb, lt-leb}
use Rattle.units.proofs.Tests.{pick_least}
use Rattle.orders.specs.Order.{Visibility, shown, hidden}
use Rattle.matching.specs.declared.Algorithm.{Algorithm}
use Rattle.matching.specs.declared.Algorithm.TheVariants.{PriceTime, ProRata, PriceSetter}
use Rattle.matching.specs.declared.Paragraph.{Paragraph}
use Rattle.matching.specs.declared.Paragraph.TheVariants.{Two, Three, Four, Five, Six}
use Rattle.matching.specs.Paragraph.{group_of, pro_rata_group, paragraph_number}
use Rattle.parts.specs.Parts.{pro_rata_paragraph, paragraph_for}
use Rattle.parts.specs.Visible.{visible_by}

pro_rata_visible : (lot : ℕ) (g : Paragraph) → visible_by ProRata (paragraph_number g) ≡ (pro_rata_group lot g).visibility
pro_rata_visible lot Two = refl
pro_rata_visible lot Three = refl
pro_rata_visible lot Four = refl
pro_rata_visible lot Five = refl
pro_rata_visible lot Six = refl

-- the visibility of a paragraph's group
pub group_visible : (lot : ℕ) (alg : Algorithm) (g : Paragraph) → visible_by alg (paragraph_number g) ≡ (group_of lot alg g).visibility
group_visible lot PriceTime Two = refl
group_visible lot PriceTime Three = refl
group_visible lot PriceTime Four = refl
group_visible lot PriceTime Five = refl
group_visible lot PriceTime Six = refl
group_visible lot ProRata g = pro_rata_visible lot g
group_visible lot PriceSetter g = pro_rata_visible lot g

pro_rata_back : (lot : ℕ) (v : Visibility) (m : Bool) (n : ℕ) → visible_by ProRata (pro_rata_paragraph lot v m n) ≡ v
pro_rata_back lot shown m n = rw (le-leb (pro_rata_paragraph lot shown m n) 3 (omega (arith, pick_least (ltb n lot) 1)))
pro_rata_back lot hidden true n = refl
pro_rata_back lot hidden false n = rw (lt-leb (pro_rata_paragraph lot hidden false n) 3 (omega arith))

-- shares stand in the group of a paragraph of their visibility
pub visible_back : (lot : ℕ) (alg : Algorithm) (v : Visibility) (m : Bool) (n : ℕ) → visible_by alg (paragraph_for lot alg v m n) ≡ v
visible_back lot PriceTime shown m n = refl
visible_back lot PriceTime hidden m n = refl
visible_back lot ProRata v m n = pro_rata_back lot v m n
visible_back lot PriceSetter v m n = pro_rata_back lot v m n
