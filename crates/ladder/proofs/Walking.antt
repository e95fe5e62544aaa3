-- Going along keys level by level: a level's row, and rows written one behind another or held to those of a ladder.
use Prim.Native.Nat.{ℕ, zero, suc, ◌+◌, ◌*◌, ◌≤◌}
use mathlib.Core.Path.{◌≡◌, refl, sym, ap, ap₂, ◌∙◌}
use mathlib.Core.Bool.{Bool, true, false, ◌&&◌, and_assoc}
use mathlib.Core.List.{List, [], ◌∷◌, ◌++◌, append_assoc, append-nil}
use native.Mathlib.Omega.{arith}
use lib.Dec.{eqb}
use lib.ListN.{length, take, drop, replicate, length-append, length-drop, take-append-drop}
use lib.Seq.{take-add, length-take-le}
use Rattle.units.specs.Lists.{all, flat_map, is_zero, same_numbers}
use Rattle.units.proofs.Totals.{flat_last, length_flat}
use Rattle.record.specs.Codec.{replaced}
use Rattle.book.specs.Sound.{order_at}
use Rattle.record.proofs.Filling.{Filled, filled_none, filled_more, filled_done}
use Rattle.ladder.specs.declared.row.Row.{Row}
use Rattle.ladder.specs.Row.{encode_row}
use Rattle.ladder.specs.Rows.{same_level, joined, row_of}
use Rattle.ladder.specs.Key.{place_in}
use Rattle.ladder.specs.Along.{behind, along}
use Rattle.ladder.proofs.Bytes.{length_row, Amounts, amounts_joined}

-- the row of a key's order alone
abbrev pub row_of_key : List ℕ → ℕ → Row
row_of_key book k = row_of (order_at book (place_in k))

-- Of the rows of single orders, i were read since the level began; these and the rest come to what all of them do.
pub record Joining (all : List Row) (row : Row) (i : ℕ) (rest : List Row) : Type 0 where
  pub whole : along all ≡ behind row rest
  pub amounts : Amounts i row

pub joining_first : {all : List Row} {row : Row} {rest : List Row} → all ≡ row ∷ rest → Amounts 1 row → Joining all row 1 rest
joining_first e a = record { whole = ap along e; amounts = a }

module _ {all : List Row} {row : Row} {i : ℕ} {rest : List Row} (j : Joining all row i rest) where
  module _ {next : Row} {others : List Row} (e : rest ≡ next ∷ others) where
    -- one more of the level
    pub joining_more : Amounts 1 next → same_level row next ≡ true → Joining all (joined row next) (i + 1) others
    joining_more a s = record { whole = j.whole ∙ rw (e, s); amounts = amounts_joined i 1 row next j.amounts a }

    -- one of the next level
    pub joining_next : same_level row next ≡ false → along all ≡ row ∷ along rest
    joining_next s = j.whole ∙ rw (e, s)

  -- no more
  pub joining_done : rest ≡ [] → along all ≡ row ∷ along rest
  joining_done e = j.whole ∙ rw e

-- Of rows, so many were passed, of which something holds; the rest is to come.
pub record Passed (P : List Row → Type 0) (rows : List Row) (count : ℕ) (rest : List Row) : Type 0 where
  pub front : List Row
  pub counted : length front ≡ count
  pub whole : rows ≡ front ++ rest
  pub holds : P front

pub passed_none : {P : List Row → Type 0} (rows : List Row) → P [] → Passed P rows 0 rows
passed_none rows h = record { front = []; counted = refl; whole = refl; holds = h }

-- one more
pub passed_more : {P Q : List Row → Type 0} {rows : List Row} {count : ℕ} {row : Row} {rest others : List Row} (p : Passed P rows count rest)
    → rest ≡ row ∷ others → Q (p.front ++ (row ∷ [])) → Passed Q rows (count + 1) others
passed_more {row = row} {others = others} p e h = record {
  front = p.front ++ (row ∷ []);
  counted = length-append p.front (row ∷ []) ∙ omega (arith, p.counted);
  whole = p.whole ∙ rw e (sym (append_assoc p.front (row ∷ []) others));
  holds = h;
}

-- all of them
pub passed_done : {P : List Row → Type 0} {rows : List Row} {count : ℕ} {rest : List Row} (p : Passed P rows count rest) → rest ≡ []
    → rows ≡ p.front
passed_done p e = p.whole ∙ rw e (append-nil p.front)

-- how many bytes rows have
rows_bytes : (rs : List Row) → length (flat_map encode_row rs) ≡ 24 * length rs
rows_bytes rs = length_flat encode_row 24 length_row rs

-- rows stand at the front of l, which was k
abbrev pub Written : List ℕ → List ℕ → List Row → Type 0
Written k l rs = Filled (flat_map encode_row rs) (24 * length rs) k l

pub written_none : (k : List ℕ) → Written k k []
written_none k = filled_none k

pub written_more : {k l : List ℕ} (rs : List Row) (row : Row) {place : ℕ} → length rs ≡ place → 24 * place + 24 ≤ length k → Written k l rs
    → Written k (replaced (24 * place) (encode_row row) l) (rs ++ (row ∷ []))
written_more {k} {l} rs row {place} e room w =
    let n = length-append rs (row ∷ []) in
    let b = rows_bytes rs in
    rw (flat_last encode_row rs row)
    (filled_more w (encode_row row) (24 * length (rs ++ (row ∷ []))) (omega (arith, length_row row)) (omega arith) (omega arith) {at = 24 * place} (omega arith))

pub written_done : {k l : List ℕ} (rs : List Row) → Written k l rs → l ≡ flat_map encode_row rs ++ drop (24 * length rs) k
written_done rs w = filled_done w (rows_bytes rs)

-- a test tells whether l begins with rows
abbrev pub Begins : List ℕ → Bool → List Row → Type 0
Begins l same rs = same ≡ same_numbers (take (24 * length rs) l) (flat_map encode_row rs)

-- two lists with the same numbers, by two parts of each
same_parts : (a b c d : List ℕ) → length a ≡ length c → same_numbers (a ++ b) (c ++ d) ≡ (same_numbers a c && same_numbers b d)
same_parts [] b [] d e = refl
same_parts [] b (z ∷ c) d e = absurd (omega arith)
same_parts (x ∷ a) b [] d e = absurd (omega arith)
same_parts (x ∷ a) b (z ∷ c) d e = ap (λ t. eqb x z && t) (same_parts a b c d (omega arith)) ∙ sym (and_assoc (eqb x z) (same_numbers a c) (same_numbers b d))

pub begins_none : (l : List ℕ) → Begins l true []
begins_none l = refl

pub begins_more : (l : List ℕ) {same here : Bool} (rs : List Row) (row : Row) {place : ℕ} → length rs ≡ place → 24 * place + 24 ≤ length l
    → Begins l same rs → here ≡ same_numbers (take 24 (drop (24 * place) l)) (encode_row row) → Begins l (same && here) (rs ++ (row ∷ []))
begins_more l {same} {here} rs row {place} e room b h =
    let n : 24 * length (rs ++ (row ∷ [])) ≡ 24 * length rs + 24 = omega (arith, length-append rs (row ∷ [])) in
    let t : take (24 * length (rs ++ (row ∷ []))) l ≡ take (24 * length rs) l ++ take 24 (drop (24 * length rs) l) =
    ap (λ k. take k l) n ∙ take-add (24 * length rs) 24 l in
    let q : length (take (24 * length rs) l) ≡ length (flat_map encode_row rs) = length-take-le (24 * length rs) l (omega arith) ∙ sym (rows_bytes rs) in
    let x : take 24 (drop (24 * place) l) ≡ take 24 (drop (24 * length rs) l) = ap (λ k. take 24 (drop (24 * k) l)) (sym e) in
    ap₂ ◌&&◌ b (h ∙ ap (λ y. same_numbers y (encode_row row)) x)
    ∙ sym (ap₂ same_numbers t (flat_last encode_row rs row)
    ∙ same_parts (take (24 * length rs) l) (take 24 (drop (24 * length rs) l)) (flat_map encode_row rs) (encode_row row) q)

-- a buffer is the rows with zeros behind where it begins with them and has zeros behind
pub same_all : (rs : List Row) (l : List ℕ) (n : ℕ) → length l ≡ 24 * length rs + n
    → (same_numbers (take (24 * length rs) l) (flat_map encode_row rs) && all is_zero (drop (24 * length rs) l)) ≡ same_numbers l (flat_map encode_row rs ++ replicate n 0)
same_all rs l n e =
    let k = 24 * length rs in
    let q : length (take k l) ≡ length (flat_map encode_row rs) = length-take-le k l (omega arith) ∙ sym (rows_bytes rs) in
    ap (λ t. same_numbers (take k l) (flat_map encode_row rs) && t) (zeros_same n (drop k l) (length-drop k l ∙ omega arith))
    ∙ sym (same_parts (take k l) (drop k l) (flat_map encode_row rs) (replicate n 0) q)
    ∙ ap (λ t. same_numbers t (flat_map encode_row rs ++ replicate n 0)) (take-append-drop k l)
  where
    zeros_same : (n : ℕ) (s : List ℕ) → length s ≡ n → all is_zero s ≡ same_numbers s (replicate n 0)
    zeros_same zero [] e = refl
    zeros_same zero (x ∷ s) e = absurd (omega arith)
    zeros_same (suc n) [] e = absurd (omega arith)
    zeros_same (suc n) (x ∷ s) e = ap (λ t. is_zero x && t) (zeros_same n s (omega arith))
