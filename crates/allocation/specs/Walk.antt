-- The way of an incoming order through the parts of a book in their order: what each part gets.
use Rattle.std.specs.Prelude.{ℕ, ◌-◌, ◌<◌, ◌≡◌, List, [], ◌∷◌, ◌++◌, map, ltb, eqb}
use Rattle.units.specs.Lists.{cons_if, or_zero, sum, zip_with}
use Rattle.units.proofs.Members.{Every}
use Rattle.sharing.specs.Rank.{Part}
use Rattle.sharing.specs.Method.{allot_by}
use Rattle.orders.specs.declared.order.Order.{Order}
use Rattle.orders.specs.Order.{Visibility, shares_of, only_of, minimum_of}
use Rattle.record.specs.declared.execution.Execution.{Execution}
use Rattle.matching.specs.declared.Algorithm.{Algorithm}
use Rattle.matching.specs.declared.Paragraph.{Paragraph}
use Rattle.matching.specs.Paragraph.{method_of}
use Rattle.matching.specs.Numbered.{paragraph_numbered}
use Rattle.parts.specs.Key.{group_in, paragraph_in, place_in, shares_in, with_shares}
use Rattle.parts.specs.Visible.{visibility_in}
use Rattle.parts.specs.Execution.{execution_in}

-- the paragraph of a group
abbrev pub paragraph_of : ℕ → Paragraph
paragraph_of group = paragraph_numbered (paragraph_in group)

-- The orders of a book by the places of their records.
module _ (at : ℕ → Order) where
  -- a part as it stands in its group
  abbrev pub part_in : ℕ → Part
  part_in key =
      let o = at (place_in key) in
      record { number = o.number; size = shares_in key; minimum = minimum_of o.kind; setter = o.setter }

  -- an execution for each part that received shares
  abbrev pub executions_from : List ℕ → List ℕ → List Execution
  executions_from [] gets = []
  executions_from (k ∷ keys) [] = []
  executions_from (k ∷ keys) (n ∷ gets) = cons_if (ltb 0 n) (execution_in at k n) (executions_from keys gets)

  module _ (lot : ℕ) (alg : Algorithm) where
    -- what the parts of a group get of the shares left
    unfoldable pub shared_by : ℕ → List ℕ → ℕ → List ℕ
    shared_by group keys left = allot_by (method_of alg (paragraph_of group)) lot left (map part_in keys)

    -- What each of the keys gets of the shares left, group by group: a group's parts stand together, before those of later groups. Where no
    -- shares are left nobody gets any.
    pub data Walks : List ℕ → ℕ → List ℕ → Type 0 where
      none : (left : ℕ) → Walks [] left []
      ended : (keys : List ℕ) → Walks keys 0 (map (λ k. 0) keys)
      next : (left key : ℕ) (keys later gets : List ℕ) → Every (λ k. group_in k ≡ group_in key) keys → Every (λ k. group_in key < group_in k) later
          → Walks later (left - sum (shared_by (group_in key) (key ∷ keys) left)) gets
          → Walks (key ∷ (keys ++ later)) left (shared_by (group_in key) (key ∷ keys) left ++ gets)

-- those that got shares, each with them
abbrev pub fills_of : List ℕ → List ℕ → List ℕ
fills_of [] gets = []
fills_of (k ∷ keys) [] = []
fills_of (k ∷ keys) (n ∷ gets) = cons_if (ltb 0 n) (with_shares n k) (fills_of keys gets)

-- what the parts of a visibility of the record at a place got
abbrev pub got_at : Algorithm → Visibility → ℕ → List ℕ → List ℕ → ℕ
got_at alg v place keys gets = sum (zip_with (λ k n. or_zero (eqb (place_in k) place) (shares_of v (only_of (visibility_in alg k) n))) keys gets)
