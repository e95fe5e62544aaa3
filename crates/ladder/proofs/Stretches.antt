-- Rows that come in the ladder's order: going along them, a row to each stretch of one level, gives the rows that they come to.
use Prim.Native.Nat.{ℕ, ◌≤◌, ◌<◌}
use mathlib.Core.Path.{◌≡◌, refl, sym, ap, ◌∙◌}
use mathlib.Core.List.{List, [], ◌∷◌}
use native.Mathlib.Omega.{arith}
use native.Mathlib.Decide.{dec_lt}
use Rattle.units.proofs.Members.{Every, every_weaken}
use Rattle.ladder.specs.declared.row.Row.{Row}
use Rattle.ladder.specs.Rows.{joined, insert_row, gathered}
use Rattle.ladder.specs.Along.{behind, along}
use Rattle.ladder.proofs.Ranks.{Priced, rank, rank_level, rank_apart, insert_level, insert_before, insert_behind}
use Rattle.ladder.proofs.Inserting.{gathered_every, joined_priced, joined_assoc, joined_rank}

-- rows in the ladder's order, from a rank on
abbrev pub InRank : ℕ → List Row → Type 0
InRank m [] = Unit {0}
InRank m (r ∷ rs) = (m ≤ rank r) × InRank (rank r) rs

-- from a lower rank on
pub in_rank_down : {m l : ℕ} (rs : List Row) → m ≤ l → InRank l rs → InRank m rs
in_rank_down [] h a = tt
in_rank_down (r ∷ rs) h a = let l = a.0 in (omega arith, a.1)

in_rank_every : (m : ℕ) (rs : List Row) → InRank m rs → Every (λ r. m ≤ rank r) rs
in_rank_every m [] a = tt
in_rank_every m (r ∷ rs) a = (a.0, in_rank_every m rs (in_rank_down rs a.0 a.1))

-- a row of a lower rank comes first
insert_lowest : (r : Row) (rs : List Row) → Priced r → Every Priced rs → Every (λ q. rank r < rank q) rs → insert_row r rs ≡ r ∷ rs
insert_lowest r [] h p a = refl
insert_lowest r (q ∷ qs) h p a = insert_before r q qs h p.0 a.0

-- two rows of one level, put in one after the other or joined
insert_joined : (r q : Row) (rs : List Row) → Priced r → Priced q → Every Priced rs → rank r ≡ rank q
    → insert_row r (insert_row q rs) ≡ insert_row (joined r q) rs
insert_joined r q [] h k p e = insert_level r q [] h k e
insert_joined r q (x ∷ xs) h k p e = go (dec_lt (rank q) (rank x)) (dec_lt (rank x) (rank q)) (insert_joined r q xs h k p.1 e)
  where
    j : Priced (joined r q)
    j = joined_priced r q h k

    f : rank (joined r q) ≡ rank r
    f = joined_rank r q

    go : Dec (rank q < rank x) → Dec (rank x < rank q) → insert_row r (insert_row q xs) ≡ insert_row (joined r q) xs
        → insert_row r (insert_row q (x ∷ xs)) ≡ insert_row (joined r q) (x ∷ xs)
    go (yes m) d i =
        rw (insert_before q x xs k p.0 m) (insert_level r q (x ∷ xs) h k e ∙ sym (insert_before (joined r q) x xs j p.0 (omega (arith, f))))
    go (no m) (yes d) i =
        rw (insert_behind q x xs k p.0 d)
        (insert_behind r x (insert_row q xs) h p.0 (omega arith)
        ∙ ap (λ t. x ∷ t) i ∙ sym (insert_behind (joined r q) x xs j p.0 (omega (arith, f))))
    go (no m) (no d) i =
        let g : rank q ≡ rank x = omega arith in
        rw (insert_level q x xs k p.0 g)
        (insert_level r (joined q x) xs h (joined_priced q x k p.0) (omega (arith, joined_rank q x))
        ∙ ap (λ t. t ∷ xs) (joined_assoc r q x) ∙ sym (insert_level (joined r q) x xs j p.0 (omega (arith, f))))

-- the rows behind a row that was begun are those that come of it and the others
behind_gathered : (r : Row) (rs : List Row) → Priced r → Every Priced rs → InRank (rank r) rs → behind r rs ≡ insert_row r (gathered rs)
behind_gathered r [] h p a = refl
behind_gathered r (q ∷ qs) h p a = go (dec_lt (rank r) (rank q)) (λ x u v. behind_gathered x qs u p.1 v)
  where
    fine : Every Priced (gathered qs)
    fine = gathered_every Priced joined_priced qs p.1

    above : (m : ℕ) → m ≤ rank q → Every (λ x. m ≤ rank x) (gathered (q ∷ qs))
    above m l =
        gathered_every (λ x. m ≤ rank x) (λ x y u v. omega (arith, joined_rank x y)) (q ∷ qs)
        (in_rank_every m (q ∷ qs) (l, a.1))

    go : Dec (rank r < rank q) → ((x : Row) → Priced x → InRank (rank x) qs → behind x qs ≡ insert_row x (gathered qs))
        → behind r (q ∷ qs) ≡ insert_row r (gathered (q ∷ qs))
    go (yes m) i =
        rw (rank_apart r q h p.0 (λ z. omega arith))
        (ap (λ t. r ∷ t) (i q p.0 a.1)
        ∙ sym (insert_lowest r (gathered (q ∷ qs)) h (gathered_every Priced joined_priced (q ∷ qs) p)
        (every_weaken (λ x l. omega arith) (gathered (q ∷ qs)) (above (rank q) (omega arith)))))
    go (no m) i =
        let l = a.0 in
        let e : rank r ≡ rank q = omega arith in
        rw (rank_level r q h p.0 e)
        (i (joined r q) (joined_priced r q h p.0) (in_rank_down qs (omega (arith, joined_rank r q)) a.1)
        ∙ sym (insert_joined r q (gathered qs) h p.0 fine e))

pub along_gathered : (m : ℕ) (rs : List Row) → Every Priced rs → InRank m rs → along rs ≡ gathered rs
along_gathered m [] p a = refl
along_gathered m (r ∷ rs) p a = behind_gathered r rs p.0 p.1 a.1
