-- Rows put in their places: of two it is no matter which comes first, and rows of one level may be joined before.
use Prim.Native.Nat.{◌≤◌, ◌<◌}
use mathlib.Core.Path.{◌≡◌, refl, sym, ap, ◌∙◌}
use mathlib.Core.Bool.{Bool, true, false, cond}
use mathlib.Core.List.{List, [], ◌∷◌, Permᴰ}
use native.Mathlib.Omega.{arith}
use native.Mathlib.Decide.{dec_le, dec_lt}
use native.Mathlib.Nat.{add_comm, add_assoc, add_left_comm}
use Rattle.units.proofs.Members.{Every}
use Rattle.ordering.proofs.Same.{same_every}
use Rattle.ladder.specs.declared.row.Row.{Row}
use Rattle.ladder.specs.Rows.{same_level, precedes, joined, insert_row, gathered}
use Rattle.ladder.proofs.Ranks.{Priced, rank, level_same, insert_level, insert_before, insert_behind}

-- What holds of a row and of rows holds of what is put in, where it holds of two rows joined.
pub insert_every : (P : Row → Type 0) → ((a b : Row) → P a → P b → P (joined a b)) → (r : Row) (rs : List Row) → P r → Every P rs → Every P (insert_row r rs)
insert_every P j r [] h a = (h, tt)
insert_every P j r (q ∷ qs) h a = go (same_level r q) (precedes r q) (insert_every P j r qs h a.1)
  where
    go : (b c : Bool) → Every P (insert_row r qs) → Every P (cond b (joined r q ∷ qs) (cond c (r ∷ q ∷ qs) (q ∷ insert_row r qs)))
    go true c i = (j r q h a.0, a.1)
    go false true i = (h, a)
    go false false i = (a.0, i)

pub gathered_every : (P : Row → Type 0) → ((a b : Row) → P a → P b → P (joined a b)) → (rs : List Row) → Every P rs → Every P (gathered rs)
gathered_every P j [] a = tt
gathered_every P j (r ∷ rs) a = insert_every P j r (gathered rs) a.0 (gathered_every P j rs a.1)

-- joined rows are at the price of the first
pub joined_priced : (a b : Row) → Priced a → Priced b → Priced (joined a b)
unfolding joined
joined_priced a b h k = h

-- three rows joined
pub joined_assoc : (a b c : Row) → joined a (joined b c) ≡ joined (joined a b) c
unfolding joined
joined_assoc a b c =
    rw (
      add_assoc a.displayed.0 b.displayed.0 c.displayed.0,
      add_assoc a.other.0 b.other.0 c.other.0,
      add_assoc a.orders b.orders c.orders,
    )

joined_swap : (a b c : Row) → a.side ≡ b.side → a.price ≡ b.price → joined a (joined b c) ≡ joined b (joined a c)
unfolding joined
joined_swap a b c e f =
    rw (
      e,
      f,
      add_left_comm a.displayed.0 b.displayed.0 c.displayed.0,
      add_left_comm a.other.0 b.other.0 c.other.0,
      add_left_comm a.orders b.orders c.orders,
    )

pub joined_comm : (a b : Row) → a.side ≡ b.side → a.price ≡ b.price → joined a b ≡ joined b a
unfolding joined
joined_comm a b e f =
    rw (e, f, add_comm a.displayed.0 b.displayed.0, add_comm a.other.0 b.other.0, add_comm a.orders b.orders)

pub joined_rank : (a b : Row) → rank (joined a b) ≡ rank a
unfolding joined
joined_rank a b = refl

-- Two rows, the first of no higher rank.
module _ (a b : Row) (h : Priced a) (k : Priced b) (l : rank a ≤ rank b) where
  none_before : insert_row a (b ∷ []) ≡ insert_row b (a ∷ [])
  none_before = go (dec_lt (rank a) (rank b))
    where
      go : Dec (rank a < rank b) → insert_row a (b ∷ []) ≡ insert_row b (a ∷ [])
      go (yes m) = insert_before a b [] h k m ∙ sym (insert_behind b a [] k h m)
      go (no m) =
          let e : rank a ≡ rank b = omega arith in
          let s = level_same a b h k e in
          insert_level a b [] h k e ∙ ap (λ r. r ∷ []) (joined_comm a b s.0 s.1) ∙ sym (insert_level b a [] k h (sym e))

  -- it is no matter which is put in first
  swap_lower : (qs : List Row) → Every Priced qs → insert_row a (insert_row b qs) ≡ insert_row b (insert_row a qs)
  swap_lower [] p = none_before
  swap_lower (q ∷ qs) p = go (dec_lt (rank a) (rank q)) (dec_lt (rank q) (rank a)) (dec_lt (rank b) (rank q)) (dec_lt (rank q) (rank b)) (swap_lower qs p.1)
    where
      c : Priced q
      c = p.0

      j : Priced (joined a q)
      j = joined_priced a q h c

      go : Dec (rank a < rank q) → Dec (rank q < rank a) → Dec (rank b < rank q) → Dec (rank q < rank b)
          → insert_row a (insert_row b qs) ≡ insert_row b (insert_row a qs) → insert_row a (insert_row b (q ∷ qs)) ≡ insert_row b (insert_row a (q ∷ qs))
      -- a before q
      go (yes m) d (yes n) g i = both (dec_lt (rank a) (rank b))
        where
          both : Dec (rank a < rank b) → insert_row a (insert_row b (q ∷ qs)) ≡ insert_row b (insert_row a (q ∷ qs))
          both (yes o) =
              ap (insert_row a) (insert_before b q qs k c n)
              ∙ insert_before a b (q ∷ qs) h k o
              ∙ ap (λ t. a ∷ t) (sym (insert_before b q qs k c n))
              ∙ sym (insert_behind b a (q ∷ qs) k h o)
              ∙ ap (insert_row b) (sym (insert_before a q qs h c m))
          both (no o) =
              let e : rank a ≡ rank b = omega arith in
              let s = level_same a b h k e in
              ap (insert_row a) (insert_before b q qs k c n)
              ∙ insert_level a b (q ∷ qs) h k e
              ∙ ap (λ r. r ∷ q ∷ qs) (joined_comm a b s.0 s.1)
              ∙ sym (insert_level b a (q ∷ qs) k h (sym e))
              ∙ ap (insert_row b) (sym (insert_before a q qs h c m))
      go (yes m) d (no n) (yes g) i =
          ap (insert_row a) (insert_behind b q qs k c g)
          ∙ insert_before a q (insert_row b qs) h c m
          ∙ ap (λ t. a ∷ t) (sym (insert_behind b q qs k c g))
          ∙ sym (insert_behind b a (q ∷ qs) k h (omega arith))
          ∙ ap (insert_row b) (sym (insert_before a q qs h c m))
      go (yes m) d (no n) (no g) i =
          let e : rank b ≡ rank q = omega arith in
          ap (insert_row a) (insert_level b q qs k c e)
          ∙ insert_before a (joined b q) qs h (joined_priced b q k c) (omega (arith, joined_rank b q))
          ∙ ap (λ t. a ∷ t) (sym (insert_level b q qs k c e))
          ∙ sym (insert_behind b a (q ∷ qs) k h (omega arith))
          ∙ ap (insert_row b) (sym (insert_before a q qs h c m))
      -- a behind q
      go (no m) (yes d) n g i =
          ap (insert_row a) (insert_behind b q qs k c (omega arith))
          ∙ insert_behind a q (insert_row b qs) h c d
          ∙ ap (λ t. q ∷ t) i
          ∙ sym (insert_behind b q (insert_row a qs) k c (omega arith))
          ∙ ap (insert_row b) (sym (insert_behind a q qs h c d))
      -- a at q's level
      go (no m) (no d) n (yes g) i =
          let e : rank a ≡ rank q = omega arith in
          ap (insert_row a) (insert_behind b q qs k c g)
          ∙ insert_level a q (insert_row b qs) h c e
          ∙ sym (insert_behind b (joined a q) qs k j (omega (arith, joined_rank a q)))
          ∙ ap (insert_row b) (sym (insert_level a q qs h c e))
      go (no m) (no d) n (no g) i =
          let e : rank a ≡ rank q = omega arith in
          let f : rank b ≡ rank q = omega arith in
          let s = level_same a b h k (omega arith) in
          ap (insert_row a) (insert_level b q qs k c f)
          ∙ insert_level a (joined b q) qs h (joined_priced b q k c) (omega (arith, joined_rank b q))
          ∙ ap (λ r. r ∷ qs) (joined_swap a b q s.0 s.1)
          ∙ sym (insert_level b (joined a q) qs k j (omega (arith, joined_rank a q)))
          ∙ ap (insert_row b) (sym (insert_level a q qs h c e))

insert_swap : (a b : Row) (qs : List Row) → Priced a → Priced b → Every Priced qs → insert_row a (insert_row b qs) ≡ insert_row b (insert_row a qs)
insert_swap a b qs h k p = go (dec_le (rank a) (rank b))
  where
    go : Dec (rank a ≤ rank b) → insert_row a (insert_row b qs) ≡ insert_row b (insert_row a qs)
    go (yes l) = swap_lower a b h k l qs p
    go (no l) = sym (swap_lower b a k h (omega arith) qs p)

-- the same rows, in whatever order they come, give the same
pub gathered_same : {xs ys : List Row} → Permᴰ xs ys → Every Priced xs → gathered xs ≡ gathered ys
gathered_same Permᴰ.nil p = refl
gathered_same (Permᴰ.cons {a = a} {b = b} e q) p = rw (e, gathered_same q p.1)
gathered_same (Permᴰ.swap {a = a} {b = b} {l = l} e f) p = rw (sym e, sym f) (insert_swap a b (gathered l) p.0 p.1.0 (gathered_every Priced joined_priced l p.1.1))
gathered_same (Permᴰ.trans q r) p = gathered_same q p ∙ gathered_same r (same_every Priced q p)
