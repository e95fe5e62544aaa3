-- The setter by its place: its number of a list, its plain share, and the others' columns.
use Prim.Native.Nat.{ℕ, zero, suc, ◌+◌, ◌-◌, ◌*◌, ◌/◌, ◌≤◌, ◌<◌, min}
use mathlib.Core.Path.{◌≡◌, refl, sym, ap, ◌∙◌, subst}
use mathlib.Core.Bool.{Bool, true, false, cond}
use mathlib.Core.List.{List, [], ◌∷◌, map}
use native.Mathlib.Omega.{arith}
use native.Mathlib.Nat.{zero-add, add-zero}
use lib.ListN.{length, get_or, set, length-map, get_or-eq_default}
use lib.Seq.{set_out}
use borrow.Author.Tests.{le-leb, lt-leb}
use Rattle.units.specs.Lists.{any, sum, or_zero, total, zip_with}
use Rattle.units.proofs.Tests.{and_false}
use Rattle.units.proofs.Totals.{total_map}
use Rattle.units.proofs.Members.{Every, member_every, every_member}
use Rattle.sharing.specs.Rank.{Part, no_part, part_size, Rising}
use Rattle.sharing.specs.Lots.{first_step, second_step, lot_sharing}
use Rattle.sharing.specs.Setter.{guarantee, is_setter, of_setter, others, beside_setter, setter_sharing}
use Rattle.sharing.proofs.Closed.{lots_closed}
use Rattle.sharing.proofs.SetterAndOthers.{others_rising, others_free, others_total}
use Rattle.sharing.proofs.LotSharing.{lots_map}
use Rattle.sharing.proofs.SetterSharing.{keeps_guarantee, room}
use Rattle.dividing.specs.Columns.{Sizes, ahead_at, turn_at, Stepped}
use Rattle.dividing.specs.Group.{SetterAt}
use Rattle.dividing.proofs.Walking.{never}
use Rattle.dividing.proofs.Turning.{part_at, map_part, ahead_at_lem}
use Rattle.dividing.proofs.LotSteps.{firsts_are, wants_are, rest_is}

-- the setter's number of a list
number_at : (ps : List Part) (k : ℕ) → SetterAt k ps → (ns : List ℕ) → length ns ≡ length ps → of_setter ps ns ≡ get_or ns k 0
number_at [] k s [] l = refl
number_at [] k s (n ∷ ns) l = absurd (never {k = length ns} (omega arith))
number_at (p ∷ ps) k s [] l = absurd (never {k = length ps} (omega arith))
number_at (p ∷ ps) zero s (n ∷ ns) l =
    let i = number_at ps (length ps) s.1 ns (omega arith) ∙ get_or-eq_default ns 0 (omega arith) in
    ap (λ (b : Bool). or_zero b n + of_setter ps ns) s.0 ∙ ap (λ m. n + m) i ∙ add-zero n
number_at (p ∷ ps) (suc k) s (n ∷ ns) l = rw (s.0, zero-add) (number_at ps k s.1 ns (omega arith))

-- there is a setter where its place is one of theirs
any_at : (ps : List Part) (k : ℕ) → SetterAt k ps → k < length ps → any is_setter ps ≡ true
any_at [] k s h = absurd (never h)
any_at (p ∷ ps) zero s h = rw s.0
any_at (p ∷ ps) (suc k) s h = rw s.0 (any_at ps k s.1 (omega arith))

-- and none else
none_at : (ps : List Part) (k : ℕ) → SetterAt k ps → length ps ≤ k → any is_setter ps ≡ false
none_at [] k s h = refl
none_at (p ∷ ps) zero s h = absurd (never h)
none_at (p ∷ ps) (suc k) s h = rw s.0 (none_at ps k s.1 (omega arith))

-- without a setter sharing is plain
pub none_holds : (lot q : ℕ) (ps : List Part) (k : ℕ) → SetterAt k ps → length ps ≤ k → lot_sharing lot q ps ≡ setter_sharing lot q ps
unfolding setter_sharing
none_holds lot q ps k a h = rw (none_at ps k a h)

-- the setter's number put into a list
put_at_place : (f : Part → ℕ) (ps : List Part) (ns : List ℕ) (k : ℕ) → SetterAt k ps → length ns ≡ length ps
    → zip_with (λ p n. cond p.setter (f p) n) ps ns ≡ set ns k (f (part_at k ps))
put_at_place f [] [] k s l = refl
put_at_place f [] (n ∷ ns) k s l = absurd (never {k = length ns} (omega arith))
put_at_place f (p ∷ ps) [] k s l = absurd (never {k = length ps} (omega arith))
put_at_place f (p ∷ ps) (n ∷ ns) zero s l =
    let i = put_at_place f ps ns (length ps) s.1 (omega arith) ∙ set_out ns (length ps) _ (omega arith) in
    ap (λ (b : Bool). cond b (f p) n ∷ zip_with (λ p n. cond p.setter (f p) n) ps ns) s.0 ∙ ap (λ l. f p ∷ l) i
put_at_place f (p ∷ ps) (n ∷ ns) (suc k) s l =
    ap (λ (b : Bool). cond b (f p) n ∷ zip_with (λ p n. cond p.setter (f p) n) ps ns) s.0
    ∙ ap (λ l. n ∷ l) (put_at_place f ps ns k s.1 (omega arith))

-- the others' sizes: nothing in the setter's place
others_sizes : (ps : List Part) (k : ℕ) → SetterAt k ps → map part_size (others ps) ≡ set (map part_size ps) k 0
others_sizes [] k s = refl
others_sizes (p ∷ ps) zero s =
    let i = others_sizes ps (length ps) s.1 ∙ set_out (map part_size ps) (length ps) 0 (omega (arith, length-map ps part_size)) in
    ap (λ (b : Bool). part_size (cond b (no_part p.number) p) ∷ map part_size (others ps)) s.0 ∙ ap (λ l. 0 ∷ l) i
others_sizes (p ∷ ps) (suc k) s =
    ap (λ (b : Bool). part_size (cond b (no_part p.number) p) ∷ map part_size (others ps)) s.0 ∙ ap (λ l. p.size ∷ l) (others_sizes ps k s.1)

pub others_columns : {xs : List ℕ} (ps : List Part) → Sizes xs ps → (k : ℕ) → SetterAt k ps → Sizes (set xs k 0) (others ps)
others_columns ps c k a =
    record {
      start = c.start;
      rising = others_rising c.start ps c.rising;
      free = every_member (λ p. p.minimum ≡ 0) (others ps) (others_free ps (member_every (λ p. p.minimum ≡ 0) ps c.free));
      same = rw c.same (sym (others_sizes ps k a));
    }

-- as many sizes as parts
pub sizes_length : {xs : List ℕ} (ps : List Part) → Sizes xs ps → length xs ≡ length ps
sizes_length ps c = ap length c.same ∙ length-map ps part_size

-- the guarantee, by the setter's size
module _ {xs : List ℕ} (ps : List Part) (c : Sizes xs ps) (k : ℕ) (a : SetterAt k ps) (q : ℕ) (h : k < length xs) {g : ℕ}
    (f : g ≡ min (get_or xs k 0) (2 * q / 5)) where
  at_place : g ≡ guarantee q (part_at k ps)
  at_place = f ∙ rw (c.same, map_part part_size ps k (omega (arith, sizes_length ps c)))

  guarantee_is : of_setter ps (map (guarantee q) ps) ≡ g
  guarantee_is =
      number_at ps k a (map (guarantee q) ps) (length-map ps (guarantee q))
      ∙ map_part (guarantee q) ps k (omega (arith, sizes_length ps c)) ∙ sym at_place

  -- put into what the others get
  pub beside_put : (lot : ℕ) {ns : List ℕ} → ns ≡ lot_sharing lot (q - g) (others ps) → set ns k g ≡ beside_setter lot q ps
  unfolding beside_setter
  beside_put lot {ns} e =
      let n : ns ≡ lot_sharing lot (q - of_setter ps (map (guarantee q) ps)) (others ps) = e ∙ rw guarantee_is in
      let l : length ns ≡ length ps = ap length (n ∙ lots_map lot (q - of_setter ps (map (guarantee q) ps)) (others ps)) ∙ simp length-map in
      sym (rw (← n) (put_at_place (guarantee q) ps ns k a l ∙ ap (set ns k) (sym at_place)))

-- the sum without one number
pub sum_set : (xs : List ℕ) (k : ℕ) → k < length xs → sum (set xs k 0) + get_or xs k 0 ≡ sum xs
sum_set [] k h = absurd (never h)
sum_set (x ∷ xs) zero h = omega arith
sum_set (x ∷ xs) (suc k) h = omega (arith, sum_set xs k (omega arith))

-- parts that have a column of sizes, with the setter at a place
abbrev parts_from : ℕ → ℕ → List ℕ → List Part
parts_from k n [] = []
parts_from zero n (x ∷ xs) = record { number = suc n; size = x; minimum = 0; setter = true } ∷ parts_from (length xs) (suc n) xs
parts_from (suc k) n (x ∷ xs) = record { number = suc n; size = x; minimum = 0; setter = false } ∷ parts_from k (suc n) xs

parts_fine : (k n : ℕ) (xs : List ℕ)
    → Rising n (parts_from k n xs) × Every (λ p. p.minimum ≡ 0) (parts_from k n xs) × (xs ≡ map part_size (parts_from k n xs)) × SetterAt k (parts_from k n xs)
parts_fine k n [] = (tt, tt, refl, tt)
parts_fine zero n (x ∷ xs) =
    let ps = parts_from (length xs) (suc n) xs in
    let i = parts_fine (length xs) (suc n) xs in
    ((omega arith, i.0), (refl, i.1), ap (λ l. x ∷ l) i.2, (refl, subst (λ (m : ℕ). SetterAt m ps) (ap length i.2 ∙ length-map ps part_size) i.3))
parts_fine (suc k) n (x ∷ xs) = let i = parts_fine k (suc n) xs in ((omega arith, i.0), (refl, i.1), ap (λ l. x ∷ l) i.2, (refl, i.3))

-- The setter's plain share n and its guarantee g, by the columns after both steps.
module _ {lot q s : ℕ} {xs wants gets : List ℕ} {rest : ℕ} (d : Stepped lot q s xs wants gets rest) (t : s ≡ sum xs) (k : ℕ) (h : k < length xs)
    {n : ℕ} (e : n ≡ get_or gets k 0 + turn_at 0 rest xs wants k) {g : ℕ} (f : g ≡ min (get_or xs k 0) (2 * q / 5)) where
  module _ (ps : List Part) (c : Sizes xs ps) (a : SetterAt k ps) where
    share_is : of_setter ps (lot_sharing lot q ps) ≡ n
    share_is =
        let s = total part_size ps in
        let i : k < length ps = omega (arith, sizes_length ps c) in
        rw (lots_closed lot q c.start ps c.rising (member_every (λ p. p.minimum ≡ 0) ps c.free))
        (number_at ps k a _ (length-map ps _) ∙ map_part _ ps k i ∙ sym (e ∙ rw (
          le-leb (0 - get_or xs k 0) (rest - ahead_at (get_or xs k 0) k xs wants) (omega arith),
          rest_is d t ps c,
          firsts_are d t ps c,
          wants_are d t ps c,
          c.same,
          map_part (first_step lot q s) ps k i,
          map_part (second_step lot q s) ps k i,
          map_part part_size ps k i,
          ← ahead_at_lem part_size (second_step lot q s) c.start ps c.rising k i,
        )))

    -- where plain sharing gives the setter more than the guarantee, sharing is plain
    pub plain_holds : g < n → lot_sharing lot q ps ≡ setter_sharing lot q ps
    unfolding setter_sharing
    plain_holds l =
        rw (
          lt-leb (of_setter ps (lot_sharing lot q ps)) (of_setter ps (map (guarantee q) ps)) (omega (arith, share_is, guarantee_is ps c k a q h f)),
          and_false (any is_setter ps) refl,
        )

    -- else the setter gets the guarantee
    keeps : n ≤ g → keeps_guarantee lot q ps ≡ true
    unfolding keeps_guarantee
    keeps l =
        rw (
          any_at ps k a (omega (arith, sizes_length ps c)),
          le-leb (of_setter ps (lot_sharing lot q ps)) (of_setter ps (map (guarantee q) ps)) (omega (arith, share_is, guarantee_is ps c k a q h f)),
        )

    pub beside_holds : n ≤ g → beside_setter lot q ps ≡ setter_sharing lot q ps
    unfolding setter_sharing keeps_guarantee
    beside_holds l = rw (keeps l)

    -- and the others have room for what it leaves
    others_room : 0 < lot → q ≤ s → n ≤ g → q - g ≤ s - get_or xs k 0
    others_room l b m =
        let i : s ≡ total part_size ps = t ∙ ap sum c.same ∙ total_map (λ n. n) part_size ps in
        let j : get_or xs k 0 ≡ of_setter ps (map part_size ps) = rw c.same (sym (number_at ps k a (map part_size ps) (length-map ps part_size))) in
        rw (← guarantee_is ps c k a q h f, i, j, ← others_total ps)
        (room lot q c.start ps l (omega arith) c.rising (member_every (λ p. p.minimum ≡ 0) ps c.free) (keeps m))

  pub room_is : 0 < lot → q ≤ s → n ≤ g → q - g ≤ s - get_or xs k 0
  room_is =
      let i = parts_fine k 0 xs in
      let ps = parts_from k 0 xs in
      others_room ps (record { start = 0; rising = i.0; free = every_member (λ p. p.minimum ≡ 0) ps i.1; same = i.2 }) i.3
