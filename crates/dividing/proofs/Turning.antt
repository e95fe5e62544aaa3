-- From columns to parts: rounds by size, by minimum and by time.
use Prim.Native.Nat.{ℕ, zero, suc, ◌+◌, ◌-◌, ◌≤◌, ◌<◌}
use mathlib.Core.Path.{◌≡◌, refl, sym, ap, ◌∙◌}
use mathlib.Core.Bool.{Bool, true, false, not, ◌&&◌, ◌||◌, or-false}
use mathlib.Core.List.{List, [], ◌∷◌, map, map-map}
use native.Mathlib.Omega.{arith}
use native.Mathlib.Nat.{zero-add, add-zero}
use lib.Dec.{leb, ltb}
use lib.ListN.{length, get_or, replicate, length-map, length-replicate}
use lib.Seq.{ext_get_or}
use borrow.Author.Tests.{ltb-true, ltb-false, lt-ltb, le-ltb, eq-eqb, ne_eqb, le-leb, lt-leb}
use Rattle.units.specs.Lists.{or_zero, zip_with}
use Rattle.units.proofs.Tests.{and_false}
use Rattle.units.proofs.Members.{Every, every_member, member_every, every_weaken}
use Rattle.units.proofs.Totals.{map_same, total_same}
use Rattle.sharing.specs.declared.Rank.TheVariants.{Time, Minimum}
use Rattle.sharing.specs.declared.Method.TheVariants.{InTurn}
use Rattle.sharing.specs.Rank.{Part, no_part, part_size, by_time, larger, smaller_minimum, place, ranked, Rising}
use Rattle.sharing.specs.Round.{taking, goes_round, round}
use Rattle.sharing.proofs.Ranks.{by_size, rising_above}
use Rattle.sharing.proofs.Turns.{takes, absent}
use Rattle.sharing.proofs.Closed.{ahead, round_closed, minimum_closed}
use Rattle.dividing.specs.Columns.{Sizes, above, ahead_at, may_take, in_order, Served}
use Rattle.dividing.specs.Group.{Group, part_minimum}
use Rattle.dividing.proofs.Walking.{never, zip_at, zip_long}

-- the part at a place
abbrev pub part_at : ℕ → List Part → Part
part_at k ps = get_or ps k (no_part 0)

pub map_part : (f : Part → ℕ) (ps : List Part) (k : ℕ) → k < length ps → get_or (map f ps) k 0 ≡ f (part_at k ps)
map_part f [] k h = absurd (never h)
map_part f (p ∷ ps) zero h = refl
map_part f (p ∷ ps) (suc k) h = map_part f ps k (omega arith)

-- what holds of every part holds of the one at a place
every_at : (P : Part → Type 0) (ps : List Part) → Every P ps → (k : ℕ) → k < length ps → P (part_at k ps)
every_at P [] e k h = absurd (never h)
every_at P (p ∷ ps) e zero h = e.0
every_at P (p ∷ ps) e (suc k) h = every_at P ps e.1 k (omega arith)

-- the larger key has its turn first
abbrev by_key : (Part → ℕ) → Part → Part → Bool
by_key key a b = ltb (key b) (key a)

-- between an earlier and a later part an equal key is enough
earlier : (x y : ℕ) → ltb x y || (not (ltb y x) && true) ≡ leb x y
earlier x y = go (ltb x y) refl (ltb y x) refl
  where
    go : (b : Bool) → ltb x y ≡ b → (c : Bool) → ltb y x ≡ c → b || (not c && true) ≡ leb x y
    go true e c f = let l = ltb-true x y e in sym (le-leb x y (omega arith))
    go false e true f = sym (lt-leb x y (ltb-true y x f))
    go false e false f = sym (le-leb x y (ltb-false y x f))

module _ (key want : Part → ℕ) where
  behind : (p : Part) (qs : List Part) → Every (λ q. p.number < q.number) qs → ahead (by_key key) want p qs ≡ above (key p) (map key qs) (map want qs)
  behind p [] a = refl
  behind p (q ∷ qs) a =
      let l = a.0 in
      rw (le-ltb q.number p.number (omega arith), and_false (not (ltb (key q) (key p))) refl, or-false (ltb (key p) (key q)))
      (ap (λ n. or_zero (ltb (key p) (key q)) (want q) + n) (behind p qs a.1))

  -- those with an earlier turn, by place
  pub ahead_at_lem : (m : ℕ) (ps : List Part) → Rising m ps → (k : ℕ) → k < length ps
      → ahead (by_key key) want (part_at k ps) ps ≡ ahead_at (key (part_at k ps)) k (map key ps) (map want ps)
  ahead_at_lem m [] r k h = absurd (never h)
  ahead_at_lem m (p ∷ ps) r zero h =
      rw (le-ltb (key p) (key p) (omega arith), le-ltb p.number p.number (omega arith))
      (ap (λ n. 0 + n) (behind p ps (rising_above p.number ps r.1)))
  ahead_at_lem m (p ∷ ps) r (suc k) h =
      let l : k < length ps = omega arith in
      let n = every_at (λ q. p.number < q.number) ps (rising_above p.number ps r.1) k l in
      rw (lt-ltb p.number (part_at k ps).number n, earlier (key (part_at k ps)) (key p))
      (ap (λ n. or_zero (leb (key (part_at k ps)) (key p)) (want p) + n) (ahead_at_lem p.number ps r.1 k l))

  -- what each has, part by part
  served_parts : (top rest m : ℕ) (ps : List Part) → Rising m ps → Every (λ p. p.minimum ≡ top - key p) ps → {had has : List ℕ} → length had ≡ length ps
      → Served top rest (map key ps) (map want ps) had has → has ≡ zip_with ◌+◌ had (map (λ p. taking want (rest - ahead (by_key key) want p ps) p) ps)
  served_parts top rest m ps r least {had} {has} l s =
      let shares = map (λ p. taking want (rest - ahead (by_key key) want p ps) p) ps in
      let n : length shares ≡ length had = length-map ps _ ∙ sym l in
      ext_get_or 0 has (zip_with ◌+◌ had shares) (s.long ∙ sym (zip_long ◌+◌ had shares n)) (λ i h.
      let j : i < length ps = omega (arith, s.long) in
      s.each i (omega (arith, s.long))
      ∙ rw (
        zip_at ◌+◌ had shares i (omega (arith, s.long)) (omega (arith, s.long)),
        map_part (λ p. taking want (rest - ahead (by_key key) want p ps) p) ps i j,
        ahead_at_lem m ps r i j,
        every_at (λ p. p.minimum ≡ top - key p) ps least i j,
        map_part key ps i j,
        map_part want ps i j,
      ))

-- a round of parts without minimums, largest first
pub size_round : (want : Part → ℕ) (ps : List Part) (rest : ℕ) {xs ws had has : List ℕ} → Sizes xs ps → ws ≡ map want ps → length had ≡ length xs
    → Served 0 rest xs ws had has → has ≡ zip_with ◌+◌ had (round larger want rest ps)
size_round want ps rest {xs} {ws} {had} {has} c w l s =
    let z = member_every (λ p. p.minimum ≡ 0) ps c.free in
    rw (round_closed larger by_size want c.start ps c.rising z rest)
    (served_parts part_size want 0 rest c.start ps c.rising (every_weaken (λ p (e : p.minimum ≡ 0). omega arith) ps z)
    (l ∙ ap length c.same ∙ length-map ps part_size) (rw (c.same, w) at s)
    ∙ ap (λ ns. zip_with ◌+◌ had ns) (map_same ps (λ p i. takes want (rest - ahead larger want p ps) p (c.free p i))))

-- a column on top of nothing
on_nothing : (n : ℕ) (ns : List ℕ) → length ns ≡ n → zip_with ◌+◌ (replicate n 0) ns ≡ ns
on_nothing zero [] e = refl
on_nothing zero (m ∷ ns) e = absurd (never {k = length ns} (omega arith))
on_nothing (suc n) [] e = absurd (never {k = n} (omega arith))
on_nothing (suc n) (m ∷ ns) e = let a = zero-add m in let b = on_nothing n ns (omega arith) in cc

-- a round on top of nothing
alone : (f : Part → ℕ) (ps : List Part) (n : ℕ) → n ≡ length ps → zip_with ◌+◌ (replicate n 0) (map f ps) ≡ map f ps
alone f ps n l = on_nothing n (map f ps) (length-map ps f ∙ sym l)

pub size_alone : (ps : List Part) (left n : ℕ) {xs has : List ℕ} → Sizes xs ps → n ≡ length xs
    → Served 0 left xs xs (replicate n 0) has → has ≡ round larger part_size left ps
unfolding round
size_alone ps left n c l s =
    size_round part_size ps left c c.same (length-replicate n 0 ∙ l) s ∙ alone _ ps n (l ∙ ap length c.same ∙ length-map ps part_size)

-- keys turned over
turned : (top a b : ℕ) → a ≤ top → b ≤ top → ltb (top - b) (top - a) ≡ ltb a b
turned top a b h k = go (ltb a b) refl
  where
    go : (c : Bool) → ltb a b ≡ c → ltb (top - b) (top - a) ≡ c
    go true e = let l = ltb-true a b e in lt-ltb (top - b) (top - a) (omega arith)
    go false e = let l = ltb-false a b e in le-ltb (top - b) (top - a) (omega arith)

most_every : (top : ℕ) (ps : List Part) → ((i : ℕ) → get_or (map part_minimum ps) i 0 ≤ top) → Every (λ p. p.minimum ≤ top) ps
most_every top [] h = tt
most_every top (p ∷ ps) h = (h 0, most_every top ps (λ i. h (suc i)))

-- a key turned over once more is the minimum
pub turned_fits : (top : ℕ) (ms : List ℕ) (most : ℕ → ℕ) → ((i : ℕ) → get_or ms i 0 ≤ top) → ((i : ℕ) → get_or ms i 0 ≤ most i)
    → {ks : List ℕ} → ks ≡ map (λ x. top - x) ms → (i : ℕ) → i < length ks → top - get_or ks i 0 ≤ most i
turned_fits top [] most h f e i l = absurd (never {k = i} (rw e at l))
turned_fits top (m ∷ ms) most h f e zero l = rw e (omega (arith, h 0, f 0))
turned_fits top (m ∷ ms) most h f e (suc i) l =
    let n : suc i < length (map (λ x. top - x) (m ∷ ms)) = rw e at l in
    rw e (turned_fits top ms (λ j. most (suc j)) (λ j. h (suc j)) (λ j. f (suc j)) refl i (omega arith))

-- a round, the smallest minimum first
pub minimum_alone : (top k : ℕ) (ps : List Part) (left many : ℕ) {xs ms has : List ℕ} → Group (InTurn Minimum) xs ms k ps
    → ((i : ℕ) → get_or ms i 0 ≤ top) → many ≡ length xs → Served top left (map (λ x. top - x) ms) xs (replicate many 0) has
    → has ≡ round smaller_minimum part_size left ps
minimum_alone top k ps left many g h l s =
    let n = l ∙ ap length g.sized ∙ length-map ps part_size in
    let most = most_every top ps (rw g.asked at h) in
    rw (minimum_closed part_size g.start ps g.rising left)
    (served_parts (λ p. top - p.minimum) part_size top left g.start ps g.rising
    (every_weaken (λ p (e : p.minimum ≤ top). omega arith) ps most) (length-replicate many 0 ∙ n)
    (rw (g.asked, g.sized, map-map (λ x. top - x) part_minimum ps) at s)
    ∙ alone _ ps many n
    ∙ map_same ps (λ p i. ap (λ n. taking part_size (left - n) p) (total_same ps (λ q j.
    let a = every_member (λ p. p.minimum ≤ top) ps most p i in
    let b = every_member (λ p. p.minimum ≤ top) ps most q j in
    rw (turned top q.minimum p.minimum b a, turned top p.minimum q.minimum a b)))))

place_time : (p : Part) (ps : List Part) → place by_time p ps ≡ p ∷ ps
place_time p [] = refl
place_time p (q ∷ ps) = refl

-- by time the parts stand in their order
ranked_time : (ps : List Part) → ranked by_time ps ≡ ps
ranked_time [] = refl
ranked_time (p ∷ ps) = ap (place by_time p) (ranked_time ps) ∙ place_time p ps

in_order_lem : (m : ℕ) (ps : List Part) → Rising m ps → (left : ℕ)
    → in_order may_take left (map part_minimum ps) (map part_size ps) ≡ map (λ p. goes_round part_size left ps p.number) ps
unfolding in_order goes_round
in_order_lem m [] r left = refl
in_order_lem m (p ∷ ps) r left =
    let x = taking part_size left p in
    let a = rising_above p.number ps r.1 in
    let differ = every_weaken {Q = λ q. p.number ≡ q.number → ⊥} (λ q (l : p.number < q.number) e. omega arith) ps a in
    let first : goes_round part_size left (p ∷ ps) p.number ≡ x =
    rw (eq-eqb p.number p.number refl, absent part_size p.number ps differ (left - x)) (add-zero x) in
    let later = in_order_lem p.number ps r.1 (left - x) ∙ map_same {g = λ q. goes_round part_size left (p ∷ ps) q.number} ps (λ q i.
    sym (rw (ne_eqb p.number q.number (every_member (λ q. p.number ≡ q.number → ⊥) ps differ q i)) (zero-add _))) in
    ap (λ n. n ∷ in_order may_take (left - x) (map part_minimum ps) (map part_size ps)) (sym first) ∙ ap (λ l. goes_round part_size left (p ∷ ps) p.number ∷ l) later

-- a round by time
pub time_alone : (k : ℕ) (ps : List Part) (left : ℕ) {xs ms has : List ℕ} → Group (InTurn Time) xs ms k ps → has ≡ in_order may_take left ms xs
    → has ≡ round by_time part_size left ps
unfolding round
time_alone k ps left g e = e ∙ rw (g.asked, g.sized, ranked_time ps) (in_order_lem g.start ps g.rising left)
