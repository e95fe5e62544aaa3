-- A group that is shared in part: what `divide` is given of it, and what it gives.
use Prim.Native.Nat.{ℕ, zero, suc, ◌+◌, ◌≤◌}
use mathlib.Core.Path.{◌≡◌, refl, sym, ap, ◌∙◌}
use mathlib.Core.Bool.{Bool, true, false, false≢true}
use mathlib.Core.List.{List, [], ◌∷◌, map, map-map}
use native.Mathlib.Omega.{arith}
use lib.ListN.{length, get_or, drop, length-map, drop_of_length-le}
use Rattle.units.specs.Lists.{sum, total}
use Rattle.units.proofs.Totals.{total_map}
use Rattle.units.proofs.Members.{Every, every_member}
use Rattle.sharing.specs.declared.Rank.TheVariants.{Time, Size, Minimum}
use Rattle.sharing.specs.declared.Method.{Method}
use Rattle.sharing.specs.declared.Method.TheVariants.{InTurn, Lots, Setter}
use Rattle.sharing.specs.Rank.{Part, part_size}
use Rattle.sharing.specs.Setter.{NoMinimum}
use Rattle.sharing.specs.Method.{allot_by, is_by_lots}
use Rattle.sharing.proofs.Methods.{by_map}
use Rattle.orders.specs.declared.order.Order.{Order}
use Rattle.orders.specs.declared.order.Taker.{Taker}
use Rattle.book.specs.Sound.{orders_of, order_at}
use Rattle.book.proofs.Soundness.{OrdersSound, orders_sound}
use Rattle.book.proofs.Checking.{sound_fits}
use Rattle.book.proofs.Access.{order_here}
use Rattle.matching.specs.declared.Algorithm.{Algorithm}
use Rattle.matching.specs.declared.Algorithm.TheVariants.{PriceTime, ProRata, PriceSetter}
use Rattle.matching.specs.declared.Paragraph.{Paragraph}
use Rattle.matching.specs.declared.Paragraph.TheVariants.{Two, Three, Four, Five, Six}
use Rattle.matching.specs.Paragraph.{method_of}
use Rattle.matching.proofs.Groups.{has_no_minimum, lots_no_minimum}
use Rattle.parts.specs.Key.{group_in, shares_in}
use Rattle.dividing.specs.Group.{Division, Group, Asked, Within, part_minimum}
use Rattle.allocation.specs.Walk.{paragraph_of, part_in, shared_by}
use Rattle.allocation.specs.Sharing.{Book, minimum_in, Shared, Needed}
use Rattle.allocation.proofs.Cells.{Beside}
use Rattle.allocation.proofs.Stretches.{stretch_rising, stretch_setter, stretch_free, stretch_least, stretch_filled}
use Rattle.allocation.proofs.Setters.{first_only}

-- the orders of a book stand at their places
pub book_beside : (s : List ℕ) → Beside (order_at s) 0 (orders_of s)
book_beside s = go (length (orders_of s)) 0 (omega arith)
  where
    go : (n i : ℕ) → i + n ≡ length (orders_of s) → Beside (order_at s) i (drop i (orders_of s))
    go zero i e = rw (drop_of_length-le (orders_of s) {i = i} (omega arith)) tt
    go (suc n) i e = rw (order_here s i (omega arith)) (refl, go n (suc i) (omega arith))

-- in turn by size
abbrev by_size : Method → Bool
by_size (InTurn Time) = false
by_size (InTurn Size) = true
by_size (InTurn Minimum) = false
by_size Lots = false
by_size Setter = false

-- the paragraphs that share so have no minimum either
size_no_minimum : (alg : Algorithm) (g : Paragraph) → by_size (method_of alg g) ≡ true → has_no_minimum alg g ≡ true
size_no_minimum PriceTime g e = absurd (false≢true e)
size_no_minimum ProRata Two e = refl
size_no_minimum ProRata Three e = refl
size_no_minimum ProRata Four e = refl
size_no_minimum ProRata Five e = absurd (false≢true e)
size_no_minimum ProRata Six e = refl
size_no_minimum PriceSetter Two e = refl
size_no_minimum PriceSetter Three e = refl
size_no_minimum PriceSetter Four e = refl
size_no_minimum PriceSetter Five e = absurd (false≢true e)
size_no_minimum PriceSetter Six e = refl

-- columns made of keys, of which one is within the other
maps_within : (f g : ℕ → ℕ) (keys : List ℕ) → Every (λ k. f k ≤ g k) keys → (i : ℕ) → get_or (map f keys) i 0 ≤ get_or (map g keys) i 0
maps_within f g [] a i = omega arith
maps_within f g (k ∷ keys) a zero = a.0
maps_within f g (k ∷ keys) a (suc i) = maps_within f g keys a.1 i

module _ {s : List ℕ} {lot : ℕ} {alg : Algorithm} (t : Taker) (first : ℕ) (others : List ℕ) (bk : Book s lot alg t (first ∷ others))
    (e : Every (λ k. group_in k ≡ group_in first) others) where
  abbrev keys : List ℕ
  keys = first ∷ others

  abbrev g : Paragraph
  g = paragraph_of (group_in first)

  abbrev at : ℕ → Order
  at = order_at s

  abbrev parts : List Part
  parts = map (part_in at) keys

  os : OrdersSound (orders_of s)
  os = orders_sound s bk.is_sound

  few : length (orders_of s) ≤ 256
  few = (sound_fits s bk.is_sound).1

  free : has_no_minimum alg g ≡ true → NoMinimum parts
  free h = every_member (λ p. p.minimum ≡ 0) parts (stretch_free lot alg t at (orders_of s) os few (book_beside s) first others bk.ready e h)

  least : Every (λ k. minimum_in s k ≤ shares_in k) keys
  least = go keys (stretch_least lot alg t at (orders_of s) os few (book_beside s) first others bk.ready e)
    where
      go : (ks : List ℕ) → Every (λ p. p.minimum ≤ p.size) (map (part_in at) ks) → Every (λ k. minimum_in s k ≤ shares_in k) ks
      go [] a = tt
      go (k ∷ ks) a = (a.0, go ks a.1)

  -- What a method needs besides the sizes, in a column and a number.
  module _ (minimums : List ℕ) (setter : ℕ) where
    -- what a method asks of the group
    asked : (way : Method) → way ≡ method_of alg g → Needed s keys way minimums setter → Asked way minimums setter parts
    asked (InTurn Time) q n = n ∙ sym (map-map part_minimum (part_in at) keys)
    asked (InTurn Size) q n = free (size_no_minimum alg g (ap by_size (sym q)))
    asked (InTurn Minimum) q n = n ∙ sym (map-map part_minimum (part_in at) keys)
    asked Lots q n = free (lots_no_minimum alg g (ap is_by_lots (sym q)))
    asked Setter q n = (
      free (lots_no_minimum alg g (ap is_by_lots (sym q))),
      first_only 0 parts (stretch_rising lot alg t at (orders_of s) os few (book_beside s) first others bk.ready e)
          (stretch_setter lot alg t at (orders_of s) os few (book_beside s) first others bk.ready e) setter n,
    )

    -- each minimum is within the size
    kept : (way : Method) → Needed s keys way minimums setter → Within way minimums (map shares_in keys)
    kept (InTurn Time) n = tt
    kept (InTurn Size) n = tt
    kept (InTurn Minimum) n = λ i. rw n (maps_within (minimum_in s) shares_in keys least i)
    kept Lots n = tt
    kept Setter n = tt

    -- the group as `divide` takes it
    grouped : (way : Method) → way ≡ method_of alg g → Needed s keys way minimums setter → Group way (map shares_in keys) minimums setter parts
    grouped way q n = record {
      start = 0;
      rising = stretch_rising lot alg t at (orders_of s) os few (book_beside s) first others bk.ready e;
      sized = sym (map-map part_size (part_in at) keys);
      asked = asked way q n;
    }

  -- what it gives is what the paragraph gives
  paragraph_gives : (way : Method) → way ≡ method_of alg g → (left : ℕ) → allot_by way lot left parts ≡ shared_by at lot alg (group_in first) keys left
  unfolding shared_by
  paragraph_gives way q left = rw q

  -- which is no more than the shares left
  bounded : (left : ℕ) → sum (shared_by at lot alg (group_in first) keys left) ≤ left
  bounded left = (stretch_filled lot alg t at (orders_of s) os few (book_beside s) first others bk.ready e bk.has_lot left).within

-- The keys of a group with more than the shares left.
module _ {s keys : List ℕ} {lot : ℕ} {alg : Algorithm} (t : Taker) (bk : Book s lot alg t keys) {left : ℕ} (sh : Shared keys left) where
  bk' : Book s lot alg t (sh.first ∷ sh.others)
  bk' = rw sh.are at bk

  -- what the paragraph gives them
  abbrev shares : List ℕ
  shares = shared_by (order_at s) lot alg (group_in (get_or keys 0 0)) keys left

  pub shared_within : sum shares ≤ left
  shared_within = rw sh.are (bounded t sh.first sh.others bk' sh.same left)

  pub shared_length : length shares ≡ length keys
  unfolding shared_by
  shared_length = ap length (by_map (method_of alg (paragraph_of (group_in (get_or keys 0 0)))) lot left parts') ∙ length-map parts' _ ∙ length-map keys (part_in (order_at s))
    where
      parts' : List Part
      parts' = map (part_in (order_at s)) keys

  module _ (way : Method) (q : way ≡ method_of alg (paragraph_of (group_in (get_or keys 0 0)))) (minimums : List ℕ) (setter : ℕ) (n : Needed s keys way minimums setter)
      {sizes : List ℕ} (z : sizes ≡ map shares_in keys) where
    way_is : way ≡ method_of alg (paragraph_of (group_in sh.first))
    way_is = rw sh.are at q

    needed : Needed s (sh.first ∷ sh.others) way minimums setter
    needed = rw sh.are at n

    -- what `divide` requires
    pub divide_ready : {gets : List ℕ} {all : ℕ} → all ≡ total shares_in keys → length minimums ≡ length keys → length gets ≡ length keys
        → Division sizes minimums gets all left lot × Within way minimums sizes
    divide_ready a b c =
        let l = ap length z ∙ length-map keys shares_in in
        let m = ap sum z ∙ total_map (λ x. x) shares_in keys in (
          record {
            wanting = b ∙ sym l;
            getting = c ∙ sym l;
            totals = a ∙ sym m;
            within = omega (arith, sh.more);
            some = sh.some;
            lots = bk.has_lot;
          },
          rw (z, sh.are) (kept t sh.first sh.others bk' sh.same minimums setter way needed),
        )

    -- and what it ensures
    pub divide_gives : {gets : List ℕ} → ((ps : List Part) → Group way sizes minimums setter ps → gets ≡ allot_by way lot left ps) → gets ≡ shares
    divide_gives f =
        f (map (part_in (order_at s)) (sh.first ∷ sh.others))
        (rw (z, sh.are) (grouped t sh.first sh.others bk' sh.same minimums setter way way_is needed))
        ∙ rw sh.are (paragraph_gives t sh.first sh.others bk' sh.same way way_is left)
