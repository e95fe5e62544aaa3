-- `ladder::rows::level_at` meets its contract: the rows read so far are joined.
use Prim.Native.Nat.{◌+◌, ◌-◌, ◌<◌}
use mathlib.Core.Path.{◌≡◌, sym, ap, ◌∙◌}
use mathlib.Core.List.{[], ◌∷◌, map}
use native.Mathlib.Omega.{arith}
use native.Mathlib.Numerals.{add-one}
use lib.ListN.{length, get_or, drop, drop_of_length-le}
use lib.Seq.{drop-cons}
use Rattle.units.proofs.Members.{every_at}
use Rattle.book.specs.Sound.{orders_of, order_at}
use Rattle.book.proofs.Access.{order_at_sound}
use Rattle.ladder.specs.Key.{place_in}
use Rattle.ladder.proofs.Bytes.{Amounts, amounts_one}
use Rattle.ladder.proofs.Walking.{row_of_key, joining_first, joining_more, joining_next, joining_done}
use Rattle.ladder.proofs.rows.level_at.Goals as goal

pub row_at-row-requires : goal.row_at-row-requires
row_at-row-requires c = (c.requires.0.is_sound, every_at (λ k. place_in k < length (orders_of c.args.book.now)) c.args.keys.now c.requires.0.places c.args.from c.requires.1)

pub loop-i-init : goal.loop-i-init
loop-i-init c =
    let e : c.args.from + 1 - c.args.from ≡ 1 = omega arith in
    let next : map (row_of_key c.args.book.now) (drop c.args.from c.args.keys.now)
    ≡ row_of_key c.args.book.now (get_or c.args.keys.now c.args.from 0) ∷ map (row_of_key c.args.book.now) (drop (c.args.from + 1) c.args.keys.now) =
    rw (add-one, drop-cons c.args.keys.now c.args.from 0 c.requires.1) in (
      omega arith,
      omega (arith, c.requires.1),
      rw e
          (joining_first (next ∙ ap (λ r. r ∷ map (row_of_key c.args.book.now) (drop (c.args.from + 1) c.args.keys.now)) (sym c.row_at-row.ensures))
          (rw c.row_at-row.ensures
          (amounts_one (order_at c.args.book.now (place_in (get_or c.args.keys.now c.args.from 0)))
          (order_at_sound c.args.book.now (place_in (get_or c.args.keys.now c.args.from 0)) c.requires.0.is_sound (every_at (λ k. place_in k < length (orders_of c.args.book.now)) c.args.keys.now c.requires.0.places c.args.from c.requires.1))))),
    )

pub row_at-next-requires : goal.row_at-next-requires
row_at-next-requires c = (c.requires.0.is_sound, every_at (λ k. place_in k < length (orders_of c.args.book.now)) c.args.keys.now c.requires.0.places c.loop-i.i (omega arith))

pub returns-then-not-same_level : goal.returns-then-not-same_level
returns-then-not-same_level c =
    let next : map (row_of_key c.args.book.now) (drop c.loop-i.i c.args.keys.now)
    ≡ row_of_key c.args.book.now (get_or c.args.keys.now c.loop-i.i 0) ∷ map (row_of_key c.args.book.now) (drop (c.loop-i.i + 1) c.args.keys.now) =
    rw (add-one, drop-cons c.args.keys.now c.loop-i.i 0 c.loop-i-test.true) in
    let comes = next ∙ ap (λ r. r ∷ map (row_of_key c.args.book.now) (drop (c.loop-i.i + 1) c.args.keys.now)) (sym c.row_at-next.ensures) in
    (c.loop-i.invariant.0, c.loop-i.invariant.1, joining_next c.loop-i.invariant.2 comes (sym c.same_level.ensures ∙ c.if-not-same_level.true))

pub joined-row-requires : goal.joined-row-requires
joined-row-requires c =
    let x = c.loop-i.invariant.2.amounts in
    let amounts : Amounts 1 c.row_at-next.result =
    rw c.row_at-next.ensures
    (amounts_one (order_at c.args.book.now (place_in (get_or c.args.keys.now c.loop-i.i 0)))
    (order_at_sound c.args.book.now (place_in (get_or c.args.keys.now c.loop-i.i 0)) c.requires.0.is_sound (every_at (λ k. place_in k < length (orders_of c.args.book.now)) c.args.keys.now c.requires.0.places c.loop-i.i c.loop-i-test.true))) in (
      omega (arith, x.displayed, amounts.displayed, c.loop-i-test.true, c.requires.0.few),
      omega (arith, x.other, amounts.other, c.loop-i-test.true, c.requires.0.few),
      omega (arith, x.orders, amounts.orders, c.loop-i-test.true, c.requires.0.few),
    )

pub loop-i-preserved : goal.loop-i-preserved
loop-i-preserved c =
    let n : c.loop-i.i + 1 - c.args.from ≡ c.loop-i.i - c.args.from + 1 = omega (arith, c.loop-i.invariant.0) in
    let next : map (row_of_key c.args.book.now) (drop c.loop-i.i c.args.keys.now)
    ≡ row_of_key c.args.book.now (get_or c.args.keys.now c.loop-i.i 0) ∷ map (row_of_key c.args.book.now) (drop (c.loop-i.i + 1) c.args.keys.now) =
    rw (add-one, drop-cons c.args.keys.now c.loop-i.i 0 c.loop-i-test.true) in
    let comes = next ∙ ap (λ r. r ∷ map (row_of_key c.args.book.now) (drop (c.loop-i.i + 1) c.args.keys.now)) (sym c.row_at-next.ensures) in
    let amounts : Amounts 1 c.row_at-next.result =
    rw c.row_at-next.ensures
    (amounts_one (order_at c.args.book.now (place_in (get_or c.args.keys.now c.loop-i.i 0)))
    (order_at_sound c.args.book.now (place_in (get_or c.args.keys.now c.loop-i.i 0)) c.requires.0.is_sound (every_at (λ k. place_in k < length (orders_of c.args.book.now)) c.args.keys.now c.requires.0.places c.loop-i.i c.loop-i-test.true))) in (
      omega (arith, c.loop-i.invariant.0),
      omega arith,
      rw (n, c.joined-row.ensures) (joining_more c.loop-i.invariant.2 comes amounts (sym c.same_level.ensures ∙ c.if-not-same_level.false)),
    )

pub returns : goal.returns
returns c =
    let e : map (row_of_key c.args.book.now) (drop c.loop-i.i c.args.keys.now) ≡ [] = rw (drop_of_length-le c.args.keys.now {i = c.loop-i.i} (omega arith)) in
    let q : c.loop-i.i ≡ length c.args.keys.now = omega (arith, c.loop-i.invariant.1) in
    (omega arith, omega arith, rw q at (joining_done c.loop-i.invariant.2 e))
