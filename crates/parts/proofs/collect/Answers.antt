-- `parts::collect` meets its contract: the parts written so far, and those of the orders that are left, are the parts of all.
use Prim.Native.Nat.{◌+◌, ◌<◌}
use mathlib.Core.Path.{sym, ap, ◌∙◌}
use mathlib.Core.List.{◌++◌, append-nil}
use native.Mathlib.Omega.{arith}
use lib.ListN.{length, take, drop}
use Rattle.record.specs.Names.{named_numbers}
use Rattle.book.specs.Sound.{orders_of, order_at}
use Rattle.book.proofs.Checking.{sound_fits}
use Rattle.book.proofs.Access.{order_at_sound, numbers_here}
use Rattle.parts.specs.Parts.{keys_from}
use Rattle.parts.proofs.Keeping.{parts_more, parts_done}
use Rattle.parts.proofs.collect.Goals as goal

pub overflow_mul-i : goal.overflow_mul-i
overflow_mul-i c = omega (arith, sound_fits c.args.book.now c.requires.0)

pub numbers_at-numbers-requires : goal.numbers_at-numbers-requires
numbers_at-numbers-requires c =
    omega (arith, sound_fits c.args.book.now c.requires.0)

pub write_parts-count-requires : goal.write_parts-count-requires
write_parts-count-requires c =
    let h : c.loop-i.i < length (orders_of c.args.book.now) = omega arith in (
      omega (arith, sound_fits c.args.book.now c.requires.0),
      (order_at c.args.book.now c.loop-i.i, order_at_sound c.args.book.now c.loop-i.i c.requires.0 h, c.numbers_at-numbers.ensures ∙ ap named_numbers (numbers_here c.args.book.now c.loop-i.i c.requires.0 h)),
      omega (arith, c.loop-i.invariant.0, c.loop-i.invariant.1, c.requires.2),
    )

pub loop-i-preserved : goal.loop-i-preserved
loop-i-preserved c =
    let o = order_at c.args.book.now c.loop-i.i in
    let h : c.loop-i.i < length (orders_of c.args.book.now) = omega arith in
    let e = c.numbers_at-numbers.ensures ∙ ap named_numbers (numbers_here c.args.book.now c.loop-i.i c.requires.0 h) in (
      c.write_parts-count.ensures.0 ∙ c.loop-i.invariant.0,
      omega (arith, c.write_parts-count.ensures.1, c.loop-i.invariant.1),
      let rest = keys_from c.args.lot.0 c.args.algorithm c.args.incoming (c.loop-i.i + 1) (drop (c.loop-i.i + 1) (orders_of c.args.book.now)) in
          c.write_parts-count.ensures.2 o c.args.algorithm rest (order_at_sound c.args.book.now c.loop-i.i c.requires.0 h) e c.paragraph_numbers.ensures.1
          ∙ ap (λ ks. take c.loop-i.count c.loop-i.keys ++ ks) (sym (parts_more c.args.lot.0 c.args.algorithm c.args.incoming c.args.book.now c.loop-i.i h))
          ∙ c.loop-i.invariant.2,
    )

pub returns : goal.returns
returns c =
    let d = parts_done c.args.lot.0 c.args.algorithm c.args.incoming c.args.book.now c.loop-i.i (omega arith) in (
      omega (arith, c.loop-i.invariant.1),
      sym (append-nil (take c.loop-i.count c.loop-i.keys))
          ∙ ap (λ ks. take c.loop-i.count c.loop-i.keys ++ ks) (sym d)
          ∙ c.loop-i.invariant.2,
    )
