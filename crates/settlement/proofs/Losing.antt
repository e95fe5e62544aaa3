-- An order that loses nothing, in its record.
use Prim.Native.Nat.{ℕ}
use mathlib.Core.Path.{◌≡◌, sym}
use mathlib.Core.Bool.{true, false, ◌||◌}
use mathlib.Core.List.{List}
use native.Mathlib.Omega.{arith}
use lib.ListN.{take, drop, length-drop}
use lib.Seq.{length-take-le}
use lib.Dec.{ltb}
use borrow.Author.Tests.{ltb-false}
use Rattle.units.proofs.Tests.{or_false}
use Rattle.orders.specs.Order.{is_resting}
use Rattle.record.specs.Codec.{replaced}
use Rattle.record.specs.Record.{encode_order, decode_order}
use Rattle.record.proofs.Numbers.{AreBytes, bytes_take, bytes_drop}
use Rattle.record.proofs.Orders.{OrderSound}
use Rattle.record.proofs.Pasting.{replaced_same}
use Rattle.record.proofs.Records.{new_laws, encode_order_lem, order_sound}
use Rattle.record.proofs.Settling.{settled_nothing, sound_rests}
use Rattle.book.specs.Sound.{form}
use Rattle.settlement.specs.Losing.{RecordAt, left_at}

module _ (s : List ℕ) (at x y : ℕ) (h : RecordAt s at) (n : (ltb 0 x || ltb 0 y) ≡ false) where
  here : OrderSound (decode_order form (take 40 (drop at s)))
  here = order_sound form new_laws (take 40 (drop at s)) h.1

  -- it is as it was
  same : left_at s at x y ≡ decode_order form (take 40 (drop at s))
  same =
      let t = or_false (ltb 0 x) (ltb 0 y) n in
      let f : x ≡ 0 = omega (arith, ltb-false 0 x t.0) in
      let g : y ≡ 0 = omega (arith, ltb-false 0 y t.1) in
      rw (f, g) (settled_nothing (decode_order form (take 40 (drop at s))) here)

  -- it still rests
  pub rests_same : is_resting (left_at s at x y) ≡ true
  rests_same = rw same (sound_rests (decode_order form (take 40 (drop at s))) here)

  -- its record is what is there
  pub record_same : AreBytes s → take 40 (drop at s) ≡ encode_order form (left_at s at x y)
  record_same z =
      let r = take 40 (drop at s) in
      let l = length-take-le 40 (drop at s) (omega (arith, length-drop at s, h.0)) in
      rw same (sym (encode_order_lem form new_laws r h.1 (bytes_take 40 (drop at s) (bytes_drop at s z)) l))

  -- and stays so in its place
  pub bytes_same : AreBytes s → s ≡ replaced at (encode_order form (left_at s at x y)) s
  bytes_same z = rw (← record_same z) (sym (replaced_same at 40 s h.0))
