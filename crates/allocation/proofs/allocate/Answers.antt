-- `allocation::allocate` meets its contract: whole groups are filled, then one is shared, while shares are left.
use Prim.Native.Nat.{◌+◌, ◌-◌, ◌≤◌}
use mathlib.Core.Path.{sym, ap, ◌∙◌}
use native.Mathlib.Omega.{arith}
use lib.ListN.{length, drop, length-drop}
use lib.Seq.{length-take-le, length_front}
use Rattle.matching.specs.declared.incoming.Incoming.{Incoming}
use Rattle.allocation.specs.Stretch.{Ends}
use Rattle.allocation.specs.Credit.{ledger}
use Rattle.allocation.proofs.Way.{way_ended, way_done, keys_rising, rest_rising, turn_within, fill_ready, turn_filled, turn_shared, turn_room, slice_book, way_share}
use Rattle.allocation.proofs.allocate.Goals as goal

pub whole-requires : goal.whole-requires
whole-requires c =
    rest_rising _ _ _ _ _ (ledger (record { incoming = c.args.incoming; count = 0 }) c.args.fills.now c.args.shown.now c.args.hidden.now) c.requires.0 c.loop-at.at

pub fill-reached-requires : goal.fill-reached-requires
fill-reached-requires c =
    fill_ready _ _ _ _ _ _ c.requires.0 c.loop-at.invariant.3 c.whole.ensures

pub returns-then-whole-keys : goal.returns-then-whole-keys
returns-then-whole-keys c =
    let way = turn_filled _ _ _ _ _ _ c.requires.0 c.loop-at.invariant.3 c.whole.ensures c.fill-reached.ensures in
    way_done _ _ _ _ _ _ way (omega (arith, c.if-whole-keys.true))

pub returns-then-left-eq0 : goal.returns-then-left-eq0
returns-then-left-eq0 c =
    let way = turn_filled _ _ _ _ _ _ c.requires.0 c.loop-at.invariant.3 c.whole.ensures c.fill-reached.ensures in
    way_ended _ _ _ _ _ _ way c.if-left-eq0.true

pub group_end-end-requires : goal.group_end-end-requires
group_end-end-requires c =
    let inside = turn_within _ _ _ _ _ _ c.requires.0 c.loop-at.invariant.3 c.whole.ensures in
    (keys_rising _ _ _ _ _ (ledger (record { incoming = c.args.incoming; count = 0 }) c.args.fills.now c.args.shown.now c.args.hidden.now) c.requires.0, omega (arith, inside, c.if-whole-keys.false))

pub returns : goal.returns
returns c = way_done _ _ _ _ _ _ c.loop-at.invariant.3 (omega arith)

pub share-reached-requires : goal.share-reached-requires
share-reached-requires c =
    let ends : Ends c.args.keys.now (c.loop-at.at + c.whole.result) c.group_end-end.result = c.group_end-end.ensures in
    let way = turn_filled _ _ _ _ _ _ c.requires.0 c.loop-at.invariant.3 c.whole.ensures c.fill-reached.ensures in
    let for_sizes : c.group_end-end.result - (c.loop-at.at + c.whole.result) ≤ length c.loop-at.sizes =
    omega (arith, c.loop-at.invariant.0, c.requires.1.sizes_long (c.loop-at.at + c.whole.result) c.group_end-end.result c.group_end-end.ensures) in
    let for_minimums : c.group_end-end.result - (c.loop-at.at + c.whole.result) ≤ length c.loop-at.minimums =
    omega (arith, c.loop-at.invariant.1, c.requires.1.minimums_long (c.loop-at.at + c.whole.result) c.group_end-end.result c.group_end-end.ensures) in
    let for_gets : c.group_end-end.result - (c.loop-at.at + c.whole.result) ≤ length c.loop-at.gets =
    omega (arith, c.loop-at.invariant.2, c.requires.1.gets_long (c.loop-at.at + c.whole.result) c.group_end-end.result c.group_end-end.ensures) in
    let slice_long =
    length-take-le (c.group_end-end.result - (c.loop-at.at + c.whole.result)) (drop (c.loop-at.at + c.whole.result) c.args.keys.now) (omega (arith, ends.within, length-drop (c.loop-at.at + c.whole.result) c.args.keys.now)) in (
      rw (ap (λ (i : Incoming). i.taker) way.credited.left) (slice_book _ _ _ _ _ (ledger (record { incoming = c.args.incoming; count = 0 }) c.args.fills.now c.args.shown.now c.args.hidden.now) c.requires.0 ends),
      record {
        for_sizes = length-take-le (c.group_end-end.result - (c.loop-at.at + c.whole.result)) c.loop-at.sizes for_sizes ∙ sym slice_long;
        for_minimums = length-take-le (c.group_end-end.result - (c.loop-at.at + c.whole.result)) c.loop-at.minimums for_minimums ∙ sym slice_long;
        for_gets = length-take-le (c.group_end-end.result - (c.loop-at.at + c.whole.result)) c.loop-at.gets for_gets ∙ sym slice_long;
      },
      (turn_shared _ _ _ _ _ _ c.requires.0 c.loop-at.invariant.3 c.whole.ensures c.fill-reached.ensures c.group_end-end.ensures (omega arith)),
      turn_room _ _ _ _ _ _ c.requires.0 c.loop-at.invariant.3 c.whole.ensures c.fill-reached.ensures ends (omega arith),
    )

pub loop-at-preserved : goal.loop-at-preserved
loop-at-preserved c =
    let way = turn_filled _ _ _ _ _ _ c.requires.0 c.loop-at.invariant.3 c.whole.ensures c.fill-reached.ensures in (
      length_front c.loop-at.sizes c.share-reached.new.sizes (c.group_end-end.result - (c.loop-at.at + c.whole.result)) c.share-reached.auto.sizes ∙ c.loop-at.invariant.0,
      length_front c.loop-at.minimums c.share-reached.new.minimums (c.group_end-end.result - (c.loop-at.at + c.whole.result)) c.share-reached.auto.minimums ∙ c.loop-at.invariant.1,
      length_front c.loop-at.gets c.share-reached.new.gets (c.group_end-end.result - (c.loop-at.at + c.whole.result)) c.share-reached.auto.gets ∙ c.loop-at.invariant.2,
      way_share _ _ _ _ _ _ c.requires.0 c.group_end-end.ensures way
          (turn_shared _ _ _ _ _ _ c.requires.0 c.loop-at.invariant.3 c.whole.ensures c.fill-reached.ensures c.group_end-end.ensures (omega arith)) c.share-reached.ensures,
    )
