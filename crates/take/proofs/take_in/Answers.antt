-- `take::take_in` meets its contract: what was allocated is the outcome, and is made.
use Prim.Native.Nat.{ℕ, ◌≤◌}
use mathlib.Core.Path.{◌≡◌, refl}
use native.Mathlib.Omega.{arith}
use lib.ListN.{length, take}
use lib.Seq.{length-take-le}
use Rattle.record.proofs.Numbers.{are_bytes}
use Rattle.orders.specs.Order.{Visibility, shown, hidden}
use Rattle.book.specs.Sound.{orders_of}
use Rattle.book.proofs.Checking.{sound_fits}
use Rattle.allocation.specs.Credit.{Ledger, ledger}
use Rattle.take.proofs.Deciding.{arranged_book, arranged_room, arranged_groups, Decided, decided}
use Rattle.take.proofs.Committing.{committed}
use Rattle.take.proofs.Idle.{idle}
use Rattle.take.proofs.take_in.Goals as goal

-- both allotments have room for the orders
room_of : (end : Ledger) (n : ℕ) → n ≤ length (end.allotment shown) → n ≤ length (end.allotment hidden) → (v : Visibility) → n ≤ length (end.allotment v)
room_of end n s h shown = s
room_of end n s h hidden = h

pub returns-then-parts-eq0 : goal.returns-then-parts-eq0
returns-then-parts-eq0 c =
    let b = are_bytes c.args.book.now (λ k. omega (arith, c.slice_known-1.given k)) in
    idle c.args.request c.args.book.now c.args.executions.now c.requires.0.in_range c.requires.0.is_sound b c.incoming_of-incoming.ensures c.from-algorithm.ensures c.round_lot-lot.ensures c.arrange-parts.ensures.1
    (rw c.if-parts-eq0.true)

pub allocate-reached-requires : goal.allocate-reached-requires
allocate-reached-requires c =
    let within : c.arrange-parts.result ≤ length c.arrange-parts.new.keys = omega (arith, c.arrange-parts.ensures.0, c.arrange-parts.auto.keys, c.requires.1.keys_long) in
    let long : length (take c.arrange-parts.result c.arrange-parts.new.keys) ≡ c.arrange-parts.result = length-take-le c.arrange-parts.result c.arrange-parts.new.keys within in
    let few : length (take c.arrange-parts.result c.arrange-parts.new.keys) ≤ 512 = omega (arith, sound_fits c.args.book.now c.requires.0.is_sound, long, c.arrange-parts.ensures.0, c.requires.0.counted) in
    let groups = arranged_groups c.args.request c.args.book.now c.requires.0.in_range c.requires.0.is_sound c.incoming_of-incoming.ensures c.from-algorithm.ensures c.round_lot-lot.ensures c.arrange-parts.ensures.1 few in (
      arranged_book c.args.request c.args.book.now c.requires.0.in_range c.requires.0.is_sound c.incoming_of-incoming.ensures c.from-algorithm.ensures c.round_lot-lot.ensures c.arrange-parts.ensures.1 few,
      record {
        sizes_long = λ from end g. omega (arith, groups from end g, c.requires.0.counted, c.requires.1.sizes_long);
        minimums_long = λ from end g. omega (arith, groups from end g, c.requires.0.counted, c.requires.1.minimums_long);
        gets_long = λ from end g. omega (arith, groups from end g, c.requires.0.counted, c.requires.1.gets_long);
      },
      arranged_room c.args.request c.args.book.now c.requires.0.in_range c.requires.0.is_sound c.incoming_of-incoming.ensures c.from-algorithm.ensures c.round_lot-lot.ensures c.arrange-parts.ensures.1 few
          (omega (arith, long, c.arrange-parts.ensures.0, c.requires.1.spare_long, c.arrange-parts.auto.spare)) (λ v. omega (arith, c.requires.0.counted, c.requires.1.allotment_long v)) c.requires.1.nothing,
    )

pub commit-requires : goal.commit-requires
commit-requires c =
    let within : c.arrange-parts.result ≤ length c.arrange-parts.new.keys = omega (arith, c.arrange-parts.ensures.0, c.arrange-parts.auto.keys, c.requires.1.keys_long) in
    let long : length (take c.arrange-parts.result c.arrange-parts.new.keys) ≡ c.arrange-parts.result = length-take-le c.arrange-parts.result c.arrange-parts.new.keys within in
    let few : length (take c.arrange-parts.result c.arrange-parts.new.keys) ≤ 512 = omega (arith, sound_fits c.args.book.now c.requires.0.is_sound, long, c.arrange-parts.ensures.0, c.requires.0.counted) in
    let room_shown : length (orders_of c.args.book.now) ≤ length c.allocate-reached.new.shown =
    omega (arith, c.requires.0.counted, c.requires.1.allotment_long shown, c.allocate-reached.auto.shown) in
    let room_hidden : length (orders_of c.args.book.now) ≤ length c.allocate-reached.new.hidden =
    omega (arith, c.requires.0.counted, c.requires.1.allotment_long hidden, c.allocate-reached.auto.hidden) in
    let done : Decided c.args.request c.args.book.now (ledger c.allocate-reached.result c.allocate-reached.new.fills c.allocate-reached.new.shown c.allocate-reached.new.hidden) =
    decided c.args.request c.args.book.now c.requires.0.in_range c.requires.0.is_sound c.incoming_of-incoming.ensures c.from-algorithm.ensures c.round_lot-lot.ensures c.arrange-parts.ensures.1 few {end = (ledger c.allocate-reached.result c.allocate-reached.new.fills c.allocate-reached.new.shown c.allocate-reached.new.hidden)} c.requires.1.nothing (room_of (ledger c.allocate-reached.result c.allocate-reached.new.fills c.allocate-reached.new.shown c.allocate-reached.new.hidden) _ room_shown room_hidden) c.allocate-reached.ensures in (
      c.requires.0.is_sound,
      c.requires.0.counted,
      done.places,
      omega (arith, done.few, length-take-le c.allocate-reached.result.count c.allocate-reached.new.fills done.fits),
      omega (arith, c.requires.0.counted, room_shown),
      omega (arith, c.requires.0.counted, room_hidden),
    )

pub returns : goal.returns
returns c =
    let within : c.arrange-parts.result ≤ length c.arrange-parts.new.keys = omega (arith, c.arrange-parts.ensures.0, c.arrange-parts.auto.keys, c.requires.1.keys_long) in
    let long : length (take c.arrange-parts.result c.arrange-parts.new.keys) ≡ c.arrange-parts.result = length-take-le c.arrange-parts.result c.arrange-parts.new.keys within in
    let few : length (take c.arrange-parts.result c.arrange-parts.new.keys) ≤ 512 = omega (arith, sound_fits c.args.book.now c.requires.0.is_sound, long, c.arrange-parts.ensures.0, c.requires.0.counted) in
    let room_shown : length (orders_of c.args.book.now) ≤ length c.allocate-reached.new.shown =
    omega (arith, c.requires.0.counted, c.requires.1.allotment_long shown, c.allocate-reached.auto.shown) in
    let room_hidden : length (orders_of c.args.book.now) ≤ length c.allocate-reached.new.hidden =
    omega (arith, c.requires.0.counted, c.requires.1.allotment_long hidden, c.allocate-reached.auto.hidden) in
    let done : Decided c.args.request c.args.book.now (ledger c.allocate-reached.result c.allocate-reached.new.fills c.allocate-reached.new.shown c.allocate-reached.new.hidden) =
    decided c.args.request c.args.book.now c.requires.0.in_range c.requires.0.is_sound c.incoming_of-incoming.ensures c.from-algorithm.ensures c.round_lot-lot.ensures c.arrange-parts.ensures.1 few {end = (ledger c.allocate-reached.result c.allocate-reached.new.fills c.allocate-reached.new.shown c.allocate-reached.new.hidden)} c.requires.1.nothing (room_of (ledger c.allocate-reached.result c.allocate-reached.new.fills c.allocate-reached.new.shown c.allocate-reached.new.hidden) _ room_shown room_hidden) c.allocate-reached.ensures in
    committed c.args.request c.args.book.now c.args.executions.now c.requires.0.in_range c.requires.0.is_sound done c.requires.0.counted refl c.commit.ensures.refused c.commit.ensures.made
