-- `entry::admission::decide` meets its contract, refusal by refusal.
use Prim.Native.Nat.{◌≤◌}
use mathlib.Core.Path.{◌≡◌, sym, ap, ◌∙◌}
use mathlib.Core.Bool.{false, ◌&&◌}
use native.Mathlib.Omega.{arith}
use lib.Dec.{leb}
use Rattle.units.specs.Lots.{round_lot}
use Rattle.units.proofs.Facts.{at_most}
use Rattle.orders.specs.Order.{is_displayed, interest_of, all_shares}
use Rattle.book.specs.Sound.{capacity_of}
use Rattle.book.proofs.Checking.{sound_fits}
use Rattle.entry.specs.Add.{requested}
use Rattle.entry.proofs.Asking.{asked}
use Rattle.entry.proofs.AddPlan.{stale_refused, trades_refused, full_refused, order_admitted}
use Rattle.entry.proofs.admission.decide.Goals as goal
use Rattle.entry.proofs.admission.decide.Goals.{Then-trades, Then-book-n, After-requested}

pub standing_in-stale-requires : goal.standing_in-stale-requires
standing_in-stale-requires c = (
  omega (arith, sound_fits c.args.book.now c.requires.1),
  sym (asked c.args.request c.requires.0).shares ∙ ap (λ o. all_shares (interest_of o)) (sym c.requested-new.ensures),
)

pub returns-then-stale : goal.returns-then-stale
returns-then-stale c =
    stale_refused c.args.request c.args.book.now c.requires.0 c.requires.1 _ c.requires.2 _ c.requested-new.ensures _
    c.standing_in-stale.ensures c.if-stale.true

-- an order that could trade, and isn't refused before that, has a new number
fresh : (c : Then-trades) → c.standing_in-stale.result.stale ≡ false
fresh c = grind arith

pub returns-then-trades : goal.returns-then-trades
returns-then-trades c =
    trades_refused c.args.request c.args.book.now c.requires.0 c.requires.1 _ c.requires.2 _ c.requested-new.ensures _
    c.standing_in-stale.ensures (fresh c) c.if-trades.true

-- there is no free record
full : (c : Then-book-n) → capacity_of c.args.book.now ≤ c.args.n
full c = c.if-book-n.true

pub returns-then-book-n : goal.returns-then-book-n
returns-then-book-n c =
    full_refused c.args.request c.args.book.now c.requires.0 c.requires.1 _ c.requires.2 _ c.requested-new.ensures _
    c.standing_in-stale.ensures c.if-stale.false c.if-trades.false (full c)

-- the order that comes in is marked where it sets the price
marked : (c : After-requested) → c.requested.result ≡ requested c.args.request
    (is_displayed c.requested-new.result.kind && leb round_lot (interest_of c.requested-new.result).displayed && c.standing_in-stale.result.beats)
unfolding requested
marked c =
    let k = c.is_displayed.ensures c.args.request.minimum c.args.request.hidden c.args.request.refresh
    ∙ ap (λ o. is_displayed o.kind) (sym c.requested-new.ensures) in
    rw (k, c.le.ensures, at_most c.round_lot-lot.result.0 c.displayed.result.0, c.displayed.ensures, c.round_lot-lot.ensures) at c.requested.ensures

pub returns : goal.returns
returns c =
    order_admitted c.args.request c.args.book.now c.requires.0 c.requires.1 _ c.requires.2 _ c.requested-new.ensures _
    c.standing_in-stale.ensures c.if-stale.false c.if-trades.false c.if-book-n.false _ (marked c)
