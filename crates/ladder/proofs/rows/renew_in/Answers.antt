-- `ladder::rows::renew_in` meets its contract: the keys in order give the security's rows, and zeros stand or come behind them.
use Prim.Native.Nat.{◌*◌, ◌≤◌}
use mathlib.Core.Path.{◌≡◌, ap, ◌∙◌}
use mathlib.Core.List.{◌++◌}
use native.Mathlib.Omega.{arith}
use lib.ListN.{length, drop}
use Rattle.units.specs.Lists.{flat_map}
use Rattle.book.specs.Lookup.{orders_for}
use Rattle.ladder.specs.Row.{encode_row}
use Rattle.ladder.specs.Rows.{rows_of}
use Rattle.ladder.proofs.Security.{security_few}
use Rattle.ladder.proofs.Making.{keys_keyed, keys_rows, made_more, made_fewer}
use Rattle.ladder.proofs.rows.renew_in.Goals as goal

pub write_rows-count-requires : goal.write_rows-count-requires
write_rows-count-requires c =
    let k = keys_keyed c.args.security c.args.book.now c.requires.0.is_sound c.sort_keys-orders.ensures.1 in
    (k, omega (arith, k.few, c.requires.0.long))

pub returns-then-count-rows : goal.returns-then-count-rows
returns-then-count-rows c =
    let few : length (orders_for c.args.security c.args.book.now) ≤ 256 = security_few c.args.security c.args.book.now c.requires.0.is_sound in
    let rows_are = keys_rows c.args.security c.args.book.now c.requires.0.is_sound c.sort_keys-orders.ensures.1 in
    let counted : c.write_rows-count.result ≡ length (rows_of (orders_for c.args.security c.args.book.now)) = c.write_rows-count.ensures.0 ∙ ap length rows_are in
    let fronted =
    c.write_rows-count.ensures.1
    ∙ ap (λ rs. flat_map encode_row rs ++ drop (24 * c.write_rows-count.result) c.args.ladder.now) rows_are in
    c.clear.ensures
    ∙ made_fewer (orders_for c.args.security c.args.book.now) few counted c.requires.1 c.args.ladder.now c.requires.2 fronted (omega arith)

pub returns-else-count-rows : goal.returns-else-count-rows
returns-else-count-rows c =
    let few : length (orders_for c.args.security c.args.book.now) ≤ 256 = security_few c.args.security c.args.book.now c.requires.0.is_sound in
    let rows_are = keys_rows c.args.security c.args.book.now c.requires.0.is_sound c.sort_keys-orders.ensures.1 in
    let counted : c.write_rows-count.result ≡ length (rows_of (orders_for c.args.security c.args.book.now)) = c.write_rows-count.ensures.0 ∙ ap length rows_are in
    let fronted =
    c.write_rows-count.ensures.1
    ∙ ap (λ rs. flat_map encode_row rs ++ drop (24 * c.write_rows-count.result) c.args.ladder.now) rows_are in
    made_more (orders_for c.args.security c.args.book.now) few counted c.requires.1 c.args.ladder.now c.requires.2 fronted c.if-count-rows.false
