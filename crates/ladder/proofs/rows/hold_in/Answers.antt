-- `ladder::rows::hold_in` meets its contract: the ladder begins with the security's rows and has zeros behind them where it is its.
use Rattle.std.proofs.Common.{◌≡◌, ◌∙◌, ◌*◌, ap, arith, drop}
use Rattle.std.specs.Bool.{then_some}
use Rattle.units.specs.Lists.{all, is_zero}
use Rattle.units.proofs.Scanning.{take_rest}
use Rattle.book.specs.Lookup.{orders_for}
use Rattle.ladder.proofs.Security.{security_few}
use Rattle.ladder.proofs.Making.{keys_keyed, keys_rows, held_not, held_front}
use Rattle.ladder.proofs.rows.hold_in.Goals as goal

pub hold_rows-requires : goal.hold_rows-requires
hold_rows-requires c =
    let k = keys_keyed c.args.security c.args.book.now c.requires.is_sound c.sort_keys-orders.ensures.1 in
    (k, omega (arith, k.few, c.requires.long))

pub returns-in_err-rows : goal.returns-in_err-rows
returns-in_err-rows c =
    let few = security_few c.args.security c.args.book.now c.requires.is_sound in
    let rows_are = keys_rows c.args.security c.args.book.now c.requires.is_sound c.sort_keys-orders.ensures.1 in
    c.from_residual.ensures ∙ held_not (orders_for c.args.security c.args.book.now) few c.args.ladder.now c.requires.long (rw rows_are at c.in_err-rows.ensures)

pub overflow_mul-rows : goal.overflow_mul-rows
overflow_mul-rows c =
    let few = security_few c.args.security c.args.book.now c.requires.is_sound in
    let rows_are = keys_rows c.args.security c.args.book.now c.requires.is_sound c.sort_keys-orders.ensures.1 in
    let front = held_front (orders_for c.args.security c.args.book.now) few c.args.ladder.now c.requires.long (rw rows_are at c.in_ok-rows.ensures) in
    omega (arith, front.0)

pub slice_bounds-zeros-count : goal.slice_bounds-zeros-count
slice_bounds-zeros-count c =
    let few = security_few c.args.security c.args.book.now c.requires.is_sound in
    let rows_are = keys_rows c.args.security c.args.book.now c.requires.is_sound c.sort_keys-orders.ensures.1 in
    let front = held_front (orders_for c.args.security c.args.book.now) few c.args.ladder.now c.requires.long (rw rows_are at c.in_ok-rows.ensures) in
    omega (arith, front.0, c.requires.long)

pub slice_bounds-zeros-start : goal.slice_bounds-zeros-start
slice_bounds-zeros-start c =
    let few = security_few c.args.security c.args.book.now c.requires.is_sound in
    let rows_are = keys_rows c.args.security c.args.book.now c.requires.is_sound c.sort_keys-orders.ensures.1 in
    let front = held_front (orders_for c.args.security c.args.book.now) few c.args.ladder.now c.requires.long (rw rows_are at c.in_ok-rows.ensures) in
    omega (arith, front.0, c.requires.long)

pub returns : goal.returns
returns c =
    let few = security_few c.args.security c.args.book.now c.requires.is_sound in
    let rows_are = keys_rows c.args.security c.args.book.now c.requires.is_sound c.sort_keys-orders.ensures.1 in
    let front = held_front (orders_for c.args.security c.args.book.now) few c.args.ladder.now c.requires.long (rw rows_are at c.in_ok-rows.ensures) in
    let clear : c.zeros.result ≡ all is_zero (drop (24 * c.in_ok-rows.rows) c.args.ladder.now) =
    c.zeros.ensures ∙ ap (all is_zero) (take_rest (24 * c.in_ok-rows.rows) c.args.ladder.now) in
    c.then_some.ensures ∙ ap (λ z. then_some z c.in_ok-rows.rows) clear ∙ front.1
