-- The securities of sound records, and that where records are sound their orders have none but these.
use Prim.Native.Nat.{ℕ}
use mathlib.Core.Path.{◌≡◌, refl}
use mathlib.Core.Bool.{Bool, true, false, ◌&&◌}
use mathlib.Core.List.{List, [], ◌∷◌, map}
use native.Mathlib.Omega.{arith}
use Rattle.units.specs.Lists.{all}
use Rattle.units.proofs.Tests.{and_true, true_and}
use Rattle.units.proofs.Facts.{true_range}
use Rattle.record.specs.Record.{decode_order, record_sound}
use Rattle.record.proofs.Orders.{order_facts}
use Rattle.record.proofs.Records.{new_laws, order_sound}
use Rattle.book.specs.Sound.{form, setters_sound, first_records, first_orders}
use Rattle.lookup.specs.Setters.{has_security}

-- sound records are of securities that there are
have_securities : (rs : List (List ℕ)) → all (record_sound form) rs ≡ true → all has_security (map (decode_order form) rs) ≡ true
have_securities [] e = refl
have_securities (r ∷ rs) e =
    let a = and_true (record_sound form r) (all (record_sound form) rs) e in
    let o = decode_order form r in
    let m = (order_facts o (order_sound form new_laws r a.0)).security_most in
    true_and (true_range 0 1 o.security (omega arith) m) (have_securities rs a.1)

-- among tests of which the first asks for sound records, marks need to be looked at for these alone
pub apart_where : (n : ℕ) (s : List ℕ) (x : Bool) → (all has_security (first_orders n s) ≡ true → x ≡ setters_sound (first_orders n s)) → (z r : Bool)
    → (all (record_sound form) (first_records form n s) && z && r && x) ≡ (all (record_sound form) (first_records form n s) && z && r && setters_sound (first_orders n s))
apart_where n s x h z r = go (all (record_sound form) (first_records form n s)) refl
  where
    go : (b : Bool) → all (record_sound form) (first_records form n s) ≡ b → (b && z && r && x) ≡ (b && z && r && setters_sound (first_orders n s))
    go true e = rw (h (have_securities (first_records form n s) e))
    go false e = refl
