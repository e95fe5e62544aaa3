-- The orders of a security in a sound book: each is sound, and they are at most 256.
use Prim.Native.Nat.{ℕ, ◌≤◌}
use mathlib.Core.Path.{◌≡◌}
use mathlib.Core.Bool.{true}
use mathlib.Core.List.{List}
use native.Mathlib.Omega.{arith}
use lib.ListN.{length}
use Rattle.units.proofs.Members.{Every, every_member, member_every, filter_member, filter_fewer}
use Rattle.orders.specs.Trading.{of_security}
use Rattle.record.proofs.Orders.{OrderSound}
use Rattle.book.specs.Sound.{sound, orders_of}
use Rattle.book.specs.Lookup.{orders_for}
use Rattle.book.proofs.Soundness.{orders_sound}
use Rattle.book.proofs.Checking.{sound_fits}

module _ (j : ℕ) (s : List ℕ) (f : sound s ≡ true) where
  pub security_few : length (orders_for j s) ≤ 256
  security_few = omega (arith, filter_fewer (of_security j) (orders_of s), (sound_fits s f).1)

  pub security_sound : Every OrderSound (orders_for j s)
  security_sound =
      member_every OrderSound (orders_for j s) (λ o m. every_member OrderSound (orders_of s) (orders_sound s f).each o (filter_member (of_security j) (orders_of s) o m).0)
