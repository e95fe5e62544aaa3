-- Arrays of zeros, and memory made of them.
use Prim.Native.Nat.{ℕ, zero, suc, ◌*◌, ◌≤◌}
use mathlib.Core.Path.{◌≡◌, refl}
use mathlib.Core.List.{List}
use native.Mathlib.Omega.{arith}
use lib.ListN.{length, get_or, replicate}
use Rattle.orders.specs.Order.{Visibility, shown, hidden}
use Rattle.allocation.specs.Credit.{seen}
use Rattle.take.specs.Memory.{Memory}

-- every entry is 0, and so is what stands for one behind the last
pub zeros_all : (n i : ℕ) → get_or {A = ℕ} (replicate n 0) i 0 ≡ 0
zeros_all zero i = refl
zeros_all (suc n) zero = refl
zeros_all (suc n) (suc i) = zeros_all n i

-- memory for so many orders, two keys for each, serves a book of no more
pub memory_of : (most : ℕ) {n : ℕ} {keys spare sizes minimums gets ss hs : List ℕ} → n ≤ most → length keys ≡ 2 * most
    → length spare ≡ 2 * most → length sizes ≡ most → length minimums ≡ most → length gets ≡ most → length ss ≡ most → length hs ≡ most
    → ((i : ℕ) → get_or ss i 0 ≡ 0) → ((i : ℕ) → get_or hs i 0 ≡ 0) → Memory n keys spare sizes minimums gets ss hs
memory_of most {n = n} {ss = ss} {hs = hs} h k s a b c d e y z = record {
  keys_long = omega arith;
  spare_long = omega arith;
  sizes_long = omega arith;
  minimums_long = omega arith;
  gets_long = omega arith;
  allotment_long = long;
  nothing = nothing;
}
  where
    long : (v : Visibility) → n ≤ length (seen v ss hs)
    long shown = omega arith
    long hidden = omega arith

    nothing : (v : Visibility) (i : ℕ) → get_or (seen v ss hs) i 0 ≡ 0
    nothing shown i = y i
    nothing hidden i = z i
