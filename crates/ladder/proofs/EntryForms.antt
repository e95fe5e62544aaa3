-- Add and reduce as calls that have a form with a ladder.
use Prim.Native.Nat.{ℕ}
use mathlib.Core.Path.{◌≡◌, refl}
use mathlib.Core.Bool.{◌&&◌}
use mathlib.Core.List.{List}
use Rattle.units.specs.Lots.{round_lot}
use Rattle.orders.specs.Order.{number_in_range, shares_in_range, security_in_range}
use Rattle.book.specs.Sound.{sound, orders_of, book_of, capacity_of}
use Rattle.book.specs.Refusal.{refusal_of}
use Rattle.book.proofs.Refusing.{book_refused}
use Rattle.entry.specs.declared.admission.AddRequest.{AddRequest}
use Rattle.entry.specs.Add.{request_in_range, add_refusals, added, add_call}
use Rattle.entry.specs.Reduce.{reduce_refusals, reduced, reduce_call}
use Rattle.entry.proofs.Adding.{add_sound}
use Rattle.entry.proofs.Reducing.{reduce_sound}
use Rattle.ladder.proofs.Forms.{Plain}

pub add_same : (q : AddRequest) (s : List ℕ) → (add_call q s).refusal ≡ refusal_of (add_refusals q (capacity_of s) (orders_of s)) (sound s)
unfolding add_call
add_same q s = refl

pub add_leaves : (q : AddRequest) (s : List ℕ) → ((add_call q s).refusal ≡ 0 → ⊥) → (add_call q s).book ≡ s
unfolding add_call
add_leaves q s n = book_refused (add_call q s).refusal s (book_of (capacity_of s) (added round_lot q (orders_of s))) n

abbrev pub add_plain : (q : AddRequest) (s : List ℕ) → Plain s
add_plain q s = record {
  in_range = request_in_range q;
  of_book = (add_refusals q (capacity_of s) (orders_of s)).of_book;
  call = add_call q s;
  same = add_same q s;
  leaves = add_leaves q s;
  keeps = add_sound q s;
}

pub reduce_same : (k n shares : ℕ) (s : List ℕ) → (reduce_call k n shares s).refusal ≡ refusal_of (reduce_refusals k n shares (orders_of s)) (sound s)
unfolding reduce_call
reduce_same k n shares s = refl

pub reduce_leaves : (k n shares : ℕ) (s : List ℕ) → ((reduce_call k n shares s).refusal ≡ 0 → ⊥) → (reduce_call k n shares s).book ≡ s
unfolding reduce_call
reduce_leaves k n shares s h = book_refused (reduce_call k n shares s).refusal s (book_of (capacity_of s) (reduced k n shares (orders_of s))) h

abbrev pub reduce_plain : (k n shares : ℕ) (s : List ℕ) → Plain s
reduce_plain k n shares s = record {
  in_range = security_in_range k && number_in_range n && shares_in_range shares;
  of_book = (reduce_refusals k n shares (orders_of s)).of_book;
  call = reduce_call k n shares s;
  same = reduce_same k n shares s;
  leaves = reduce_leaves k n shares s;
  keeps = reduce_sound k n shares s;
}
