-- What an accepted call leaves that makes the book of sound orders.
use Prim.Native.Nat.{ℕ, ◌≤◌}
use mathlib.Core.Path.{◌≡◌, ap, ◌∙◌}
use mathlib.Core.Bool.{true}
use mathlib.Core.List.{List}
use lib.ListN.{length}
use Rattle.orders.specs.declared.order.Order.{Order}
use Rattle.book.specs.Sound.{sound, orders_of, book_of, capacity_of}
use Rattle.book.specs.Refusal.{changed_unless}
use Rattle.book.proofs.Soundness.{OrdersSound, capacity_most}
use Rattle.book.proofs.Books.{orders_book, sound_book}
use Rattle.book.proofs.Refusing.{book_accepted}

module _ (r : ℕ) (s : List ℕ) (os : List Order) (e : r ≡ 0) (b : sound s ≡ true) (h : OrdersSound os) (fit : length os ≤ capacity_of s) where
  after : (changed_unless r s (book_of (capacity_of s) os)).book ≡ book_of (capacity_of s) os
  after = book_accepted r s (book_of (capacity_of s) os) e

  -- the book has these orders
  pub changed_orders : orders_of (changed_unless r s (book_of (capacity_of s) os)).book ≡ os
  changed_orders = ap orders_of after ∙ orders_book (capacity_of s) os fit h

  -- it is sound
  pub changed_sound : sound (changed_unless r s (book_of (capacity_of s) os)).book ≡ true
  changed_sound = ap sound after ∙ sound_book (capacity_of s) os fit h (capacity_most s b)
