-- Conversions, way by way: what is refused, in which order, and that a refused one changes nothing.
use Prim.Native.Nat.{ℕ}
use mathlib.Core.Path.{◌≡◌, refl}
use mathlib.Core.Bool.{true, false}
use mathlib.Core.List.{List}
use native.Mathlib.Omega.{arith}
use lib.ListN.{length}
use Rattle.record.specs.Record.{OrderForm}
use Rattle.book.specs.Sound.{occupied, records_in, orders_in, sound_in}
use Rattle.book.specs.Refusal.{refusal_of}
use Rattle.book.proofs.Refusing.{accepted, book_refused}
use Rattle.book.proofs.Committing.{Refuses, refuses}
use Rattle.conversion.specs.Conversion.{turned_book, is_untold, is_unfit, conversion_refusals, convert_call}

-- A conversion of bytes s into a target.
module _ (from to : OrderForm) (s target : List ℕ) where
  -- a refused one leaves the target as it was
  pub conversion_refused : ((convert_call from to s target).refusal ≡ 0 → ⊥) → (convert_call from to s target).book ≡ target
  unfolding convert_call
  conversion_refused h =
      book_refused (refusal_of (conversion_refusals to (orders_in from s) (length target)) (sound_in from s)) target
      (turned_book to (length target) (occupied (records_in from s))) h

  -- an accepted one has a sound book, whose orders the other form tells, and a target that holds them
  pub conversion_accepted : (convert_call from to s target).refusal ≡ 0
      → (sound_in from s ≡ true) × (is_untold to (orders_in from s) ≡ false) × (is_unfit to (length target) (length (orders_in from s)) ≡ false)
  unfolding convert_call
  conversion_accepted e =
      let a = accepted (conversion_refusals to (orders_in from s) (length target)) (sound_in from s) refl e in
      (a.book, a.of_book.0, a.of_book.1.0)

  -- 2
  pub refuses_unsound : sound_in from s ≡ false → Refuses (convert_call from to s target) target 2
  unfolding convert_call
  refuses_unsound e = rw e (refuses 2 target (turned_book to (length target) (occupied (records_in from s))) (λ z. omega arith))

  module _ (e : sound_in from s ≡ true) where
    -- 11
    pub refuses_untold : is_untold to (orders_in from s) ≡ true → Refuses (convert_call from to s target) target 11
    unfolding convert_call
    refuses_untold u = rw (e, u) (refuses 11 target (turned_book to (length target) (occupied (records_in from s))) (λ z. omega arith))

    module _ (u : is_untold to (orders_in from s) ≡ false) where
      -- 12
      pub refuses_unfit : is_unfit to (length target) (length (orders_in from s)) ≡ true → Refuses (convert_call from to s target) target 12
      unfolding convert_call
      refuses_unfit f = rw (e, u, f) (refuses 12 target (turned_book to (length target) (occupied (records_in from s))) (λ z. omega arith))

      -- accepted: the records turned into the other form, and zeros behind them
      pub accepts : is_unfit to (length target) (length (orders_in from s)) ≡ false
          → ((convert_call from to s target).refusal ≡ 0) × ((convert_call from to s target).book ≡ turned_book to (length target) (occupied (records_in from s)))
      unfolding convert_call
      accepts f = rw (e, u, f) (refl, refl)
