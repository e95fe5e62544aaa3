-- Add keeps to its security.
use Prim.Native.Nat.{ℕ, ◌≤◌, ◌<◌}
use mathlib.Core.Path.{◌≡◌, refl, sym, ap, ◌∙◌}
use mathlib.Core.Bool.{Bool, false, ◌&&◌}
use mathlib.Core.List.{List, [], ◌∷◌, append-nil}
use mathlib.Core.Logic.{inl, inr}
use native.Mathlib.Omega.{arith}
use lib.ListN.{length, length-append}
use lib.Dec.{leb}
use borrow.Author.Tests.{leb-false, eq-eqb, ne_eqb}
use Rattle.units.specs.Lists.{any, filter}
use Rattle.units.specs.Lots.{round_lot}
use Rattle.units.proofs.Totals.{filter_append}
use Rattle.orders.specs.declared.order.Order.{Order}
use Rattle.orders.specs.Order.{is_displayed, interest_of}
use Rattle.orders.specs.Trading.{of_security}
use Rattle.book.specs.Sound.{orders_of, capacity_of}
use Rattle.book.specs.Securities.{NonInterfering, LeavesOthers}
use Rattle.entry.specs.declared.admission.AddRequest.{AddRequest}
use Rattle.entry.specs.Add.{requested, beats, sets_price, could_trade, add_refusals, added, add_call}
use Rattle.entry.proofs.Adding.{add_accepted, add_orders_sound}
use Rattle.securities.specs.Calls.{add_on}
use Rattle.securities.proofs.Filters.{any_kept, all_kept}
use Rattle.securities.proofs.Refusing.{alike, alike_whole}
use Rattle.securities.proofs.Keeping.{Keeping, Changing, same_of, keeps, same_records, leaves}

module _ (q : AddRequest) where
  -- the orders of its security
  abbrev own : List Order → List Order
  own = filter (of_security q.security)

  -- the new order could trade with these alone
  abbrev trades : List Order → Bool
  trades = any (could_trade (requested q false))

  trades_for : (os : List Order) → trades os ≡ trades (own os)
  unfolding requested
  trades_for os = any_kept (of_security q.security) (could_trade (requested q false)) (λ o e. rw e) os

  -- and sets the price among them
  sets_for : (lot : ℕ) (os : List Order) → sets_price lot (requested q false) os ≡ sets_price lot (requested q false) (own os)
  unfolding sets_price requested
  sets_for lot os =
      let new = requested q false in
      ap (λ b. is_displayed new.kind && leb lot (interest_of new).displayed && b) (all_kept (of_security q.security) (beats new) (λ o e. rw e) os)

  -- it is added to the orders of its security
  pub added_for : (lot : ℕ) (os : List Order) → own (added lot q os) ≡ added lot q (own os)
  unfolding added requested
  added_for lot os =
      filter_append (of_security q.security) os (requested q (sets_price lot (requested q false) os) ∷ [])
      ∙ rw (eq-eqb q.security q.security refl, sets_for lot os)

  -- and to no others
  added_others : (lot : ℕ) (os : List Order) (j : ℕ) → ¬ (j ≡ q.security) → filter (of_security j) (added lot q os) ≡ filter (of_security j) os
  unfolding added requested
  added_others lot os j n =
      filter_append (of_security j) os (requested q (sets_price lot (requested q false) os) ∷ [])
      ∙ rw (ne_eqb q.security j (λ e. n (sym e))) (append-nil (filter (of_security j) os))

  room : (c : ℕ) (os : List Order) → length os < c → length (added round_lot q os) ≤ c
  unfolding added
  room c os l = omega (arith, length-append os (requested q (sets_price round_lot (requested q false) os) ∷ []))

  -- add changes the orders of its security alone
  pub add_changing : Changing q.security (add_on q)
  unfolding add_call
  add_changing = record {
    orders = λ s. added round_lot q (orders_of s);
    book = λ s. refl;
    roomy = λ s e.
        let a = add_accepted q s e in
        record {
          is_sound = a.book;
          fit = room (capacity_of s) (orders_of s) (leb-false (capacity_of s) (length (orders_of s)) a.of_book.1.1.0);
          each = (add_orders_sound q s e).each;
        };
    own = λ s t b. same_of (λ os. own (added round_lot q os)) (added round_lot q) (λ os h. added_for round_lot os) b;
    others = λ s e. added_others round_lot (orders_of s);
  }

  -- add looks at these alone, but for refusals 4 and 6
  pub add_keeping : Keeping q.security (λ s. add_refusals q (capacity_of s) (orders_of s)) (add_on q)
  unfolding add_call
  add_keeping = record {
    refusal = λ s. refl;
    alike = λ s t b. record {
      of_call = (alike refl, tt);
      of_book = (alike_whole (inl refl), (alike (same_of trades trades (λ os h. trades_for os) b), (alike_whole (inr refl), tt)));
    };
    records = same_records add_changing;
    others = λ s t b r i. refl;
  }

  -- add on two sound books with equal records of the security gives the same and leaves the same records of it
  pub add_keeps : NonInterfering q.security (add_on q)
  add_keeps = keeps add_keeping

  -- and leaves every other security's records as they were
  pub add_others : LeavesOthers q.security (add_on q)
  add_others = leaves add_changing
