-- There and back: a book turned into the other form and back has the records that it had.
use Prim.Native.Nat.{ℕ, ◌/◌}
use mathlib.Core.Path.{◌≡◌, sym, ap, ◌∙◌, subst⁻¹}
use mathlib.Core.Bool.{true, false, not}
use mathlib.Core.List.{List, map}
use lib.ListN.{length}
use Rattle.orders.specs.declared.order.Order.{Order}
use Rattle.record.specs.declared.form.RecordForm.{RecordForm}
use Rattle.record.specs.declared.form.RecordForm.TheVariants.{Old, New}
use Rattle.record.specs.Record.{new_form, old_form, order_bytes, encode_order}
use Rattle.record.specs.Names.{form_of}
use Rattle.record.proofs.Numbers.{AreBytes}
use Rattle.book.specs.Sound.{occupied, records_in, orders_in, sound_in, book_in}
use Rattle.book.proofs.Soundness.{OrdersTold}
use Rattle.book.proofs.Books.{occupied_book}
use Rattle.book.proofs.Restoring.{book_orders_in, records_orders_in}
use Rattle.conversion.specs.Conversion.{turned_book, is_untold, is_unfit}
use Rattle.conversion.specs.RoundTrip.{forth, back, ThereAndBack}
use Rattle.conversion.proofs.Widths.{form_laws}
use Rattle.conversion.proofs.Refused.{accepts}
use Rattle.conversion.proofs.Accepted.{target_holds, told_by, turned_book_lem, turned_orders, turned_sound, plain_orders}
use Rattle.conversion.proofs.Answering.{all_told, old_told}

-- A sound book s with orders that the old form tells, and two targets that hold them.
module _ (from to : RecordForm) (s t u : List ℕ) (b : AreBytes s) (e : sound_in (form_of from) s ≡ true)
    (plain : OrdersTold old_form (orders_in (form_of from) s))
    (holds : is_unfit (form_of to) (length t) (length (orders_in (form_of from) s)) ≡ false)
    (holds-back : is_unfit (form_of from) (length u) (length (orders_in (form_of from) s)) ≡ false) where
  abbrev os : List Order
  os = orders_in (form_of from) s

  -- what is made of it
  abbrev made : List ℕ
  made = (forth (form_of from) (form_of to) s t).book

  untold : (f : RecordForm) → is_untold (form_of f) os ≡ false
  untold f = ap not (all_told (form_of f) os (told_by from to s e plain f))

  records : occupied (records_in (form_of from) s) ≡ map (encode_order (form_of from)) os
  records = records_orders_in (form_of from) (form_laws from) s e b

  going : ((forth (form_of from) (form_of to) s t).refusal ≡ 0) × (made ≡ turned_book (form_of to) (length t) (occupied (records_in (form_of from) s)))
  going = accepts (form_of from) (form_of to) s t e (untold to) holds

  made_sound : sound_in (form_of to) made ≡ true
  made_sound = ap (sound_in (form_of to)) going.1 ∙ turned_sound from to s e plain (length t) holds records

  made_orders : orders_in (form_of to) made ≡ os
  made_orders = ap (orders_in (form_of to)) going.1 ∙ turned_orders from to s e plain (length t) holds records

  made_records : occupied (records_in (form_of to) made) ≡ map (encode_order (form_of to)) (orders_in (form_of to) made)
  made_records =
      let h = target_holds (form_of to) (length t) (length os) holds in
      ap (λ x. occupied (records_in (form_of to) x)) (going.1 ∙ turned_book_lem from to s e plain (length t) holds records)
      ∙ occupied_book (form_of to) (form_laws to) (length t / order_bytes (form_of to)) os h.2
      ∙ ap (map (encode_order (form_of to))) (sym made_orders)

  -- back again
  made_plain : OrdersTold old_form (orders_in (form_of to) made)
  made_plain = subst⁻¹ (OrdersTold old_form) made_orders plain

  made_holds : is_unfit (form_of from) (length u) (length (orders_in (form_of to) made)) ≡ false
  made_holds = ap (λ l. is_unfit (form_of from) (length u) (length l)) made_orders ∙ holds-back

  coming : ((back (form_of from) (form_of to) s t u).refusal ≡ 0)
      × ((back (form_of from) (form_of to) s t u).book ≡ turned_book (form_of from) (length u) (occupied (records_in (form_of to) made)))
  coming = accepts (form_of to) (form_of from) made u made_sound (ap (is_untold (form_of from)) made_orders ∙ untold from) made_holds

  returned : (back (form_of from) (form_of to) s t u).book ≡ book_in (form_of from) (length u / order_bytes (form_of from)) os
  returned =
      coming.1
      ∙ turned_book_lem to from made made_sound made_plain (length u) made_holds made_records
      ∙ ap (book_in (form_of from) (length u / order_bytes (form_of from))) made_orders

  there_and_back : ThereAndBack (form_of from) (form_of to) s t u
  there_and_back = record {
    accepted_forth = going.0;
    accepted_back = coming.0;
    same_records = ap (λ x. occupied (records_in (form_of from) x)) returned
        ∙ occupied_book (form_of from) (form_laws from) (length u / order_bytes (form_of from)) os
        (target_holds (form_of from) (length u) (length os) holds-back).2
        ∙ sym records;
    same_bytes = λ l. returned ∙ ap (λ n. book_in (form_of from) (n / order_bytes (form_of from)) os) l ∙ book_orders_in (form_of from) (form_laws from) s e b;
  }

module _ (s t u : List ℕ) (b : AreBytes s) where
  -- a sound old book, into the new form and back, with targets that hold its orders
  pub old_new_old : sound_in old_form s ≡ true → is_unfit new_form (length t) (length (orders_in old_form s)) ≡ false
      → is_unfit old_form (length u) (length (orders_in old_form s)) ≡ false → ThereAndBack old_form new_form s t u
  old_new_old e h k = there_and_back Old New s t u b e (plain_orders New s e (old_told s e)) h k

  -- and a sound new book, into the old form and back, unless refused 11
  pub new_old_new : sound_in new_form s ≡ true → is_untold old_form (orders_in new_form s) ≡ false
      → is_unfit old_form (length t) (length (orders_in new_form s)) ≡ false
      → is_unfit new_form (length u) (length (orders_in new_form s)) ≡ false → ThereAndBack new_form old_form s t u
  new_old_new e n h k = there_and_back New Old s t u b e (plain_orders Old s e n) h k
