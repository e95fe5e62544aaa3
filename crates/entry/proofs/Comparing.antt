-- A new order compared with a book's orders, one after another.
use mathlib.Core.Path.{◌≡◌, refl, sym, ◌∙◌}
use mathlib.Core.Bool.{Bool, true, false, ◌&&◌, ◌||◌, and-true, or-false, and_assoc, or_assoc}
use mathlib.Core.List.{List, [], ◌∷◌}
use lib.Dec.{leb}
use Rattle.units.specs.Lists.{all, any}
use Rattle.orders.specs.declared.order.Order.{Order}
use Rattle.entry.specs.Add.{beats, could_trade}
use Rattle.entry.specs.Plan.{standing_of}

module _ (os : List Order) (new : Order) where
  -- the order's number isn't above the new one's
  abbrev pub is_later : Order → Bool
  is_later o = leb new.number o.number

  -- the answers so far, with those of the orders left, are the answers of all
  pub record Compared (stale trades best : Bool) (left : List Order) : Type 0 where
    pub later : (stale || any is_later left) ≡ any is_later os
    pub tradable : (trades || any (could_trade new) left) ≡ any (could_trade new) os
    pub beaten : (best && all (beats new) left) ≡ all (beats new) os

  -- before the first order
  pub compared_none : Compared false false true os
  compared_none = record { later = refl; tradable = refl; beaten = refl }

  module _ {stale trades best : Bool} {left : List Order} (c : Compared stale trades best left) where
    -- after one order more
    pub compared_more : {o : Order} {rest : List Order} → left ≡ o ∷ rest
        → Compared (stale || is_later o) (trades || could_trade new o) (best && beats new o) rest
    compared_more e = record {
      later = rw or_assoc (rw e at c.later);
      tradable = rw or_assoc (rw e at c.tradable);
      beaten = rw and_assoc (rw e at c.beaten);
    }

    -- after the last
    pub compared_done : left ≡ [] → record { stale = stale; trades = trades; beats = best } ≡ standing_of new os
    compared_done e =
        let l = sym (or-false stale) ∙ (rw e at c.later) in
        let t = sym (or-false trades) ∙ (rw e at c.tradable) in
        let b = sym (and-true best) ∙ (rw e at c.beaten) in
        rw (← l, ← t, ← b)
