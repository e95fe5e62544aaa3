-- What a take leaves of a reserve order: of the order at entry, its executions in the buffer, and the orders afterwards.
use Rattle.std.specs.Prelude.{ℕ, ◌+◌, ◌-◌, ◌≤◌, ◌<◌, min, ◌≡◌, Bool, true, false, ◌&&◌}
use mathlib.Core.List.{List, Memᴰ}
use Rattle.units.specs.Lists.{total, or_zero}
use Rattle.units.specs.Lots.{round_lot}
use Rattle.orders.specs.declared.order.Kind.TheVariants.{Reserve}
use Rattle.orders.specs.declared.order.Order.{Order}
use Rattle.orders.specs.Order.{Visibility, shown, hidden, is_reserve, hidden_of, refresh_of, size_of}
use Rattle.record.specs.declared.execution.Execution.{Execution}
use Rattle.record.specs.Execution.{executions_in}
use Rattle.book.specs.Sound.{orders_of}
use Rattle.matching.specs.declared.Algorithm.{Algorithm}
use Rattle.matching.specs.declared.TakeRequest.{TakeRequest}
use Rattle.matching.specs.Paragraph.{algorithm_of, group_of}
use Rattle.matching.specs.Numbered.{paragraph_numbered}
use Rattle.matching.specs.TakeCall.{TakeAnswer}
use Rattle.matching.specs.Fairness.{executed_shares}
use Rattle.matching.specs.Parts.{is_of}

abbrev pub same_visibility : Visibility → Visibility → Bool
same_visibility shown shown = true
same_visibility shown hidden = false
same_visibility hidden shown = false
same_visibility hidden hidden = true

-- the shares of all executions of an order
abbrev pub executed_of : List Execution → Order → ℕ
executed_of es o = total (λ e. or_zero (is_of o e) (executed_shares e)) es

-- what an order lost of one visibility: the shares of its executions in paragraphs whose groups are of that visibility
abbrev pub lost_of : ℕ → Algorithm → Visibility → List Execution → Order → ℕ
lost_of lot alg v es o =
    total (λ e. or_zero (is_of o e && same_visibility v (group_of lot alg (paragraph_numbered e.paragraph)).visibility) (executed_shares e)) es

-- the reserve order with so many shares shown and so many hidden: its side, number, price, mark, security and refresh size are as they
-- were
abbrev pub showing : ℕ → ℕ → Order → Order
showing n h o = record {
  side = o.side;
  kind = Reserve (record { 0 = h }) (record { 0 = refresh_of o.kind });
  number = o.number;
  price = o.price;
  size = record { 0 = n };
  setter = o.setter;
  security = o.security;
}

-- it is among the orders, and no other of its number is
pub record Alone (os : List Order) (o : Order) : Type 0 where
  pub there : Memᴰ o os
  pub alone : (x : Order) → Memᴰ x os → x.number ≡ o.number → x ≡ o

-- What is left of a reserve order that lost so many of its shown and of its hidden shares, by executions of so many shares.
pub record Remains (after : List Order) (o : Order) (lost_shown lost_hidden executed : ℕ) : Type 0 where
  -- what it lost in all is the shares of its executions
  pub in_all : lost_shown + lost_hidden ≡ executed
  -- no more than it had
  pub of_shown : lost_shown ≤ size_of o
  pub of_hidden : lost_hidden ≤ hidden_of o.kind
  -- while it still shows a share, it isn't refreshed
  pub kept : lost_shown < size_of o → Alone after (showing (size_of o - lost_shown) (hidden_of o.kind - lost_hidden) o)
  -- where it lost all that it showed, and still hides shares, it shows the smaller of its refresh size and these, and hides the rest
  pub refreshed : lost_shown ≡ size_of o → lost_hidden < hidden_of o.kind
      → let left = hidden_of o.kind - lost_hidden in let n = min (refresh_of o.kind) left in Alone after (showing n (left - n) o)
  -- where it lost all of both, it is gone
  pub gone : lost_shown ≡ size_of o → lost_hidden ≡ hidden_of o.kind → (x : Order) → Memᴰ x after → ¬ (x.number ≡ o.number)
  -- where it is still there it shows shares
  pub shows : (x : Order) → Memᴰ x after → x.number ≡ o.number → 0 < size_of x

-- So it is with each reserve order of the book in an accepted take.
abbrev pub ReserveTake : TakeRequest → List ℕ → TakeAnswer → Type 0
ReserveTake q s a =
    a.taken.refusal ≡ 0 → (o : Order) → Memᴰ o (orders_of s) → is_reserve o.kind ≡ true
    → let es = executions_in a.taken.count a.executions in
    let lost : Visibility → ℕ = λ v. lost_of round_lot (algorithm_of q.algorithm) v es o in
    Remains (orders_of a.book) o (lost shown) (lost hidden) (executed_of es o)
