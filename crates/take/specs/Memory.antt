-- What a take may be made in.
use Rattle.std.specs.Prelude.{ℕ, ◌*◌, ◌≤◌, ◌≡◌, true, List, length, get_or}
use Rattle.orders.specs.Order.{Visibility}
use Rattle.book.specs.Sound.{sound, orders_of}
use Rattle.matching.specs.declared.TakeRequest.{TakeRequest}
use Rattle.matching.specs.TakeCall.{request_in_range}
use Rattle.allocation.specs.Credit.{seen}

-- the numbers are in range, and the book is sound and has n orders, of both securities
pub record Sound (q : TakeRequest) (s : List ℕ) (n : ℕ) : Type 0 where
  pub in_range : request_in_range q ≡ true
  pub is_sound : sound s ≡ true
  pub counted : n ≡ length (orders_of s)

-- There is room for the parts of n orders, two each, and nothing is allotted yet.
pub record Memory (n : ℕ) (keys spare sizes minimums gets ss hs : List ℕ) : Type 0 where
  pub keys_long : 2 * n ≤ length keys
  pub spare_long : 2 * n ≤ length spare
  pub sizes_long : n ≤ length sizes
  pub minimums_long : n ≤ length minimums
  pub gets_long : n ≤ length gets
  pub allotment_long : (v : Visibility) → n ≤ length (seen v ss hs)
  pub nothing : (v : Visibility) (i : ℕ) → get_or (seen v ss hs) i 0 ≡ 0
