-- Rows made by going along orders that are in the ladder's order, for the function that does so. No call's meaning rests on it.
use Rattle.std.specs.Prelude.{ℕ, ◌≤◌, ◌<◌, ◌≡◌, true, cond, List, [], ◌∷◌, map, length}
use Rattle.units.proofs.Members.{Every}
use Rattle.book.specs.Sound.{sound, orders_of, order_at}
use Rattle.ladder.specs.declared.row.Row.{Row}
use Rattle.ladder.specs.Rows.{same_level, row_of, joined}
use Rattle.ladder.specs.Key.{place_in}
use Rattle.ladder.specs.Ladder.{ladder_bytes}

-- a row that was begun, and the rows behind it: the next one is joined to it, or ends it
abbrev pub behind : Row → List Row → List Row
behind r [] = r ∷ []
behind r (q ∷ qs) = cond (same_level r q) (behind (joined r q) qs) (r ∷ behind q qs)

abbrev pub along : List Row → List Row
along [] = []
along (r ∷ rs) = behind r rs

-- the rows along keys, by the orders of their places
abbrev pub along_keys : List ℕ → List ℕ → List Row
along_keys s ks = along (map (λ k. row_of (order_at s (place_in k))) ks)

-- keys of orders of a sound book, no more than it may have
pub record Keyed (s ks : List ℕ) : Type 0 where
  pub is_sound : sound s ≡ true
  pub places : Every (λ k. place_in k < length (orders_of s)) ks
  pub few : length ks ≤ 256

-- memory for a key of each of a sound book's n orders, as much again to sort them, and a ladder
pub record Lent (s : List ℕ) (n : ℕ) (keys spare ladder : List ℕ) : Type 0 where
  pub is_sound : sound s ≡ true
  pub counted : n ≡ length (orders_of s)
  pub for_each : n ≤ length keys
  pub as_much : n ≤ length spare
  pub long : length ladder ≡ ladder_bytes
