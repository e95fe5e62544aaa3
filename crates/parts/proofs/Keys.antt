-- What a key holds can be read back from it.
use Prim.Native.Nat.{ℕ, ◌+◌, ◌*◌, ◌<◌}
use mathlib.Core.Path.{◌≡◌}
use native.Mathlib.Omega.{arith}
use Rattle.parts.specs.Key.{key_of, group_in, paragraph_in, place_in, shares_in, with_shares}

-- a group's number, and its paragraph's
pub group_paragraph : (rank paragraph : ℕ) → paragraph < 8 → paragraph_in (8 * rank + paragraph) ≡ paragraph
group_paragraph r j h = omega arith

module _ (rank paragraph place shares : ℕ) (h : paragraph < 8) (k : place < 512) (l : shares < 1048576) where
  pub key_group : group_in (key_of rank paragraph place shares) ≡ 8 * rank + paragraph
  key_group = omega arith

  pub key_place : place_in (key_of rank paragraph place shares) ≡ place
  key_place = omega arith

  pub key_shares : shares_in (key_of rank paragraph place shares) ≡ shares
  key_shares = omega arith

-- The part with other shares stands where it stood.
module _ (n key : ℕ) (h : n < 1048576) where
  pub with_group : group_in (with_shares n key) ≡ group_in key
  with_group = omega arith

  pub with_place : place_in (with_shares n key) ≡ place_in key
  with_place = omega arith

  pub with_shares_lem : shares_in (with_shares n key) ≡ n
  with_shares_lem = omega arith

-- with its own shares it is the same
pub with_own : (key : ℕ) → with_shares (shares_in key) key ≡ key
with_own key = omega arith
