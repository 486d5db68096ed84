-- A list whose first places are written anew, as a loop leaves it that stores one element a turn.
-- Assumes nothing.
use Rattle.std.specs.Prelude.{◌≡◌, List, ℕ, zero, suc, ◌≤◌, ◌<◌, length, get_or, set}

module _ {A : Type 0} where
  -- f 0, .., f (count − 1) in the first places, and what was there in the others
  unfoldable pub front : (ℕ → A) → ℕ → List A → List A
  front f zero old = old
  front f (suc i) old = set (front f i old) i (f i)

-- a table with f i at each i below count
pub record Holds (f : ℕ → ℕ) (count : ℕ) (table : List ℕ) : Type 0 where
  pub long : count ≤ length table
  pub at : (i : ℕ) → i < count → get_or table i 0 ≡ f i
