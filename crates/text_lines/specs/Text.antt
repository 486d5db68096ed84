-- A text written in a buffer.
-- Assumes nothing.
use Rattle.std.specs.Prelude.{◌≡◌, List, [], ◌∷◌, ◌++◌, ℕ, ◌+◌, ◌≤◌, length, take, drop}
use Rattle.std.proofs.Math.Option.{Option, some}
use Rattle.model.specs.Listing.{decimal, newline, space}

-- numbers, each behind a space
unfoldable pub spaced_all : List ℕ → List ℕ
spaced_all [] = []
spaced_all (x ∷ xs) = (space ++ decimal x) ++ spaced_all xs

-- a word and numbers
abbrev pub numbered : List ℕ → List ℕ → List ℕ
numbered word numbers = word ++ spaced_all numbers

-- the same, which end the line
abbrev pub numbered_line : List ℕ → List ℕ → List ℕ
numbered_line word numbers = numbered word numbers ++ newline

-- The text stands in the buffer from a place on, and around it what stood there; the answer is the place behind the text, which is at most `most` long.
pub record Added (most : ℕ) (text : List ℕ) (at : ℕ) (old : List ℕ) (next : ℕ) (new : List ℕ) : Type 0 where
  pub counts : next ≡ at + length text
  pub short : next ≤ at + most
  pub within : next ≤ length old
  pub bytes : new ≡ take at old ++ text ++ drop next old
  pub long : length new ≡ length old

-- The first `count` bytes of the buffer are the text, if there is one, and behind them stands what stood there.
pub record ShowsText (text : Option (List ℕ)) (old : List ℕ) (count : ℕ) (new : List ℕ) : Type 0 where
  pub within : count ≤ length new
  pub front : text ≡ some (take count new)
  pub rest : drop count new ≡ drop count old
