-- The work list as a list of numbers, and its buffer.
-- Assumes nothing.
use Rattle.std.specs.Prelude.{◌≡◌, List, [], ◌∷◌, ℕ, length}
use Rattle.model.specs.Tables.{stacked}

-- the entries, the one added last first, lie in the buffer, and top says how many they are
pub record Listed (entries work_list : List ℕ) (top : ℕ) : Type 0 where
  pub list_is : work_list ≡ stacked (length work_list) entries
  pub top_is : top ≡ length entries

-- entries are added, one after the other
unfoldable pub entered : List ℕ → List ℕ → List ℕ
entered [] entries = entries
entered (q ∷ qs) entries = entered qs (q ∷ entries)

-- the entries are added to whatever list lies in the buffer
unfoldable pub EachEntered : List ℕ → List ℕ → ℕ → List ℕ → ℕ → Type 0
EachEntered added old top new top' = (entries : List ℕ) → Listed entries old top → Listed (entered added entries) new top'
