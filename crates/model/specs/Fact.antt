-- "Join": facts, when known ones are equal, and how they are joined, one by one and in rows.
-- Assumes nothing.
use Rattle.std.specs.Prelude.{Bool, true, false, not, cond, ◌&&◌, ◌||◌, List, [], ◌∷◌, ℕ, suc, ◌/◌, ◌%◌, eqb}
use Rattle.model.specs.Sheet.{layout, sheet_compute}
use Rattle.model.specs.declared.AnalysisKind.{AnalysisKind}
use Rattle.model.specs.declared.AnalysisKind.TheVariants.{Constant, IndexCheck, Container}

-- A fact: Unknown, Conflict, or known, by the table's kind less 2 and the table's value.
pub data Fact : Type 0 where
  unknown conflict : Fact
  known : ℕ → ℕ → Fact

-- "Kind 0 Unknown, 1 Conflict", the known kinds from 2 up
unfoldable pub kind : Fact → ℕ
kind unknown = 0
kind conflict = 1
kind (known k v) = suc (suc k)

-- "value 0" for Unknown and Conflict
unfoldable pub value : Fact → ℕ
value unknown = 0
value conflict = 0
value (known k v) = v

-- "a row of s facts"
abbrev pub Row : Type 0
Row = List Fact

-- ---- "equal known facts"

-- constants and checks: by kind and value
unfoldable pub equal_numbers : ℕ → ℕ → ℕ → ℕ → Bool
equal_numbers k v l w = eqb k l && eqb v w

-- whether two lists of slot kinds are equal "by length and content"
unfoldable pub equal_content : List ℕ → List ℕ → Bool
equal_content [] [] = true
equal_content [] (y ∷ ys) = false
equal_content (x ∷ xs) [] = false
equal_content (x ∷ xs) (y ∷ ys) = eqb x y && equal_content xs ys

-- "Layouts are equal by length and content"
unfoldable pub equal_layouts : List ℕ → ℕ → ℕ → Bool
equal_layouts sheet i j = equal_content (layout sheet i) (layout sheet j)

-- containers: by kind, and A and B by content ("value A × 65,536 + B"). A queue's B is 0, so its second test compares layout 0 with itself.
unfoldable pub equal_containers : List ℕ → ℕ → ℕ → ℕ → ℕ → Bool
equal_containers sheet k v l w = eqb k l && equal_layouts sheet (v / 65536) (w / 65536) && equal_layouts sheet (v % 65536) (w % 65536)

-- when two known facts of an analysis are equal, by kind and value of each
unfoldable pub equal_known : AnalysisKind → List ℕ → ℕ → ℕ → ℕ → ℕ → Bool
equal_known Constant sheet = equal_numbers
equal_known IndexCheck sheet = equal_numbers
equal_known Container sheet = equal_containers sheet

-- ---- "a kind or value changed"

-- whether kind or value of the two facts differ
unfoldable pub differs : Fact → Fact → Bool
differs f g = not (eqb (kind f) (kind g) && eqb (value f) (value g))

-- whether that is so in some slot
unfoldable pub row_differs : Row → Row → Bool
row_differs [] r = false
row_differs (f ∷ fs) [] = false
row_differs (f ∷ fs) (g ∷ gs) = differs f g || row_differs fs gs

-- ---- the join, by when known facts are equal

module _ (same : ℕ → ℕ → ℕ → ℕ → Bool) where
  -- "Conflict with anything is Conflict; else Unknown with anything is Unknown; equal known facts stay; different ones give Conflict.";
  -- "the stored numbers stay": of equal facts the old one
  unfoldable pub join : Fact → Fact → Fact
  join conflict new = conflict
  join unknown conflict = conflict
  join unknown unknown = unknown
  join unknown (known k v) = unknown
  join (known k v) conflict = conflict
  join (known k v) unknown = unknown
  join (known k v) (known l w) = cond (same k v l w) (known k v) conflict

  -- "joined into it slot by slot, the old fact first". Both rows have s facts.
  unfoldable pub join_row : Row → Row → Row
  join_row [] new = []
  join_row (f ∷ fs) [] = f ∷ fs
  join_row (f ∷ fs) (g ∷ gs) = join f g ∷ join_row fs gs

unfoldable pub fact_compute : Unit {0}
unfolding sheet_compute kind value equal_numbers equal_content equal_layouts equal_containers equal_known differs row_differs join join_row
fact_compute = tt
