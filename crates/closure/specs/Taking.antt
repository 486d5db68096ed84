-- A slot is taken from the stack.
-- Assumes nothing.
use Rattle.std.specs.Prelude.{◌≡◌, ℕ, List, [], ◌∷◌, length}
use Rattle.model.specs.Dependencies.{dependency_bit, edges_to}
use Rattle.model.specs.Closure.{Marked, follow}
use Rattle.model.specs.declared.AnalysisKind.{AnalysisKind}
use Rattle.closure_marks.specs.Marks.{MarkedLies}
use Rattle.closure_marks.specs.declared.mark.SlotMarks.{SlotMarks}

-- some state of this sheet's closure lies there
pub record Standing (sheet marks stack : List ℕ) (top : ℕ) : Type 0 where
  pub room : ℕ
  pub m : Marked
  pub lies : MarkedLies sheet room m marks stack top

-- how many edges the slot on top has
unfoldable pub top_edges : List ℕ → List ℕ → ℕ
top_edges sheet [] = 0
top_edges sheet (d ∷ ds) = length (edges_to sheet d)

-- with the slot on top taken, and its edges followed
unfoldable pub top_taken : AnalysisKind → List ℕ → List ℕ → Marked → Marked
top_taken which sheet [] m = m
top_taken which sheet (d ∷ ds) m = follow (dependency_bit which) (edges_to sheet d) (record { marks = m.marks; stack = ds })

-- The slot on top is taken from whatever state lies there, and its edges are counted.
pub record Takes (which : AnalysisKind) (sheet : List ℕ) (old new : SlotMarks) (count : ℕ) : Type 0 where
  pub counts : {room : ℕ} {m : Marked} → MarkedLies sheet room m old.marks.now old.stack.now old.top → count ≡ top_edges sheet m.stack
  pub lies : {room : ℕ} {m : Marked} → MarkedLies sheet room m old.marks.now old.stack.now old.top
      → MarkedLies sheet room (top_taken which sheet m.stack m) new.marks.now new.stack.now new.top
  pub same_marks : new.marks.ghost_name ≡ old.marks.ghost_name
  pub same_stack : new.stack.ghost_name ≡ old.stack.ghost_name
