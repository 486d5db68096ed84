-- How the marks and the stack of a closure lie in lent memory, and what a function makes of them.
-- Assumes nothing.
use Rattle.std.specs.Prelude.{◌≡◌, Bool, true, false, List, [], ◌∷◌, map, ℕ, zero, suc, ◌+◌, ◌-◌, ◌≤◌, eqb, length, get_or, set}
use Rattle.model.specs.Sheet.{local_slots, instruction}
use Rattle.model.specs.Dependencies.{field, seed_fields}
use Rattle.model.specs.Closure.{Marked, mark}
use Rattle.model.specs.CallDemand.{Passed}
use Rattle.model.specs.Tables.{stacked}
use Rattle.model.specs.declared.AnalysisKind.{AnalysisKind}
use Rattle.closure_marks.specs.declared.mark.SlotMarks.{SlotMarks}
use Rattle.closure_marks.specs.declared.Candidates.{Candidates}
use Rattle.closure_marks.specs.declared.Candidates.TheVariants.{None, One, Two}

-- A state of a closure lies in L marks and in a stack of at least L entries, of which the first `top` are used. (The lengths follow from
-- the contents.)
pub record MarkedLies (sheet : List ℕ) (room : ℕ) (m : Marked) (marks stack : List ℕ) (top : ℕ) : Type 0 where
  pub passed : Passed sheet m
  pub marks_are : marks ≡ m.marks
  pub stack_is : stack ≡ stacked room m.stack
  pub top_is : top ≡ length m.stack
  pub wide : length marks ≡ local_slots sheet
  pub long : length stack ≡ room
  pub deep : local_slots sheet ≤ room
  pub small : local_slots sheet ≤ 65535

-- Whatever state lies there goes through `step`.
pub record Goes (step : Marked → Marked) (marks stack : List ℕ) (top : ℕ) (marks' stack' : List ℕ) (top' : ℕ) : Type 0 where
  pub on : {sheet : List ℕ} {room : ℕ} {m : Marked} → MarkedLies sheet room m marks stack top → MarkedLies sheet room (step m) marks' stack' top'

-- The same of the value that holds them; what it borrows stays the same memory.
pub record Steps (step : Marked → Marked) (old new : SlotMarks) : Type 0 where
  pub goes : Goes step old.marks.now old.stack.now old.top new.marks.now new.stack.now new.top
  pub same_marks : new.marks.ghost_name ≡ old.marks.ghost_name
  pub same_stack : new.stack.ghost_name ≡ old.stack.ghost_name

-- The slot on top is taken from the stack, and its place is zero again.
pub record Taken (old new : SlotMarks) (slot : ℕ) : Type 0 where
  pub slot_is : slot ≡ get_or old.stack.now (old.top - 1) 0
  pub marks_are : new.marks.now ≡ old.marks.now
  pub stack_is : new.stack.now ≡ set old.stack.now (old.top - 1) 0
  pub top_is : new.top ≡ old.top - 1
  pub same_marks : new.marks.ghost_name ≡ old.marks.ghost_name
  pub same_stack : new.stack.ghost_name ≡ old.stack.ghost_name

-- the slots of a value
abbrev pub slots_in : Candidates → List ℕ
slots_in None = []
slots_in (One slot) = slot ∷ []
slots_in (Two first second) = first ∷ second ∷ []

-- slots marked in order
unfoldable pub mark_all : List ℕ → Marked → Marked
mark_all [] m = m
mark_all (slot ∷ slots) m = mark_all slots (mark slot m)

-- ---- the same of any marks and any stack, whether a state of a closure lies there or not

-- What a value holds: the marks, the stack, and how many of its entries are used.
pub record Held : Type 0 where
  pub marks : List ℕ
  pub stack : List ℕ
  pub top : ℕ

abbrev pub held : SlotMarks → Held
held m = record { marks = m.marks.now; stack = m.stack.now; top = m.top }

-- a mark and an entry more, where the test holds
unfoldable pub stored_if : Bool → ℕ → Held → Held
stored_if true slot h = record { marks = set h.marks slot 1; stack = set h.stack h.top slot; top = h.top + 1 }
stored_if false slot h = h

-- a slot without a mark gets one and goes on the stack; behind the last mark each slot reads as set
unfoldable pub store : ℕ → Held → Held
store slot h = stored_if (eqb (get_or h.marks slot 1) 0) slot h

-- slots in order
unfoldable pub store_all : List ℕ → Held → Held
store_all [] h = h
store_all (slot ∷ slots) h = store_all slots (store slot h)

-- the seeds of the instructions 0 to count − 1, in code order
unfoldable pub store_seeds : AnalysisKind → List ℕ → ℕ → Held → Held
store_seeds which sheet zero h = h
store_seeds which sheet (suc pc) h = store_all (map (field (instruction sheet pc)) (seed_fields which (instruction sheet pc).op)) (store_seeds which sheet pc h)
