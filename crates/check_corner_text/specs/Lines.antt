-- The lines that are printed.
-- Assumes nothing.
use Rattle.std.specs.Prelude.{Bool, true, false, List, [], ◌∷◌, ◌++◌, ℕ, get_or}
use Rattle.model.specs.Listing.{ascii, newline}
use Rattle.model.specs.declared.FactCell.{FactCell}
use Rattle.model.specs.declared.InstructionSuccessors.{InstructionSuccessors}
use Rattle.sheet.specs.declared.Sizes.{Sizes}
use Rattle.text_lines.specs.Text.{numbered}

-- the number of the question that refuses a sheet
unfoldable pub refused_corner_line : ℕ → List ℕ
refused_corner_line number = numbered (ascii ": refused") (number ∷ []) ++ newline

-- the ten sizes of a sheet that is accepted
unfoldable pub accepted_line : Sizes → List ℕ
accepted_line s =
    numbered (ascii ": accepted")
    (s.code_count ∷ s.range_count ∷ s.constant_count ∷ s.param_count ∷ s.layout_count
    ∷ s.slot_kind_count ∷ s.local_slots ∷ s.param_slots ∷ s.recv_slots ∷ s.is_closure ∷ [])
    ++ newline

-- the successors of the instruction at pc: how many, and both entries of the record
unfoldable pub successors_line : ℕ → InstructionSuccessors → List ℕ
successors_line pc s = numbered (ascii "successors") (pc ∷ []) ++ numbered (ascii ":") (s.len ∷ get_or s.pcs 0 0 ∷ get_or s.pcs 1 0 ∷ []) ++ newline

-- the answer at the end of a line
unfoldable pub yes_or_no : Bool → List ℕ
yes_or_no true = ascii ": yes\n"
yes_or_no false = ascii ": no\n"

-- whether the instruction at pc writes the slot
unfoldable pub writes_line : ℕ → ℕ → Bool → List ℕ
writes_line pc slot written = numbered (ascii "writes") (pc ∷ slot ∷ []) ++ yes_or_no written

-- the same in the index analysis, with the fact in b
unfoldable pub index_writes_line : ℕ → FactCell → ℕ → Bool → List ℕ
index_writes_line pc before slot written =
    numbered (ascii "index writes") (pc ∷ before.kind ∷ before.value ∷ slot ∷ []) ++ yes_or_no written
