-- The line that answers a question, by what is asked.
-- Assumes nothing.
use mathlib.Core.Path.{◌≡◌, refl, ap, ap₂, ◌∙◌}
use mathlib.Core.Bool.{Bool}
use mathlib.Core.List.{List}
use Prim.Native.Nat.{ℕ}
use native.Mathlib.Omega.{arith}
use Rattle.std.proofs.Common.{Ok, Err}
use Rattle.model.specs.Sheet.{code_count, instruction}
use Rattle.model.specs.Successors.{successors, as_record}
use Rattle.model.specs.Written.{written, index_written}
use Rattle.model.specs.Tables.{fact_in}
use Rattle.model.specs.declared.Instruction.{Instruction}
use Rattle.model.specs.declared.InstructionSuccessors.{InstructionSuccessors}
use Rattle.text_lines.specs.Page.{Written}
use Rattle.text_lines.specs.declared.page.Page.{Page}
use Rattle.text_lines.proofs.TextWritten.{reword, no_text}
use Rattle.check_corner_text.specs.Lines.{successors_line, writes_line, index_writes_line}
use Rattle.check_corner_text.specs.Answers.{answer_by, answer_line}
use Rattle.check_corner_text.specs.declared.Question.{Question}
use Rattle.check_corner_text.specs.declared.Asked.TheVariants.{Successors, Writes, IndexWrites}
use Rattle.check_corner_text.specs.declared.UnknownAsked.{UnknownAsked}

module _ (sheet : List ℕ) (q : Question) {old new : Page} where
  pub successors_answered : (n : ℕ) (inst : Instruction) {s : InstructionSuccessors} → q.asks ≡ Ok Successors → n ≡ code_count sheet → inst ≡ instruction sheet q.pc
      → s ≡ as_record (successors n q.pc inst) → Written 96 (successors_line q.pc s) old new → Written 102 (answer_line sheet q) old new
  unfolding answer_line answer_by
  successors_answered n inst e m i p w = rw e (reword (omega arith) (ap (successors_line q.pc) (p ∙ ap₂ (λ c x. as_record (successors c q.pc x)) m i)) w)

  pub writes_answered : {b : Bool} → q.asks ≡ Ok Writes → b ≡ written sheet q.pc q.slot → Written 54 (writes_line q.pc q.slot b) old new → Written 102 (answer_line sheet q) old new
  unfolding answer_line answer_by
  writes_answered e p w = rw e (reword (omega arith) (ap (writes_line q.pc q.slot) p) w)

  pub index_answered : {b : Bool} → q.asks ≡ Ok IndexWrites → b ≡ index_written sheet q.pc (fact_in q.before) q.slot
      → Written 102 (index_writes_line q.pc q.before q.slot b) old new → Written 102 (answer_line sheet q) old new
  unfolding answer_line answer_by
  index_answered e p w = rw e (reword (omega arith) (ap (index_writes_line q.pc q.before q.slot) p) w)

-- none of these is asked
pub not_answered : (sheet : List ℕ) (q : Question) (page : Page) {unknown : UnknownAsked} → q.asks ≡ Err unknown → Written 102 (answer_line sheet q) page page
unfolding answer_line answer_by
not_answered sheet q page e = rw e (reword (omega arith) refl (no_text page))
