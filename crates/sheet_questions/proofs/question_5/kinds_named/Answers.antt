-- `sheet_questions::question_5::kinds_named` meets its contract. Assumes nothing.
use Rattle.std.proofs.Common.{rules}
use Rattle.model.specs.Sheet.{kinds_named, note_named, constant_named, param_named, slot_kind_named}
use Rattle.sheet.proofs.SizeNames.{counted}
use Rattle.sheet_questions.proofs.question_5.kinds_named.Goals as goal

pub returns : goal.returns
unfolding kinds_named
returns c =
    let sheet = c.args.sheet.now.bytes.now in
    let n = counted c.args.sheet.now.measured.are in
    rw (
      c.all_named-notes.ensures (note_named sheet) (λ i b below said. search rules),
      c.all_named-constants.ensures (constant_named sheet) (λ i b below said. search rules),
      c.all_named-params.ensures (param_named sheet) (λ i b below said. search rules),
      c.all_named-slot_kinds.ensures (slot_kind_named sheet) (λ i b below said. search rules),
      n.code_count_is,
      n.constant_count_is,
      n.param_count_is,
      n.slot_kind_count_is,
    )
