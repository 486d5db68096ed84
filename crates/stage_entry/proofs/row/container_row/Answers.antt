-- `stage_entry::container_row` meets its contract. Assumes nothing.
use mathlib.Core.Path.{sym, ◌∙◌}
use Rattle.fact_row.proofs.FactSet.{same_again}
use Rattle.stage_entry.proofs.Refusals.{refused_not_covered, leaves_again, err_not_covered, ok_covered}
use Rattle.stage_entry.proofs.RowsMade.{blanked}
use Rattle.stage_entry.proofs.FirstRows.{params_refused, notes_refused, notes_covered}
use Rattle.stage_entry.proofs.row.container_row.Goals as goal

pub returns-in_err-left : goal.returns-in_err-left
returns-in_err-left c =
    let a = c.args in record {
      same = c.param_row.ensures.same;
      leaves =
          leaves_again c.from_residual.result c.in_err-left.was c.from_residual.ensures.1
          (params_refused a.sheet.now.bytes.now a.row.now.slots.now a.resources c.param_row.result c.param_row.ensures.leaves (refused_not_covered c.in_err-left.was));
    }

pub returns-then-is_err : goal.returns-then-is_err
returns-then-is_err c =
    let a = c.args in
    let same = same_again c.param_row.ensures.same c.clear.ensures.same in
    record {
      same = same;
      leaves =
          notes_refused a.sheet.now.bytes.now a.row.now.slots.now a.resources _ c.param_row.ensures.leaves c.in_ok-left.was c.charge_instruction_facts-charged.result
          c.charge_instruction_facts-charged.ensures (err_not_covered (sym c.is_err.ensures.value ∙ c.if-is_err.true)) (blanked same c.clear.ensures.zero);
    }

pub returns-else-is_err : goal.returns-else-is_err
returns-else-is_err c =
    let a = c.args in
    let o = ok_covered c.charge_instruction_facts-charged.result (sym c.is_err.ensures.value ∙ c.if-is_err.false) in
    record {
      same = c.param_row.ensures.same;
      leaves = notes_covered a.sheet.now.bytes.now a.row.now.slots.now a.resources _ c.param_row.ensures.leaves c.in_ok-left.was _ c.charge_instruction_facts-charged.ensures o.1;
    }
