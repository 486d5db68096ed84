-- `stage_entry::seeds::param_row` meets its contract. Assumes nothing.
use mathlib.Core.Path.{ap, ◌∙◌}
use lib.ListN.{length}
use Rattle.model.specs.Analyses.{unknown_row}
use Rattle.budget.specs.Outcome.{leaves_of}
use Rattle.fact_row.proofs.FactSet.{same_self}
use Rattle.stage_entry.specs.Start.{param_start_of}
use Rattle.stage_entry.specs.First.{row_laid, zero_row}
use Rattle.stage_entry.proofs.RowsMade.{blank_lies}
use Rattle.stage_entry.proofs.FirstRows.{param_none, param_some}
use Rattle.stage_entry.proofs.seeds.param_row.Goals as goal

pub returns-in_default : goal.returns-in_default
returns-in_default c = record {
  same = same_self;
  leaves = param_none c.args.sheet.now.bytes.now c.args.resources _ c.args.row.now c.param_start.ensures (ap param_start_of c.in_default.is) (blank_lies c.requires);
}

pub returns : goal.returns
returns c =
    let a = c.args in
    let slots = a.row.now.slots.now in
    record {
      same = c.seed_params.ensures.same;
      leaves =
          c.seed_params.ensures.leaves _ (blank_lies c.requires)
          ∙ ap (leaves_of row_laid (zero_row (length slots)))
          (param_some a.sheet.now.bytes.now a.resources (unknown_row slots) a.row.now c.param_start.ensures (ap param_start_of c.in-Some.is));
    }
