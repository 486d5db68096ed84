-- `stage_entry::seeds::seed_param` meets its contract. Assumes nothing.
use mathlib.Core.Path.{sym, ap, ◌∙◌}
use mathlib.Core.Option.{Option}
use lib.ListN.{length}
use Rattle.model.specs.Fact.{Fact}
use Rattle.model.specs.Parameters.{param_fact, seed_param}
use Rattle.budget.specs.Outcome.{leaves_of}
use Rattle.fact_row.proofs.FactSet.{same_self}
use Rattle.stage_entry.specs.First.{row_laid, zero_row}
use Rattle.stage_entry.proofs.ParamFacts.{brings_none, brings}
use Rattle.stage_entry.proofs.ParamSeeds.{seed_none}
use Rattle.stage_entry.proofs.seeds.seed_param.Goals as goal

pub returns-then-cell-eq0 : goal.returns-then-cell-eq0
returns-then-cell-eq0 c = record {
  same = same_self;
  leaves = λ facts l. let a = c.args in seed_none a.sheet.now.bytes.now a.slot _ a.row.now l (param_fact a.sheet.now.bytes.now a.i) (brings_none _ a.i c.param_fact-cell.ensures c.if-cell-eq0.true);
}

pub returns : goal.returns
returns c =
    let a = c.args in
    let b = brings _ a.i c.param_fact-cell.ensures c.if-cell-eq0.false in
    let slots = a.row.now.slots.now in
    record {
      same = c.seed_fact.ensures.same;
      leaves = λ facts l.
          c.seed_fact.ensures.leaves facts b.0 l b.2
          ∙ ap (λ (o : Option Fact). leaves_of row_laid (zero_row (length slots)) (seed_param a.sheet.now.bytes.now slots a.slot o facts a.resources)) (sym b.1);
    }
