-- `stage_entry::seeds::seed_fact` meets its contract. Assumes nothing.
use mathlib.Core.Path.{sym, ◌∙◌}
use Rattle.stage_entry.proofs.Refusals.{err_not_covered, ok_covered}
use Rattle.stage_entry.proofs.ParamSeeds.{seed_covered, seed_refused}
use Rattle.stage_entry.proofs.seeds.seed_fact.Goals as goal

pub returns-then-is_err : goal.returns-then-is_err
returns-then-is_err c = record {
  same = c.clear.ensures.same;
  leaves = λ facts fact l e.
      seed_refused c.args.sheet.now.bytes.now c.args.slot _ c.args.row.now l fact e c.charge_layouts-charged.result c.charge_layouts-charged.ensures
      (err_not_covered (sym c.is_err.ensures.value ∙ c.if-is_err.true)) c.clear.ensures.same c.clear.ensures.zero;
}

pub returns : goal.returns
returns c = record {
  same = c.set.ensures.same;
  leaves = λ facts fact l e.
      seed_covered c.args.sheet.now.bytes.now c.args.slot _ c.args.row.now l fact e _ c.charge_layouts-charged.ensures
      (ok_covered c.charge_layouts-charged.result (sym c.is_err.ensures.value ∙ c.if-is_err.false)).1 c.set.ensures;
}
