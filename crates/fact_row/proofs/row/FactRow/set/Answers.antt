-- `fact_row::FactRow::set` meets its contract: what is found is a place of the row. Assumes nothing.
use mathlib.Core.Path.{refl, sym}
use Rattle.fact_row.proofs.FactSet.{same_self, set_none, set_some}
use Rattle.fact_row.proofs.row.FactRow.set.Goals as goal

pub returns-in-Some : goal.returns-in-Some
returns-in-Some c = record {
  same = record { slots = refl; kinds = refl; values = refl };
  kinds_are = set_some (sym c.in-Some.ensures) _ _;
  values_are = set_some (sym c.in-Some.ensures) _ _;
}

pub returns-in_default : goal.returns-in_default
returns-in_default c = record {
  same = same_self;
  kinds_are = set_none (sym c.in_default.ensures) _ _;
  values_are = set_none (sym c.in_default.ensures) _ _;
}
