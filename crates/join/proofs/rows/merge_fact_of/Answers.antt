-- `join::rows::merge_fact_of` meets its contract: the rule of each analysis.
-- Assumes nothing.
use Rattle.model.specs.Tables.{fact_in}
use Rattle.join.proofs.ContainerEquality.{joins_numbers, joins_containers}
use Rattle.join.proofs.rows.merge_fact_of.Goals as goal

pub returns-in-Constant : goal.returns-in-Constant
returns-in-Constant c =
    let a = c.args in
    joins_numbers a.which a.classes.now (fact_in a.old) (fact_in a.new) c.merge_number_fact.result c.in-Constant.is
    c.merge_number_fact.ensures

pub returns-in-Container : goal.returns-in-Container
returns-in-Container c =
    let a = c.args in
    joins_containers a.which a.classes.now (fact_in a.old) (fact_in a.new) c.merge_container_fact.result c.in-Container.is
    c.merge_container_fact.ensures
