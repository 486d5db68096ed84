-- `closure_edges::edges::edge_count` meets its contract: the rows' lengths.
-- Assumes nothing.
use Rattle.closure_edges.proofs.EdgeRows.{edge_rows_are, counted_one, counted_fold}
use Rattle.closure_edges.proofs.edges.edge_count.Goals as goal

pub returns-then-rule : goal.returns-then-rule
returns-then-rule c =
    counted_fold c.args.inst _ _ (edge_rows_are _ c.dependence_of-rule.ensures _) c.if-rule.true c.row_length-first.ensures.0 c.row_length.ensures.0

pub returns : goal.returns
returns c = counted_one c.args.inst _ _ (edge_rows_are _ c.dependence_of-rule.ensures _) c.if-rule.false c.row_length-first.ensures.0
