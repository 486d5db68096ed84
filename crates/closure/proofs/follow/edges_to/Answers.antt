-- `closure::edges_to` meets its contract: slot d is outside the rows, or at one place of them.
-- Assumes nothing.
use Rattle.std.proofs.Common.{◌-◌, refl, inl, inr, arith}
use Rattle.closure_edges.proofs.EdgeRows.{edge_rows_are}
use Rattle.closure.proofs.FollowEdges.{met_none, met_some}
use Rattle.closure.proofs.follow.edges_to.Goals.{then-d-a-via-then-d-a, then-d-a-via-else-d-a+then-rule-d}
use Rattle.closure.proofs.follow.edges_to.Goals as goal

pub returns-then-d-a : goal.returns-then-d-a
returns-then-d-a c =
    let are = edge_rows_are c.args.inst c.dependence_of-rule.ensures c.args.l in
    elim c.then-d-a.branch [
      | then-d-a-via-then-d-a w ↦ met_none _ _ c.args.inst _ are _ refl (inl w.if-d-a.true) refl
      | then-d-a-via-else-d-a+then-rule-d w ↦ met_none _ _ c.args.inst _ are _ refl (inr (omega (arith, w.if-rule-d.true, w.if-d-a.false))) refl
    ]

pub returns : goal.returns
returns c =
    met_some _ _ c.args.inst _ (edge_rows_are _ c.dependence_of-rule.ensures _) _ refl (c.args.d - c.args.inst.a)
    (omega (arith, c.if-d-a.false)) c.if-rule-d.false c.requires.0 c.sources_below-sources.ensures
