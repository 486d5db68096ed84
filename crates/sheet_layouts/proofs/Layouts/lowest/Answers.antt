-- `sheet_layouts::Layouts::lowest` meets its contract. Assumes nothing.
use mathlib.Core.Path.{ap, ◌∙◌}
use mathlib.Core.List.{List}
use Prim.Native.Nat.{ℕ}
use lib.ListN.{length, get_or}
use borrow.Author.Count.{below_more}
use native.Mathlib.Omega.{arith}
use Rattle.sheet_layouts.proofs.LowestSearch.{found, absent, unlike, same, capped}
use Rattle.sheet_layouts.proofs.Layouts.lowest.Goals as goal

-- a length differs
pub outer-preserved-then-other-own : goal.outer-preserved-then-other-own
outer-preserved-then-other-own c =
    below_more _ _ c.outer.invariant
    (unlike _ _ _ c.content-other.ensures c.content-own.ensures (λ e. c.if-other-own.true (ap (length {A = ℕ}) e)))

-- a slot kind differs
pub outer-preserved : goal.outer-preserved
outer-preserved c =
    below_more _ _ c.outer.invariant
    (unlike _ _ _ c.content-other.ensures c.content-own.ensures (λ e. c.if-other-k.true (ap (λ (kinds : List ℕ). get_or kinds c.loop-k.k 0) e)))

pub returns-in-outer : goal.returns-in-outer
returns-in-outer c =
    let alike = same _ _ _ c.content-other.ensures c.content-own.ensures (omega arith) (λ m h. c.loop-k.invariant.1 m (omega arith)) in
    found _ _ _ c.outer-test.true c.outer.invariant alike ∙ capped c.args.self.now.readable.accepted c.args.i c.min-n.ensures

pub returns : goal.returns
returns c = absent _ _ (λ k h. c.outer.invariant k (omega arith)) ∙ capped c.args.self.now.readable.accepted c.args.i c.min-n.ensures
