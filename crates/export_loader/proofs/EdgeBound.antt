-- Few edges lead to one slot: at most two of each instruction.
-- Assumes nothing.
use mathlib.Core.Path.{◌≡◌, refl, sym, ap}
use mathlib.Core.Bool.{Bool, true, false, ◌&&◌}
use mathlib.Core.Logic.{inr}
use mathlib.Core.List.{List, [], ◌++◌}
use Prim.Native.Nat.{ℕ, zero, suc, ◌+◌, ◌*◌, ◌≤◌}
use native.Mathlib.Decide.{ℕ_discrete}
use native.Mathlib.Omega.{arith}
use lib.Dec.{eqb, ltb}
use lib.ListN.{length, length-append}
use Rattle.model.specs.Count.{collect}
use Rattle.model.specs.Sheet.{code_count, local_slots, instruction}
use Rattle.model.specs.Dependencies.{FactDependency, edge_if, edge, keep_if, edges_into, edges_to}
use Rattle.model.specs.declared.Instruction.{Instruction}
use Rattle.closure_edges.specs.Rows.{row, edge_row_if, rows, dependence}
use Rattle.closure_edges.specs.declared.Dependence.{Dependence}
use Rattle.closure_edges.proofs.EdgeRows.{edge_rows_are}
use Rattle.closure_edges.proofs.EdgesToSlot.{into_append, edge_other, row_misses}

module _ (l d kinds : ℕ) where
  edge_few : (x s : ℕ) → length (edges_into d (edge l x s kinds)) ≤ 1
  unfolding edge edge_if edges_into keep_if
  edge_few x s = go (ltb x l && ltb s l)
    where
      kept : (t : Bool) (e : FactDependency) → length (keep_if t e []) ≤ 1
      kept true e = omega arith
      kept false e = omega arith

      go : (t : Bool) → length (edges_into d (edge_if t x s kinds)) ≤ 1
      go true = kept (eqb x d) _
      go false = omega arith

  -- of a row, the one that ends there
  row_few : (a b span : ℕ) → length (edges_into d (row l a b kinds span)) ≤ 1
  unfolding row collect edges_into
  row_few a b zero = omega arith
  row_few a b (suc i) = rw (into_append d (row l a b kinds i) (edge l (a + i) (b + i) kinds)) (go (ℕ_discrete (a + i) d) (row_few a b i))
    where
      go : Dec (a + i ≡ d) → length (edges_into d (row l a b kinds i)) ≤ 1 → length (edges_into d (row l a b kinds i) ++ edges_into d (edge l (a + i) (b + i) kinds)) ≤ 1
      go (yes e) before = rw (row_misses l d kinds a b i (inr (omega arith))) (edge_few (a + i) (b + i))
      go (no apart) before =
          let none = edge_other l d kinds (a + i) (b + i) apart in
          omega (arith, length-append (edges_into d (row l a b kinds i)) (edges_into d (edge l (a + i) (b + i) kinds)), ap length none)

rows_few : (l d : ℕ) (inst : Instruction) (r : Dependence) → length (edges_into d (rows r l inst)) ≤ 2
unfolding rows
rows_few l d inst r =
    rw (into_append d (row l inst.a inst.b r.kinds r.span) (edge_row_if r.fold l inst.a inst.c r.kinds r.span))
    (omega (arith, length-append (edges_into d (row l inst.a inst.b r.kinds r.span)) (edges_into d (edge_row_if r.fold l inst.a inst.c r.kinds r.span)), row_few l d r.kinds inst.a inst.b r.span, second r.fold))
  where
    second : (t : Bool) → length (edges_into d (edge_row_if t l inst.a inst.c r.kinds r.span)) ≤ 1
    second true = unfold edge_row_if in (row_few l d r.kinds inst.a inst.c r.span)
    second false = unfold edge_row_if edges_into in (omega arith)

collect_few : {A : Type 0} (f : ℕ → List A) (n : ℕ) → ((i : ℕ) → length (f i) ≤ 2) → length (collect f n) ≤ 2 * n
unfolding collect
collect_few f zero h = omega arith
collect_few f (suc i) h = omega (arith, length-append (collect f i) (f i), collect_few f i h, h i)

pub edges_few : (sheet : List ℕ) (d : ℕ) → length (edges_to sheet d) ≤ 2 * code_count sheet
unfolding edges_to
edges_few sheet d =
    collect_few _ (code_count sheet)
    (λ pc. rw (ap (edges_into d) (sym (edge_rows_are (instruction sheet pc) refl (local_slots sheet)))) (rows_few (local_slots sheet) d (instruction sheet pc) (dependence (instruction sheet pc))))
