-- The edges of an instruction as rows: their number, and those to one destination.
-- Assumes nothing.
use mathlib.Core.Path.{◌≡◌, refl, sym, ap, ◌∙◌}
use mathlib.Core.Bool.{Bool, true, false, cond}
use mathlib.Core.Logic.{◌⊎◌, inl, inr}
use mathlib.Core.List.{[], append-nil}
use Prim.Native.Nat.{ℕ, zero, suc, ◌+◌, ◌-◌, ◌≤◌, ◌<◌, min}
use native.Mathlib.Nat.{add-zero}
use native.Mathlib.Omega.{arith}
use lib.Dec.{ltb, eqb}
use lib.ListN.{length, length-append}
use borrow.Author.Tests.{lt-ltb, le-ltb, ltb-true, ltb-false, ne_eqb}
use Rattle.model.specs.Count.{collect}
use Rattle.model.specs.Dependencies.{copy_dependencies, copy_work, edge_if, edge, instruction_edges, edges_by, depends, Depends, copy_edge, copy_n_edges, fold_edges, iter_edge, no_edges, dependency_bit}
use Rattle.model.specs.Opcode.{select}
use Rattle.model.specs.declared.Instruction.{Instruction}
use Rattle.closure_edges.specs.Rows.{row, edge_row_if, rows, dependence_by, dependence}
use Rattle.closure_edges.specs.declared.Dependence.{Dependence}
use mathlib.Core.Bool.{and-false}

-- ---- the rules are rows

row_one : (l a b kinds : ℕ) → row l a b kinds 1 ≡ edge l a b kinds
unfolding row collect
row_one l a b kinds = rw (add-zero a, add-zero b)

by_rows : (l : ℕ) (inst : Instruction) (rule : Depends) → rows (dependence_by rule inst) l inst ≡ edges_by rule l inst
unfolding dependence_by edges_by rows edge_row_if row collect dependency_bit
by_rows l inst copy_edge = append-nil (row l inst.a inst.b copy_dependencies 1) ∙ row_one l inst.a inst.b copy_dependencies
by_rows l inst copy_n_edges = append-nil (row l inst.a inst.b copy_dependencies inst.c)
by_rows l inst fold_edges = rw (row_one l inst.a inst.b 1, row_one l inst.a inst.c 1)
by_rows l inst iter_edge = append-nil (row l inst.a inst.b 4 1) ∙ row_one l inst.a inst.b 4
by_rows l inst no_edges = refl

-- the edges of an instruction are the rows of its dependence
pub edge_rows_are : {r : Dependence} (inst : Instruction) → r ≡ dependence inst → (l : ℕ) → rows r l inst ≡ instruction_edges l inst
unfolding instruction_edges
edge_rows_are inst e l = ap (λ (d : Dependence). rows d l inst) e ∙ by_rows l inst (depends inst.op)

-- ---- how many edges a row has

module _ (l a b kinds : ℕ) where
  edge_inside : a < l → b < l → edge l a b kinds ≡ edge_if true a b kinds
  unfolding edge
  edge_inside h k = rw (lt-ltb a l h, lt-ltb b l k)

  edge_outside : (l ≤ a) ⊎ (l ≤ b) → edge l a b kinds ≡ []
  unfolding edge edge_if
  edge_outside (inl h) = rw (le-ltb a l h)
  edge_outside (inr h) = rw (le-ltb b l h, and-false (ltb a l))

pub below_or_not : (x y : ℕ) → (x < y) ⊎ (y ≤ x)
below_or_not x y = go (ltb x y) refl
  where
    go : (t : Bool) → ltb x y ≡ t → (x < y) ⊎ (y ≤ x)
    go true e = inl (ltb-true x y e)
    go false e = inr (ltb-false x y e)

-- "4 bytes for each edge with both ends below L"
pub length_row : (l a b kinds span : ℕ) → length (row l a b kinds span) ≡ min span (min (l - a) (l - b))
unfolding row collect edge_if
length_row l a b kinds zero = omega arith
length_row l a b kinds (suc i) =
    length-append (row l a b kinds i) (edge l (a + i) (b + i) kinds) ∙ go (below_or_not (a + i) l) (below_or_not (b + i) l) (length_row l a b kinds i)
  where
    go : (a + i < l) ⊎ (l ≤ a + i) → (b + i < l) ⊎ (l ≤ b + i) → length (row l a b kinds i) ≡ min i (min (l - a) (l - b))
        → length (row l a b kinds i) + length (edge l (a + i) (b + i) kinds) ≡ min (suc i) (min (l - a) (l - b))
    go (inl h) (inl k) before = rw (edge_inside l (a + i) (b + i) kinds h k) (omega arith)
    go (inr h) k before = rw (edge_outside l (a + i) (b + i) kinds (inl h)) (omega arith)
    go (inl h) (inr k) before = rw (edge_outside l (a + i) (b + i) kinds (inr k)) (omega arith)

pub length_rows_fold : (l : ℕ) (inst : Instruction) (r : Dependence) → r.fold ≡ true
    → length (rows r l inst) ≡ min r.span (min (l - inst.a) (l - inst.b)) + min r.span (min (l - inst.a) (l - inst.c))
unfolding rows edge_row_if
length_rows_fold l inst r e =
    rw e (length-append (row l inst.a inst.b r.kinds r.span) (row l inst.a inst.c r.kinds r.span)
    ∙ rw (length_row l inst.a inst.b r.kinds r.span, length_row l inst.a inst.c r.kinds r.span))

pub length_rows_one : (l : ℕ) (inst : Instruction) (r : Dependence) → r.fold ≡ false → length (rows r l inst) ≡ min r.span (min (l - inst.a) (l - inst.b))
unfolding rows edge_row_if
length_rows_one l inst r e = rw (e, append-nil (row l inst.a inst.b r.kinds r.span)) (length_row l inst.a inst.b r.kinds r.span)

-- ---- as the code counts them

module _ (inst : Instruction) (l : ℕ) {count : ℕ} (r : Dependence) (are : rows r l inst ≡ instruction_edges l inst) where
  pub counted_one : r.fold ≡ false → count ≡ min r.span (min (l - inst.a) (l - inst.b)) → count ≡ length (instruction_edges l inst)
  counted_one f e = e ∙ sym (length_rows_one l inst r f) ∙ ap length are

  pub counted_fold : {more : ℕ} → r.fold ≡ true → count ≡ min r.span (min (l - inst.a) (l - inst.b)) → more ≡ min r.span (min (l - inst.a) (l - inst.c))
      → count + more ≡ length (instruction_edges l inst)
  counted_fold f e k = rw (e, k) (sym (length_rows_fold l inst r f) ∙ ap length are)

-- ---- the opcodes

-- Or and Shl have the same rule
pub folds : (inst : Instruction) → (inst.op ≡ 49) ⊎ (inst.op ≡ 53) → record { span = 1; fold = true; kinds = 1 } ≡ dependence inst
unfolding depends select dependence_by dependency_bit
folds inst (inl e) = rw e
folds inst (inr e) = rw e

-- what holds of every other rule holds of any other opcode's
pub by_rule : (P : Depends → Type 0) (op : ℕ) → (op ≡ 4 → ⊥) → P copy_edge → P fold_edges → P iter_edge → P no_edges → P (depends op)
unfolding depends select
by_rule P op h copy fold iter none =
    rw (ne_eqb op 4 h)
    (either (eqb op 3) _ _ copy (either (eqb op 53) _ _ fold (either (eqb op 49) _ _ fold (either (eqb op 94) _ _ iter none))))
  where
    either : (b : Bool) (x y : Depends) → P x → P y → P (cond b x y)
    either true x y p q = p
    either false x y p q = q

-- only CopyN charges work
pub no_copy_work : (inst : Instruction) → (inst.op ≡ 4 → ⊥) → copy_work (depends inst.op) inst ≡ 0
unfolding copy_work
no_copy_work inst h = by_rule (λ (d : Depends). copy_work d inst ≡ 0) inst.op h refl refl refl refl
