-- The edges of an instruction that lead to one slot: none do outside a .. a + span − 1.
-- Assumes nothing.
use mathlib.Core.Path.{◌≡◌, refl, sym, ap, ◌∙◌}
use mathlib.Core.Bool.{Bool, true, false, ◌&&◌}
use mathlib.Core.Logic.{◌⊎◌, inl, inr}
use mathlib.Core.List.{List, [], ◌∷◌, ◌++◌}
use Prim.Native.Nat.{ℕ, zero, suc, ◌+◌, ◌≤◌, ◌<◌}
use native.Mathlib.Omega.{arith}
use lib.Dec.{ltb, eqb}
use borrow.Author.Tests.{ne_eqb}
use Rattle.model.specs.Count.{collect}
use Rattle.model.specs.Dependencies.{FactDependency, edge_if, edge, instruction_edges, keep_if, edges_into}
use Rattle.model.specs.declared.Instruction.{Instruction}
use Rattle.closure_edges.specs.Rows.{row, edge_row_if, rows, dependence}
use Rattle.closure_edges.specs.declared.Dependence.{Dependence}
use Rattle.closure_edges.proofs.EdgeRows.{edge_rows_are}

pub into_append : (d : ℕ) (xs ys : List FactDependency) → edges_into d (xs ++ ys) ≡ edges_into d xs ++ edges_into d ys
unfolding edges_into keep_if
into_append d [] ys = refl
into_append d (x ∷ xs) ys = go (eqb x.destination d) (into_append d xs ys)
  where
    go : (t : Bool) → edges_into d (xs ++ ys) ≡ edges_into d xs ++ edges_into d ys
        → keep_if t x (edges_into d (xs ++ ys)) ≡ keep_if t x (edges_into d xs) ++ edges_into d ys
    go true e = ap (λ (es : List FactDependency). x ∷ es) e
    go false e = e

module _ (l d kinds : ℕ) where
  pub edge_other : (x s : ℕ) → (x ≡ d → ⊥) → edges_into d (edge l x s kinds) ≡ []
  unfolding edge edge_if edges_into keep_if
  edge_other x s h = go (ltb x l && ltb s l)
    where
      go : (t : Bool) → edges_into d (edge_if t x s kinds) ≡ []
      go true = rw (ne_eqb x d h)
      go false = refl

  pub row_misses : (a b span : ℕ) → (d < a) ⊎ (a + span ≤ d) → edges_into d (row l a b kinds span) ≡ []
  unfolding row collect edges_into
  row_misses a b zero h = refl
  row_misses a b (suc i) h = into_append d (row l a b kinds i) (edge l (a + i) (b + i) kinds) ∙ rw (row_misses a b i (earlier h)) (edge_other (a + i) (b + i) (apart h))
    where
      earlier : (d < a) ⊎ (a + suc i ≤ d) → (d < a) ⊎ (a + i ≤ d)
      earlier (inl k) = inl k
      earlier (inr k) = inr (omega arith)

      apart : (d < a) ⊎ (a + suc i ≤ d) → a + i ≡ d → ⊥
      apart (inl k) e = omega arith
      apart (inr k) e = omega arith

-- outside the rows
pub misses : (l d : ℕ) (inst : Instruction) (r : Dependence) → (d < inst.a) ⊎ (inst.a + r.span ≤ d) → edges_into d (rows r l inst) ≡ []
unfolding rows edge_row_if edges_into
misses l d inst r h = into_append d (row l inst.a inst.b r.kinds r.span) _ ∙ rw (row_misses l d r.kinds inst.a inst.b r.span h) (go r.fold)
  where
    go : (t : Bool) → edges_into d (edge_row_if t l inst.a inst.c r.kinds r.span) ≡ []
    go true = row_misses l d r.kinds inst.a inst.c r.span h
    go false = refl

-- and so of the instruction
pub span_misses : (l d : ℕ) (inst : Instruction) → (d < inst.a) ⊎ (inst.a + (dependence inst).span ≤ d) → edges_into d (instruction_edges l inst) ≡ []
span_misses l d inst h = ap (edges_into d) (sym (edge_rows_are inst refl l)) ∙ misses l d inst (dependence inst) h
