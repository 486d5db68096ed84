-- The edges of an instruction as rows: to a, a + 1, .. from b, b + 1, .., and from c, c + 1, .. where it has two sources.
-- Assumes nothing.
use Rattle.std.specs.Prelude.{Bool, true, false, List, [], ◌++◌, ℕ, ◌+◌}
use Rattle.model.specs.Count.{collect}
use Rattle.model.specs.Dependencies.{FactDependency, copy_dependencies, dependency_bit, edge, Depends, copy_edge, copy_n_edges, fold_edges, iter_edge, no_edges, depends}
use Rattle.model.specs.declared.Instruction.{Instruction}
use Rattle.model.specs.declared.AnalysisKind.TheVariants.{Constant, Container}
use Rattle.closure_edges.specs.declared.Dependence.{Dependence}

-- the edges to a + i from b + i, for i below span
unfoldable pub row : ℕ → ℕ → ℕ → ℕ → ℕ → List FactDependency
row l a b kinds span = collect (λ i. edge l (a + i) (b + i) kinds) span

-- a row, where the test holds
unfoldable pub edge_row_if : Bool → ℕ → ℕ → ℕ → ℕ → ℕ → List FactDependency
edge_row_if true l a b kinds span = row l a b kinds span
edge_row_if false l a b kinds span = []

-- the edges of an instruction that depends so
unfoldable pub rows : Dependence → ℕ → Instruction → List FactDependency
rows r l inst = row l inst.a inst.b r.kinds r.span ++ edge_row_if r.fold l inst.a inst.c r.kinds r.span

-- how the slots that an instruction sets depend on others, by its rule: one of them, or "CopyN's count is c", of a mask
unfoldable pub dependence_by : Depends → Instruction → Dependence
dependence_by copy_edge inst = record { span = 1; fold = false; kinds = copy_dependencies }
dependence_by copy_n_edges inst = record { span = inst.c; fold = false; kinds = copy_dependencies }
dependence_by fold_edges inst = record { span = 1; fold = true; kinds = dependency_bit Constant }
dependence_by iter_edge inst = record { span = 1; fold = false; kinds = dependency_bit Container }
dependence_by no_edges inst = record { span = 0; fold = false; kinds = 0 }

-- the same, by its opcode
abbrev pub dependence : Instruction → Dependence
dependence inst = dependence_by (depends inst.op) inst
