-- The three analyses are lawful, so demand 3 holds of each one's defined run.
-- Assumes nothing.
use mathlib.Core.Path.{◌≡◌, refl, ap}
use mathlib.Core.Bool.{Bool, true, false, cond}
use mathlib.Core.Logic.{inl, inr}
use mathlib.Core.List.Memᴰ.{append_cases}
use mathlib.Core.List.Memᴰ.{eq_of_singleton}
use mathlib.Core.List.Memᴰ.{not-nil}
use mathlib.Core.List.{List, [], ◌∷◌, ◌++◌, Memᴰ as Member}
use mathlib.Core.Option.{Option, none, some}
use Prim.Native.Nat.{ℕ, zero, suc, ◌+◌, ◌<◌, ◌/◌, ◌%◌}
use native.Mathlib.Omega.{arith}
use lib.Dec.{ltb}
use lib.IntN.{ℤ, pos, negsuc}
use lib.ListN.{length, length-replicate}
use borrow.Author.Tests.{ltb-true}
use Rattle.model.specs.Sheet.{code_count, instruction, layout, param_width, param_count}
use Rattle.model.specs.Count.{sum}
use Rattle.model.specs.Successors.{Branch, fall_through, jump, conditional, for_loop, leave, branch, contains, push, push_valid, push_fallthrough, jump_target, for_loop_target, branch_successors, successors, sheet_successors}
use Rattle.model.specs.Charges.{ok}
use Rattle.model.specs.Fact.{Fact, unknown, Row, equal_numbers, equal_layouts, equal_containers, equal_known}
use Rattle.model.specs.Transfer.{each_cell, put, index_checked, constant_transfer, index_transfer, container_transfer, transfer_row}
use Rattle.model.specs.Parameters.{param_start, param_fact, param_row, seed_param, seed_params}
use Rattle.model.specs.Analyses.{unknown_row, analysis, container_row, first_row}
use Rattle.model.specs.Demand.{Lawful, Demand3}
use Rattle.model.specs.declared.VerifierResources.{VerifierResources}
use Rattle.model.specs.declared.Instruction.{Instruction}
use Rattle.model.specs.declared.AnalysisKind.{AnalysisKind}
use Rattle.model.specs.declared.AnalysisKind.TheVariants.{Constant, IndexCheck, Container}
use Rattle.model.proofs.Equality.{eqb_self, content_self}
use Rattle.model.proofs.Metered.{bound_parts, then_parts, given}
use Rattle.finality.proofs.Demand.{demand3}

-- ---- successors lie below n

Below : ℕ → List ℕ → Type 0
Below n pcs = (q : ℕ) → Member q pcs → q < n

push_below : (n : ℕ) (pcs : List ℕ) (x : ℕ) → x < n → Below n pcs → Below n (push pcs x)
unfolding push Below
push_below n pcs x h below = go (contains pcs x)
  where
    go : (b : Bool) (q : ℕ) → Member q (cond b pcs (pcs ++ (x ∷ []))) → q < n
    go true q m = below q m
    go false q m = elim (append_cases pcs m) [ inl k ↦ below q k | inr k ↦ rw (eq_of_singleton k) h ]

valid_below : (n : ℕ) (pcs : List ℕ) (target : ℤ) → Below n pcs → Below n (push_valid n pcs target)
unfolding push_valid
valid_below n pcs (pos target) below = go (ltb target n) refl
  where
    go : (b : Bool) → ltb target n ≡ b → Below n (cond b (push pcs target) pcs)
    go true e = push_below n pcs target (omega (arith, ltb-true)) below
    go false e = below
valid_below n pcs (negsuc k) below = below

none_below : (n : ℕ) → Below n []
unfolding Below
none_below n q m = absurd (not-nil m)

branch_below : (b : Branch) (n pc : ℕ) (inst : Instruction) → Below n (branch_successors b n pc inst)
unfolding branch_successors push_fallthrough
branch_below fall_through n pc inst = valid_below n [] (pos (pc + 1)) (none_below n)
branch_below jump n pc inst = valid_below n [] (jump_target pc inst) (none_below n)
branch_below conditional n pc inst = valid_below n (push_valid n [] (pos (pc + 1))) (jump_target pc inst) (valid_below n [] (pos (pc + 1)) (none_below n))
branch_below for_loop n pc inst = valid_below n (push_valid n [] (pos (pc + 1))) (for_loop_target pc inst) (valid_below n [] (pos (pc + 1)) (none_below n))
branch_below leave n pc inst = none_below n

pub successors_below : (sheet : List ℕ) (p q : ℕ) → Member q (sheet_successors sheet p) → q < code_count sheet
unfolding sheet_successors successors Below
successors_below sheet p q m = branch_below (branch (instruction sheet p).op) (code_count sheet) p (instruction sheet p) q m

-- ---- a transfer keeps the row's length

cells_length : (cell : ℕ → Fact → Fact) (slots : List ℕ) (row : Row) → length row ≡ length slots → length (each_cell cell slots row) ≡ length slots
unfolding each_cell
cells_length cell [] row h = refl
cells_length cell (t ∷ ts) [] h = h
cells_length cell (t ∷ ts) (f ∷ fs) h = ap suc (cells_length cell ts fs (omega arith))

put_length : (slots : List ℕ) (row : Row) (slot : ℕ) (fact : Fact) → length row ≡ length slots → length (put slots row slot fact) ≡ length slots
unfolding put
put_length slots row slot fact h = cells_length _ slots row h

index_length : (b : Bool) (inst : Instruction) (slots : List ℕ) (fact : Fact) (row : Row) → length row ≡ length slots → length (index_checked b inst slots fact row) ≡ length slots
unfolding index_checked
index_length true inst slots fact row h = put_length slots row inst.a fact h
index_length false inst slots fact row h = h

pub transfer_length : (which : AnalysisKind) (sheet slots : List ℕ) (length_fact : ℕ → Fact) (pc : ℕ) (row : Row)
    → length row ≡ length slots → length (transfer_row which sheet slots length_fact pc row) ≡ length slots
unfolding transfer_row constant_transfer index_transfer container_transfer
transfer_length Constant sheet slots length_fact pc row h = cells_length _ slots row h
transfer_length IndexCheck sheet slots length_fact pc row h = index_length _ (instruction sheet pc) slots _ _ (cells_length _ slots row h)
transfer_length Container sheet slots length_fact pc row h = cells_length _ slots row h

-- ---- a known fact equals itself

numbers_self : (k v : ℕ) → equal_numbers k v k v ≡ true
unfolding equal_numbers
numbers_self k v = rw (eqb_self k, eqb_self v)

known_self : (which : AnalysisKind) (sheet : List ℕ) (k v : ℕ) → equal_known which sheet k v k v ≡ true
unfolding equal_known equal_containers equal_layouts
known_self Constant sheet k v = numbers_self k v
known_self IndexCheck sheet k v = numbers_self k v
known_self Container sheet k v = rw (eqb_self k, content_self (layout sheet (v / 65536)), content_self (layout sheet (v % 65536)))

-- ---- the first row has s facts

pub unknown_length : (slots : List ℕ) → length (unknown_row slots) ≡ length slots
unfolding unknown_row
unknown_length slots = length-replicate (length slots) unknown

module _ (sheet slots : List ℕ) where
  param_length : (slot : ℕ) (f : Option Fact) (row : Row) (budget : VerifierResources) (out : Row) (left : VerifierResources)
      → length row ≡ length slots → seed_param sheet slots slot f row budget ≡ ok out left → length out ≡ length slots
  unfolding seed_param
  param_length slot none row budget out left h e = rw⁻¹ (given row budget e) h
  param_length slot (some fact) row budget out left h e =
      let p = then_parts e in
      rw⁻¹ (given (put slots row slot fact) p.rest p.after) (put_length slots row slot fact h)

  params_length : (start i : ℕ) (row : Row) (budget : VerifierResources) (out : Row) (left : VerifierResources)
      → length row ≡ length slots → seed_params sheet slots start i row budget ≡ ok out left → length out ≡ length slots
  unfolding seed_params
  params_length start zero row budget out left h e = rw⁻¹ (given row budget e) h
  params_length start (suc i) row budget out left h e =
      let p = bound_parts e in
      param_length (start + sum (λ j. param_width sheet j) i) (param_fact sheet i) p.a p.rest out left (params_length start i row budget p.a p.rest h p.before) p.after

  row_length : (start : Option ℕ) (row : Row) (budget : VerifierResources) (out : Row) (left : VerifierResources)
      → length row ≡ length slots → param_row sheet slots start row budget ≡ ok out left → length out ≡ length slots
  unfolding param_row
  row_length none row budget out left h e = rw⁻¹ (given row budget e) h
  row_length (some start) row budget out left h e = params_length start (param_count sheet) row budget out left h e

  container_length : (b : Bool) (budget : VerifierResources) (entry : Row) (left : VerifierResources) → container_row b sheet slots budget ≡ ok entry left → length entry ≡ length slots
  unfolding container_row
  container_length true budget entry left e = rw⁻¹ (given (unknown_row slots) budget e) (unknown_length slots)
  container_length false budget entry left e =
      let p = bound_parts e in
      let r = then_parts p.after in
      rw⁻¹ (given p.a r.rest r.after) (row_length (param_start sheet) (unknown_row slots) budget p.a p.rest (unknown_length slots) p.before)

  pub entry_length : (which : AnalysisKind) (budget : VerifierResources) (entry : Row) (left : VerifierResources)
      → first_row which sheet slots budget ≡ ok entry left → length entry ≡ length slots
  unfolding first_row
  entry_length Constant budget entry left e = rw⁻¹ (given (unknown_row slots) budget e) (unknown_length slots)
  entry_length IndexCheck budget entry left e = rw⁻¹ (given (unknown_row slots) budget e) (unknown_length slots)
  entry_length Container budget entry left e = container_length _ budget entry left e

-- ---- the three

-- Every analysis whose first row has s facts is lawful.
pub lawful : (which : AnalysisKind) (sheet slots : List ℕ) (length_fact : ℕ → Fact) (entry : Row) → length entry ≡ length slots
    → Lawful (analysis which sheet slots length_fact entry)
unfolding analysis
lawful which sheet slots length_fact entry h = record {
  successors_below = successors_below sheet;
  transfer_length = transfer_length which sheet slots length_fact;
  entry_length = h;
  same_self = known_self which sheet;
}

pub demand : (which : AnalysisKind) (sheet slots : List ℕ) (length_fact : ℕ → Fact) (entry : Row) → length entry ≡ length slots
    → (left : ℕ) → Demand3 (analysis which sheet slots length_fact entry) left
demand which sheet slots length_fact entry h = demand3 (analysis which sheet slots length_fact entry) (lawful which sheet slots length_fact entry h)
