-- The transfers and the first rows make only facts whose kinds their analysis names.
-- Assumes nothing.
use mathlib.Core.Path.{◌≡◌, refl}
use mathlib.Core.Bool.{Bool, true, false, cond}
use mathlib.Core.List.{List, [], ◌∷◌}
use mathlib.Core.Option.{Option, none, some}
use Prim.Native.Nat.{ℕ, zero, suc, ◌+◌, ◌≤◌}
use native.Mathlib.Omega.{arith}
use lib.Dec.{leb, ltb, eqb}
use lib.IntN.{ℤ, pos, negsuc}
use lib.ListN.{length, replicate}
use Rattle.model.specs.Sheet.{instruction, param_width, param_count}
use Rattle.model.specs.Count.{sum}
use Rattle.model.specs.Charges.{ok}
use Rattle.model.specs.Fact.{Fact, unknown, conflict, known, kind, Row}
use Rattle.model.specs.Transfer as T
use Rattle.model.specs.Transfer.{fact_for, each_cell, replaced, put, target, transfer_row}
use Rattle.model.specs.Parameters.{param_start, param_fact_by, param_fact, param_row, seed_param, seed_params}
use Rattle.model.specs.Analyses.{unknown_row, container_row, first_row}
use Rattle.model.specs.Lookup.{last_kind}
use Rattle.model.specs.declared.VerifierResources.{VerifierResources}
use Rattle.model.specs.declared.Instruction.{Instruction}
use Rattle.model.specs.declared.AnalysisKind.{AnalysisKind}
use Rattle.model.specs.declared.AnalysisKind.TheVariants.{Constant, IndexCheck, Container}
use Rattle.model.proofs.Metered.{bound_parts, then_parts, given}
use Rattle.lookup.proofs.NamedKinds.{Named}

-- ---- rows, for any last kind

module _ (last : ℕ) where
  fact_named : (slots : List ℕ) (row : Row) (slot : ℕ) → Named last row → kind (fact_for slots row slot) ≤ last
  unfolding fact_for kind
  fact_named [] row slot k = omega arith
  fact_named (t ∷ ts) [] slot k = omega arith
  fact_named (t ∷ ts) (f ∷ fs) slot k = go (fact_named ts fs slot k.1) (eqb slot t)
    where
      go : kind (fact_for ts fs slot) ≤ last → (b : Bool) → kind (cond b f (fact_for ts fs slot)) ≤ last
      go later true = k.0
      go later false = later

  cells_named : (cell : ℕ → Fact → Fact) → ((t : ℕ) (f : Fact) → kind f ≤ last → kind (cell t f) ≤ last)
      → (slots : List ℕ) (row : Row) → Named last row → Named last (each_cell cell slots row)
  unfolding each_cell
  cells_named cell c [] row k = tt
  cells_named cell c (t ∷ ts) [] k = tt
  cells_named cell c (t ∷ ts) (f ∷ fs) k = (c t f k.0, cells_named cell c ts fs k.1)

  replaced_named : (b : Bool) (old new : Fact) → kind old ≤ last → kind new ≤ last → kind (replaced b old new) ≤ last
  unfolding replaced
  replaced_named true old new h k = k
  replaced_named false old new h k = h

  put_named : (slots : List ℕ) (row : Row) (slot : ℕ) (fact : Fact) → kind fact ≤ last → Named last row → Named last (put slots row slot fact)
  unfolding put
  put_named slots row slot fact h k = cells_named _ (λ t f l. replaced_named (eqb t slot) f fact l h) slots row k

  target_named : (b : Bool) (fact : Fact) → kind fact ≤ last → kind (target b fact) ≤ last
  unfolding target kind
  target_named true fact h = h
  target_named false fact h = omega arith

  unknowns_named : (s : ℕ) → Named last (replicate s unknown)
  unfolding kind
  unknowns_named zero = tt
  unknowns_named (suc s) = (omega arith, unknowns_named s)

  module _ (inst : Instruction) (slots : List ℕ) (row : Row) (k : Named last row) (slot : ℕ) where
    copied_named : kind (T.copied inst slots row slot) ≤ last
    unfolding T.copied
    copied_named = target_named _ _ (fact_named slots row inst.b k)

    copied_n-named : kind (T.copied_n inst slots row slot) ≤ last
    unfolding T.copied_n
    copied_n-named = target_named _ _ (fact_named slots row _ k)

-- ---- constants

integer_named : (z : ℤ) → kind (T.integer z) ≤ 3
unfolding T.integer kind
integer_named (pos v) = omega arith
integer_named (negsuc v) = omega arith

loaded_named : (b : Bool) (sheet : List ℕ) (i : ℕ) → kind (T.loaded b sheet i) ≤ 3
unfolding T.loaded kind
loaded_named true sheet i = integer_named _
loaded_named false sheet i = omega arith

folded_named : (f : ℕ → ℕ → Fact) → ((x y : ℕ) → kind (f x y) ≤ 3) → (x y : Option ℕ) → kind (T.fold_binary f x y) ≤ 3
unfolding T.fold_binary kind
folded_named f h none y = omega arith
folded_named f h (some x) none = omega arith
folded_named f h (some x) (some y) = h x y

shifted_named : (b : Bool) (x y : ℕ) → kind (T.shifted b x y) ≤ 3
unfolding T.shifted kind
shifted_named true x y = omega arith
shifted_named false x y = omega arith

or_named : (x y : ℕ) → kind (T.or x y) ≤ 3
unfolding T.or kind
or_named x y = omega arith

constant_named_lem : (rule : T.ConstantRule) (sheet : List ℕ) (inst : Instruction) (slots : List ℕ) (row : Row) (slot : ℕ) → Named 3 row
    → kind (T.constant_fact rule sheet inst slots row slot) ≤ 3
unfolding T.constant_fact T.load_const T.fold T.shl kind
constant_named_lem T.load_int_rule sheet inst slots row slot k = target_named 3 _ _ (integer_named _)
constant_named_lem T.load_const_rule sheet inst slots row slot k = target_named 3 _ _ (loaded_named _ sheet _)
constant_named_lem T.copy_constant_rule sheet inst slots row slot k = copied_named 3 inst slots row k slot
constant_named_lem T.copy_n_constant_rule sheet inst slots row slot k = copied_n-named 3 inst slots row k slot
constant_named_lem T.shl_rule sheet inst slots row slot k = target_named 3 _ _ (folded_named _ (λ x y. shifted_named (ltb y 64) x y) _ _)
constant_named_lem T.or_rule sheet inst slots row slot k = target_named 3 _ _ (folded_named _ or_named _ _)
constant_named_lem T.other_constant_rule sheet inst slots row slot k = omega arith

-- ---- index checks

checked_named : (f : Fact) → kind (T.checked_from f) ≤ 2
unfolding T.checked_from T.checked kind
checked_named unknown = omega arith
checked_named conflict = omega arith
checked_named (known zero v) = go (leb v 65535)
  where
    go : (b : Bool) → kind (cond b (known 0 v) conflict) ≤ 2
    go true = omega arith
    go false = omega arith
checked_named (known (suc k) v) = omega arith

index_named : (rule : T.IndexRule) (inst : Instruction) (slots : List ℕ) (row : Row) (slot : ℕ) → Named 2 row → kind (T.index_fact rule inst slots row slot) ≤ 2
unfolding T.index_fact kind
index_named T.copy_index_rule inst slots row slot k = copied_named 2 inst slots row k slot
index_named T.copy_n_index_rule inst slots row slot k = copied_n-named 2 inst slots row k slot
index_named T.other_index_rule inst slots row slot k = omega arith

check_named : (b : Bool) (inst : Instruction) (slots : List ℕ) (fact : Fact) (row : Row) → kind fact ≤ 2 → Named 2 row → Named 2 (T.index_checked b inst slots fact row)
unfolding T.index_checked
check_named true inst slots fact row h k = put_named 2 slots row inst.a fact h k
check_named false inst slots fact row h k = k

-- ---- containers

noted_named : (m q : Bool) (sheet : List ℕ) (pc : ℕ) → kind (T.or_unknown (T.instruction_fact_by m q sheet pc)) ≤ 4
unfolding T.or_unknown T.instruction_fact_by T.map_fact T.queue_fact kind
noted_named true q sheet pc = omega arith
noted_named false true sheet pc = omega arith
noted_named false false sheet pc = omega arith

init_named : (f : Fact) → kind (T.iter_init f) ≤ 4
unfolding T.iter_init kind
init_named unknown = omega arith
init_named conflict = omega arith
init_named (known zero v) = omega arith
init_named (known (suc zero) v) = omega arith
init_named (known (suc (suc k)) v) = omega arith

next_named : (f : Fact) → kind (T.iter_next f) ≤ 4
unfolding T.iter_next kind
next_named unknown = omega arith
next_named conflict = omega arith
next_named (known zero v) = omega arith
next_named (known (suc zero) v) = omega arith
next_named (known (suc (suc k)) v) = omega arith

container_named : (rule : T.ContainerRule) (sheet : List ℕ) (pc : ℕ) (slots : List ℕ) (row : Row) (slot : ℕ) → Named 4 row
    → kind (T.container_fact rule sheet pc slots row slot) ≤ 4
unfolding T.container_fact T.instruction_fact kind
container_named T.new_rule sheet pc slots row slot k = target_named 4 _ _ (noted_named _ _ sheet pc)
container_named T.iter_init_rule sheet pc slots row slot k = target_named 4 _ _ (init_named _)
container_named T.iter_next_rule sheet pc slots row slot k = target_named 4 _ _ (next_named _)
container_named T.copy_container_rule sheet pc slots row slot k = copied_named 4 (instruction sheet pc) slots row k slot
container_named T.copy_n_container_rule sheet pc slots row slot k = copied_n-named 4 (instruction sheet pc) slots row k slot
container_named T.other_container_rule sheet pc slots row slot k = omega arith

-- ---- the three transfers

pub transfer_named : (which : AnalysisKind) (sheet slots : List ℕ) (length_fact : ℕ → Fact) (pc : ℕ) (row : Row)
    → Named (last_kind which) row → Named (last_kind which) (transfer_row which sheet slots length_fact pc row)
unfolding transfer_row T.constant_transfer T.index_transfer T.container_transfer T.constant_cell T.index_cell T.container_cell last_kind
transfer_named Constant sheet slots length_fact pc row k =
    cells_named 3 _ (λ t f l. replaced_named 3 _ f _ l (constant_named_lem (T.constant_rule (instruction sheet pc).op) sheet (instruction sheet pc) slots row t k)) slots row k
transfer_named IndexCheck sheet slots length_fact pc row k =
    check_named _ (instruction sheet pc) slots _ _ (checked_named (length_fact pc))
    (cells_named 2 _ (λ t f l. replaced_named 2 _ f _ l (index_named (T.index_rule (instruction sheet pc).op) (instruction sheet pc) slots row t k)) slots row k)
transfer_named Container sheet slots length_fact pc row k =
    cells_named 4 _ (λ t f l. replaced_named 4 _ f _ l (container_named (T.container_rule (instruction sheet pc).op) sheet pc slots row t k)) slots row k

-- ---- the first row

some_is : {f g : Fact} → ◌≡◌ {A = Option Fact} (some f) (some g) → f ≡ g
some_is e = cc

param_fact_named : (k : ℕ) (sheet : List ℕ) (i : ℕ) (fact : Fact) → param_fact_by k sheet i ≡ some fact → kind fact ≤ 4
unfolding param_fact_by T.map_fact T.queue_fact kind
param_fact_named zero sheet i fact e = let z : ◌≡◌ {A = ℕ} 0 1 = cc in absurd (omega arith)
param_fact_named (suc zero) sheet i fact e = rw⁻¹ (some_is e) (omega arith)
param_fact_named (suc (suc zero)) sheet i fact e = rw⁻¹ (some_is e) (omega arith)
param_fact_named (suc (suc (suc k))) sheet i fact e = let z : ◌≡◌ {A = ℕ} 0 1 = cc in absurd (omega arith)

module _ (sheet slots : List ℕ) where
  param_named_lem : (slot : ℕ) (f : Option Fact) (row : Row) (budget : VerifierResources) (out : Row) (left : VerifierResources)
      → ((fact : Fact) → f ≡ some fact → kind fact ≤ 4) → Named 4 row → seed_param sheet slots slot f row budget ≡ ok out left → Named 4 out
  unfolding seed_param
  param_named_lem slot none row budget out left h k e = rw⁻¹ (given row budget e) k
  param_named_lem slot (some fact) row budget out left h k e =
      let p = then_parts e in
      rw⁻¹ (given (put slots row slot fact) p.rest p.after) (put_named 4 slots row slot fact (h fact refl) k)

  params_named : (start i : ℕ) (row : Row) (budget : VerifierResources) (out : Row) (left : VerifierResources)
      → Named 4 row → seed_params sheet slots start i row budget ≡ ok out left → Named 4 out
  unfolding seed_params param_fact
  params_named start zero row budget out left k e = rw⁻¹ (given row budget e) k
  params_named start (suc i) row budget out left k e =
      let p = bound_parts e in
      param_named_lem (start + sum (λ j. param_width sheet j) i) (param_fact sheet i) p.a p.rest out left (param_fact_named _ sheet i)
      (params_named start i row budget p.a p.rest k p.before) p.after

  params_row_named : (start : Option ℕ) (row : Row) (budget : VerifierResources) (out : Row) (left : VerifierResources)
      → Named 4 row → param_row sheet slots start row budget ≡ ok out left → Named 4 out
  unfolding param_row
  params_row_named none row budget out left k e = rw⁻¹ (given row budget e) k
  params_row_named (some start) row budget out left k e = params_named start (param_count sheet) row budget out left k e

  container_row_named : (b : Bool) (budget : VerifierResources) (entry : Row) (left : VerifierResources) → container_row b sheet slots budget ≡ ok entry left → Named 4 entry
  unfolding container_row unknown_row
  container_row_named true budget entry left e = rw⁻¹ (given (unknown_row slots) budget e) (unknowns_named 4 (length slots))
  container_row_named false budget entry left e =
      let p = bound_parts e in
      let r = then_parts p.after in
      rw⁻¹ (given p.a r.rest r.after) (params_row_named (param_start sheet) (unknown_row slots) budget p.a p.rest (unknowns_named 4 (length slots)) p.before)

  pub first_named : (which : AnalysisKind) (budget : VerifierResources) (entry : Row) (left : VerifierResources)
      → first_row which sheet slots budget ≡ ok entry left → Named (last_kind which) entry
  unfolding first_row unknown_row last_kind
  first_named Constant budget entry left e = rw⁻¹ (given (unknown_row slots) budget e) (unknowns_named 3 (length slots))
  first_named IndexCheck budget entry left e = rw⁻¹ (given (unknown_row slots) budget e) (unknowns_named 2 (length slots))
  first_named Container budget entry left e = container_row_named _ budget entry left e
