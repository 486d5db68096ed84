-- A refused charge names its stage: "7, with stage (1 to 5 in charge order)".
-- Assumes nothing.
use mathlib.Core.Path.{◌≡◌, refl}
use mathlib.Core.Bool.{Bool, true, false}
use mathlib.Core.List.{List, [], ◌∷◌}
use mathlib.Core.Option.{Option, none, some}
use Rattle.std.specs.Prelude.{Ok, Err}
use Prim.Native.Nat.{ℕ, zero, suc}
use native.Mathlib.Omega.{arith}
use lib.ListN.{length}
use Rattle.model.specs.Sheet.{code_count, local_slots, param_count}
use Rattle.model.specs.Charges.{Charge, Refusal, over_budget, no_room, Spent, ok, stop, unfinished, Metered, give, give_up, continue, ◌>>=◌, ◌>>◌, in_stage, spend_bytes, spend_work, for_each}
use Rattle.model.specs.Dependencies.{charge_instruction, charge_dependencies}
use Rattle.model.specs.Closure.{Marked, stage_number, seeded, take_slot, expand, places, tracked_slots}
use Rattle.model.specs.Fact.{Fact, unknown, conflict, known, Row}
use Rattle.model.specs.Transfer.{instruction_fact}
use Rattle.model.specs.Parameters.{param_start, param_fact, charge_layout, charge_layouts, seed_param, seed_params, param_row, charge_fact, charge_instruction_facts}
use Rattle.model.specs.Run.{RunEnd, finished, overdrawn, fuel_spent, run}
use Rattle.model.specs.Analyses.{unknown_row, analysis, ask_room, charge_matrix, container_row, first_row, ran_to, propagate, stage, charge_flow}
use Rattle.model.specs.declared.VerifierResources.{VerifierResources}
use Rattle.model.specs.declared.AnalysisKind.{AnalysisKind}
use Rattle.model.specs.declared.AnalysisKind.TheVariants.{Constant, IndexCheck, Container}

-- 7 with this stage, or 8
abbrev pub Names : ℕ → Refusal → Type 0
Names stage (over_budget s requested remaining) = s ≡ stage
Names stage no_room = Unit {0}

-- a part whose refusals do
abbrev pub Staged : {A : Type 0} → ℕ → Metered A → Type 0
Staged stage part = (budget : VerifierResources) (refusal : Refusal) (left : VerifierResources) → part budget ≡ stop refusal left → Names stage refusal

bound_staged : {A B : Type 0} (n : ℕ) {part : Metered A} {next : A → Metered B} → Staged n part → ((a : A) → Staged n (next a)) → Staged n (part >>= next)
unfolding ◌>>=◌ continue
bound_staged {A} {B} n {part} {next} f g budget refusal left e = go (part budget) refl e
  where
    go : (first : Spent A) → part budget ≡ first → continue next first ≡ stop refusal left → Names n refusal
    go (ok a rest) h k = g a rest refusal left k
    go (stop r rest) h k = let w : r ≡ refusal = cc in rw⁻¹ w (f budget r rest h)
    go unfinished h k = let z : ◌≡◌ {A = ℕ} 0 1 = cc in absurd (omega arith)

then_staged : {A B : Type 0} (n : ℕ) {part : Metered A} {next : Metered B} → Staged n part → Staged n next → Staged n (part >> next)
unfolding ◌>>◌ continue
then_staged {A} {B} n {part} {next} f g budget refusal left e = go (part budget) refl e
  where
    go : (first : Spent A) → part budget ≡ first → continue (λ _. next) first ≡ stop refusal left → Names n refusal
    go (ok a rest) h k = g rest refusal left k
    go (stop r rest) h k = let w : r ≡ refusal = cc in rw⁻¹ w (f budget r rest h)
    go unfinished h k = let z : ◌≡◌ {A = ℕ} 0 1 = cc in absurd (omega arith)

give_staged : {A : Type 0} (n : ℕ) (a : A) → Staged n (give a)
unfolding give
give_staged n a budget refusal left e = let z : ◌≡◌ {A = ℕ} 0 1 = cc in absurd (omega arith)

up_staged : {A : Type 0} (n : ℕ) → Staged n (give_up {A = A})
unfolding give_up
up_staged n budget refusal left e = let z : ◌≡◌ {A = ℕ} 0 1 = cc in absurd (omega arith)

in_staged : (n : ℕ) (budget : VerifierResources) (c : Charge) (refusal : Refusal) (left : VerifierResources) → in_stage n budget c ≡ stop refusal left → Names n refusal
unfolding in_stage
in_staged n budget (Ok rest) refusal left e = let z : ◌≡◌ {A = ℕ} 0 1 = cc in absurd (omega arith)
in_staged n budget (Err short) refusal left e = let w : over_budget n short.requested short.remaining ≡ refusal = cc in rw⁻¹ w refl

bytes_staged : (n amount : ℕ) → Staged n (spend_bytes n amount)
unfolding spend_bytes
bytes_staged n amount budget refusal left e = in_staged n budget _ refusal left e

work_staged : (n amount : ℕ) → Staged n (spend_work n amount)
unfolding spend_work
work_staged n amount budget refusal left e = in_staged n budget _ refusal left e

each_staged : (n : ℕ) (f : ℕ → Metered (Unit {0})) (count : ℕ) → ((i : ℕ) → Staged n (f i)) → Staged n (for_each f count)
unfolding for_each
each_staged n f zero h = give_staged n tt
each_staged n f (suc i) h = then_staged n (each_staged n f i h) (h i)

-- "flow graph"
pub flow_staged : (sheet : List ℕ) → Staged 1 (charge_flow sheet)
unfolding charge_flow
flow_staged sheet = then_staged 1 (bytes_staged 1 _) (work_staged 1 _)

-- "dependencies"
pub dependencies_staged : (sheet : List ℕ) → Staged 2 (charge_dependencies sheet)
unfolding charge_dependencies charge_instruction
dependencies_staged sheet = each_staged 2 _ (code_count sheet) (λ pc. then_staged 2 (work_staged 2 _) (each_staged 2 _ _ (λ i. bytes_staged 2 4)))

-- ---- the closure and the analyses

module _ (which : AnalysisKind) (sheet : List ℕ) where
  take_staged : (ds : List ℕ) (go : Marked → Metered Marked) (m : Marked) → ((m' : Marked) → Staged (stage_number which) (go m')) → Staged (stage_number which) (take_slot which sheet ds go m)
  unfolding take_slot
  take_staged [] go m h = give_staged _ m
  take_staged (d ∷ ds) go m h = then_staged _ (work_staged _ _) (h _)

  expand_staged : (fuel : ℕ) (m : Marked) → Staged (stage_number which) (expand which sheet fuel m)
  unfolding expand
  expand_staged zero m = take_staged m.stack _ m (λ m'. up_staged _)
  expand_staged (suc fuel) m = take_staged m.stack _ m (λ m'. expand_staged fuel m')

  closure_staged : Staged (stage_number which) (tracked_slots which sheet)
  unfolding tracked_slots
  closure_staged =
      then_staged _ (bytes_staged _ _) (then_staged _ (bytes_staged _ _)
      (bound_staged _ (expand_staged (local_slots sheet) (seeded which sheet)) (λ m. give_staged _ (places 0 m.marks))))

layouts_staged : (sheet : List ℕ) (fact : Fact) → Staged 5 (charge_layouts sheet fact)
unfolding charge_layouts charge_layout
layouts_staged sheet unknown = give_staged 5 tt
layouts_staged sheet conflict = give_staged 5 tt
layouts_staged sheet (known zero v) = then_staged 5 (bytes_staged 5 _) (bytes_staged 5 _)
layouts_staged sheet (known (suc k) v) = bytes_staged 5 _

note_staged : (sheet : List ℕ) (f : Option Fact) → Staged 5 (charge_fact sheet f)
unfolding charge_fact
note_staged sheet none = give_staged 5 tt
note_staged sheet (some fact) = layouts_staged sheet fact

notes_staged : (sheet : List ℕ) → Staged 5 (charge_instruction_facts sheet)
unfolding charge_instruction_facts
notes_staged sheet = each_staged 5 _ (code_count sheet) (λ pc. note_staged sheet (instruction_fact sheet pc))

module _ (sheet slots : List ℕ) where
  param_staged : (slot : ℕ) (f : Option Fact) (row : Row) → Staged 5 (seed_param sheet slots slot f row)
  unfolding seed_param
  param_staged slot none row = give_staged 5 row
  param_staged slot (some fact) row = then_staged 5 (layouts_staged sheet fact) (give_staged 5 _)

  params_staged : (start i : ℕ) (row : Row) → Staged 5 (seed_params sheet slots start i row)
  unfolding seed_params
  params_staged start zero row = give_staged 5 row
  params_staged start (suc i) row = bound_staged 5 (params_staged start i row) (λ before. param_staged _ (param_fact sheet i) before)

  row_staged : (start : Option ℕ) (row : Row) → Staged 5 (param_row sheet slots start row)
  unfolding param_row
  row_staged none row = give_staged 5 row
  row_staged (some start) row = params_staged start (param_count sheet) row

  container_staged : (b : Bool) → Staged 5 (container_row b sheet slots)
  unfolding container_row
  container_staged true = give_staged 5 (unknown_row slots)
  container_staged false = bound_staged 5 (row_staged (param_start sheet) (unknown_row slots)) (λ entry. then_staged 5 (notes_staged sheet) (give_staged 5 entry))

  first_staged : (which : AnalysisKind) → Staged (stage_number which) (first_row which sheet slots)
  unfolding first_row stage_number
  first_staged Constant = give_staged 3 (unknown_row slots)
  first_staged IndexCheck = give_staged 4 (unknown_row slots)
  first_staged Container = container_staged _

room_staged : (n : ℕ) (b : Bool) → Staged n (ask_room b)
unfolding ask_room
room_staged n true budget refusal left e = let z : ◌≡◌ {A = ℕ} 0 1 = cc in absurd (omega arith)
room_staged n false budget refusal left e = let w : no_room ≡ refusal = cc in rw⁻¹ w tt

ran_staged : (which : AnalysisKind) (slots : List ℕ) (entry : Row) (end : RunEnd) → Staged (stage_number which) (ran_to end which slots entry)
unfolding ran_to
ran_staged which slots entry (finished rows count rest) budget refusal left e = let z : ◌≡◌ {A = ℕ} 0 1 = cc in absurd (omega arith)
ran_staged which slots entry (overdrawn requested remaining) budget refusal left e =
    let w : over_budget (stage_number which) requested remaining ≡ refusal = cc in rw⁻¹ w refl
ran_staged which slots entry fuel_spent budget refusal left e = let z : ◌≡◌ {A = ℕ} 0 1 = cc in absurd (omega arith)

stage_staged : (which : AnalysisKind) (sheet : List ℕ) (enough : ℕ → Bool) (length_fact : ℕ → Fact) → Staged (stage_number which) (stage which sheet enough length_fact)
unfolding stage charge_matrix propagate
stage_staged which sheet enough length_fact =
    bound_staged _ (closure_staged which sheet)
    (λ slots. then_staged _ (room_staged _ (enough (length slots)))
    (then_staged _ (bytes_staged _ _)
    (bound_staged _ (first_staged sheet slots which)
    (λ entry budget. ran_staged which slots entry (run (analysis which sheet slots length_fact entry) budget.work) budget))))

-- "constants", "index", "containers": each with its closure, its matrix, its first row and its steps
pub constants_staged : (sheet : List ℕ) (enough : ℕ → Bool) (length_fact : ℕ → Fact) → Staged 3 (stage Constant sheet enough length_fact)
unfolding stage_number
constants_staged sheet enough length_fact = stage_staged Constant sheet enough length_fact

pub index_staged : (sheet : List ℕ) (enough : ℕ → Bool) (length_fact : ℕ → Fact) → Staged 4 (stage IndexCheck sheet enough length_fact)
unfolding stage_number
index_staged sheet enough length_fact = stage_staged IndexCheck sheet enough length_fact

pub containers_staged : (sheet : List ℕ) (enough : ℕ → Bool) (length_fact : ℕ → Fact) → Staged 5 (stage Container sheet enough length_fact)
unfolding stage_number
containers_staged sheet enough length_fact = stage_staged Container sheet enough length_fact
