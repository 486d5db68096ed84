-- Demand 3 of a whole call: it ends, and where it ends with facts, each analysis' facts are those of the run that the call made.
-- Assumes nothing.
use mathlib.Core.Path.{◌≡◌, refl, ap, ◌∙◌, subst}
use mathlib.Core.Bool.{Bool, true, false, ◌&&◌}
use mathlib.Core.List.{List}
use mathlib.Core.Option.{Option, none, some}
use Prim.Native.Nat.{ℕ, zero, suc, ◌-◌}
use native.Mathlib.Omega.{arith}
use lib.Dec.{leb}
use lib.ListN.{length}
use Rattle.model.specs.Sheet.{code_count, local_slots, sheet_refusal, param_count}
use Rattle.model.specs.Charges.{Spent, ok, stop, unfinished, fresh}
use Rattle.model.specs.Dependencies.{charge_instruction, charge_dependencies}
use Rattle.model.specs.Closure.{stage_number, tracked_slots}
use Rattle.model.specs.Fact.{Fact, unknown, conflict, known, Row}
use Rattle.model.specs.Transfer.{put, instruction_fact}
use Rattle.model.specs.Parameters.{charge_layout, charge_layouts, seed_param, seed_params, param_row, param_start, param_fact, charge_fact, charge_instruction_facts}
use Rattle.model.specs.Run.{RunEnd, finished, overdrawn, fuel_spent, run}
use Rattle.model.specs.Analyses.{Analysed, Facts, analysis, unknown_row, length_facts, ask_room, charge_matrix, container_row, first_row, ran_to, propagate, stage, charge_flow, analyses}
use Rattle.model.specs.declared.Question.{Question}
use Rattle.model.specs.Call.{Lent, CallEnd, completed, call_end, after_six, after_five, call, closure_room, table_room, tables, filled, filled_table}
use Rattle.model.specs.Listing.{call_lines, listing_lent, sized, asked, fits, listing}
use Rattle.model.specs.CallDemand.{analysis_of, Made, Demanded, CallDemand}
use Rattle.model.specs.declared.VerifierResources.{VerifierResources}
use Rattle.model.specs.declared.AnalysisKind.{AnalysisKind}
use Rattle.model.specs.declared.AnalysisKind.TheVariants.{Constant, IndexCheck, Container}
use Rattle.model.proofs.Metered.{bound_parts, then_parts, given, left_given, Finishes, bound_finishes, then_finishes, give_finishes, bytes_finish, work_finishes, each_finishes}
use Rattle.finality.proofs.Lawful.{entry_length, demand}
use Rattle.finality.proofs.Closure.{closure_finishes, closure_exact}
use Rattle.finality.proofs.Memory.{final_table}

-- ---- every call ends

flow_finishes : (sheet : List ℕ) → Finishes (charge_flow sheet)
unfolding charge_flow
flow_finishes sheet = then_finishes (bytes_finish 1 _) (work_finishes 1 _)

dependencies_finish : (sheet : List ℕ) → Finishes (charge_dependencies sheet)
unfolding charge_dependencies charge_instruction
dependencies_finish sheet = each_finishes _ (code_count sheet) (λ pc. then_finishes (work_finishes 2 _) (each_finishes _ _ (λ i. bytes_finish 2 4)))

layouts_finish : (sheet : List ℕ) (fact : Fact) → Finishes (charge_layouts sheet fact)
unfolding charge_layouts charge_layout
layouts_finish sheet unknown = give_finishes tt
layouts_finish sheet conflict = give_finishes tt
layouts_finish sheet (known zero v) = then_finishes (bytes_finish 5 _) (bytes_finish 5 _)
layouts_finish sheet (known (suc k) v) = bytes_finish 5 _

module _ (sheet slots : List ℕ) where
  param_finishes : (slot : ℕ) (f : Option Fact) (row : Row) → Finishes (seed_param sheet slots slot f row)
  unfolding seed_param
  param_finishes slot none row = give_finishes row
  param_finishes slot (some fact) row = then_finishes (layouts_finish sheet fact) (give_finishes (put slots row slot fact))

  params_finish : (start i : ℕ) (row : Row) → Finishes (seed_params sheet slots start i row)
  unfolding seed_params
  params_finish start zero row = give_finishes row
  params_finish start (suc i) row = bound_finishes (params_finish start i row) (λ before budget left e k. param_finishes _ (param_fact sheet i) before left k)

  row_finishes : (start : Option ℕ) (row : Row) → Finishes (param_row sheet slots start row)
  unfolding param_row
  row_finishes none row = give_finishes row
  row_finishes (some start) row = params_finish start (param_count sheet) row

  note_finishes : (f : Option Fact) → Finishes (charge_fact sheet f)
  unfolding charge_fact
  note_finishes none = give_finishes tt
  note_finishes (some fact) = layouts_finish sheet fact

  notes_finish : Finishes (charge_instruction_facts sheet)
  unfolding charge_instruction_facts
  notes_finish = each_finishes _ (code_count sheet) (λ pc. note_finishes (instruction_fact sheet pc))

  container_finishes : (b : Bool) → Finishes (container_row b sheet slots)
  unfolding container_row
  container_finishes true = give_finishes (unknown_row slots)
  container_finishes false =
      bound_finishes (row_finishes (param_start sheet) (unknown_row slots))
      (λ entry budget left e k. then_finishes notes_finish (give_finishes entry) left k)

  first_finishes : (which : AnalysisKind) → Finishes (first_row which sheet slots)
  unfolding first_row
  first_finishes Constant = give_finishes (unknown_row slots)
  first_finishes IndexCheck = give_finishes (unknown_row slots)
  first_finishes Container = container_finishes _

room_finishes : (b : Bool) → Finishes (ask_room b)
unfolding ask_room
room_finishes true budget e = let z : ◌≡◌ {A = ℕ} 0 1 = cc in omega arith
room_finishes false budget e = let z : ◌≡◌ {A = ℕ} 0 1 = cc in omega arith

ran_finishes : (which : AnalysisKind) (slots : List ℕ) (entry : Row) (budget : VerifierResources) (end : RunEnd)
    → (end ≡ fuel_spent → ⊥) → ran_to end which slots entry budget ≡ unfinished → ⊥
unfolding ran_to
ran_finishes which slots entry budget (finished rows count left) h e = let z : ◌≡◌ {A = ℕ} 0 1 = cc in omega arith
ran_finishes which slots entry budget (overdrawn requested remaining) h e = let z : ◌≡◌ {A = ℕ} 0 1 = cc in omega arith
ran_finishes which slots entry budget fuel_spent h e = h refl

stage_finishes : (which : AnalysisKind) (sheet : List ℕ) (enough : ℕ → Bool) (length_fact : ℕ → Fact) → Finishes (stage which sheet enough length_fact)
unfolding stage propagate charge_matrix
stage_finishes which sheet enough length_fact =
    bound_finishes (closure_finishes which sheet)
    (λ slots before closed t k.
    then_finishes (room_finishes (enough (length slots)))
    (then_finishes (bytes_finish (stage_number which) _)
    (bound_finishes (first_finishes sheet slots which)
    (λ entry charged started f r.
    ran_finishes which slots entry started (run (analysis which sheet slots length_fact entry) started.work)
    (demand which sheet slots length_fact entry (entry_length sheet slots which charged entry started f) started.work).ends r)))
    closed k)

pub analyses_finish : (sheet : List ℕ) (room : AnalysisKind → ℕ → Bool) → Finishes (analyses sheet room)
unfolding analyses
analyses_finish sheet room =
    then_finishes (flow_finishes sheet)
    (then_finishes (dependencies_finish sheet)
    (bound_finishes (stage_finishes Constant sheet (room Constant) (λ pc. unknown))
    (λ constants _ after_constants _ k.
    bound_finishes (stage_finishes IndexCheck sheet (room IndexCheck) (length_facts sheet constants))
    (λ index _ after_index _ l.
    bound_finishes (stage_finishes Container sheet (room Container) (λ pc. unknown))
    (λ containers _ left _ g. give_finishes (record { constants = constants; index = index; containers = containers }) left g)
    after_index l)
    after_constants k)))

end_some : (spent : Spent Facts) → (spent ≡ unfinished → ⊥) → call_end spent ≡ none → ⊥
unfolding call_end
end_some (ok facts left) h e = let z : ◌≡◌ {A = ℕ} 0 1 = cc in omega arith
end_some (stop refusal left) h e = let z : ◌≡◌ {A = ℕ} 0 1 = cc in omega arith
end_some unfinished h e = h refl

six_ends : (b : Bool) (sheet : List ℕ) (budget : VerifierResources) (lent : Lent) → after_six b sheet budget lent ≡ none → ⊥
unfolding after_six
six_ends true sheet budget lent e = end_some (analyses sheet (table_room sheet lent) budget) (analyses_finish sheet (table_room sheet lent) budget) e
six_ends false sheet budget lent e = let z : ◌≡◌ {A = ℕ} 0 1 = cc in omega arith

five_ends : (refusal : Option Question) (sheet : List ℕ) (budget : VerifierResources) (lent : Lent) → after_five refusal sheet budget lent ≡ none → ⊥
unfolding after_five
five_ends none sheet budget lent e = six_ends (closure_room sheet lent) sheet budget lent e
five_ends (some question) sheet budget lent e = let z : ◌≡◌ {A = ℕ} 0 1 = cc in omega arith

-- "every call ends"
pub call_ends : (sheet : List ℕ) (budget : VerifierResources) (lent : Lent) → call sheet budget lent ≡ none → ⊥
unfolding call
call_ends sheet budget lent e = five_ends (sheet_refusal sheet) sheet budget lent e

lines_end : (sheet : List ℕ) (end : Option CallEnd) → (end ≡ none → ⊥) → call_lines sheet end ≡ none → ⊥
unfolding call_lines
lines_end sheet none h e = h refl
lines_end sheet (some end) h e = let z : ◌≡◌ {A = ℕ} 0 1 = cc in omega arith

-- every listing ends
pub listing_ends : (sheet : List ℕ) → listing sheet ≡ none → ⊥
unfolding listing sized asked fits
listing_ends sheet e = fit (leb (length sheet) 65536) e
  where
    size : (b : Bool) → sized b sheet ≡ none → ⊥
    size true k = lines_end sheet (call sheet fresh listing_lent) (call_ends sheet fresh listing_lent) k
    size false k = let z : ◌≡◌ {A = ℕ} 0 1 = cc in omega arith

    ask : (refusal : Option Question) → asked refusal sheet ≡ none → ⊥
    ask none k = size (leb (code_count sheet) 256 && leb (local_slots sheet) 4096) k
    ask (some question) k = let z : ◌≡◌ {A = ℕ} 0 1 = cc in omega arith

    fit : (b : Bool) → fits b sheet ≡ none → ⊥
    fit true k = ask (sheet_refusal sheet) k
    fit false k = let z : ◌≡◌ {A = ℕ} 0 1 = cc in omega arith

-- ---- how an analysis of a call came about

ran_made : (which : AnalysisKind) (sheet slots : List ℕ) (length_fact : ℕ → Fact) (entry : Row) (before closed charged started : VerifierResources) (end : RunEnd) (a : Analysed) (after : VerifierResources)
    → tracked_slots which sheet before ≡ ok slots closed → charge_matrix which sheet slots closed ≡ ok tt charged → first_row which sheet slots charged ≡ ok entry started
    → run (analysis which sheet slots length_fact entry) started.work ≡ end → ran_to end which slots entry started ≡ ok a after
    → Made which sheet length_fact before a after
unfolding ran_to
ran_made which sheet slots length_fact entry before closed charged started (finished rows count left) a after t m f r e =
    let p : record { slots = slots; entry = entry; started = started; rows = rows; pops = count } ≡ a = cc in
    let q : record { bytes = started.bytes; work = left } ≡ after = cc in
    subst (λ (x : Analysed). Made which sheet length_fact before x after) p
    (subst (λ (y : VerifierResources). Made which sheet length_fact before (record { slots = slots; entry = entry; started = started; rows = rows; pops = count }) y) q
    (record { closed = closed; tracked = t; charged = charged; matrix = m; entry = f; ran = r; bytes = refl }))
ran_made which sheet slots length_fact entry before closed charged started (overdrawn requested remaining) a after t m f r e = let z : ◌≡◌ {A = ℕ} 0 1 = cc in absurd (omega arith)
ran_made which sheet slots length_fact entry before closed charged started fuel_spent a after t m f r e = let z : ◌≡◌ {A = ℕ} 0 1 = cc in absurd (omega arith)

pub stage_made : (which : AnalysisKind) (sheet : List ℕ) (enough : ℕ → Bool) (length_fact : ℕ → Fact) (before : VerifierResources) (a : Analysed) (after : VerifierResources)
    → stage which sheet enough length_fact before ≡ ok a after → Made which sheet length_fact before a after
unfolding stage propagate ask_room
stage_made which sheet enough length_fact before a after e =
    let closure = bound_parts e in
    let room = then_parts closure.after in
    let matrix = then_parts room.after in
    let first = bound_parts matrix.after in
    ran_made which sheet closure.a length_fact first.a before closure.rest matrix.rest first.rest
    (run (analysis which sheet closure.a length_fact first.a) first.rest.work) a after
    closure.before (ap (charge_matrix which sheet closure.a) (same_budget (enough (length closure.a)) closure.rest room.rest room.before) ∙ matrix.before) first.before refl first.after
  where
    same_budget : (b : Bool) (closed room : VerifierResources) → ask_room b closed ≡ ok tt room → closed ≡ room
    same_budget true closed room p = cc
    same_budget false closed room p = let z : ◌≡◌ {A = ℕ} 0 1 = cc in absurd (omega arith)

-- ---- demand 3 of it

pub made_demanded : (which : AnalysisKind) (sheet : List ℕ) (length_fact : ℕ → Fact) (before : VerifierResources) (a : Analysed) (after : VerifierResources)
    → Made which sheet length_fact before a after → Demanded which sheet length_fact a
unfolding analysis tables filled_table filled
made_demanded which sheet length_fact before a after m =
    let d = demand which sheet a.slots length_fact a.entry (entry_length sheet a.slots which m.charged a.entry a.started m.entry) a.started.work in record {
      slots = closure_exact which sheet before a.slots m.closed m.tracked;
      run = d;
      pops = d.pops a.rows a.pops after.work m.ran;
      rows = λ hn hs. d.tables hn hs a.rows a.pops after.work m.ran;
      memory = λ old hn hs. final_table (analysis_of which sheet length_fact a) a.rows (d.tables hn hs a.rows a.pops after.work m.ran) (length old.present - length (tables a).present) _ _;
    }

pub analyses_demand : (sheet : List ℕ) (room : AnalysisKind → ℕ → Bool) (budget : VerifierResources) (facts : Facts) (left : VerifierResources)
    → analyses sheet room budget ≡ ok facts left → CallDemand sheet budget facts left
unfolding analyses
analyses_demand sheet room budget facts left e =
    let flow = then_parts e in
    let dependencies = then_parts flow.after in
    let constants = bound_parts dependencies.after in
    let index = bound_parts constants.after in
    let containers = bound_parts index.after in
    let w : record { constants = constants.a; index = index.a; containers = containers.a } ≡ facts = given _ containers.rest containers.after in
    let l : containers.rest ≡ left = left_given _ containers.rest containers.after in
    let c = stage_made Constant sheet (room Constant) (λ pc. unknown) dependencies.rest constants.a constants.rest constants.before in
    let i = stage_made IndexCheck sheet (room IndexCheck) (length_facts sheet constants.a) constants.rest index.a index.rest index.before in
    let o = stage_made Container sheet (room Container) (λ pc. unknown) index.rest containers.a containers.rest containers.before in
    subst (λ (x : Facts). CallDemand sheet budget x left) w
    (subst (λ (y : VerifierResources). CallDemand sheet budget (record { constants = constants.a; index = index.a; containers = containers.a }) y) l
    (record {
      after_flow = flow.rest;
      flow = flow.before;
      after_dependencies = dependencies.rest;
      dependencies = dependencies.before;
      after_constants = constants.rest;
      constants_made = c;
      after_index = index.rest;
      index_made = i;
      containers_made = o;
      constants = made_demanded Constant sheet (λ pc. unknown) dependencies.rest constants.a constants.rest c;
      index = made_demanded IndexCheck sheet (length_facts sheet constants.a) constants.rest index.a index.rest i;
      containers = made_demanded Container sheet (λ pc. unknown) index.rest containers.a containers.rest o;
    }))

end_completed : (spent : Spent Facts) (facts : Facts) (left : VerifierResources) → call_end spent ≡ some (completed facts left) → spent ≡ ok facts left
unfolding call_end
end_completed (ok f l) facts left e = cc
end_completed (stop refusal l) facts left e = let z : ◌≡◌ {A = ℕ} 0 1 = cc in absurd (omega arith)
end_completed unfinished facts left e = let z : ◌≡◌ {A = ℕ} 0 1 = cc in absurd (omega arith)

six_demand : (b : Bool) (sheet : List ℕ) (budget : VerifierResources) (lent : Lent) (facts : Facts) (left : VerifierResources)
    → after_six b sheet budget lent ≡ some (completed facts left) → CallDemand sheet budget facts left
unfolding after_six
six_demand true sheet budget lent facts left e = analyses_demand sheet (table_room sheet lent) budget facts left (end_completed _ facts left e)
six_demand false sheet budget lent facts left e = let z : ◌≡◌ {A = ℕ} 0 1 = cc in absurd (omega arith)

five_demand : (refusal : Option Question) (sheet : List ℕ) (budget : VerifierResources) (lent : Lent) (facts : Facts) (left : VerifierResources)
    → after_five refusal sheet budget lent ≡ some (completed facts left) → CallDemand sheet budget facts left
unfolding after_five
five_demand none sheet budget lent facts left e = six_demand (closure_room sheet lent) sheet budget lent facts left e
five_demand (some question) sheet budget lent facts left e = let z : ◌≡◌ {A = ℕ} 0 1 = cc in absurd (omega arith)

-- Demand 3 of every call that ends with facts.
pub call_demand : (sheet : List ℕ) (budget : VerifierResources) (lent : Lent) (facts : Facts) (left : VerifierResources)
    → call sheet budget lent ≡ some (completed facts left) → CallDemand sheet budget facts left
unfolding call
call_demand sheet budget lent facts left e = five_demand (sheet_refusal sheet) sheet budget lent facts left e
