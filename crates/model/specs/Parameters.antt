-- "Parameters follow `seed_param_container_layout_facts`": the container run's first row, and what it and the notes' facts cost.
-- Assumes nothing.
use Rattle.std.specs.Prelude.{Bool, true, false, ◌&&◌, ◌||◌, List, ℕ, zero, suc, ◌+◌, ◌*◌, ◌/◌, ◌%◌, ltb, eqb}
use Rattle.std.proofs.Math.Option.{Option, none, some}
use Rattle.model.specs.Sheet.{code_count, param_count, param_slots, recv_slots, is_closure, param_width, param_kind, param_a, param_b, layout_length, sheet_compute}
use Rattle.model.specs.Count.{sum, count_compute}
use Rattle.model.specs.Charges.{units, Metered, give, ◌>>=◌, ◌>>◌, spend_bytes, for_each, charges_compute}
use Rattle.model.specs.Fact.{Fact, unknown, conflict, known, Row}
use Rattle.model.specs.Transfer.{put, map_fact, queue_fact, instruction_fact, transfer_compute}

-- ---- where the parameters begin

-- `transfer_slots`: the sum of the parameter widths
unfoldable pub transfer_slots : List ℕ → ℕ
transfer_slots sheet = sum (λ i. param_width sheet i) (param_count sheet)

-- `implicit_param_slots`: receiver and closure
unfoldable pub implicit_param_slots : List ℕ → ℕ
implicit_param_slots sheet = recv_slots sheet + is_closure sheet

-- no parameters, or more slots than 16 bits count
unfoldable pub no_params : List ℕ → Bool
no_params sheet = eqb (param_count sheet) 0 || ltb 65535 (transfer_slots sheet) || ltb 65535 (implicit_param_slots sheet)

-- receiver, closure and the parameters fill the parameter slots
unfoldable pub fills_all : List ℕ → Bool
fills_all sheet = eqb (param_slots sheet) (implicit_param_slots sheet + transfer_slots sheet)

-- there is a receiver, and closure and the parameters fill the parameter slots
unfoldable pub fills_closure : List ℕ → Bool
fills_closure sheet = ltb 0 (recv_slots sheet) && eqb (param_slots sheet) (is_closure sheet + transfer_slots sheet)

-- behind receiver and closure; else behind the closure; else nowhere
unfoldable pub param_start_by : Bool → Bool → Bool → List ℕ → Option ℕ
param_start_by true all closure sheet = none
param_start_by false true closure sheet = some (implicit_param_slots sheet)
param_start_by false false true sheet = some (is_closure sheet)
param_start_by false false false sheet = none

-- `start`: the slot of the first parameter, if there is one
unfoldable pub param_start : List ℕ → Option ℕ
param_start sheet = param_start_by (no_params sheet) (fills_all sheet) (fills_closure sheet) sheet

-- ---- their facts

-- "0 no container, 1 map, 2 queue": `container_fact_for_transfer_type`. Question 5 has refused other kinds.
unfoldable pub param_fact_by : ℕ → List ℕ → ℕ → Option Fact
param_fact_by zero sheet i = none
param_fact_by (suc zero) sheet i = some (map_fact (param_a sheet i) (param_b sheet i))
param_fact_by (suc (suc zero)) sheet i = some (queue_fact (param_a sheet i))
param_fact_by (suc (suc (suc k))) sheet i = none

-- the fact that parameter i brings
unfoldable pub param_fact : List ℕ → ℕ → Option Fact
param_fact sheet i = param_fact_by (param_kind sheet i) sheet i

-- `shared_container_layout`: "layout bytes are charged", a slot kind each
unfoldable pub charge_layout : List ℕ → ℕ → Metered (Unit {0})
charge_layout sheet i = spend_bytes 5 (layout_length sheet i * units.slot_kind)

-- a map charges its key layout, then its value layout; a queue its one. Notes and parameters bring no other facts.
unfoldable pub charge_layouts : List ℕ → Fact → Metered (Unit {0})
charge_layouts sheet unknown = give tt
charge_layouts sheet conflict = give tt
charge_layouts sheet (known zero v) = do
  charge_layout sheet (v / 65536)
  charge_layout sheet (v % 65536)
charge_layouts sheet (known (suc k) v) = charge_layout sheet (v / 65536)

-- "layout bytes are charged even for an untracked slot, and of two at one slot the later stays"
unfoldable pub seed_param : List ℕ → List ℕ → ℕ → Option Fact → Row → Metered Row
seed_param sheet slots slot none row = give row
seed_param sheet slots slot (some fact) row = do
  charge_layouts sheet fact
  give (put slots row slot fact)

-- the parameters 0 to count − 1, the first at `start`
unfoldable pub seed_params : List ℕ → List ℕ → ℕ → ℕ → Row → Metered Row
seed_params sheet slots start zero row = give row
seed_params sheet slots start (suc i) row = do
  before ← seed_params sheet slots start i row
  seed_param sheet slots (start + sum (λ j. param_width sheet j) i) (param_fact sheet i) before

-- the row with the parameters' facts in it, if there is a start
unfoldable pub param_row : List ℕ → List ℕ → Option ℕ → Row → Metered Row
param_row sheet slots none row = give row
param_row sheet slots (some start) row = seed_params sheet slots start (param_count sheet) row

-- ---- the notes' facts

-- the layout bytes of a fact, if there is one
unfoldable pub charge_fact : List ℕ → Option Fact → Metered (Unit {0})
charge_fact sheet none = give tt
charge_fact sheet (some fact) = charge_layouts sheet fact

-- the layout bytes of `container_instruction_facts`, in code order
unfoldable pub charge_instruction_facts : List ℕ → Metered (Unit {0})
charge_instruction_facts sheet = for_each (λ pc. charge_fact sheet (instruction_fact sheet pc)) (code_count sheet)

unfoldable pub parameters_compute : Unit {0}
unfolding sheet_compute count_compute charges_compute transfer_compute
    transfer_slots implicit_param_slots no_params fills_all fills_closure param_start_by param_start param_fact_by param_fact charge_layout charge_layouts
    seed_param seed_params param_row charge_fact charge_instruction_facts
parameters_compute = tt
