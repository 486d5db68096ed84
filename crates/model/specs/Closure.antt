-- "Closure", its second part: `FactDependencyGraph::expand`, from the seeds along the edges.
-- Assumes nothing.
use Rattle.std.specs.Prelude.{Bool, true, false, List, [], ◌∷◌, ℕ, zero, suc, ◌*◌, eqb, length, get_or, set, replicate}
use Rattle.std.specs.Int.Bits.{bit_and}
use Rattle.model.specs.Sheet.{code_count, local_slots, instruction, sheet_compute}
use Rattle.model.specs.Charges.{units, Metered, give, give_up, ◌>>=◌, ◌>>◌, spend_bytes, spend_work, charges_compute}
use Rattle.model.specs.Dependencies.{dependency_bit, FactDependency, edges_to, Field, field, seed_fields, dependencies_compute}
use Rattle.model.specs.declared.Instruction.{Instruction}
use Rattle.model.specs.declared.AnalysisKind.{AnalysisKind}
use Rattle.model.specs.declared.AnalysisKind.TheVariants.{Constant, IndexCheck, Container}

-- "stage (1 to 5 in charge order)", "Order: flow graph, dependencies, constants, index, containers."
unfoldable pub stage_number : AnalysisKind → ℕ
stage_number Constant = 3
stage_number IndexCheck = 4
stage_number Container = 5

-- L marks, 0 or 1, and the stack of the slots whose edges are yet to be followed, the one put last first.
pub record Marked : Type 0 where
  pub marks : List ℕ
  pub stack : List ℕ

-- with the slot marked and put on the stack, where the test holds
unfoldable pub marked : Bool → ℕ → Marked → Marked
marked true slot m = record { marks = set m.marks slot 1; stack = slot ∷ m.stack }
marked false slot m = m

-- A slot without a mark gets one and goes on the stack. From L up there is no mark: it reads as set, so such a slot is passed over.
unfoldable pub mark : ℕ → Marked → Marked
mark slot m = marked (eqb (get_or m.marks slot 1) 0) slot m

-- the seeds of one instruction, in order
unfoldable pub mark_fields : Instruction → List Field → Marked → Marked
mark_fields inst [] m = m
mark_fields inst (f ∷ fs) m = mark_fields inst fs (mark (field inst f) m)

-- the seeds of the instructions 0 to count − 1, in code order
unfoldable pub mark_seeds : AnalysisKind → List ℕ → ℕ → Marked → Marked
mark_seeds which sheet zero m = m
mark_seeds which sheet (suc pc) m = mark_fields (instruction sheet pc) (seed_fields which (instruction sheet pc).op) (mark_seeds which sheet pc m)

-- an edge is followed unless the test holds: this analysis has no bit in its mask
unfoldable pub follow_unless : Bool → ℕ → Marked → Marked
follow_unless true source m = m
follow_unless false source m = mark source m

-- "Masks test which analysis follows an edge"
unfoldable pub follow : ℕ → List FactDependency → Marked → Marked
follow bit [] m = m
follow bit (e ∷ es) m = follow bit es (follow_unless (eqb (bit_and e.kinds bit) 0) e.source m)

-- without marks and with nothing on the stack
unfoldable pub unmarked : List ℕ → Marked
unmarked sheet = record { marks = replicate (local_slots sheet) 0; stack = [] }

-- with the seeds of an analysis marked and stacked
unfoldable pub seeded : AnalysisKind → List ℕ → Marked
seeded which sheet = mark_seeds which sheet (code_count sheet) (unmarked sheet)

module _ (which : AnalysisKind) (sheet : List ℕ) where
  -- A slot is taken from the stack: all its edges, of whatever mask, are charged as work, and those of this analysis are followed.
  unfoldable pub take_slot : List ℕ → (Marked → Metered Marked) → Marked → Metered Marked
  take_slot [] go m = give m
  take_slot (d ∷ ds) go m = do
    spend_work (stage_number which) (length (edges_to sheet d))
    go (follow (dependency_bit which) (edges_to sheet d) (record { marks = m.marks; stack = ds }))

  -- until the stack is empty; each slot comes on it at most once, so L turns are enough
  unfoldable pub expand : ℕ → Marked → Metered Marked
  expand zero m = take_slot m.stack (λ m'. give_up) m
  expand (suc fuel) m = take_slot m.stack (λ m'. expand fuel m') m

-- slot i before the rest, unless the test holds: its mark is 0
unfoldable pub list_unless : Bool → ℕ → List ℕ → List ℕ
list_unless true i rest = rest
list_unless false i rest = i ∷ rest

-- "The result ascends.": the places of the marks that are set, the first being i
unfoldable pub places : ℕ → List ℕ → List ℕ
places i [] = []
places i (m ∷ ms) = list_unless (eqb m 0) i (places (suc i) ms)

-- the tracked slots of an analysis: a mark and a work slot for each of L, then the closure's work
unfoldable pub tracked_slots : AnalysisKind → List ℕ → Metered (List ℕ)
tracked_slots which sheet = do
  spend_bytes (stage_number which) (local_slots sheet * units.mark)
  spend_bytes (stage_number which) (local_slots sheet * units.work_slot)
  m ← expand which sheet (local_slots sheet) (seeded which sheet)
  give (places 0 m.marks)

unfoldable pub closure_compute : Unit {0}
unfolding sheet_compute charges_compute dependencies_compute
    stage_number marked mark mark_fields mark_seeds follow_unless follow unmarked seeded take_slot expand list_unless places tracked_slots
closure_compute = tt
