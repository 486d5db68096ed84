-- Lookups: `fact_for_slot`, `is_reachable`, and "fixed", each over "the used parts" of the tables it is lent.
-- Assumes nothing.
-- `Option` is the definitions' own, and `StdOption` std's, which functions answer.
use Rattle.std.specs.Prelude.{Bool, true, false, cond, ◌&&◌, ◌||◌, List, [], ◌∷◌, ℕ, zero, suc, ◌+◌, ◌*◌, ◌-◌, leb, ltb, eqb, length, get_or, Result, Ok, Err, Option as StdOption, Some, None}
use Rattle.std.proofs.Math.Option.{Option, none, some}
use Rattle.model.specs.Count.{every}
use Rattle.model.specs.declared.AnalysisKind.{AnalysisKind}
use Rattle.model.specs.declared.AnalysisKind.TheVariants.{Constant, IndexCheck, Container}
use Rattle.model.specs.declared.FactCell.{FactCell}
use Rattle.model.specs.declared.Damaged.{Damaged}

-- What a lookup answers: a cell, none, or 9.
abbrev pub SlotFact : Type 0
SlotFact = Result (StdOption FactCell) Damaged

-- What `is_reachable` answers: yes, no, or 9.
abbrev pub Reachability : Type 0
Reachability = Result Bool Damaged

-- "9": the tables are none that a call leaves
abbrev pub damaged : Damaged
damaged = record {}

-- a cell, as a lookup answers it
unfoldable pub cell_found : ℕ → ℕ → SlotFact
cell_found k v = Ok (Some (record { kind = k; value = v }))

-- ""none", which is no refusal"
unfoldable pub none_found : SlotFact
none_found = Ok None

-- the last kind "that this analysis names": "Constants: 2 .., 3 negative", "Index: 2 Checked", "Containers: 2 map, 3 iterator, 4 queue"
unfoldable pub last_kind : AnalysisKind → ℕ
last_kind Constant = 3
last_kind IndexCheck = 2
last_kind Container = 4

-- "do the slots ascend strictly"
unfoldable pub ascends : List ℕ → Bool
ascends [] = true
ascends (x ∷ []) = true
ascends (x ∷ y ∷ rest) = ltb x y && ascends (y ∷ rest)

-- where the slot stands among the tracked ones, the first place being i
unfoldable pub place_from : ℕ → List ℕ → ℕ → Option ℕ
place_from i [] slot = none
place_from i (t ∷ ts) slot = cond (eqb slot t) (some i) (place_from (suc i) ts slot)

-- where the slot stands among the tracked ones; none for an "untracked slot"
unfoldable pub place : List ℕ → ℕ → Option ℕ
place slots slot = place_from 0 slots slot

-- "do the slots ascend strictly, are kinds and values exactly n × s long": "takes s and n from slots and present"
unfoldable pub tables_agree : List ℕ → List ℕ → List ℕ → List ℕ → Bool
tables_agree slots present kinds values =
    ascends slots && eqb (length kinds) (length present * length slots) && eqb (length values) (length present * length slots)

-- the cell at place j of row pc in a table of kinds or of values, s cells to a row
unfoldable pub cell_at : ℕ → List ℕ → ℕ → ℕ → ℕ
cell_at s cells pc j = get_or cells (pc * s + j) 0

-- "is the kind, for a tracked slot in a present row, one that this analysis names"
unfoldable pub kind_named : ℕ → ℕ → List ℕ → ℕ → ℕ → Option ℕ → Bool
kind_named last s kinds byte pc none = true
kind_named last s kinds byte pc (some j) = eqb byte 0 || leb (cell_at s kinds pc j) last

-- "is the present byte, for pc below n, 0 or 1": question 9 of one instruction, for the slot at this place. (From n up the byte reads 0.)
unfoldable pub row_named : ℕ → ℕ → List ℕ → List ℕ → Option ℕ → ℕ → Bool
row_named last s present kinds j pc = leb (get_or present pc 0) 1 && kind_named last s kinds (get_or present pc 0) pc j

-- "else the cell's kind and value", for a tracked slot in a present row
unfoldable pub cell : Bool → ℕ → List ℕ → List ℕ → ℕ → Option ℕ → SlotFact
cell false s kinds values pc j = none_found
cell true s kinds values pc none = none_found
cell true s kinds values pc (some j) = cell_found (cell_at s kinds pc j) (cell_at s values pc j)

-- "No: 9."
unfoldable pub or_damaged : Bool → SlotFact → SlotFact
or_damaged true answer = answer
or_damaged false answer = Err damaged

-- "A lookup of an untracked slot, absent instruction or pc from n up answers "none", which is no refusal": `fact_for_slot`
unfoldable pub fact_for_slot : AnalysisKind → List ℕ → List ℕ → List ℕ → List ℕ → ℕ → ℕ → SlotFact
fact_for_slot which slots present kinds values pc slot =
    or_damaged (tables_agree slots present kinds values && row_named (last_kind which) (length slots) present kinds (place slots slot) pc)
    (cell (eqb (get_or present pc 0) 1) (length slots) kinds values pc (place slots slot))

-- ---- `is_reachable`

-- "yes for byte 1, no for 0 .., 9 for another byte"
unfoldable pub reached_by : ℕ → Reachability
reached_by zero = Ok false
reached_by (suc zero) = Ok true
reached_by (suc (suc byte)) = Err damaged

-- "no for .. pc from n up": no byte stands there, and it reads as 0
unfoldable pub is_reachable : List ℕ → ℕ → Reachability
is_reachable present pc = reached_by (get_or present pc 0)

-- ---- "fixed"

-- What the present instructions seen so far show of a slot: none of them, all one known value, or something else.
pub data Shown : Type 0 where
  none_shown : Shown
  one_shown : ℕ → ℕ → Shown
  mixed_shown : Shown

-- one more present instruction shows this kind and value; the test says whether it is known
unfoldable pub show : Bool → ℕ → ℕ → Shown → Shown
show false k v seen = mixed_shown
show true k v none_shown = one_shown k v
show true k v (one_shown l w) = cond (eqb k l && eqb v w) (one_shown l w) mixed_shown
show true k v mixed_shown = mixed_shown

-- an absent instruction shows nothing
unfoldable pub show_if : Bool → ℕ → ℕ → Shown → Shown
show_if false k v seen = seen
show_if true k v seen = show (leb 2 k) k v seen

-- "gives that kind and value, else "none""
unfoldable pub fixed_fact : Shown → SlotFact
fixed_fact none_shown = none_found
fixed_fact (one_shown k v) = cell_found k v
fixed_fact mixed_shown = none_found

-- the instructions 1 to count: "some instruction but 0 is present and all such show the same known value"
unfoldable pub shown : ℕ → List ℕ → List ℕ → List ℕ → ℕ → ℕ → Shown
shown s present kinds values j zero = none_shown
shown s present kinds values j (suc i) =
    show_if (eqb (get_or present (suc i) 0) 1) (cell_at s kinds (suc i) j) (cell_at s values (suc i) j) (shown s present kinds values j i)

-- the n − 1 instructions but 0, of a tracked slot
unfoldable pub fixed_at : ℕ → List ℕ → List ℕ → List ℕ → Option ℕ → SlotFact
fixed_at s present kinds values none = none_found
fixed_at s present kinds values (some j) = fixed_fact (shown s present kinds values j (length present - 1))

-- "A lookup lent all the constant tables gives that kind and value, else "none"; it asks 9 of every instruction."
unfoldable pub fixed : List ℕ → List ℕ → List ℕ → List ℕ → ℕ → SlotFact
fixed slots present kinds values slot =
    or_damaged (tables_agree slots present kinds values && every (λ pc. row_named (last_kind Constant) (length slots) present kinds (place slots slot) pc) (length present))
    (fixed_at (length slots) present kinds values (place slots slot))

-- ---- numbers

-- "this paper's number and values for each of its cases", of a lookup's answer
pub record Numbered : Type 0 where
  pub number : ℕ
  pub given : List ℕ

-- "the cell's kind and value"; ""none", which is no refusal", with no values; 9
unfoldable pub slot_fact_numbered : SlotFact → Numbered
slot_fact_numbered (Ok (Some cell)) = record { number = 0; given = cell.kind ∷ cell.value ∷ [] }
slot_fact_numbered (Ok None) = record { number = 0; given = [] }
slot_fact_numbered (Err _) = record { number = 9; given = [] }

-- "yes", as 1, "no", as 0, "9 for another byte"
unfoldable pub reachability_numbered : Reachability → Numbered
reachability_numbered (Ok true) = record { number = 0; given = 1 ∷ [] }
reachability_numbered (Ok false) = record { number = 0; given = 0 ∷ [] }
reachability_numbered (Err _) = record { number = 9; given = [] }

-- What a lookup promises: its answer, with the number and values of document 01. "The promises use that definition."
pub record WithNumbers (A : Type 0) : Type 0 where
  pub answered : A
  pub numbered : Numbered

-- the answer of `fact_for_slot` or of the lookup of "fixed", so
abbrev pub fact_with_numbers : SlotFact → WithNumbers SlotFact
fact_with_numbers answered = record { answered = answered; numbered = slot_fact_numbered answered }

-- the answer of `is_reachable`, so
abbrev pub reachability_with_numbers : Reachability → WithNumbers Reachability
reachability_with_numbers answered = record { answered = answered; numbered = reachability_numbered answered }
