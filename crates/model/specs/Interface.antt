-- The C interface, which include/vo_facts.h declares: how document 01's numbers and values lie in what C lends and is returned. The interface adds two
-- numbers to document 01's: 254 for "none", and 255 where the memory for the answer is too short.
-- Assumes nothing.
use Rattle.std.specs.Prelude.{Bool, true, false, List, ◌∷◌, ◌++◌, ℕ, ◌-◌, length, get_or, drop, replicate, Ok, Err, Some, None}
use Rattle.std.proofs.Math.Option.{Option, none, some}
use Rattle.model.specs.Call.{Lent, AnswerNumbered, Result, analyzed}
use Rattle.model.specs.Lookup.{SlotFact, Reachability, slot_fact_numbered, reachability_numbered}
use Rattle.model.specs.declared.VerifierResources.{VerifierResources}

-- ---- the call

-- as many entries as given: the values, and zeros for what an outcome does not have
unfoldable pub or_zeros : ℕ → List ℕ → List ℕ
or_zeros entries values = values ++ replicate (entries - length values) 0

-- The twelve entries of an answer, in this order: the number; s and pops of constants, index, containers; bytes and work left; stage, requested, remaining.
unfoldable pub twelve : AnswerNumbered → List ℕ
twelve n = n.number ∷ or_zeros 6 n.counted ++ n.budget ++ or_zeros 3 n.refused

-- What the call leaves: the number that it returns, all that was lent, and the memory for the answer.
pub record Exported : Type 0 where
  pub returned : ℕ
  pub lent : Lent
  pub answer : List ℕ

-- what the call leaves, from its three parts
abbrev pub exported : ℕ → Lent → List ℕ → Exported
exported returned lent answer = record { returned = returned; lent = lent; answer = answer }

-- It returns document 01's number; the first 12 entries of the answer's memory are the twelve, and those from 12 up keep their content.
unfoldable pub handed : List ℕ → Option Result → Option Exported
handed old none = none
handed old (some r) = some (exported r.numbered.number r.lent (twelve r.numbered ++ drop 12 old))

-- Where the answer's memory has fewer than 12 entries, which is asked first, it returns 255 and changes nothing.
unfoldable pub exported_of : Bool → List ℕ → VerifierResources → Lent → List ℕ → Option Exported
exported_of false sheet budget lent old = some (exported 255 lent old)
exported_of true sheet budget lent old = handed old (analyzed sheet budget lent)

-- ---- the lookups

-- What a lookup leaves: the number that it returns, and the memory for the fact.
pub record Looked : Type 0 where
  pub returned : ℕ
  pub out : List ℕ

-- what a lookup leaves, from its two parts
abbrev pub looked : ℕ → List ℕ → Looked
looked returned out = record { returned = returned; out = out }

-- document 01's number, but for "none", which has that of a cell there
unfoldable pub fact_number : SlotFact → ℕ
fact_number (Ok (Some cell)) = (slot_fact_numbered (Ok (Some cell))).number
fact_number (Ok None) = 254
fact_number (Err reason) = (slot_fact_numbered (Err reason)).number

-- values at the front of the memory, which keeps what is behind them
unfoldable pub in_front : List ℕ → List ℕ → List ℕ
in_front values old = values ++ drop (length values) old

-- 255 where the fact's memory has fewer than 2 entries; else the number, with "the cell's kind and value" in front. But for 0 the memory keeps its content.
unfoldable pub looked_up : Bool → SlotFact → List ℕ → Looked
looked_up false fact old = looked 255 old
looked_up true fact old = looked (fact_number fact) (in_front (slot_fact_numbered fact).given old)

-- 1 for "yes", 0 for "no", 9: the value that comes with document 01's number, or the number where there is none
unfoldable pub reached_number : Reachability → ℕ
reached_number answer = get_or (reachability_numbered answer).given 0 (reachability_numbered answer).number

unfoldable pub interface_compute : Unit {0}
unfolding slot_fact_numbered reachability_numbered or_zeros twelve handed exported_of fact_number in_front looked_up reached_number
interface_compute = tt
