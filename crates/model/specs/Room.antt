-- For a loader: how much memory a call needs, and which layouts are equal.
-- Assumes nothing.
use Rattle.std.specs.Prelude.{Bool, true, false, ◌&&◌, List, [], ◌∷◌, ℕ, zero, suc, leb, ltb, length}
use Rattle.std.proofs.Math.Option.{Option, none, some}
use Rattle.model.specs.Sheet.{code_count, local_slots, layout_count, question_number, sheet_refusal}
use Rattle.model.specs.Dependencies.{dependency_bit, edges_to}
use Rattle.model.specs.Closure.{Marked, follow, seeded, places}
use Rattle.model.specs.Call.{zeros}
use Rattle.model.specs.Listing.{lowest}
use Rattle.model.specs.Interface.{Looked, looked, in_front}
use Rattle.model.specs.declared.Question.{Question}
use Rattle.model.specs.declared.Question.TheVariants.{ClosureRoom}
use Rattle.model.specs.declared.AnalysisKind.{AnalysisKind}
use Rattle.model.specs.declared.AnalysisKind.TheVariants.{Constant, IndexCheck, Container}

-- ---- the closure without a budget

module _ (which : AnalysisKind) (sheet : List ℕ) where
  -- `take_slot` without its charge: a slot is taken from the stack, and its edges of this analysis are followed
  unfoldable pub take_free : List ℕ → (Marked → Marked) → Marked → Marked
  take_free [] go m = m
  take_free (d ∷ ds) go m = go (follow (dependency_bit which) (edges_to sheet d) (record { marks = m.marks; stack = ds }))

  -- `expand` without its charges: until the stack is empty
  unfoldable pub expand_free : ℕ → Marked → Marked
  expand_free zero m = m
  expand_free (suc fuel) m = take_free m.stack (λ m'. expand_free fuel m') m

-- the tracked slots of an analysis; their number is its s
unfoldable pub closure_slots : AnalysisKind → List ℕ → List ℕ
closure_slots which sheet = places 0 (expand_free which sheet (local_slots sheet) (seeded which sheet)).marks

-- ---- how much memory a call needs

-- What `vo_facts_room` leaves: the number that it returns, and all that it was lent.
pub record Room : Type 0 where
  pub returned : ℕ
  pub marks : List ℕ
  pub stack : List ℕ
  pub out : List ℕ

-- what it leaves, from its four parts
abbrev pub room : ℕ → List ℕ → List ℕ → List ℕ → Room
room returned marks stack out = record { returned = returned; marks = marks; stack = stack; out = out }

-- n, and the s of each analysis
unfoldable pub room_numbers : List ℕ → List ℕ
room_numbers sheet = code_count sheet ∷ length (closure_slots Constant sheet) ∷ length (closure_slots IndexCheck sheet) ∷ length (closure_slots Container sheet) ∷ []

-- the numbers at the front of the memory for them, with marks and stack zero; or 6, with nothing changed
unfoldable pub room_if : Bool → List ℕ → List ℕ → List ℕ → List ℕ → Room
room_if true sheet marks stack old = room 0 (zeros marks) (zeros stack) (in_front (room_numbers sheet) old)
room_if false sheet marks stack old = room (question_number ClosureRoom) marks stack old

-- "6. Have the marks and the closure's stack at least L entries each?", or the number of the first of 1 to 5 that refuses
unfoldable pub room_after_five : Option Question → List ℕ → List ℕ → List ℕ → List ℕ → Room
room_after_five none sheet marks stack old = room_if (leb (local_slots sheet) (length marks) && leb (local_slots sheet) (length stack)) sheet marks stack old
room_after_five (some question) sheet marks stack old = room (question_number question) marks stack old

-- the questions in order; 255 comes first, where the memory for the four numbers is too short
unfoldable pub room_of : Bool → List ℕ → List ℕ → List ℕ → List ℕ → Room
room_of false sheet marks stack old = room 255 marks stack old
room_of true sheet marks stack old = room_after_five (sheet_refusal sheet) sheet marks stack old

-- ---- which layouts are equal

-- "the lowest layout number of equal content"; 254 for a number that names no layout
unfoldable pub lowest_if : Bool → List ℕ → ℕ → List ℕ → Looked
lowest_if true sheet layout old = looked 0 (in_front (lowest sheet layout ∷ []) old)
lowest_if false sheet layout old = looked 254 old

-- whether the number is below y, or the number of the first of 1 to 5 that refuses
unfoldable pub lowest_after_five : Option Question → List ℕ → ℕ → List ℕ → Looked
lowest_after_five none sheet layout old = lowest_if (ltb layout (layout_count sheet)) sheet layout old
lowest_after_five (some question) sheet layout old = looked (question_number question) old

-- the questions in order; 255 comes first, where the memory for the number has no entry
unfoldable pub lowest_of : Bool → List ℕ → ℕ → List ℕ → Looked
lowest_of false sheet layout old = looked 255 old
lowest_of true sheet layout old = lowest_after_five (sheet_refusal sheet) sheet layout old

-- ---- which interface this is

-- the number that the header names: 1, and one more with each change of a function, a constant or what one of them means
abbrev pub interface_version : ℕ
interface_version = 1
