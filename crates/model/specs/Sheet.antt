-- "The sheet": its sizes, where its arrays lie, its fields, and the questions 1 to 5. A sheet is its list of bytes.
-- Assumes nothing.
use Rattle.std.specs.Prelude.{Bool, true, false, not, cond, ◌&&◌, ◌||◌, List, [], ◌∷◌, ℕ, suc, ◌+◌, ◌*◌, leb, ltb, eqb, length, take, drop}
use Rattle.std.proofs.Math.Option.{Option, none, some}
use Rattle.model.specs.Bytes.{byte, u16, u32, u64, bytes_compute}
use Rattle.model.specs.Count.{sum, every, count_compute}
use Rattle.model.specs.declared.Question.{Question}
use Rattle.model.specs.declared.Question.TheVariants.{Head, Limits, Length, Sums, Kinds, ClosureRoom}
use Rattle.model.specs.declared.Instruction.{Instruction}

-- ---- sizes

-- "Ten 32-bit sizes come first"
unfoldable pub size : List ℕ → ℕ → ℕ
size sheet j = u32 sheet (4 * j)

-- "n": the number of instructions
unfoldable pub code_count : List ℕ → ℕ
code_count sheet = size sheet 0

-- "write ranges w"
unfoldable pub range_count : List ℕ → ℕ
range_count sheet = size sheet 1

-- "constants k"
unfoldable pub constant_count : List ℕ → ℕ
constant_count sheet = size sheet 2

-- "parameters p"
unfoldable pub param_count : List ℕ → ℕ
param_count sheet = size sheet 3

-- "layouts y"
unfoldable pub layout_count : List ℕ → ℕ
layout_count sheet = size sheet 4

-- "layout bytes q"
unfoldable pub slot_kind_count : List ℕ → ℕ
slot_kind_count sheet = size sheet 5

-- "L": the number of local slots
unfoldable pub local_slots : List ℕ → ℕ
local_slots sheet = size sheet 6

-- "parameter slots"
unfoldable pub param_slots : List ℕ → ℕ
param_slots sheet = size sheet 7

-- "receiver slots"
unfoldable pub recv_slots : List ℕ → ℕ
recv_slots sheet = size sheet 8

-- "closure flag": 1 for a closure
unfoldable pub is_closure : List ℕ → ℕ
is_closure sheet = size sheet 9

-- "n (at most 4,096), write ranges w (16,384), constants k (4,096), parameters p (256), layouts y (1,024), layout bytes q (16,384),
-- L, parameter slots, receiver slots (65,535 each), closure flag (1)"
unfoldable pub limits : List ℕ
limits = 4096 ∷ 16384 ∷ 4096 ∷ 256 ∷ 1024 ∷ 16384 ∷ 65535 ∷ 65535 ∷ 65535 ∷ 1 ∷ []

-- ---- "Then arrays without gaps": where each begins

-- "code, 8 bytes each"
unfoldable pub code_at : ℕ
code_at = 40

-- "note kinds (n bytes ..)"
unfoldable pub note_kinds_at : List ℕ → ℕ
note_kinds_at sheet = code_at + 8 * code_count sheet

-- "note layouts A"
unfoldable pub note_as_at : List ℕ → ℕ
note_as_at sheet = note_kinds_at sheet + code_count sheet

-- "then B (n 16-bit numbers each)"
unfoldable pub note_bs_at : List ℕ → ℕ
note_bs_at sheet = note_as_at sheet + 2 * code_count sheet

-- "write counts (n 16-bit numbers ..)"
unfoldable pub write_counts_at : List ℕ → ℕ
write_counts_at sheet = note_bs_at sheet + 2 * code_count sheet

-- "range starts (w, 16-bit)"
unfoldable pub range_starts_at : List ℕ → ℕ
range_starts_at sheet = write_counts_at sheet + 2 * code_count sheet

-- "and lengths (w, 32-bit), two parallel arrays"
unfoldable pub range_lengths_at : List ℕ → ℕ
range_lengths_at sheet = range_starts_at sheet + 2 * range_count sheet

-- "constant kinds (k bytes ..)"
unfoldable pub constant_kinds_at : List ℕ → ℕ
constant_kinds_at sheet = range_lengths_at sheet + 4 * range_count sheet

-- "and values (k signed 64-bit)"
unfoldable pub constant_values_at : List ℕ → ℕ
constant_values_at sheet = constant_kinds_at sheet + constant_count sheet

-- "parameter widths (p, 16-bit)"
unfoldable pub param_widths_at : List ℕ → ℕ
param_widths_at sheet = constant_values_at sheet + 8 * constant_count sheet

-- "kinds (p bytes ..)"
unfoldable pub param_kinds_at : List ℕ → ℕ
param_kinds_at sheet = param_widths_at sheet + 2 * param_count sheet

-- "layouts A, B (p, 16-bit each)"
unfoldable pub param_as_at : List ℕ → ℕ
param_as_at sheet = param_kinds_at sheet + param_count sheet

-- "layouts A, B": where B begins
unfoldable pub param_bs_at : List ℕ → ℕ
param_bs_at sheet = param_as_at sheet + 2 * param_count sheet

-- "layout lengths (y, 16-bit)"
unfoldable pub layout_lengths_at : List ℕ → ℕ
layout_lengths_at sheet = param_bs_at sheet + 2 * param_count sheet

-- "then q slot kinds"
unfoldable pub slot_kinds_at : List ℕ → ℕ
slot_kinds_at sheet = layout_lengths_at sheet + 2 * layout_count sheet

-- "exactly what the sizes give"
unfoldable pub sheet_length : List ℕ → ℕ
sheet_length sheet = slot_kinds_at sheet + slot_kind_count sheet

-- ---- fields

-- "op, flags, then a, b, c of 16 bits". Fields are asked of pc below n, of ranges below w, and so on for each array.
unfoldable pub instruction : List ℕ → ℕ → Instruction
instruction sheet pc = record {
  op = byte sheet (code_at + 8 * pc);
  flags = byte sheet (code_at + 8 * pc + 1);
  a = u16 sheet (code_at + 8 * pc + 2);
  b = u16 sheet (code_at + 8 * pc + 4);
  c = u16 sheet (code_at + 8 * pc + 6);
}

-- "0 none, 1 MapNew, 2 QueueLayout, 3 SlotLayout"
unfoldable pub note_kind : List ℕ → ℕ → ℕ
note_kind sheet pc = byte sheet (note_kinds_at sheet + pc)

-- "note layouts A"
unfoldable pub note_a : List ℕ → ℕ → ℕ
note_a sheet pc = u16 sheet (note_as_at sheet + 2 * pc)

-- "then B"
unfoldable pub note_b : List ℕ → ℕ → ℕ
note_b sheet pc = u16 sheet (note_bs_at sheet + 2 * pc)

-- "write counts"
unfoldable pub write_count : List ℕ → ℕ → ℕ
write_count sheet pc = u16 sheet (write_counts_at sheet + 2 * pc)

-- "65,535 says the effect visitor erred"
unfoldable pub erred : List ℕ → ℕ → Bool
erred sheet pc = eqb (write_count sheet pc) 65535

-- "and takes no ranges": how many ranges the instruction takes
unfoldable pub ranges_of : List ℕ → ℕ → ℕ
ranges_of sheet pc = cond (erred sheet pc) 0 (write_count sheet pc)

-- the number of its first range: those of the instructions before it come first
unfoldable pub first_range : List ℕ → ℕ → ℕ
first_range sheet pc = sum (λ i. ranges_of sheet i) pc

-- "range starts"
unfoldable pub range_start : List ℕ → ℕ → ℕ
range_start sheet i = u16 sheet (range_starts_at sheet + 2 * i)

-- "and lengths"
unfoldable pub range_length : List ℕ → ℕ → ℕ
range_length sheet i = u32 sheet (range_lengths_at sheet + 4 * i)

-- "0 other, 1 integer"
unfoldable pub constant_kind : List ℕ → ℕ → ℕ
constant_kind sheet i = byte sheet (constant_kinds_at sheet + i)

-- the 64 bits of "values (k signed 64-bit)"
unfoldable pub constant_bits : List ℕ → ℕ → ℕ
constant_bits sheet i = u64 sheet (constant_values_at sheet + 8 * i)

-- "parameter widths"
unfoldable pub param_width : List ℕ → ℕ → ℕ
param_width sheet i = u16 sheet (param_widths_at sheet + 2 * i)

-- "0 no container, 1 map, 2 queue"
unfoldable pub param_kind : List ℕ → ℕ → ℕ
param_kind sheet i = byte sheet (param_kinds_at sheet + i)

-- "layouts A, B"
unfoldable pub param_a : List ℕ → ℕ → ℕ
param_a sheet i = u16 sheet (param_as_at sheet + 2 * i)

-- B of a parameter
unfoldable pub param_b : List ℕ → ℕ → ℕ
param_b sheet i = u16 sheet (param_bs_at sheet + 2 * i)

-- "layout lengths (y, 16-bit)". A number from y up names no layout and has length 0; question 5 refuses a sheet that uses one.
unfoldable pub layout_length : List ℕ → ℕ → ℕ
layout_length sheet i = cond (ltb i (layout_count sheet)) (u16 sheet (layout_lengths_at sheet + 2 * i)) 0

-- where the slot kinds of layout i begin among the q
unfoldable pub layout_start : List ℕ → ℕ → ℕ
layout_start sheet i = sum (λ j. layout_length sheet j) i

-- the slot kinds of layout i; none from y up
unfoldable pub layout : List ℕ → ℕ → List ℕ
layout sheet i = take (layout_length sheet i) (drop (slot_kinds_at sheet + layout_start sheet i) sheet)

-- ---- questions 1 to 5

-- "Is every size within its limit?", from the size j on
unfoldable pub within_limits : List ℕ → ℕ → List ℕ → Bool
within_limits sheet j [] = true
within_limits sheet j (limit ∷ more) = leb (size sheet j) limit && within_limits sheet (suc j) more

-- "Do the write counts other than 65,535 sum to w, the layout lengths to q?"
unfoldable pub sums_match : List ℕ → Bool
sums_match sheet = eqb (first_range sheet (code_count sheet)) (range_count sheet) && eqb (layout_start sheet (layout_count sheet)) (slot_kind_count sheet)

-- "kind 1 uses A (key) and B (value); the other nonzero kinds use A only. Unused ones are ignored."
unfoldable pub layouts_used : ℕ → ℕ → ℕ → ℕ → Bool
layouts_used count kind a b = (eqb kind 0 || ltb a count) && (not (eqb kind 1) || ltb b count)

-- "Is every kind byte named and every used layout number below y?"
unfoldable pub note_named : List ℕ → ℕ → Bool
note_named sheet pc = leb (note_kind sheet pc) 3 && layouts_used (layout_count sheet) (note_kind sheet pc) (note_a sheet pc) (note_b sheet pc)

-- "0 other, 1 integer" are the named ones
unfoldable pub constant_named : List ℕ → ℕ → Bool
constant_named sheet i = leb (constant_kind sheet i) 1

-- "0 no container, 1 map, 2 queue" are the named ones
unfoldable pub param_named : List ℕ → ℕ → Bool
param_named sheet i = leb (param_kind sheet i) 2 && layouts_used (layout_count sheet) (param_kind sheet i) (param_a sheet i) (param_b sheet i)

-- "q slot kinds (bytes 0 to 5)"
unfoldable pub slot_kind_named : List ℕ → ℕ → Bool
slot_kind_named sheet i = leb (byte sheet (slot_kinds_at sheet + i)) 5

-- question 5 of all notes, constants, parameters and slot kinds
unfoldable pub kinds_named : List ℕ → Bool
kinds_named sheet =
    every (λ pc. note_named sheet pc) (code_count sheet)
    && every (λ i. constant_named sheet i) (constant_count sheet)
    && every (λ i. param_named sheet i) (param_count sheet)
    && every (λ i. slot_kind_named sheet i) (slot_kind_count sheet)

-- the number of a question
unfoldable pub question_number : Question → ℕ
question_number Head = 1
question_number Limits = 2
question_number Length = 3
question_number Sums = 4
question_number Kinds = 5
question_number ClosureRoom = 6

-- A question that is answered no refuses; else the next one is asked.
unfoldable pub ask : Bool → Question → Option Question → Option Question
ask true question next = next
ask false question next = some question

-- "Questions, in order": the first of 1 to 5 that refuses the sheet.
unfoldable pub sheet_refusal : List ℕ → Option Question
sheet_refusal sheet =
    ask (leb 40 (length sheet)) Head
    (ask (within_limits sheet 0 limits) Limits
    (ask (eqb (length sheet) (sheet_length sheet)) Length
    (ask (sums_match sheet) Sums
    (ask (kinds_named sheet) Kinds
    none))))

unfoldable pub sheet_compute : Unit {0}
unfolding bytes_compute count_compute
    size code_count range_count constant_count param_count layout_count slot_kind_count local_slots param_slots recv_slots is_closure limits
    code_at note_kinds_at note_as_at note_bs_at write_counts_at range_starts_at range_lengths_at constant_kinds_at constant_values_at
    param_widths_at param_kinds_at param_as_at param_bs_at layout_lengths_at slot_kinds_at sheet_length
    instruction note_kind note_a note_b write_count erred ranges_of first_range range_start range_length constant_kind constant_bits
    param_width param_kind param_a param_b layout_length layout_start layout
    within_limits sums_match layouts_used note_named constant_named param_named slot_kind_named kinds_named question_number ask sheet_refusal
sheet_compute = tt
