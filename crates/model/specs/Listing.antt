-- "Listing": the bytes that the program `facts` writes for a sheet.
-- Assumes nothing.
use Rattle.std.specs.Prelude.{Bool, true, false, cond, ◌&&◌, List, [], ◌∷◌, ◌++◌, ℕ, zero, suc, ◌+◌, ◌*◌, ◌-◌, ◌/◌, ◌%◌, ◌^◌, leb, length, replicate}
use Rattle.std.proofs.Math.Option.{Option, none, some}
use Prim.Native.String.{String, [] as []ˢ, ◌∷◌ as ◌∷ˢ◌}
use Prim.Native.Char.{code}
use Rattle.model.specs.Sheet.{code_count, local_slots, question_number, sheet_refusal, sheet_compute}
use Rattle.model.specs.Charges.{over_budget, no_room, fresh}
use Rattle.model.specs.Fact.{Fact, unknown, conflict, known, Row, equal_layouts, fact_compute}
use Rattle.model.specs.Analyses.{Analysed, Facts}
use Rattle.model.specs.Call.{Lent, Table, CallEnd, kept, cleared, completed, call, call_compute}
use Rattle.model.specs.declared.VerifierResources.{VerifierResources}
use Rattle.model.specs.declared.Question.{Question}
use Rattle.model.specs.declared.AnalysisKind.{AnalysisKind}
use Rattle.model.specs.declared.AnalysisKind.TheVariants.{Constant, IndexCheck, Container}

-- ---- text

-- the bytes of a text
unfoldable pub ascii : String → List ℕ
ascii []ˢ = []
ascii (c ∷ˢ text) = code c ∷ ascii text

-- the last `fuel` decimal digits of x in front of `rest`, without leading zeros
unfoldable pub digits : ℕ → ℕ → List ℕ → List ℕ
digits zero x rest = rest
digits (suc fuel) zero rest = rest
digits (suc fuel) (suc x) rest = digits fuel (suc x / 10) ((48 + suc x % 10) ∷ rest)

-- a number below 2^64 in decimal: at most 20 digits
unfoldable pub decimal : ℕ → List ℕ
decimal zero = ascii "0"
decimal (suc x) = digits 20 (suc x) []

-- between two words of a line
unfoldable pub space : List ℕ
space = ascii " "

-- at the end of a line
unfoldable pub newline : List ℕ
newline = ascii "\n"

-- ---- facts

-- "A known constant prints in signed decimal."
unfoldable pub constant_text : List ℕ → Fact → List ℕ
constant_text sheet unknown = ascii "unknown"
constant_text sheet conflict = ascii "conflict"
constant_text sheet (known zero v) = decimal v
constant_text sheet (known (suc k) v) = ascii "-" ++ decimal (2 ^ 64 - v)

-- "`checked 4`"
unfoldable pub index_text : List ℕ → Fact → List ℕ
index_text sheet unknown = ascii "unknown"
index_text sheet conflict = ascii "conflict"
index_text sheet (known k v) = ascii "checked " ++ decimal v

-- the first of the layouts from `at` on, `count` of them, with i's content; i where there is none
unfoldable pub lowest_from : List ℕ → ℕ → ℕ → ℕ → ℕ
lowest_from sheet i at zero = i
lowest_from sheet i at (suc count) = cond (equal_layouts sheet at i) at (lowest_from sheet i (suc at) count)

-- "with the lowest layout number of equal content"
unfoldable pub lowest : List ℕ → ℕ → ℕ
lowest sheet i = lowest_from sheet i 0 i

-- "`map 0 1`, `iter 0 1`, `queue 2`"
unfoldable pub container_text : List ℕ → Fact → List ℕ
container_text sheet unknown = ascii "unknown"
container_text sheet conflict = ascii "conflict"
container_text sheet (known zero v) = ascii "map " ++ decimal (lowest sheet (v / 65536)) ++ space ++ decimal (lowest sheet (v % 65536))
container_text sheet (known (suc zero) v) = ascii "iter " ++ decimal (lowest sheet (v / 65536)) ++ space ++ decimal (lowest sheet (v % 65536))
container_text sheet (known (suc (suc k)) v) = ascii "queue " ++ decimal (lowest sheet (v / 65536))

-- the text of a fact of an analysis
unfoldable pub fact_text : AnalysisKind → List ℕ → Fact → List ℕ
fact_text Constant sheet = constant_text sheet
fact_text IndexCheck sheet = index_text sheet
fact_text Container sheet = container_text sheet

-- ---- lines

-- "Cells: pc, slot, fact; .. slots ascending."
unfoldable pub row_lines : (Fact → List ℕ) → ℕ → List ℕ → Row → List ℕ
row_lines text pc [] row = []
row_lines text pc (slot ∷ slots) [] = []
row_lines text pc (slot ∷ slots) (f ∷ fs) = decimal pc ++ space ++ decimal slot ++ space ++ text f ++ newline ++ row_lines text pc slots fs

-- "present rows": an absent row has no line
unfoldable pub present_lines : (Fact → List ℕ) → ℕ → List ℕ → Option Row → List ℕ
present_lines text pc slots none = []
present_lines text pc slots (some row) = row_lines text pc slots row

-- "present rows ascending", the first row being that of pc
unfoldable pub rows_lines : (Fact → List ℕ) → ℕ → List ℕ → List (Option Row) → List ℕ
rows_lines text pc slots [] = []
rows_lines text pc slots (row ∷ rows) = present_lines text pc slots row ++ rows_lines text (suc pc) slots rows

-- "Heads: analysis": its word
unfoldable pub analysis_name : AnalysisKind → List ℕ
analysis_name Constant = ascii "constant"
analysis_name IndexCheck = ascii "index"
analysis_name Container = ascii "container"

-- "Heads: analysis, n, s, pops."
unfoldable pub head_line : AnalysisKind → ℕ → ℕ → ℕ → List ℕ
head_line which n s pops = analysis_name which ++ space ++ decimal n ++ space ++ decimal s ++ space ++ decimal pops ++ newline

-- an analysis: its head, and behind it its rows
unfoldable pub analysis_lines : AnalysisKind → List ℕ → Analysed → List ℕ
analysis_lines which sheet a = head_line which (code_count sheet) (length a.slots) a.pops ++ rows_lines (fact_text which sheet) 0 a.slots a.rows

-- "Last: bytes and work left"
unfoldable pub left_line : VerifierResources → List ℕ
left_line left = ascii "left " ++ decimal left.bytes ++ space ++ decimal left.work ++ newline

-- the three analyses and the last line
unfoldable pub facts_lines : List ℕ → Facts → VerifierResources → List ℕ
facts_lines sheet facts left =
    analysis_lines Constant sheet facts.constants ++ analysis_lines IndexCheck sheet facts.index ++ analysis_lines Container sheet facts.containers
    ++ left_line left

-- "Refusals print only `refused` and the number."
unfoldable pub refused_line : ℕ → List ℕ
refused_line number = ascii "refused " ++ decimal number ++ newline

-- "`too large` alone"
unfoldable pub too_large : List ℕ
too_large = ascii "too large\n"

-- "Refusals print only `refused` and the number"; "`too large` .. for s over 32 in question 8's [place]"
unfoldable pub end_lines : List ℕ → CallEnd → List ℕ
end_lines sheet (kept question) = refused_line (question_number question)
end_lines sheet (cleared (over_budget stage requested remaining) left) = refused_line 7
end_lines sheet (cleared no_room left) = too_large
end_lines sheet (completed facts left) = facts_lines sheet facts left

-- the lines of a call that ended
unfoldable pub call_lines : List ℕ → Option CallEnd → Option (List ℕ)
call_lines sheet none = none
call_lines sheet (some end) = some (end_lines sheet end)

-- The output that the program lends to an analysis: "n over 256 .. s over 32" are too large.
unfoldable pub listing_table : Table
listing_table = record { slots = replicate 32 0; present = replicate 256 0; kinds = replicate (256 * 32) 0; values = replicate (256 * 32) 0 }

-- all that the program lends: "L over 4,096" is too large
unfoldable pub listing_lent : Lent
listing_lent = record {
  constants = listing_table;
  index = listing_table;
  containers = listing_table;
  marks = replicate 4096 0;
  stack = replicate 4096 0;
  row_kinds = replicate 32 0;
  row_values = replicate 32 0;
  work_list = replicate (256 * (1 + 2 * 32)) 0;
}

-- "for n over 256 or L over 4,096 in question 6's place"
unfoldable pub sized : Bool → List ℕ → Option (List ℕ)
sized true sheet = call_lines sheet (call sheet fresh listing_lent)
sized false sheet = some too_large

-- "in question 6's place": after 1 to 5
unfoldable pub asked : Option Question → List ℕ → Option (List ℕ)
asked none sheet = sized (leb (code_count sheet) 256 && leb (local_slots sheet) 4096) sheet
asked (some question) sheet = some (refused_line (question_number question))

-- the questions, for a sheet of at most 65,536 bytes
unfoldable pub fits : Bool → List ℕ → Option (List ℕ)
fits true sheet = asked (sheet_refusal sheet) sheet
fits false sheet = some too_large

-- "for a sheet over 65,536 bytes before question 1". None where a loop's fuel was too little: `listing-ends` says that there is no such sheet.
unfoldable pub listing : List ℕ → Option (List ℕ)
listing sheet = fits (leb (length sheet) 65536) sheet

unfoldable pub listing_compute : Unit {0}
unfolding sheet_compute fact_compute call_compute
    ascii digits decimal space newline constant_text index_text lowest_from lowest container_text fact_text row_lines present_lines rows_lines analysis_name head_line analysis_lines left_line
    facts_lines refused_line too_large end_lines call_lines listing_table listing_lent sized asked fits listing
listing_compute = tt
