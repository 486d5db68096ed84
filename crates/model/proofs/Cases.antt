-- Document 01's "Proved cases", rows of one table: what the definition gives, and what the document says. Opcodes are decimal bytes here, and facts on
-- the right are kinds and values: 0 0 Unknown, 1 0 Conflict, 2 and v known, 3 and 2^64 − 1 for −1.
-- Assumes nothing.
use mathlib.Core.Path.{◌≡◌, refl}
use mathlib.Core.List.{List, [], ◌∷◌, ◌++◌, map}
use mathlib.Core.Option.{Option, none, some}
use Prim.Native.Nat.{ℕ, ◌*◌, ◌/◌, ◌%◌}
use lib.ListN.{length, replicate}
use lib.IntN.{pos, negsuc}
use Rattle.model.specs.Count.{collect}
use Rattle.model.specs.Successors.{sheet_successors}
use Rattle.model.specs.Fact.{Fact, unknown, conflict, kind, value, Row, equal_known, join}
use Rattle.model.specs.Transfer.{integer, checked, transfer_row}
use Rattle.model.specs.Analyses.{Analysed, length_facts}
use Rattle.model.specs.Charges.{fresh}
use Rattle.model.specs.Listing.{ascii, listing, listing_compute}
use Rattle.model.specs.declared.AnalysisKind.TheVariants.{Constant, IndexCheck}

-- ---- sheets without constants, parameters, layouts and notes

bytes2 : ℕ → List ℕ
bytes2 x = x % 256 ∷ x / 256 ∷ []

bytes4 : ℕ → List ℕ
bytes4 x = bytes2 (x % 65536) ++ bytes2 (x / 65536)

-- an instruction's opcode byte, a, b and c
op : ℕ → ℕ → ℕ → ℕ → List ℕ
op code a b c = code ∷ 0 ∷ bytes2 a ++ bytes2 b ++ bytes2 c

-- instructions that write the one slot `start` each (a write range of length 1), or nothing
pub record Line : Type 0 where
  pub code : List ℕ
  pub writes : List ℕ

silent : List ℕ → Line
silent code = record { code = code; writes = [] }

writing : ℕ → List ℕ → Line
writing start code = record { code = code; writes = start ∷ [] }

each : (Line → List ℕ) → List Line → List ℕ
each f [] = []
each f (l ∷ ls) = f l ++ each f ls

script : ℕ → List Line → List ℕ
script l lines =
    bytes4 (length lines)
    ++ bytes4 (length (each (λ line. line.writes) lines))
    ++ replicate 16 0
    ++ bytes4 l
    ++ replicate 12 0
    ++ each (λ line. line.code) lines
    ++ replicate (5 * length lines) 0
    ++ each (λ line. bytes2 (length line.writes)) lines
    ++ each (λ line. each2 line.writes) lines
    ++ each (λ line. each4 line.writes) lines
  where
    each2 : List ℕ → List ℕ
    each2 [] = []
    each2 (start ∷ starts) = bytes2 start ++ each2 starts

    each4 : List ℕ → List ℕ
    each4 [] = []
    each4 (start ∷ starts) = bytes4 1 ++ each4 starts

-- ---- facts

cell : Fact → List ℕ
cell f = kind f ∷ value f ∷ []

number : ℕ → Fact
number v = integer (pos v)

minus_one : Fact
minus_one = integer (negsuc 0)

-- facts joined in turn
joins : Fact → List Fact → Fact
joins f [] = f
joins f (g ∷ gs) = joins (join (equal_known Constant []) f g) gs

-- the kinds and values of a row
cells : Row → List ℕ
cells [] = []
cells (h ∷ hs) = cell h ++ cells hs

-- the row of slots 0, 1 and 2 behind an instruction with a 2, b 0 and c 1 that writes slot 2
folded : ℕ → Fact → Fact → List ℕ
folded code f g = cells (transfer_row Constant (script 3 (writing 2 (op code 2 0 1) ∷ [])) (0 ∷ 1 ∷ 2 ∷ []) (λ pc. unknown) 0 (f ∷ g ∷ unknown ∷ []))

-- the index fact of slot 0 behind IndexCheck a 0, b 1, where the constant run ended with this fact of slot 1
index_checked : Fact → List ℕ
index_checked constant = cells (transfer_row IndexCheck sheet (0 ∷ []) (length_facts sheet constants) 0 (unknown ∷ []))
  where
    sheet : List ℕ
    sheet = script 2 (silent (op 121 0 1 0) ∷ [])

    constants : Analysed
    constants = record { slots = 1 ∷ []; entry = unknown ∷ []; started = fresh; rows = some (constant ∷ []) ∷ []; pops = 0 }

-- ---- scripts

-- `before` instructions that only fall through, one instruction, and such up to n
among : ℕ → List ℕ → ℕ → List ℕ
among before code behind = script 0 (lines before ++ (silent code ∷ lines behind))
  where
    lines : ℕ → List Line
    lines count = collect (λ i. silent (op 0 0 0 0) ∷ []) count

-- the index facts of slots 0 to 3 behind a SlotSet with a 0 and b 1
slot_set : Row → List ℕ
slot_set row = cells (transfer_row IndexCheck (script 4 (silent (op 6 0 1 0) ∷ [])) (0 ∷ 1 ∷ 2 ∷ 3 ∷ []) (λ pc. unknown) 0 row)

-- "L 2; LoadInt a 0, 7; JumpIfNot a 1, +2; LoadInt a 0, 9; IndexCheck a 1, b 0; Return; ranges (0, 1) for instructions 0 and 2"
worked : List ℕ
worked = script 2
    (writing 0 (op 1 0 7 0) ∷ silent (op 59 1 2 0) ∷ writing 0 (op 1 0 9 0) ∷ silent (op 121 1 0 0) ∷ silent (op 64 0 0 0) ∷ [])

printed : Option (List ℕ) → List ℕ
printed none = []
printed (some text) = text

-- ---- the table

pub case_table : List (List ℕ × List ℕ)
case_table =
    -- "Unknown and 7 join to Unknown; 7 and 9 to Conflict; 7, 9, Unknown in turn give Conflict; 7, Unknown, 9 give Unknown"
    (cell (joins unknown (number 7 ∷ [])), 0 ∷ 0 ∷ [])
    ∷ (cell (joins (number 7) (number 9 ∷ [])), 1 ∷ 0 ∷ [])
    ∷ (cell (joins (number 7) (number 9 ∷ unknown ∷ [])), 1 ∷ 0 ∷ [])
    ∷ (cell (joins (number 7) (unknown ∷ number 9 ∷ [])), 0 ∷ 0 ∷ [])
    -- "1 shifted by 63 gives 9223372036854775808, by 64 Unknown"
    ∷ (folded 53 (number 1) (number 63), 2 ∷ 1 ∷ 2 ∷ 63 ∷ 2 ∷ 9223372036854775808 ∷ [])
    ∷ (folded 53 (number 1) (number 64), 2 ∷ 1 ∷ 2 ∷ 64 ∷ 0 ∷ 0 ∷ [])
    -- "−1 Or 0 (the opcode) gives Unknown"
    ∷ (folded 49 minus_one (number 0), 3 ∷ 18446744073709551615 ∷ 2 ∷ 0 ∷ 0 ∷ 0 ∷ [])
    -- "IndexCheck of 65,535 is Checked, of 65,536 and −1 Conflict"
    ∷ (index_checked (number 65535), 2 ∷ 65535 ∷ [])
    ∷ (index_checked (number 65536), 1 ∷ 0 ∷ [])
    ∷ (index_checked minus_one, 1 ∷ 0 ∷ [])
    -- "ForLoop at 5 of 10 with c 65,533 goes to 6, 3"
    ∷ (sheet_successors (among 5 (op 124 0 0 65533) 4) 5, 6 ∷ 3 ∷ [])
    -- "Jump −3 at 2 goes nowhere"
    ∷ (sheet_successors (among 2 (op 57 0 65533 65535) 7) 2, [])
    -- "JumpIf +1 at 1 of 3 goes to 2 alone"
    ∷ (sheet_successors (among 1 (op 58 0 1 0) 1) 1, 2 ∷ [])
    -- "SlotSet under Checked 0 writes nothing": slot 1 is b
    ∷ (slot_set (checked 5 ∷ checked 0 ∷ conflict ∷ checked 9 ∷ []), 2 ∷ 5 ∷ 2 ∷ 0 ∷ 1 ∷ 0 ∷ 2 ∷ 9 ∷ [])
    -- "the listing's 7 pops", with all the rest of it
    ∷ (
      printed (listing worked),
      ascii "constant 5 1 7\n0 0 unknown\n1 0 7\n2 0 7\n3 0 conflict\n4 0 conflict\nindex 5 0 0\ncontainer 5 0 0\nleft 268435158 268435444\n",
    )
    ∷ []

-- Row by row they are the same.
pub cases : map (λ row. row.0) case_table ≡ map (λ row. row.1) case_table
unfolding bytes2 bytes4 op silent writing each script cell number minus_one joins cells folded index_checked among slot_set worked printed case_table listing_compute
cases = refl
