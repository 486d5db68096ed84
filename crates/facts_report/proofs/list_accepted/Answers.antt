-- `facts_report::list_accepted` meets its contract. Assumes nothing.
use Prim.Native.Nat.{◌≤◌}
use Rattle.model.specs.Sheet.{code_count, local_slots}
use native.Mathlib.Omega.{arith}
use borrow.Author.Tests.{le-leb, lt-leb}
use Rattle.sheet.proofs.SizeNames.{counted}
use Rattle.sheet_index.proofs.IndexFound.{few_layouts, firsts_found, classes_found}
use Rattle.facts_report.proofs.ListingQuestions.{shown_as, many_instructions, many_locals, asked_call}
use Rattle.facts_report.proofs.list_accepted.Goals as goal

pub returns-then-sheet-gt-MOST_INSTRUCTIONS : goal.returns-then-sheet-gt-MOST_INSTRUCTIONS
returns-then-sheet-gt-MOST_INSTRUCTIONS c =
    let sheet = c.args.sheet.now.bytes.now in
    let t = counted c.args.sheet.now.measured.are in
    shown_as (many_instructions sheet (lt-leb (code_count sheet) 256 (omega (arith, t.code_count_is)))) c.too_large.ensures

pub returns-then-sheet-gt-MOST_LOCALS : goal.returns-then-sheet-gt-MOST_LOCALS
returns-then-sheet-gt-MOST_LOCALS c =
    let sheet = c.args.sheet.now.bytes.now in
    let t = counted c.args.sheet.now.measured.are in
    shown_as (many_locals sheet (le-leb (code_count sheet) 256 (omega (arith, t.code_count_is))) (lt-leb (local_slots sheet) 4096 (omega (arith, t.local_slots_is)))) c.too_large-then-sheet-gt-MOST_LOCALS.ensures

pub index_sheet-requires : goal.index_sheet-requires
index_sheet-requires c = let p = c.requires.0 in (p, (let came : c.args.sheet.now.sizes.code_count ≤ 256 = c.if-sheet-gt-MOST_INSTRUCTIONS.false in came), few_layouts p)

pub invariant_of-indexed : goal.invariant_of-indexed
invariant_of-indexed c =
    let p = c.requires.0 in
    let e = c.index_sheet.ensures in
    record {
      accepted = p;
      held = firsts_found p _ (let came : c.args.sheet.now.sizes.code_count ≤ 256 = c.if-sheet-gt-MOST_INSTRUCTIONS.false in came) e.0;
      classed = classes_found p _ (few_layouts p) e.1;
    }

pub list_facts-requires : goal.list_facts-requires
list_facts-requires c =
    ((let came : c.args.sheet.now.sizes.code_count ≤ 256 = c.if-sheet-gt-MOST_INSTRUCTIONS.false in came), (let came : c.args.sheet.now.sizes.local_slots ≤ 4096 = c.if-sheet-gt-MOST_LOCALS.false in came), c.requires.1)

pub returns : goal.returns
returns c =
    let sheet = c.args.sheet.now.bytes.now in
    let t = counted c.args.sheet.now.measured.are in
    shown_as (asked_call sheet (le-leb (code_count sheet) 256 (omega (arith, t.code_count_is, (let came : c.args.sheet.now.sizes.code_count ≤ 256 = c.if-sheet-gt-MOST_INSTRUCTIONS.false in came)))) (le-leb (local_slots sheet) 4096 (omega (arith, t.local_slots_is, (let came : c.args.sheet.now.sizes.local_slots ≤ 4096 = c.if-sheet-gt-MOST_LOCALS.false in came))))) c.list_facts.ensures
