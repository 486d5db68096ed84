-- Questions 1 to 5 in order: what a refusal says, and what none says.
-- Assumes nothing.
use mathlib.Core.Path.{◌≡◌, refl}
use mathlib.Core.Bool.{true, false, not}
use mathlib.Core.List.{List}
use mathlib.Core.Option.{Option, none, some}
use Rattle.std.specs.Prelude.{Ok, Err}
use Prim.Native.Nat.{ℕ, ◌≤◌, ◌<◌}
use native.Mathlib.Omega.{arith}
use lib.ListN.{length}
use borrow.Author.Tests.{le-leb, lt-leb, eq-eqb, ne_eqb, not-true, not-false}
use Rattle.model.specs.Sheet.{limits, within_limits, sheet_length, sums_match, kinds_named, ask, sheet_refusal}
use Rattle.sheet.specs.Sizes.{sizes_of}
use Rattle.sheet.specs.Measured.{Measured, Accepted}
use Rattle.sheet.specs.declared.Sizes.{Sizes}
use Rattle.sheet.proofs.SheetLength.{laid}
use Rattle.sheet_fields.specs.declared.Sheet.{Sheet}
use Rattle.sheet_questions.specs.Check.{check_of, sheet_check, sized}
use Rattle.model.specs.declared.Question.{Question}
use Rattle.model.specs.declared.Question.TheVariants.{Head, Limits, Length, Sums, Kinds}

-- what `check_sheet` has answered
pub accepted : (sheet : List ℕ) {sizes : Sizes} → Ok sizes ≡ sheet_check sheet → Accepted sheet sizes
unfolding sheet_check check_of
accepted sheet {sizes} e = go (sheet_refusal sheet) refl e
  where
    go : (o : Option Question) → sheet_refusal sheet ≡ o → Ok sizes ≡ check_of (sizes_of sheet) o → Accepted sheet sizes
    go none p q = record { are = cc; accepted = p }
    go (some question) p q = absurd (cc)

-- the same, of the sheet that it gives of the bytes
pub accepted_sheet : (bytes : List ℕ) (sheet : Sheet) → sized (Ok sheet) ≡ sheet_check bytes → sheet.bytes.now ≡ bytes → Accepted sheet.bytes.now sheet.sizes
unfolding sized
accepted_sheet bytes sheet e is = rw is (accepted bytes e)

pub refused : (sheet : List ℕ) {question : Question} → Err question ≡ sheet_check sheet → sheet_refusal sheet ≡ some question
unfolding sheet_check check_of
refused sheet {question} e = go (sheet_refusal sheet) e
  where
    go : (o : Option Question) → Err question ≡ check_of (sizes_of sheet) o → o ≡ some question
    go none q = absurd (cc)
    go (some other) q = cc

-- ---- the first question that refuses a sheet

module _ (sheet : List ℕ) where
  pub refused_1 : length sheet < 40 → Err Head ≡ sheet_check sheet
  unfolding sheet_check check_of sheet_refusal ask
  refused_1 short = rw (lt-leb 40 _ short)

  pub refused_2 : 40 ≤ length sheet → within_limits sheet 0 limits ≡ false → Err Limits ≡ sheet_check sheet
  unfolding sheet_check check_of sheet_refusal ask
  refused_2 head over = rw (le-leb 40 _ head, over)

  pub refused_3 : 40 ≤ length sheet → within_limits sheet 0 limits ≡ true → (length sheet ≡ sheet_length sheet → ⊥) → Err Length ≡ sheet_check sheet
  unfolding sheet_check check_of sheet_refusal ask
  refused_3 head within other = rw (le-leb 40 _ head, within, ne_eqb _ _ other)

module _ {sheet : List ℕ} {sizes : Sizes} (m : Measured sheet sizes) where
  -- questions 4 and 5 are left
  asked_two : sheet_check sheet ≡ check_of sizes (ask (sums_match sheet) Sums (ask (kinds_named sheet) Kinds none))
  unfolding sheet_check sheet_refusal ask
  asked_two = let l = laid m in let h : 40 ≤ length sheet = omega arith in rw (le-leb 40 _ h, m.within, eq-eqb _ _ m.long, m.are)

  -- by the tests that the code makes
  pub refused_4 : not (sums_match sheet) ≡ true → Err Sums ≡ sheet_check sheet
  unfolding check_of ask
  refused_4 unequal = rw (asked_two, not-true (sums_match sheet) unequal)

  pub refused_5 : not (sums_match sheet) ≡ false → not (kinds_named sheet) ≡ true → Err Kinds ≡ sheet_check sheet
  unfolding check_of ask
  refused_5 sums unnamed = rw (asked_two, not-false (sums_match sheet) sums, not-true (kinds_named sheet) unnamed)

  pub unrefused : not (sums_match sheet) ≡ false → not (kinds_named sheet) ≡ false → Ok sizes ≡ sheet_check sheet
  unfolding check_of ask
  unrefused sums kinds = rw (asked_two, not-false (sums_match sheet) sums, not-false (kinds_named sheet) kinds)
