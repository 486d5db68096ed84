-- What a sheet is like that none of the questions 1 to 5 refuses.
-- Assumes nothing.
use mathlib.Core.Path.{◌≡◌, refl}
use mathlib.Core.Bool.{Bool, true, false}
use mathlib.Core.List.{List}
use mathlib.Core.Option.{Option, none}
use Prim.Native.Nat.{ℕ, ◌+◌, ◌≤◌, ◌<◌}
use native.Mathlib.Omega.{arith}
use lib.Dec.{leb, eqb}
use lib.ListN.{length}
use borrow.Author.Tests.{eqb-true}
use Rattle.model.specs.Sheet.{limits, within_limits, sheet_length, sums_match, kinds_named, ask, sheet_refusal}
use Rattle.model.specs.Sheet.{code_count, range_count, layout_count, slot_kind_count, first_range, ranges_of, layout_start, layout_length}
use Rattle.model.specs.declared.Question.{Question}
use Rattle.sheet.specs.Measured.{Measured, Accepted}
use Rattle.sheet.specs.declared.Sizes.{Sizes}
use Rattle.model.proofs.Tests.{both_left, both_right}
use Rattle.sheet.proofs.SizeNames.{counted}
use Rattle.sheet.proofs.Sums.{sum_part}

passed : (b : Bool) (question : Question) (next : Option Question) → ask b question next ≡ none → b ≡ true
unfolding ask
passed true question next e = refl
passed false question next e = absurd (cc)

after : (b : Bool) (question : Question) (next : Option Question) → ask b question next ≡ none → next ≡ none
unfolding ask
after true question next e = e
after false question next e = absurd (cc)

-- what each question has answered
pub record Asked (sheet : List ℕ) : Type 0 where
  pub head : leb 40 (length sheet) ≡ true
  pub within : within_limits sheet 0 limits ≡ true
  pub long : eqb (length sheet) (sheet_length sheet) ≡ true
  pub sums : sums_match sheet ≡ true
  pub kinds : kinds_named sheet ≡ true

pub questions_asked : (sheet : List ℕ) → sheet_refusal sheet ≡ none → Asked sheet
unfolding sheet_refusal
questions_asked sheet e =
    let two = after _ _ _ e in
    let three = after _ _ _ two in
    let four = after _ _ _ three in
    let five = after _ _ _ four in
    record { head = passed _ _ _ e; within = passed _ _ _ two; long = passed _ _ _ three; sums = passed _ _ _ four; kinds = passed _ _ _ five }

module _ {sheet : List ℕ} {sizes : Sizes} (a : Accepted sheet sizes) where
  pub measured : Measured sheet sizes
  measured =
      let q = questions_asked sheet a.accepted in
      record { are = a.are; within = q.within; long = eqb-true _ _ q.long }

  -- "the write counts other than 65,535 sum to w"
  pub ranges_all : first_range sheet (code_count sheet) ≡ range_count sheet
  unfolding sums_match
  ranges_all = eqb-true _ _ (both_left _ _ (questions_asked sheet a.accepted).sums)

  -- "the layout lengths to q"
  pub slot_kinds_all : layout_start sheet (layout_count sheet) ≡ slot_kind_count sheet
  unfolding sums_match
  slot_kinds_all = eqb-true _ _ (both_right (eqb (first_range sheet (code_count sheet)) (range_count sheet)) _ (questions_asked sheet a.accepted).sums)

  -- the ranges of an instruction are among the w, and the slot kinds of a layout among the q
  pub ranges_fit : (pc : ℕ) → pc < sizes.code_count → first_range sheet pc + ranges_of sheet pc ≤ sizes.range_count
  unfolding first_range
  ranges_fit pc h = let n = counted a.are in omega (arith, ranges_all, sum_part (ranges_of sheet) pc (code_count sheet) (omega arith))

  pub layout_fits : (i : ℕ) → i < sizes.layout_count → layout_start sheet i + layout_length sheet i ≤ sizes.slot_kind_count
  unfolding layout_start
  layout_fits i h = let n = counted a.are in omega (arith, slot_kinds_all, sum_part (layout_length sheet) i (layout_count sheet) (omega arith))
