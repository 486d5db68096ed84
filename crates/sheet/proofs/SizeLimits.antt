-- Question 2: sizes within their limits.
-- Assumes nothing.
use mathlib.Core.Path.{◌≡◌, sym, subst}
use mathlib.Core.Bool.{true}
use mathlib.Core.List.{List, [], ◌∷◌}
use Prim.Native.Nat.{ℕ, zero, suc, ◌+◌, ◌≤◌, ◌<◌}
use native.Mathlib.Nat.{not-suc-le-zero, le_of_suc-le-suc}
use native.Mathlib.Omega.{arith}
use lib.Dec.{leb}
use lib.ListN.{length, get_or}
use borrow.Author.Tests.{leb-true}
use Rattle.model.specs.Sheet.{size, limits, within_limits}
use Rattle.model.specs.Sheet.{code_count, range_count, constant_count, param_count, layout_count, slot_kind_count, local_slots, param_slots, recv_slots, is_closure}
use Rattle.sheet.specs.Sizes.{sizes_of}
use Rattle.sheet.specs.Measured.{Measured}
use Rattle.sheet.specs.declared.Sizes.{Sizes}
use Rattle.model.proofs.Tests.{both_left, both_right}

-- every size is at most its limit
pub limit_at : (sheet : List ℕ) (j : ℕ) (ls : List ℕ) → within_limits sheet j ls ≡ true → (i : ℕ) → i < length ls → size sheet (j + i) ≤ get_or ls i 0
unfolding within_limits
limit_at sheet j [] e i h = absurd (not-suc-le-zero h)
limit_at sheet j (l ∷ ls) e zero h = let p : j + 0 ≡ j = omega arith in rw p (leb-true (size sheet j) l (both_left _ _ e))
limit_at sheet j (l ∷ ls) e (suc i) h =
    let p : suc j + i ≡ j + suc i = omega arith in
    rw p at (limit_at sheet (suc j) ls (both_right (leb (size sheet j) l) _ e) i (le_of_suc-le-suc h))

-- "n (at most 4,096), .."
pub record Limited (s : Sizes) : Type 0 where
  pub code_count_is : s.code_count ≤ 4096
  pub range_count_is : s.range_count ≤ 16384
  pub constant_count_is : s.constant_count ≤ 4096
  pub param_count_is : s.param_count ≤ 256
  pub layout_count_is : s.layout_count ≤ 1024
  pub slot_kind_count_is : s.slot_kind_count ≤ 16384
  pub local_slots_is : s.local_slots ≤ 65535
  pub param_slots_is : s.param_slots ≤ 65535
  pub recv_slots_is : s.recv_slots ≤ 65535
  pub is_closure_is : s.is_closure ≤ 1

of_sheet : (sheet : List ℕ) → within_limits sheet 0 limits ≡ true → Limited (sizes_of sheet)
unfolding sizes_of limits code_count range_count constant_count param_count layout_count slot_kind_count local_slots param_slots recv_slots is_closure
of_sheet sheet e = record {
  code_count_is = limit_at sheet 0 limits e 0 (omega arith);
  range_count_is = limit_at sheet 0 limits e 1 (omega arith);
  constant_count_is = limit_at sheet 0 limits e 2 (omega arith);
  param_count_is = limit_at sheet 0 limits e 3 (omega arith);
  layout_count_is = limit_at sheet 0 limits e 4 (omega arith);
  slot_kind_count_is = limit_at sheet 0 limits e 5 (omega arith);
  local_slots_is = limit_at sheet 0 limits e 6 (omega arith);
  param_slots_is = limit_at sheet 0 limits e 7 (omega arith);
  recv_slots_is = limit_at sheet 0 limits e 8 (omega arith);
  is_closure_is = limit_at sheet 0 limits e 9 (omega arith);
}

pub limited_by : (sheet : List ℕ) {sizes : Sizes} → sizes ≡ sizes_of sheet → within_limits sheet 0 limits ≡ true → Limited sizes
limited_by sheet e within = subst (λ (s : Sizes). Limited s) (sym e) (of_sheet sheet within)

pub limited : {sheet : List ℕ} {sizes : Sizes} → Measured sheet sizes → Limited sizes
limited {sheet} m = limited_by sheet m.are m.within
