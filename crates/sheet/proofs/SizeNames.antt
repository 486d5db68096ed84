-- The sizes as `model` names them.
-- Assumes nothing.
use mathlib.Core.Path.{◌≡◌, sym, subst}
use mathlib.Core.List.{List}
use Prim.Native.Nat.{ℕ}
use native.Mathlib.Omega.{arith}
use Rattle.model.specs.Sheet.{code_count, range_count, constant_count, param_count, layout_count, slot_kind_count, local_slots, param_slots, recv_slots, is_closure}
use Rattle.model.specs.Sheet.{slot_kinds_at}
use Rattle.sheet.specs.Sizes.{places_of, sizes_of}
use Rattle.sheet.specs.declared.Sizes.{Sizes}

pub record Counted (sheet : List ℕ) (s : Sizes) : Type 0 where
  pub code_count_is : s.code_count ≡ code_count sheet
  pub range_count_is : s.range_count ≡ range_count sheet
  pub constant_count_is : s.constant_count ≡ constant_count sheet
  pub param_count_is : s.param_count ≡ param_count sheet
  pub layout_count_is : s.layout_count ≡ layout_count sheet
  pub slot_kind_count_is : s.slot_kind_count ≡ slot_kind_count sheet
  pub local_slots_is : s.local_slots ≡ local_slots sheet
  pub param_slots_is : s.param_slots ≡ param_slots sheet
  pub recv_slots_is : s.recv_slots ≡ recv_slots sheet
  pub is_closure_is : s.is_closure ≡ is_closure sheet
  pub slot_kinds_at_is : s.places.slot_kinds ≡ slot_kinds_at sheet

of_sheet : (sheet : List ℕ) → Counted sheet (sizes_of sheet)
unfolding sizes_of places_of
of_sheet sheet = omega arith

pub counted : {sheet : List ℕ} {sizes : Sizes} → sizes ≡ sizes_of sheet → Counted sheet sizes
counted {sheet} e = subst (λ (s : Sizes). Counted sheet s) (sym e) (of_sheet sheet)
