-- Records of lent memory are equal where their slices are.
-- Assumes nothing.
use mathlib.Core.Path.{◌≡◌}
use mathlib.Core.List.{List}
use Prim.Native.Nat.{ℕ}
use Rattle.model.specs.Call.{table, scratch}

pub table_path : {slots present kinds values slots' present' kinds' values' : List ℕ} → slots ≡ slots' → present ≡ present' → kinds ≡ kinds' → values ≡ values'
    → table slots present kinds values ≡ table slots' present' kinds' values'
table_path a b c d = cc

pub scratch_path : {marks stack row_kinds row_values list marks' stack' row_kinds' row_values' list' : List ℕ}
    → marks ≡ marks' → stack ≡ stack' → row_kinds ≡ row_kinds' → row_values ≡ row_values' → list ≡ list'
    → scratch marks stack row_kinds row_values list ≡ scratch marks' stack' row_kinds' row_values' list'
scratch_path a b c d e = cc
