-- The facts of constants: signed numbers by their bits, and folds.
-- Assumes nothing.
use mathlib.Core.Path.{◌≡◌, refl, sym, ap}
use mathlib.Core.Logic.{◌≢◌}
use mathlib.Core.Bool.{true, false, false≢true}
use mathlib.Core.List.{List}
use mathlib.Core.Option.{none, some}
use Prim.Native.Nat.{ℕ, zero, suc, ◌*◌, ◌%◌, ◌^◌, ◌≤◌, ◌<◌}
use native.Mathlib.Omega.{arith}
use lib.IntN.{ℤ, pos, negsuc}
use lib.Signed.{mag, lt_z}
use mir.Syntax.{w64}
use mir.Val.{SFits, to_z, of_z}
use mir.ValLaws.{to_z-of_z}
use lib.Dec.{ltb}
use borrow.Author.Tests.{ltb-true, lt-ltb, le-ltb, ne_eqb}
use Rattle.model.specs.Fact.{Fact, unknown, known, kind, value, Row}
use Rattle.model.specs.Sheet.{constant_count, constant_kind, constant_bits}
use Rattle.model.specs.Successors.{signed}
use Rattle.model.specs.Tables.{fact_of, fact_in, cell_of}
use Rattle.model.specs.Transfer.{fact_for, integer, u64_fact, fold_binary, fold, shifted, shl, loaded, load_const}
use Rattle.model.specs.declared.FactCell.{FactCell}
use Rattle.model.specs.declared.Instruction.{Instruction}
use Rattle.sheet.specs.Measured.{Measured}
use Rattle.sheet.specs.declared.Sizes.{Sizes}
use Rattle.sheet.proofs.SizeNames.{counted}
use Rattle.cfg.proofs.SignedOffsets.{read_signed}
use Rattle.fact_row.proofs.Facts.{fact_cell, read}

-- ---- signed numbers, which pass from call to call as bits

below_zero : (z : ℤ) {v : ℕ} → v ≡ of_z w64 z → lt_z z (pos 0) ≡ true → fact_cell 3 v ≡ cell_of (integer z)
unfolding cell_of kind value integer
below_zero (pos n) e h = absurd (omega (arith, ltb-true n 0 h))
below_zero (negsuc n) e h = ap (fact_cell 3) e

not_below : (z : ℤ) {v : ℕ} → v ≡ of_z w64 z → lt_z z (pos 0) ≡ false → fact_cell 2 v ≡ cell_of (integer z)
unfolding cell_of kind value integer
not_below (pos n) e h = ap (fact_cell 2) e
not_below (negsuc n) e h = absurd (false≢true (sym h))

module _ (z : ℤ) (f : SFits w64 z) {v : ℕ} (e : v ≡ of_z w64 (to_z w64 (of_z w64 z))) where
  pub negative : lt_z (to_z w64 (of_z w64 z)) (pos 0) ≡ true → fact_cell 3 v ≡ cell_of (integer z)
  negative h = below_zero z (rw (to_z-of_z w64 z f) at e) (rw (to_z-of_z w64 z f) at h)

  pub from_zero : lt_z (to_z w64 (of_z w64 z)) (pos 0) ≡ false → fact_cell 2 v ≡ cell_of (integer z)
  from_zero h = not_below z (rw (to_z-of_z w64 z f) at e) (rw (to_z-of_z w64 z f) at h)

pub signed_bits : (bits : ℕ) (r : ℤ) → mag r < 9223372036854775808 → r ≡ to_z w64 bits → to_z w64 (of_z w64 r) ≡ signed 64 bits
unfolding signed
signed_bits bits r f e = read_signed w64 bits r f e

-- ---- "Shl and Or fold only two facts from 0 to 2^64 − 1."

number : (k v : ℕ) → k ≡ 2 → u64_fact (fact_of k v) ≡ some v
unfolding fact_of u64_fact
number k v e = rw e

no_number : (k v : ℕ) → k ≢ 2 → u64_fact (fact_of k v) ≡ none
unfolding fact_of u64_fact
no_number zero v h = refl
no_number (suc zero) v h = refl
no_number (suc (suc zero)) v h = absurd (h refl)
no_number (suc (suc (suc k))) v h = refl

-- of the facts of b and c, by their cells
module _ (f : ℕ → ℕ → Fact) (inst : Instruction) (slots : List ℕ) (row : Row) {b c : ℕ} (p : b ≡ inst.b) (q : c ≡ inst.c) {x y : FactCell}
    (l : x ≡ cell_of (fact_for slots row b)) (r : y ≡ cell_of (fact_for slots row c)) where
  by_cells : fold_binary f (u64_fact (fact_in x)) (u64_fact (fact_in y)) ≡ fold f inst slots row
  unfolding fold
  by_cells = rw (← p, ← q, read _ l, read _ r)

  pub first_other : x.kind ≢ 2 → unknown ≡ fold f inst slots row
  unfolding fold_binary fact_in
  first_other h = rw (← by_cells, no_number x.kind x.value h)

  pub second_other : x.kind ≡ 2 → y.kind ≢ 2 → unknown ≡ fold f inst slots row
  unfolding fold_binary fact_in
  second_other e h = rw (← by_cells, number x.kind x.value e, no_number y.kind y.value h)

  pub both_numbers : x.kind ≡ 2 → y.kind ≡ 2 → {fact : Fact} → fact ≡ f x.value y.value → fact ≡ fold f inst slots row
  unfolding fold_binary fact_in
  both_numbers e h {fact} z = rw (← by_cells, number x.kind x.value e, number y.kind y.value h) z

-- "a shift of 64 or more is Unknown"
pub shifted_out : (x y : ℕ) → 64 ≤ y → unknown ≡ shl x y
unfolding shl shifted
shifted_out x y h = rw (le-ltb y 64 h)

pub shifted_in : (x y : ℕ) → y < 64 → known 0 (x * 2 ^ y % 2 ^ 64) ≡ shl x y
unfolding shl shifted
shifted_in x y h = rw (lt-ltb y 64 h)

-- ---- LoadConst

module _ {sheet : List ℕ} {sizes : Sizes} (m : Measured sheet sizes) (i : ℕ) where
  pub const_past : sizes.constant_count ≤ i → unknown ≡ load_const sheet i
  unfolding load_const loaded
  const_past h = rw (le-ltb i (constant_count sheet) (omega (arith, (counted m.are).constant_count_is)))

  module _ (h : i < sizes.constant_count) {k : ℕ} (e : k ≡ constant_kind sheet i) where
    below : ltb i (constant_count sheet) ≡ true
    below = lt-ltb i (constant_count sheet) (omega (arith, (counted m.are).constant_count_is))

    pub const_other : k ≢ 1 → unknown ≡ load_const sheet i
    unfolding load_const loaded
    const_other l = rw (below, ← e, ne_eqb k 1 l)

    pub const_loaded : k ≡ 1 → {bits : ℕ} → bits ≡ constant_bits sheet i → integer (signed 64 bits) ≡ load_const sheet i
    unfolding load_const loaded
    const_loaded l q = rw (below, ← e, l, q)
