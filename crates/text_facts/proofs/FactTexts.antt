-- The texts of facts, by kind and value; and by classes those of the listing.
-- Assumes nothing.
use mathlib.Core.Path.{◌≡◌, refl, ap, ◌∙◌, fun_ext}
use mathlib.Core.List.{List, [], ◌++◌}
use Prim.Native.Nat.{ℕ, zero, suc, ◌+◌, ◌-◌, ◌/◌, ◌%◌, ◌≤◌, ◌<◌}
use native.Mathlib.Omega.{arith}
use Rattle.model.specs.Fact.{Fact, unknown, conflict, known}
use Rattle.model.specs.Tables.{fact_of}
use Rattle.model.specs.Listing.{ascii, digits, decimal, space, constant_text, index_text, container_text, fact_text}
use Rattle.model.specs.declared.AnalysisKind.{AnalysisKind}
use Rattle.model.specs.declared.AnalysisKind.TheVariants.{Constant, IndexCheck, Container}
use Rattle.sheet_layouts.specs.Classes.{class_of, Classes}
use Rattle.sheet_layouts.proofs.Classes.{class_is}
use Rattle.text_facts.specs.Text.{pair_word, container_text_by, fact_text_by}

-- ---- constants

module _ (sheet : List ℕ) where
  pub constant_from_zero : (kind v : ℕ) → 2 ≤ kind → kind < 3 → decimal v ≡ constant_text sheet (fact_of kind v)
  unfolding constant_text fact_of
  constant_from_zero kind v h k = let e : kind ≡ 2 = omega arith in rw e

  negative : (kind v : ℕ) → 3 ≤ kind → ascii "-" ++ decimal (18446744073709551616 - v) ≡ constant_text sheet (fact_of kind v)
  unfolding constant_text fact_of
  negative zero v h = absurd (omega arith)
  negative (suc zero) v h = absurd (omega arith)
  negative (suc (suc zero)) v h = absurd (omega arith)
  negative (suc (suc (suc kind))) v h = refl

  -- no table of a run has it: a negative value is from 2^63 up
  pub constant_least : (kind v : ℕ) → 3 ≤ kind → v ≡ 0 → ascii "-18446744073709551616" ≡ constant_text sheet (fact_of kind v)
  unfolding ascii decimal digits
  constant_least kind v h e = ap (λ (n : ℕ). ascii "-" ++ decimal n) whole ∙ negative kind v h
    where
      whole : 18446744073709551616 ≡ 18446744073709551616 - v
      whole = omega arith

  pub constant_below_zero : (kind v : ℕ) → 3 ≤ kind → v < 18446744073709551616 → ascii "-" ++ decimal (18446744073709551615 - v + 1) ≡ constant_text sheet (fact_of kind v)
  constant_below_zero kind v h l = let e : 18446744073709551615 - v + 1 ≡ 18446744073709551616 - v = omega arith in rw e (negative kind v h)

-- ---- containers

module _ (classes : List ℕ) where
  pub pair_text : (kind v : ℕ) (word : List ℕ) (a b : ℕ) → 2 ≤ kind → kind ≤ 3 → word ≡ pair_word kind → a ≡ class_of classes (v / 65536)
      → b ≡ class_of classes (v % 65536) → word ++ decimal a ++ space ++ decimal b ≡ container_text_by classes (fact_of kind v)
  unfolding container_text_by fact_of pair_word
  pair_text zero v word a b h l e p q = absurd (omega arith)
  pair_text (suc zero) v word a b h l e p q = absurd (omega arith)
  pair_text (suc (suc zero)) v word a b h l e p q = rw (e, p, q)
  pair_text (suc (suc (suc zero))) v word a b h l e p q = rw (e, p, q)
  pair_text (suc (suc (suc (suc kind)))) v word a b h l e p q = absurd (omega arith)

  pub queue_text : (kind v a : ℕ) → 3 < kind → a ≡ class_of classes (v / 65536) → ascii "queue " ++ decimal a ≡ container_text_by classes (fact_of kind v)
  unfolding container_text_by fact_of
  queue_text zero v a h p = absurd (omega arith)
  queue_text (suc zero) v a h p = absurd (omega arith)
  queue_text (suc (suc zero)) v a h p = absurd (omega arith)
  queue_text (suc (suc (suc zero))) v a h p = absurd (omega arith)
  queue_text (suc (suc (suc (suc kind)))) v a h p = rw p

  -- ---- facts of the three

  pub unknown_text : (which : AnalysisKind) (kind v : ℕ) → kind ≡ 0 → ascii "unknown" ≡ fact_text_by which classes (fact_of kind v)
  unfolding fact_text_by fact_of constant_text index_text container_text_by
  unknown_text Constant kind v e = rw e
  unknown_text IndexCheck kind v e = rw e
  unknown_text Container kind v e = rw e

  pub conflict_text : (which : AnalysisKind) (kind v : ℕ) → kind ≡ 1 → ascii "conflict" ≡ fact_text_by which classes (fact_of kind v)
  unfolding fact_text_by fact_of constant_text index_text container_text_by
  conflict_text Constant kind v e = rw e
  conflict_text IndexCheck kind v e = rw e
  conflict_text Container kind v e = rw e

  pub constant_text_lem : (which : AnalysisKind) (kind v : ℕ) → which ≡ Constant → constant_text [] (fact_of kind v) ≡ fact_text_by which classes (fact_of kind v)
  unfolding fact_text_by
  constant_text_lem which kind v e = rw e

  pub checked_text : (which : AnalysisKind) (kind v : ℕ) → which ≡ IndexCheck → (kind ≡ 0 → ⊥) → (kind ≡ 1 → ⊥) → ascii "checked " ++ decimal v ≡ fact_text_by which classes (fact_of kind v)
  unfolding fact_text_by fact_of index_text
  checked_text which zero v e h k = absurd (h refl)
  checked_text which (suc zero) v e h k = absurd (k refl)
  checked_text which (suc (suc kind)) v e h k = rw e

  pub container_text_lem : (which : AnalysisKind) (kind v : ℕ) → which ≡ Container → container_text_by classes (fact_of kind v) ≡ fact_text_by which classes (fact_of kind v)
  unfolding fact_text_by
  container_text_lem which kind v e = rw e

-- ---- by classes or by lowest numbers

module _ {sheet classes : List ℕ} (c : Classes sheet classes) where
  constant_by : (f : Fact) → constant_text [] f ≡ constant_text sheet f
  unfolding constant_text
  constant_by unknown = refl
  constant_by conflict = refl
  constant_by (known zero v) = refl
  constant_by (known (suc k) v) = refl

  index_by : (f : Fact) → index_text [] f ≡ index_text sheet f
  unfolding index_text
  index_by unknown = refl
  index_by conflict = refl
  index_by (known k v) = refl

  container_by : (f : Fact) → container_text_by classes f ≡ container_text sheet f
  unfolding container_text_by container_text
  container_by unknown = refl
  container_by conflict = refl
  container_by (known zero v) = rw (class_is c (v / 65536), class_is c (v % 65536))
  container_by (known (suc zero) v) = rw (class_is c (v / 65536), class_is c (v % 65536))
  container_by (known (suc (suc k)) v) = rw (class_is c (v / 65536))

  -- the text by the classes of a sheet's layouts is the listing's of that sheet
  pub text_by_lem : (which : AnalysisKind) → fact_text_by which classes ≡ fact_text which sheet
  unfolding fact_text_by fact_text
  text_by_lem Constant = fun_ext constant_by
  text_by_lem IndexCheck = fun_ext index_by
  text_by_lem Container = fun_ext container_by
