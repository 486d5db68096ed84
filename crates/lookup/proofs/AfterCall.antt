-- Lookups in what a successful call left: none refuses, and each answers the fact of the defined run.
-- Assumes nothing.
use mathlib.Core.Path.{◌≡◌, refl, sym, ap, ◌∙◌}
use mathlib.Core.Logic.{◌⊎◌, inl, inr}
use mathlib.Core.List.{List, ◌++◌}
use mathlib.Core.Option.{Option, none, some}
use Prim.Native.Nat.{ℕ, ◌*◌, ◌-◌, ◌≤◌, ◌<◌}
use native.Mathlib.Omega.{arith}
use lib.ListN.{length, take, replicate, length-replicate}
use lib.Seq.{take_at}
use Rattle.model.specs.Sheet.{code_count}
use Rattle.model.specs.Fact.{Fact, unknown, kind, value, Row}
use Rattle.model.specs.Run.{finished, row_at}
use Rattle.model.specs.Tables.{present_bytes, cells}
use Rattle.model.specs.Analyses.{Analysed, Facts, analysis, length_facts}
use Rattle.model.specs.Call.{Lent, Table, table_of, completed, call, tables, filled, filled_table, scratch_zero, lent_after}
use Rattle.model.specs.Lookup.{last_kind}
use Rattle.model.specs.CallDemand.{analysis_of, Made, Demanded, CallDemand}
use Rattle.model.specs.declared.VerifierResources.{VerifierResources}
use Rattle.model.specs.declared.AnalysisKind.{AnalysisKind}
use Rattle.model.specs.declared.AnalysisKind.TheVariants.{Constant, IndexCheck, Container}
use Rattle.finality.proofs.Invariant.{none_some, row_at-replicate, zero_or_above}
use Rattle.finality.proofs.Cells.{Sized, length_present, length_cells}
use Rattle.finality.proofs.Call.{call_demand}
use Rattle.lookup.specs.Run.{analysed_of, used, used_of, LookedUp, FixedUp, CallLookups}
use Rattle.lookup.proofs.NamedKinds.{AllNamed, run_named}
use Rattle.lookup.proofs.NamedTransfers.{transfer_named, first_named}
use Rattle.lookup.proofs.RowLookups.{looked_up_lem, fixed_up, reached_up}

last_above : (which : AnalysisKind) → 1 ≤ last_kind which
unfolding last_kind
last_above Constant = omega arith
last_above IndexCheck = omega arith
last_above Container = omega arith

module _ (which : AnalysisKind) (sheet : List ℕ) (length_fact : ℕ → Fact) (before : VerifierResources) (a : Analysed) (after : VerifierResources)
    (m : Made which sheet length_fact before a after) (d : Demanded which sheet length_fact a) where
  named : AllNamed (last_kind which) a.rows
  unfolding analysis
  named =
      run_named (last_kind which) (last_above which) (analysis_of which sheet length_fact a) (transfer_named which sheet a.slots length_fact)
      (first_named sheet a.slots which m.charged a.entry a.started m.entry) a.started.work a.rows a.pops after.work m.ran

  -- every row has s facts, and there are n rows
  abbrev Shaped : Type 0
  Shaped = Sized (length a.slots) a.rows × (length a.rows ≡ code_count sheet)

  none_shaped : (code_count sheet ≡ 0) ⊎ (length a.slots ≡ 0) → Shaped
  unfolding analysis
  none_shaped z =
      let e : finished a.rows a.pops after.work ≡ finished (replicate (code_count sheet) none) 0 a.started.work = sym m.ran ∙ d.run.at_once z in
      let w : a.rows ≡ replicate (code_count sheet) none = cc in (
        λ p r k. absurd (none_some r (sym (row_at-replicate (code_count sheet) p) ∙ ap (λ (rows : List (Option Row)). row_at rows p) (sym w) ∙ k)),
        ap length w ∙ length-replicate (code_count sheet) none,
      )

  shaped : Shaped
  unfolding analysis
  shaped = go (zero_or_above (code_count sheet)) (zero_or_above (length a.slots))
    where
      go : (code_count sheet ≡ 0) ⊎ (0 < code_count sheet) → (length a.slots ≡ 0) ⊎ (0 < length a.slots) → Shaped
      go (inl e) y = none_shaped (inl e)
      go (inr hn) (inl e) = none_shaped (inr e)
      go (inr hn) (inr hs) = let f = d.rows hn hs in (f.row_length, f.size)

  looks : LookedUp which a (tables a)
  unfolding tables
  looks = record { fact = looked_up_lem a.slots a.rows d.slots.ascending shaped.0 which named; reached = reached_up a.rows }

  fixes : AllNamed (last_kind Constant) a.rows → FixedUp (tables a)
  unfolding tables
  fixes k = record { fixed = fixed_up a.slots a.rows d.slots.ascending shaped.0 k }

  -- the used part of what is left in memory is the table
  used_is : (old : Table) → used (code_count sheet) (length a.slots) (filled_table (tables a) old) ≡ tables a
  unfolding used filled_table filled tables
  used_is old =
      rw (
        take_at a.slots (replicate (length old.slots - length a.slots) 0) (length a.slots) refl,
        take_at (present_bytes a.rows) (replicate (length old.present - length (present_bytes a.rows)) 0) (code_count sheet) (length_present a.rows ∙ shaped.1),
        part kind old.kinds,
        part value old.values,
      )
    where
      part : (f : Fact → ℕ) (xs : List ℕ)
          → take (code_count sheet * length a.slots) (cells f (length a.slots) a.rows ++ replicate (length xs - length (cells f (length a.slots) a.rows)) 0)
          ≡ cells f (length a.slots) a.rows
      part f xs =
          take_at (cells f (length a.slots) a.rows) _ (code_count sheet * length a.slots)
          (length_cells f (length a.slots) a.rows shaped.0 ∙ ap (λ (n : ℕ). n * length a.slots) shaped.1)

-- of an analysis of a successful call, every row has s facts, and there are n rows
pub call_shaped : (sheet : List ℕ) (budget : VerifierResources) (lent : Lent) (facts : Facts) (left : VerifierResources) → call sheet budget lent ≡ some (completed facts left)
    → (which : AnalysisKind) → Sized (length (analysed_of facts which).slots) (analysed_of facts which).rows × (length (analysed_of facts which).rows ≡ code_count sheet)
unfolding analysed_of
call_shaped sheet budget lent facts left e Constant =
    let d = call_demand sheet budget lent facts left e in shaped Constant sheet (λ pc. unknown) _ facts.constants _ d.constants_made d.constants
call_shaped sheet budget lent facts left e IndexCheck =
    let d = call_demand sheet budget lent facts left e in shaped IndexCheck sheet (length_facts sheet facts.constants) _ facts.index _ d.index_made d.index
call_shaped sheet budget lent facts left e Container =
    let d = call_demand sheet budget lent facts left e in shaped Container sheet (λ pc. unknown) _ facts.containers _ d.containers_made d.containers

-- on the used parts of the tables that a successful call left, no lookup refuses, and each answers the run's fact
pub call_lookups : (sheet : List ℕ) (budget : VerifierResources) (lent : Lent) (facts : Facts) (left : VerifierResources)
    → call sheet budget lent ≡ some (completed facts left) → CallLookups sheet facts (lent_after (completed facts left) lent)
unfolding used_of analysed_of table_of lent_after scratch_zero
call_lookups sheet budget lent facts left e = record {
  lookups = each;
  fixed = rw (used_is Constant sheet none_known _ facts.constants _ d.constants_made d.constants lent.constants)
      (fixes Constant sheet none_known _ facts.constants _ d.constants_made d.constants
      (named Constant sheet none_known _ facts.constants _ d.constants_made d.constants));
}
  where
    d : CallDemand sheet budget facts left
    d = call_demand sheet budget lent facts left e

    none_known : ℕ → Fact
    none_known pc = unknown

    each : (which : AnalysisKind) → LookedUp which (analysed_of facts which) (used_of sheet facts (lent_after (completed facts left) lent) which)
    each Constant =
        rw (used_is Constant sheet none_known _ facts.constants _ d.constants_made d.constants lent.constants)
        (looks Constant sheet none_known _ facts.constants _ d.constants_made d.constants)
    each IndexCheck =
        rw (used_is IndexCheck sheet (length_facts sheet facts.constants) _ facts.index _ d.index_made d.index lent.index)
        (looks IndexCheck sheet (length_facts sheet facts.constants) _ facts.index _ d.index_made d.index)
    each Container =
        rw (used_is Container sheet none_known _ facts.containers _ d.containers_made d.containers lent.containers)
        (looks Container sheet none_known _ facts.containers _ d.containers_made d.containers)
