-- What a lookup answers, by the parts that its functions found.
-- Assumes nothing.
use mathlib.Core.Path.{◌≡◌, refl, sym}
use mathlib.Core.Bool.{Bool, true, false, cond}
use mathlib.Core.List.{List, [], ◌∷◌}
use mathlib.Core.Option.{Option, none, some}
use Rattle.std.specs.Prelude.{Err}
use Prim.Native.Nat.{ℕ, suc, ◌+◌, ◌-◌, ◌≤◌, ◌<◌}
use native.Mathlib.Omega.{arith}
use lib.Dec.{eqb}
use lib.ListN.{length, get_or}
use Rattle.model.specs.Lookup.{SlotFact, damaged, none_found, last_kind, place_from, place, tables_agree, row_named, cell, or_damaged, fact_for_slot, shown, fixed_fact, fixed_at, fixed}
use Rattle.model.specs.declared.AnalysisKind.{AnalysisKind}
use Rattle.model.specs.Call.{Table}
use Rattle.lookup.specs.Shown.{shown_by}
use Rattle.lookup.specs.Inside.{Found, rows_named}
use Rattle.lookup.specs.declared.tables.shown.Seen.{Seen}
use Rattle.lookup.proofs.Agreement.{agreed}

-- a place lies among the slots
pub place_within : (i : ℕ) (slots : List ℕ) (slot j : ℕ) → place_from i slots slot ≡ some j → (i ≤ j) × (j < i + length slots)
unfolding place_from
place_within i [] slot j e = let z : ◌≡◌ {A = ℕ} 0 1 = cc in absurd (omega arith)
place_within i (t ∷ ts) slot j e = go (λ p. place_within (suc i) ts slot j p) (eqb slot t) e
  where
    go : (place_from (suc i) ts slot ≡ some j → (suc i ≤ j) × (j < suc i + length ts)) → (b : Bool) → cond b (some i) (place_from (suc i) ts slot) ≡ some j
        → (i ≤ j) × (j < i + length (t ∷ ts))
    go later true p = let z : i ≡ j = cc in (omega arith, omega arith)
    go later false p = let l = later p in (omega arith, omega arith)

module _ (t : Table) (slot : ℕ) where
  -- so what is found lies in tables that agree
  pub found : (at : Option ℕ) → at ≡ place t.slots slot → tables_agree t.slots t.present t.kinds t.values ≡ true → Found t slot at
  unfolding place
  found (some j) e h =
      let a = agreed t.slots t.present t.kinds t.values h in
      record {
        agree = h;
        is = e;
        inside = record { below = omega (arith, place_within 0 t.slots slot j (sym e)); kinds_length = a.kinds_length; values_length = a.values_length };
      }
  found none e h = record { agree = h; is = e; inside = tt }

  module _ (which : AnalysisKind) (pc : ℕ) where
    pub tables_damaged : tables_agree t.slots t.present t.kinds t.values ≡ false → Err damaged ≡ fact_for_slot which t.slots t.present t.kinds t.values pc slot
    unfolding fact_for_slot or_damaged
    tables_damaged h = rw h

    module _ {at : Option ℕ} (f : Found t slot at) {last : ℕ} (l : last ≡ last_kind which)
        {named : Bool} (n : named ≡ row_named last (length t.slots) t.present t.kinds at pc) where
      pub row_damaged : named ≡ false → Err damaged ≡ fact_for_slot which t.slots t.present t.kinds t.values pc slot
      unfolding fact_for_slot or_damaged
      row_damaged e = rw (f.agree, ← l, ← f.is, ← n, e)

      pub row_answered : {r : SlotFact} → named ≡ true → r ≡ cell (eqb (get_or t.present pc 0) 1) (length t.slots) t.kinds t.values pc at
          → r ≡ fact_for_slot which t.slots t.present t.kinds t.values pc slot
      unfolding fact_for_slot or_damaged
      row_answered e q = rw (f.agree, ← l, ← f.is, ← n, e) q

  -- ---- fixed

  pub fixed_damaged : tables_agree t.slots t.present t.kinds t.values ≡ false → Err damaged ≡ fixed t.slots t.present t.kinds t.values slot
  unfolding fixed or_damaged
  fixed_damaged h = rw h

  module _ {at : Option ℕ} (f : Found t slot at) {named : Bool} (n : named ≡ rows_named (length t.slots) t.present t.kinds at (length t.present)) where
    pub fixed_row_damaged : named ≡ false → Err damaged ≡ fixed t.slots t.present t.kinds t.values slot
    unfolding fixed or_damaged rows_named
    fixed_row_damaged e = rw (f.agree, ← f.is, ← n, e)

    pub fixed_answered : {r : SlotFact} → named ≡ true → r ≡ fixed_at (length t.slots) t.present t.kinds t.values at → r ≡ fixed t.slots t.present t.kinds t.values slot
    unfolding fixed or_damaged rows_named
    fixed_answered e q = rw (f.agree, ← f.is, ← n, e) q

module _ (t : Table) where
  pub fixed_untracked : none_found ≡ fixed_at (length t.slots) t.present t.kinds t.values none
  unfolding fixed_at
  fixed_untracked = refl

  pub fixed_tracked : (j : ℕ) (seen : Seen) (r : SlotFact) → shown_by seen ≡ shown (length t.slots) t.present t.kinds t.values j (length t.present - 1)
      → r ≡ fixed_fact (shown_by seen) → r ≡ fixed_at (length t.slots) t.present t.kinds t.values (some j)
  unfolding fixed_at
  fixed_tracked j seen r q a = rw (← q) a
