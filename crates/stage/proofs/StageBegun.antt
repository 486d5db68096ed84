-- What a stage has begun, from what `begin` gives.
-- Assumes nothing.
use Rattle.std.specs.Prelude.{Result, Ok, Err}
use mathlib.Core.Path.{◌≡◌, refl, sym, ap, ◌∙◌, subst}
use mathlib.Core.Bool.{Bool, true, false}
use mathlib.Core.List.{List, map}
use mathlib.Core.Option.{some}
use Prim.Native.Nat.{ℕ}
use native.Mathlib.Omega.{arith}
use lib.ListN.{length}
use Rattle.model.specs.Sheet.{code_count}
use Rattle.model.specs.Charges.{Spent, ok, stop, unfinished, continue}
use Rattle.model.specs.Fact.{Fact, kind, value, Row}
use Rattle.model.specs.Analyses.{Analysed, stage}
use Rattle.model.specs.Call.{Table, Scratch, room_for, filled}
use Rattle.model.specs.CallDemand.{TrackedExactly}
use Rattle.model.specs.declared.VerifierResources.{VerifierResources}
use Rattle.model.specs.declared.AnalysisKind.{AnalysisKind}
use Rattle.model.proofs.Metered.{bound_parts, then_parts, given, left_given}
use Rattle.finality.proofs.Closure.{closure_exact}
use Rattle.finality.proofs.Lawful.{entry_length}
use Rattle.budget.specs.Outcome.{Outcome, as_spent, leaves, leaves_of}
use Rattle.budget.proofs.Outcomes.{Left, covered, stopped, left_by}
use Rattle.stage_memory.specs.Room.{room_by}
use Rattle.stage_prepare.specs.declared.Prepared.{Prepared}
use Rattle.budget.specs.declared.Refused.{Refused}
use Rattle.stage_prepare.specs.Begin.{entering, enter_if, Begun, begin}
use Rattle.stage_prepare.specs.Prepare.{something, PrepareEnd, prepared, prepared_by, unprepared}
use Rattle.stage_prepare.proofs.StageParts.{go_on, stage_begins}

-- what was begun: the closure's slots, room for them, and the first row of as many facts
pub record Begins (which : AnalysisKind) (sheet : List ℕ) (enough : ℕ → Bool) (b : Begun) (left : VerifierResources) : Type 0 where
  pub closed : VerifierResources
  pub exact : TrackedExactly which sheet b.slots
  pub room : enough (length b.slots) ≡ true
  pub entered : entering which sheet b.slots closed ≡ ok b.entry left
  pub long : length b.entry ≡ length b.slots

has_room : (answer : Bool) (which : AnalysisKind) (sheet slots : List ℕ) (closed : VerifierResources) (row : Row) (left : VerifierResources)
    → enter_if answer which sheet slots closed ≡ ok row left → (answer ≡ true) × (entering which sheet slots closed ≡ ok row left)
unfolding enter_if
has_room true which sheet slots closed row left e = (refl, e)
has_room false which sheet slots closed row left e = let z : ◌≡◌ {A = ℕ} 0 1 = cc in absurd (omega arith)

pub begins : (which : AnalysisKind) (sheet : List ℕ) (enough : ℕ → Bool) (budget : VerifierResources) (b : Begun) (left : VerifierResources)
    → begin which sheet enough budget ≡ ok b left → Begins which sheet enough b left
unfolding begin entering
begins which sheet enough budget b left e =
    let tracked = bound_parts e in
    let row = bound_parts tracked.after in
    let is : record { slots = tracked.a; entry = row.a } ≡ b = given _ row.rest row.after in
    let same : row.rest ≡ left = left_given _ row.rest row.after in
    let a = has_room (enough (length tracked.a)) which sheet tracked.a tracked.rest row.a row.rest row.before in
    subst (λ (l : VerifierResources). Begins which sheet enough b l) same (subst (λ (x : Begun). Begins which sheet enough x row.rest) is (record {
      closed = tracked.rest;
      exact = closure_exact which sheet budget tracked.a tracked.rest tracked.before;
      room = a.0;
      entered = a.1;
      long = let p = then_parts a.1 in entry_length sheet tracked.a which p.rest row.a row.rest p.after;
    }))

-- ---- what was prepared

-- question 8, as `prepare` asks it
abbrev pub room_asked : List ℕ → Table → Scratch → ℕ → Bool
room_asked sheet t w s =
    room_by (code_count sheet) s (length t.slots) (length t.present) (length t.kinds) (length t.values) (length w.row_kinds) (length w.row_values) (length w.work_list)

-- what is begun after an outcome
abbrev pub begun_after : Outcome → AnalysisKind → List ℕ → Table → Scratch → Spent Begun
begun_after before which sheet t w = continue (λ _. begin which sheet (room_asked sheet t w)) (as_spent before)

-- the analysis after an outcome
abbrev pub stage_after : Outcome → AnalysisKind → List ℕ → Table → Scratch → (ℕ → Fact) → Spent Analysed
stage_after before which sheet t w length_fact = continue (λ _. stage which sheet (room_for (code_count sheet) t w.row_kinds w.row_values w.work_list) length_fact) (as_spent before)

-- it is what was begun, and its run
pub stage_after_lem : (before : Outcome) (which : AnalysisKind) (sheet : List ℕ) (t : Table) (w : Scratch) (length_fact : ℕ → Fact)
    → stage_after before which sheet t w length_fact ≡ go_on which sheet length_fact (begun_after before which sheet t w)
unfolding room_for room_by continue
stage_after_lem before which sheet t w length_fact = go (as_spent before)
  where
    go : (spent : Spent (Unit {0})) → continue (λ _. stage which sheet (room_for (code_count sheet) t w.row_kinds w.row_values w.work_list) length_fact) spent
        ≡ go_on which sheet length_fact (continue (λ _. begin which sheet (room_asked sheet t w)) spent)
    go (ok u left) = stage_begins which sheet (room_asked sheet t w) length_fact left
    go (stop refusal left) = refl
    go unfinished = refl

-- What `prepare` answers: the outcome so far, whether something runs, and over how many slots.
pub record Answered : Type 0 where
  pub outcome : Outcome
  pub runs : Bool
  pub s : ℕ

abbrev pub answered : Result Prepared Refused → Answered
answered (Ok p) = record { outcome = Ok p.left; runs = p.runs; s = p.s }
answered (Err refused) = record { outcome = Err refused; runs = false; s = 0 }

-- what `prepare` promises, by lengths that cleared slices have kept
abbrev pub PreparedTold : Outcome → AnalysisKind → List ℕ → Table → Scratch → Answered → List ℕ → List ℕ → List ℕ → Type 0
PreparedTold before which sheet t w r slots row_kinds row_values =
    some (leaves r.outcome (prepared r.runs r.s slots row_kinds row_values))
    ≡ leaves_of (prepared_by (code_count sheet) t.slots w.row_kinds w.row_values) (unprepared t.slots w.row_kinds w.row_values) (begun_after before which sheet t w)

pub asked_lent : (before : Outcome) (which : AnalysisKind) (sheet : List ℕ) (t : Table) (w : Scratch) {lp lk lv : ℕ} → lp ≡ length t.present → lk ≡ length t.kinds → lv ≡ length t.values
    → (r : Answered) (slots row_kinds row_values : List ℕ)
    → some (leaves r.outcome (prepared r.runs r.s slots row_kinds row_values))
    ≡ leaves_of (prepared_by (code_count sheet) t.slots w.row_kinds w.row_values) (unprepared t.slots w.row_kinds w.row_values)
    (continue (λ _. begin which sheet (λ s. room_by (code_count sheet) s (length t.slots) lp lk lv (length w.row_kinds) (length w.row_values) (length w.work_list))) (as_spent before))
    → PreparedTold before which sheet t w r slots row_kinds row_values
asked_lent before which sheet t w p k v r slots row_kinds row_values e = rw (p, k, v) at e

-- a stage that was begun: what is to run
pub record Ready (before : Outcome) (which : AnalysisKind) (sheet : List ℕ) (t : Table) (w : Scratch) (r : Answered) (slots row_kinds row_values : List ℕ) : Type 0 where
  pub b : Begun
  pub rest : VerifierResources
  pub came : begun_after before which sheet t w ≡ ok b rest
  pub begun : Begins which sheet (room_asked sheet t w) b rest
  pub outcome_is : r.outcome ≡ Ok rest
  pub runs_is : r.runs ≡ something (code_count sheet) (length b.slots)
  pub s_is : r.s ≡ length b.slots
  pub slots_are : slots ≡ filled b.slots t.slots
  pub row_kinds_are : row_kinds ≡ filled (map kind b.entry) w.row_kinds
  pub row_values_are : row_values ≡ filled (map value b.entry) w.row_values

module _ (before : Outcome) (which : AnalysisKind) (sheet : List ℕ) (t : Table) (w : Scratch) {r : Answered} {slots row_kinds row_values : List ℕ} where
  pub begun_ready : (b : Begun) (rest : VerifierResources) → begun_after before which sheet t w ≡ ok b rest → r.outcome ≡ Ok rest
      → prepared r.runs r.s slots row_kinds row_values ≡ prepared_by (code_count sheet) t.slots w.row_kinds w.row_values b
      → Ready before which sheet t w r slots row_kinds row_values
  begun_ready b rest came o m = record {
    b = b;
    rest = rest;
    came = came;
    begun = let from = begun_from (as_spent before) came in begins which sheet (room_asked sheet t w) from.0 b rest from.1;
    outcome_is = o;
    runs_is = ap (λ (x : PrepareEnd). x.runs) m;
    s_is = ap (λ (x : PrepareEnd). x.s) m;
    slots_are = ap (λ (x : PrepareEnd). x.slots) m;
    row_kinds_are = ap (λ (x : PrepareEnd). x.row_kinds) m;
    row_values_are = ap (λ (x : PrepareEnd). x.row_values) m;
  }
    where
      begun_from : (spent : Spent (Unit {0})) → continue (λ _. begin which sheet (room_asked sheet t w)) spent ≡ ok b rest → (budget : VerifierResources) × (begin which sheet (room_asked sheet t w) budget ≡ ok b rest)
      begun_from (ok u budget) e = unfold continue in (budget, e)
      begun_from (stop refusal left) e = unfold continue in (let z : ◌≡◌ {A = ℕ} 0 1 = cc in absurd (omega arith))
      begun_from unfinished e = unfold continue in (let z : ◌≡◌ {A = ℕ} 0 1 = cc in absurd (omega arith))

  -- where something runs, the stage was begun
  pub ready : PreparedTold before which sheet t w r slots row_kinds row_values → r.runs ≡ true → Ready before which sheet t w r slots row_kinds row_values
  ready told runs =
      go (left_by (prepared_by (code_count sheet) t.slots w.row_kinds w.row_values) (unprepared t.slots w.row_kinds w.row_values) (begun_after before which sheet t w) told)
    where
      go : Left (prepared_by (code_count sheet) t.slots w.row_kinds w.row_values) (unprepared t.slots w.row_kinds w.row_values) (begun_after before which sheet t w)
          r.outcome (prepared r.runs r.s slots row_kinds row_values) → Ready before which sheet t w r slots row_kinds row_values
      go (covered b rest came o m) = begun_ready b rest came o m
      go (stopped refusal rest came o m) =
          let e : false ≡ true = sym (ap (λ (x : PrepareEnd). x.runs) m) ∙ runs in
          let z : ◌≡◌ {A = ℕ} 0 1 = cc in
          absurd (omega arith)

-- the same, from what the calls before it ensure
module _ (before : Outcome) (which : AnalysisKind) (sheet : List ℕ) (t : Table) (w : Scratch) where
  pub ready_there : {lp lk lv : ℕ} → lp ≡ length t.present → lk ≡ length t.kinds → lv ≡ length t.values → (r : Answered) {slots row_kinds row_values : List ℕ}
      → some (leaves r.outcome (prepared r.runs r.s slots row_kinds row_values))
      ≡ leaves_of (prepared_by (code_count sheet) t.slots w.row_kinds w.row_values) (unprepared t.slots w.row_kinds w.row_values)
      (continue (λ _. begin which sheet (λ s. room_by (code_count sheet) s (length t.slots) lp lk lv (length w.row_kinds) (length w.row_values) (length w.work_list))) (as_spent before))
      → r.runs ≡ true → Ready before which sheet t w r slots row_kinds row_values
  ready_there p k v r told = ready before which sheet t w (asked_lent before which sheet t w p k v r _ _ _ told)
