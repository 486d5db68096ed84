-- What a part that spends came to and left, taken apart: one law for all of them.
-- Assumes nothing.
use mathlib.Core.Path.{◌≡◌, refl, sym, ap}
use mathlib.Core.Option.{Option, none, some}
use native.Mathlib.Omega.{arith}
use Prim.Native.Nat.{ℕ}
use Rattle.model.specs.Charges.{Refusal, over_budget, no_room, Spent, ok, stop, unfinished, Metered, continue}
use Rattle.model.specs.declared.VerifierResources.{VerifierResources}
use Rattle.std.specs.Prelude.{Ok, Err}
use Rattle.budget.specs.Outcome.{Outcome, refused_by, as_spent, Leaves, leaves, leaves_of}
use Rattle.budget.specs.declared.Refused.{Refused}
use Rattle.budget.specs.declared.Refused.TheVariants.{OverBudget, NoRoom}

-- an outcome and memory, by what the definitions' part comes to
pub data Left {A M : Type 0} (given : A → M) (refused : M) (spent : Spent A) (outcome : Outcome) (memory : M) : Type 0 where
  covered : (a : A) (left : VerifierResources) → spent ≡ ok a left → outcome ≡ Ok left → memory ≡ given a → Left given refused spent outcome memory
  stopped : (refusal : Refusal) (left : VerifierResources) → spent ≡ stop refusal left → outcome ≡ Err (refused_by refusal left) → memory ≡ refused
      → Left given refused spent outcome memory

-- what is left, where something is
kept : {M : Type 0} → Leaves M → Option (Leaves M) → Leaves M
kept other none = other
kept other (some is) = is

module _ {A M : Type 0} (given : A → M) (refused : M) where
  pub left_by : (spent : Spent A) {outcome : Outcome} {memory : M} → some (leaves outcome memory) ≡ leaves_of given refused spent → Left given refused spent outcome memory
  unfolding leaves_of kept
  left_by (ok a left) {outcome} {memory} e =
      let same = ap (kept (leaves outcome memory)) e in
      covered a left refl (ap (λ (l : Leaves M). l.outcome) same) (ap (λ (l : Leaves M). l.memory) same)
  left_by (stop refusal left) {outcome} {memory} e =
      let same = ap (kept (leaves outcome memory)) e in
      stopped refusal left refl (ap (λ (l : Leaves M). l.outcome) same) (ap (λ (l : Leaves M). l.memory) same)
  left_by unfinished e = let z : ◌≡◌ {A = ℕ} 0 1 = cc in absurd (omega arith)

-- what is left after a part that was covered
pub covered_leaves : {A M : Type 0} (given : A → M) (refused : M) {memory : M} {spent : Spent A} {outcome : Outcome} {a : A} {left : VerifierResources}
    → spent ≡ ok a left → outcome ≡ Ok left → memory ≡ given a → some (leaves outcome memory) ≡ leaves_of given refused spent
unfolding leaves_of
covered_leaves given refused s o m = rw (s, o, m)

-- ---- a part that was refused

-- a refusal, as the definitions and as the code have it
pub record Stopped {A : Type 0} (spent : Spent A) (outcome : Outcome) : Type 0 where
  pub refusal : Refusal
  pub left : VerifierResources
  pub came : spent ≡ stop refusal left
  pub is : outcome ≡ Err (refused_by refusal left)

-- what the code knows behind `let Ok(..) = outcome else`
abbrev pub NotCovered : Outcome → Type 0
NotCovered outcome = (left : VerifierResources) → outcome ≡ Ok left → ⊥

module _ {A : Type 0} {spent : Spent A} {outcome : Outcome} (s : Stopped spent outcome) where
  -- it ends what follows
  pub stopped_then : {B : Type 0} (next : A → Metered B) → Stopped (continue next spent) outcome
  unfolding continue
  stopped_then next = record { refusal = s.refusal; left = s.left; came = rw s.came; is = s.is }

  -- what is left after it
  pub stopped_leaves : {M : Type 0} (given : A → M) {refused memory : M} → memory ≡ refused → some (leaves outcome memory) ≡ leaves_of given refused spent
  unfolding leaves_of
  stopped_leaves given e = rw (s.came, s.is, e)

pub stopped_spent : {spent : Spent (Unit {0})} {outcome : Outcome} → Stopped spent outcome → as_spent outcome ≡ spent
unfolding as_spent refused_by
stopped_spent {spent} {outcome} s = rw (s.came, s.is) (go s.refusal)
  where
    go : (refusal : Refusal) → as_spent (Err (refused_by refusal s.left)) ≡ stop refusal s.left
    go (over_budget stage requested remaining) = refl
    go no_room = refl

pub spent_stopped : (outcome : Outcome) {spent : Spent (Unit {0})} → as_spent outcome ≡ spent → NotCovered outcome → Stopped spent outcome
unfolding as_spent refused_by
spent_stopped (Ok left) e h = absurd (h left refl)
spent_stopped (Err (OverBudget stage requested remaining left)) e h = record { refusal = over_budget stage requested remaining; left = left; came = sym e; is = refl }
spent_stopped (Err (NoRoom left)) e h = record { refusal = no_room; left = left; came = sym e; is = refl }

-- a refusal that the code passes on
pub refused_stopped : {spent : Spent (Unit {0})} {outcome : Outcome} {refused : Refused} → as_spent outcome ≡ spent → outcome ≡ Err refused → Stopped spent outcome
refused_stopped {spent} {outcome} {refused} e h = spent_stopped outcome e (λ left k. let z : Err refused ≡ Ok left = cc in absurd (go z))
  where
    go : {refused : Refused} {left : VerifierResources} → ◌≡◌ {A = Outcome} (Err refused) (Ok left) → ⊥
    go e = let z : ◌≡◌ {A = ℕ} 0 1 = cc in omega arith

-- ---- by what the code knows of the outcome

module _ {A M : Type 0} (given : A → M) (refused : M) (spent : Spent A) {outcome : Outcome} {memory : M} (e : some (leaves outcome memory) ≡ leaves_of given refused spent) where
  pub left_covered : {left : VerifierResources} → outcome ≡ Ok left → (a : A) × (spent ≡ ok a left) × (memory ≡ given a)
  unfolding refused_by
  left_covered {left} h = go (left_by given refused spent e)
    where
      go : Left given refused spent outcome memory → (a : A) × (spent ≡ ok a left) × (memory ≡ given a)
      go (covered a rest s o m) = (a, cc, m)
      go (stopped (over_budget stage requested remaining) rest s o m) = let z : ◌≡◌ {A = ℕ} 0 1 = cc in absurd (omega arith)
      go (stopped no_room rest s o m) = let z : ◌≡◌ {A = ℕ} 0 1 = cc in absurd (omega arith)

  pub left_stopped : NotCovered outcome → Stopped spent outcome × (memory ≡ refused)
  left_stopped h = go (left_by given refused spent e)
    where
      go : Left given refused spent outcome memory → Stopped spent outcome × (memory ≡ refused)
      go (covered a left s o m) = absurd (h left o)
      go (stopped refusal left s o m) = (record { refusal = refusal; left = left; came = s; is = o }, m)
