-- Parts that spend, taken apart: what a sequence came to, and that it finishes where its parts do.
-- Assumes nothing.
use mathlib.Core.Path.{◌≡◌, refl}
use Rattle.std.specs.Prelude.{Ok, Err}
use Prim.Native.Nat.{ℕ, zero, suc}
use native.Mathlib.Omega.{arith}
use Rattle.model.specs.Charges.{Charge, Spent, ok, stop, unfinished, Metered, give, continue, ◌>>=◌, ◌>>◌, in_stage, spend_bytes, spend_work, for_each}
use Rattle.model.specs.declared.VerifierResources.{VerifierResources}

-- ---- what a sequence came to

-- what a part gave, and what the next one, which follows it, came to
pub record Parts {A B : Type 0} (part : Metered A) (next : A → Metered B) (budget : VerifierResources) (b : B) (left : VerifierResources) : Type 0 where
  pub a : A
  pub rest : VerifierResources
  pub before : part budget ≡ ok a rest
  pub after : next a rest ≡ ok b left

parts_of : {A B : Type 0} (part : Metered A) (next : A → Metered B) (budget : VerifierResources) (b : B) (left : VerifierResources) (first : Spent A)
    → part budget ≡ first → continue next first ≡ ok b left → Parts part next budget b left
unfolding continue
parts_of part next budget b left (ok a rest) h e = record { a = a; rest = rest; before = h; after = e }
parts_of part next budget b left (stop refusal rest) h e = let z : ◌≡◌ {A = ℕ} 0 1 = cc in let never : ⊥ = omega arith in absurd never
parts_of part next budget b left unfinished h e = let z : ◌≡◌ {A = ℕ} 0 1 = cc in let never : ⊥ = omega arith in absurd never

pub bound_parts : {A B : Type 0} {part : Metered A} {next : A → Metered B} {budget : VerifierResources} {b : B} {left : VerifierResources}
    → (part >>= next) budget ≡ ok b left → Parts part next budget b left
unfolding ◌>>=◌
bound_parts {part} {next} {budget} {b} {left} e = parts_of part next budget b left (part budget) refl e

pub then_parts : {A B : Type 0} {part : Metered A} {next : Metered B} {budget : VerifierResources} {b : B} {left : VerifierResources}
    → (part >> next) budget ≡ ok b left → Parts part (λ _. next) budget b left
unfolding ◌>>◌
then_parts {part} {next} {budget} {b} {left} e = parts_of part (λ _. next) budget b left (part budget) refl e

pub given : {A : Type 0} (a : A) (budget : VerifierResources) {b : A} {left : VerifierResources} → give a budget ≡ ok b left → a ≡ b
unfolding give
given a budget e = cc

pub left_given : {A : Type 0} (a : A) (budget : VerifierResources) {b : A} {left : VerifierResources} → give a budget ≡ ok b left → budget ≡ left
unfolding give
left_given a budget e = cc

-- ---- that it finishes

-- a part that finishes, whatever the budget
abbrev pub Finishes : {A : Type 0} → Metered A → Type 0
Finishes part = (budget : VerifierResources) → part budget ≡ unfinished → ⊥

pub bound_finishes : {A B : Type 0} {part : Metered A} {next : A → Metered B}
    → Finishes part → ((a : A) (budget left : VerifierResources) → part budget ≡ ok a left → next a left ≡ unfinished → ⊥) → Finishes (part >>= next)
unfolding ◌>>=◌ continue
bound_finishes {A} {B} {part} {next} f g budget e = go (part budget) refl e
  where
    go : (first : Spent A) → part budget ≡ first → continue next first ≡ unfinished → ⊥
    go (ok a left) h k = g a budget left h k
    go (stop refusal left) h k = let z : ◌≡◌ {A = ℕ} 0 1 = cc in omega arith
    go unfinished h k = f budget h

pub then_finishes : {A B : Type 0} {part : Metered A} {next : Metered B} → Finishes part → Finishes next → Finishes (part >> next)
unfolding ◌>>◌ continue
then_finishes {A} {B} {part} {next} f g budget e = go (part budget) refl e
  where
    go : (first : Spent A) → part budget ≡ first → continue (λ _. next) first ≡ unfinished → ⊥
    go (ok a left) h k = g left k
    go (stop refusal left) h k = let z : ◌≡◌ {A = ℕ} 0 1 = cc in omega arith
    go unfinished h k = f budget h

pub give_finishes : {A : Type 0} (a : A) → Finishes (give a)
unfolding give
give_finishes a budget e = let z : ◌≡◌ {A = ℕ} 0 1 = cc in omega arith

stage_finishes : (stage : ℕ) (left : VerifierResources) (c : Charge) → in_stage stage left c ≡ unfinished → ⊥
unfolding in_stage
stage_finishes stage left (Ok rest) e = let z : ◌≡◌ {A = ℕ} 0 1 = cc in omega arith
stage_finishes stage left (Err short) e = let z : ◌≡◌ {A = ℕ} 0 1 = cc in omega arith

pub bytes_finish : (stage amount : ℕ) → Finishes (spend_bytes stage amount)
unfolding spend_bytes
bytes_finish stage amount budget e = stage_finishes stage budget _ e

pub work_finishes : (stage amount : ℕ) → Finishes (spend_work stage amount)
unfolding spend_work
work_finishes stage amount budget e = stage_finishes stage budget _ e

pub each_finishes : (f : ℕ → Metered (Unit {0})) (count : ℕ) → ((i : ℕ) → Finishes (f i)) → Finishes (for_each f count)
unfolding for_each
each_finishes f zero h = give_finishes tt
each_finishes f (suc i) h = then_finishes (each_finishes f i h) (h i)
