-- Parts that spend, one after the other, by what the first came to.
-- Assumes nothing.
use mathlib.Core.Path.{◌≡◌, refl, sym, ◌∙◌}
use Prim.Native.Nat.{ℕ, ◌+◌, ◌-◌, ◌≤◌, ◌<◌}
use native.Mathlib.Numerals.{add-one}
use native.Mathlib.Omega.{arith}
use Rattle.std.specs.Prelude.{Ok}
use Rattle.model.specs.Charges.{Charge, Spent, ok, Metered, give, continue, ◌>>◌, for_each, charge_bytes, charge_work, in_stage, spend_bytes, spend_work}
use Rattle.model.specs.declared.VerifierResources.{VerifierResources}
use Rattle.model.proofs.Loops.{each_stops}
use Rattle.budget.specs.Outcome.{Outcome, as_spent}
use Rattle.budget.proofs.Outcomes.{Stopped, NotCovered, stopped_then, stopped_spent, spent_stopped}

module _ {A B : Type 0} (part : Metered A) (next : Metered B) (budget : VerifierResources) where
  pub then_covered : {a : A} {left : VerifierResources} → part budget ≡ ok a left → (part >> next) budget ≡ next left
  unfolding ◌>>◌ continue
  then_covered e = rw e

-- the answer of a part that was covered
pub covered : {whole : Outcome} {spent : Spent (Unit {0})} {left : VerifierResources} → as_spent whole ≡ spent → whole ≡ Ok left → spent ≡ ok tt left
unfolding as_spent
covered came e = sym came ∙ rw e

module _ (part next : Metered (Unit {0})) (budget : VerifierResources) (whole : Outcome) (came : as_spent whole ≡ part budget) where
  -- the refusal of the first is that of both
  pub first_refused : NotCovered whole → as_spent whole ≡ (part >> next) budget
  unfolding ◌>>◌
  first_refused h = stopped_spent (stopped_then (spent_stopped whole came h) (λ _. next))

  -- what follows a covered part
  pub second_came : {left : VerifierResources} (last : Outcome) → whole ≡ Ok left → as_spent last ≡ next left → as_spent last ≡ (part >> next) budget
  second_came last e h = h ∙ sym (then_covered part next budget (covered came e))

-- ---- a loop that charges

module _ (f : ℕ → Metered (Unit {0})) (n : ℕ) (budget : VerifierResources) where
  -- after i of n charges, all covered
  pub record Charged (left : VerifierResources) (i : ℕ) : Type 0 where
    pub within : i ≤ n
    pub is : for_each f i budget ≡ ok tt left

  pub charged_none : Charged budget 0
  unfolding for_each give
  charged_none = record { within = omega arith; is = refl }

  -- the next charge
  next : {left : VerifierResources} {i : ℕ} → Charged left i → for_each f (i + 1) budget ≡ f i left
  unfolding for_each
  next {left} {i} c = rw add-one (then_covered (for_each f i) (f i) budget c.is)

  pub charged_more : {left rest : VerifierResources} {i : ℕ} → Charged left i → i < n → f i left ≡ ok tt rest → Charged rest (i + 1)
  charged_more c h e = record { within = omega arith; is = next c ∙ e }

  -- all of them, or the first that is refused, where m is how many there are
  module _ {m : ℕ} (counted : n ≡ m) where
    pub charged_all : {left : VerifierResources} {i : ℕ} → Charged left i → n ≤ i → as_spent (Ok left) ≡ for_each f m budget
    unfolding as_spent
    charged_all {left} {i} c h = let e : m ≡ i = omega (arith, c.within) in rw (e, c.is)

    pub charged_refused : {left : VerifierResources} {i : ℕ} {outcome : Outcome} → Charged left i → i < n → Stopped (f i left) outcome → as_spent outcome ≡ for_each f m budget
    charged_refused {left} {i} c h s =
        let stopped = each_stops f (i + 1) (m - (i + 1)) budget s.refusal s.left (next c ∙ s.came) in
        let whole : m - (i + 1) + (i + 1) ≡ m = omega arith in
        stopped_spent (record { refusal = s.refusal; left = s.left; came = rw whole at stopped; is = s.is })

-- ---- one charge, as its functions answer it

module _ (stage : ℕ) (whole : Outcome) (left : VerifierResources) {amount same : ℕ} {charge : Charge} where
  pub bytes_came : charge ≡ charge_bytes amount left → as_spent whole ≡ in_stage stage left charge → amount ≡ same → as_spent whole ≡ spend_bytes stage same left
  unfolding spend_bytes
  bytes_came p q e = cc

  pub work_came : charge ≡ charge_work amount left → as_spent whole ≡ in_stage stage left charge → amount ≡ same → as_spent whole ≡ spend_work stage same left
  unfolding spend_work
  work_came p q e = cc

pub edges_came : (stage : ℕ) (whole : Outcome) (left : VerifierResources) {count same : ℕ} → as_spent whole ≡ for_each (λ i. spend_bytes stage 4) count left → count ≡ same
    → as_spent whole ≡ for_each (λ i. spend_bytes stage 4) same left
edges_came stage whole left h e = rw e at h
