-- A part that spends after another, as the code makes it: by the outcome of the first.
-- Assumes nothing.
use Rattle.std.specs.Prelude.{Err, Ok, is_err}
use mathlib.Core.Path.{◌≡◌, refl, ap, ◌∙◌}
use mathlib.Core.Bool.{true, false}
use mathlib.Core.Option.{some}
use Rattle.model.specs.Charges.{Refusal, Spent, ok, stop, unfinished, Metered, give, continue}
use Rattle.model.specs.declared.VerifierResources.{VerifierResources}
use Rattle.budget.specs.Outcome.{Outcome, refused_by, as_spent, Leaves, leaves, leaves_of}
use Rattle.budget.proofs.Outcomes.{Left, covered, stopped, left_by, stopped_spent}

-- three parts, however they are put together
pub continue_twice : {A B C : Type 0} (f : A → Metered B) (g : B → Metered C) (spent : Spent A) → continue g (continue f spent) ≡ continue (λ a left. continue g (f a left)) spent
unfolding continue
continue_twice f g (ok a left) = refl
continue_twice f g (stop refusal left) = refl
continue_twice f g unfinished = refl

-- what is left the same, whatever the part comes to
pub left_same : {A M X : Type 0} (given : A → M) (refused : M) (p : M → X) (x : X) → ((a : A) → p (given a) ≡ x) → p refused ≡ x → (spent : Spent A) {outcome : Outcome} {memory : M}
    → some (leaves outcome memory) ≡ leaves_of given refused spent → p memory ≡ x
left_same given refused p x f g spent {outcome} {memory} e = go (left_by given refused spent e)
  where
    go : Left given refused spent outcome memory → p memory ≡ x
    go (covered a left h o m) = ap p m ∙ f a
    go (stopped refusal left h o m) = ap p m ∙ g

refused_left : {A M : Type 0} (given : A → M) (refused : M) (refusal : Refusal) (left : VerifierResources) {outcome : Outcome} {memory : M}
    → some (leaves outcome memory) ≡ leaves_of given refused (stop refusal left) → (outcome ≡ Err (refused_by refusal left)) × (memory ≡ refused)
unfolding leaves_of
refused_left {M = M} given refused refusal left {outcome} {memory} e =
    let same : leaves outcome memory ≡ leaves (Err (refused_by refusal left)) refused = cc in
    (ap (λ (l : Leaves M). l.outcome) same, ap (λ (l : Leaves M). l.memory) same)

-- Both give what they give; after a refusal all is as after a refusal of the first, since what the first gave is cleared then.
module _ {A B P M N Q : Type 0} (pair : A → B → P) (given₁ : A → M) (refused₁ : M) (given₂ : B → N) (refused₂ : N) (given : P → Q) (refused : Q) (first : Spent A)
    (second : A → Metered B) (next : Metered B) {o₁ o₂ : Outcome} {m₁ : M} {m₂ : N} {q : Q}
    (e₁ : some (leaves o₁ m₁) ≡ leaves_of given₁ refused₁ first) (e₂ : some (leaves o₂ m₂) ≡ leaves_of given₂ refused₂ (continue (λ _. next) (as_spent o₁)))
    (same : (a : A) (left : VerifierResources) → first ≡ ok a left → o₁ ≡ Ok left → m₁ ≡ given₁ a → next left ≡ second a left)
    (both : (a : A) (b : B) → is_err o₂ ≡ false → m₁ ≡ given₁ a → m₂ ≡ given₂ b → q ≡ given (pair a b)) (none : is_err o₂ ≡ true → m₂ ≡ refused₂ → q ≡ refused) where
  abbrev whole : Spent P
  whole = continue (λ a left. continue (λ b. give (pair a b)) (second a left)) first

  stops : (refusal : Refusal) (left : VerifierResources) → whole ≡ stop refusal left → o₂ ≡ Err (refused_by refusal left) → m₂ ≡ refused₂ → some (leaves o₂ q) ≡ leaves_of given refused whole
  unfolding leaves_of
  stops refusal left e o m = rw (e, none (ap (λ (r : Outcome). is_err r) o) m, o)

  behind : (a : A) (left : VerifierResources) → first ≡ ok a left → m₁ ≡ given₁ a → Left given₂ refused₂ (second a left) o₂ m₂ → some (leaves o₂ q) ≡ leaves_of given refused whole
  unfolding leaves_of continue give
  behind a left h m (covered b rest k o n) = rw (h, k, both a b (ap (λ (r : Outcome). is_err r) o) m n, o)
  behind a left h m (stopped refusal rest k o n) = stops refusal rest (rw (h, k)) o n

  pub then_left : some (leaves o₂ q) ≡ leaves_of given refused whole
  unfolding as_spent continue
  then_left = go (left_by given₁ refused₁ first e₁)
    where
      go : Left given₁ refused₁ first o₁ m₁ → some (leaves o₂ q) ≡ leaves_of given refused whole
      go (covered a left h o m) =
          behind a left h m (left_by given₂ refused₂ (second a left) (e₂ ∙ ap (λ (s : Spent (Unit {0})). leaves_of given₂ refused₂ (continue (λ _. next) s)) (ap as_spent o) ∙ ap (leaves_of given₂ refused₂) (same a left h o m)))
      go (stopped refusal left h o m) =
          let came : as_spent o₁ ≡ stop refusal left = stopped_spent (record { refusal = refusal; left = left; came = refl; is = o }) in
          let end = refused_left given₂ refused₂ refusal left (e₂ ∙ ap (λ (s : Spent (Unit {0})). leaves_of given₂ refused₂ (continue (λ _. next) s)) came) in
          stops refusal left (rw h) end.0 end.1
