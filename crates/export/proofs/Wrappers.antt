-- What the C functions promise, from what the functions that they call promise.
-- Assumes nothing.
use mathlib.Core.Path.{◌≡◌, ap, ◌∙◌}
use mathlib.Core.List.{List, ◌++◌}
use mathlib.Core.Option.{some}
use Prim.Native.Nat.{ℕ, ◌≤◌, ◌<◌}
use borrow.Author.Tests.{lt-leb, le-leb}
use lib.Dec.{leb}
use lib.ListN.{length, drop}
use Rattle.model.specs.Call.{Lent, answer_numbered, call_result, analyzed}
use Rattle.model.specs.declared.VerifierResources.{VerifierResources}
use Rattle.model.specs.declared.Answer.{Answer}
use Rattle.model.specs.Lookup.{SlotFact, WithNumbers, fact_with_numbers}
use Rattle.model.specs.Interface.{twelve, exported, handed, exported_of, looked, looked_up}

module _ (sheet : List ℕ) (budget : VerifierResources) (lent : Lent) (old : List ℕ) where
  -- fewer than 12 entries
  pub too_few : length old < 12 → some (exported 255 lent old) ≡ exported_of (leb 12 (length old)) sheet budget lent old
  unfolding exported_of
  too_few h = rw (lt-leb 12 (length old) h)

  -- at least 12
  pub all_handed : 12 ≤ length old → (a : Answer) (after : Lent) → some (call_result a after) ≡ analyzed sheet budget lent → {r : ℕ} {new : List ℕ}
      → (new ≡ twelve (answer_numbered a) ++ drop 12 old) × (r ≡ (answer_numbered a).number) → {back : Lent} → back ≡ after
      → some (exported r back new) ≡ exported_of (leb 12 (length old)) sheet budget lent old
  unfolding exported_of handed call_result
  all_handed h a after call (numbers, number) same = rw (same, le-leb 12 (length old) h, ← call, numbers, number)

-- a lookup's numbers, from what the lookup promises
pub told : (old : List ℕ) {r : ℕ} {new : List ℕ} {fact defined : SlotFact} → looked r new ≡ looked_up (leb 2 (length old)) fact old → fact_with_numbers fact ≡ fact_with_numbers defined
    → looked r new ≡ looked_up (leb 2 (length old)) defined old
told old e is = e ∙ ap (λ (f : WithNumbers SlotFact). looked_up (leb 2 (length old)) f.answered old) is
