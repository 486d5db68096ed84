-- The successors that had news are entered, one after the other.
-- Assumes nothing.
use mathlib.Core.Path.{◌≡◌, ap, ◌∙◌}
use mathlib.Core.List.{List, [], ◌∷◌, Memᴰ as Member}
use Prim.Native.Nat.{ℕ, ◌+◌, ◌≤◌, ◌<◌}
use native.Mathlib.Omega.{arith}
use lib.ListN.{length, get_or, take}
use Rattle.model.specs.Successors.{as_record}
use Rattle.model.specs.declared.InstructionSuccessors.{InstructionSuccessors}
use Rattle.fixpoint_list.specs.Listed.{Listed, entered, EachEntered}
use Rattle.fixpoint_step.proofs.TwoSuccessors.{entries_are, member_at}

-- a list grows by those that are entered
entered_length : (l ps : List ℕ) → length (entered l ps) ≡ length l + length ps
unfolding entered
entered_length [] ps = omega arith
entered_length (q ∷ qs) ps = omega (arith, entered_length qs (q ∷ ps))

module _ (l : List ℕ) (two : length l ≤ 2) (r : InstructionSuccessors) (e : r ≡ as_record l) where
  entries : take r.len r.pcs ≡ l
  entries = ap (λ (x : InstructionSuccessors). take x.len x.pcs) e ∙ entries_are l

  pub few : r.len ≤ 2
  unfolding as_record
  few = omega (arith, ap (λ (x : InstructionSuccessors). x.len) e, two)

  module _ (ps list : List ℕ) (top : ℕ) (x : Listed ps list top) where
    -- there is room for them, and each is an instruction
    pub each_asks : length (entered l ps) ≤ length list → (below : ℕ) → below ≤ 65536 → ((y : ℕ) → Member y l → y < below)
        → (length (take r.len r.pcs) + top ≤ length list) × ((i : ℕ) → i < length (take r.len r.pcs) → get_or (take r.len r.pcs) i 0 ≤ 65535)
    each_asks fit below low h =
        rw entries (omega (arith, fit, entered_length l ps, x.top_is), λ i k. omega (arith, h (get_or l i 0) (member_at l i k), low))

    pub each_entered : {list' : List ℕ} {top' : ℕ} → EachEntered (take r.len r.pcs) list top list' top' → Listed (entered l ps) list' top'
    unfolding EachEntered
    each_entered g = rw entries at (g ps x)
