-- Loops that store one element a turn, from the front. A number's width makes no difference.
-- Assumes nothing.
use mathlib.Core.Path.{◌≡◌, refl, ap, ◌∙◌}
use mathlib.Core.List.{List, [], ◌∷◌, ◌++◌, append-nil}
use Prim.Native.Nat.{ℕ, zero, suc, ◌+◌, ◌≤◌, ◌<◌}
use native.Mathlib.Nat.{suc_inj}
use native.Mathlib.Omega.{arith}
use lib.ListN.{length, get_or, set, take, drop, length-set, drop_of_length-le}
use lib.Seq.{take_all}
use Rattle.memory.specs.Front.{front}
use Rattle.memory.proofs.Front.{front_none, front_more}

-- after i turns
pub record Turned (f : ℕ → ℕ) (old out : List ℕ) (i : ℕ) : Type 0 where
  pub within : i ≤ length old
  pub is : out ≡ front f i old
  pub long : length out ≡ length old

pub turned_none : (f : ℕ → ℕ) (old : List ℕ) → Turned f old old 0
turned_none f old = record { within = omega arith; is = front_none f old; long = refl }

pub turn : {f : ℕ → ℕ} {old out : List ℕ} {i v : ℕ} → Turned f old out i → i < length out → v ≡ f i → Turned f old (set out i v) (i + 1)
turn {f} {old} {out} {i} {v} t h e = record {
  within = omega (arith, t.long);
  is = front_more f i old t.is e;
  long = length-set out i v ∙ t.long;
}

-- one element more of from, and all of them
pub copied_more : {A : Type 0} (from old : List A) (i : ℕ) (x : A) → length from ≡ length old → i < length old → x ≡ get_or from i x
    → set (take i from ++ drop i old) i x ≡ take (suc i) from ++ drop (suc i) old
copied_more [] old i x e h g = absurd (omega arith)
copied_more (a ∷ from) [] i x e h g = absurd (omega arith)
copied_more {A} (a ∷ from) (b ∷ old) zero x e h g = ap (λ (y : A). y ∷ old) g
copied_more {A} (a ∷ from) (b ∷ old) (suc i) x e h g = ap (λ (l : List A). a ∷ l) (copied_more from old i x (suc_inj e) (omega arith) g)

pub copied_all : {A : Type 0} (from old : List A) (i : ℕ) → length from ≡ length old → length old ≤ i → take i from ++ drop i old ≡ from
copied_all from old i e h = rw (take_all i from (omega arith), drop_of_length-le old {i = i} h, append-nil) refl
