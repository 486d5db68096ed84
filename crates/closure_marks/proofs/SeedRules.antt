-- The seeds of an analysis: a rule by opcode, as a match tells it, and the marking of fields as that of slots.
-- Assumes nothing.
use mathlib.Core.Path.{◌≡◌, refl, sym, ap, ◌∙◌}
use mathlib.Core.Bool.{false}
use mathlib.Core.Logic.{inl, inr}
use mathlib.Core.List.{List, [], ◌∷◌, map}
use Prim.Native.Nat.{ℕ, ◌+◌, ◌≤◌}
use native.Mathlib.Numerals.{add-one}
use native.Mathlib.Omega.{arith}
use lib.Dec.{T, eqb}
use mir.Val.{has_key}
use types.Run.{OneOf, hit}
use borrow.Author.Tests.{ne_eqb}
use Rattle.model.specs.Sheet.{code_count, instruction}
use Rattle.model.specs.Dependencies.{Field, field, seed_fields}
use Rattle.model.specs.Closure.{Marked, mark, mark_fields, mark_seeds}
use Rattle.model.specs.declared.Instruction.{Instruction}
use Rattle.model.specs.declared.AnalysisKind.{AnalysisKind}
use Rattle.closure_marks.specs.Marks.{Steps, slots_in, mark_all, Held, store_all, store_seeds}
use Rattle.closure_marks.specs.Fields.{fields_in}
use Rattle.closure_marks.specs.declared.Candidates.{Candidates}
use Rattle.closure_marks.specs.declared.Fields.{Fields}
use Rattle.closure_marks.specs.declared.mark.SlotMarks.{SlotMarks}
use Rattle.closure_marks.proofs.Marks.{steps_self, steps_on}

-- ---- a rule by opcode

-- the rule at any of the keys of an arm
pub one_of : {A : Type 0} (f : ℕ → A) (v : A) (ks : List ℕ) (x : ℕ) → map (λ (k : ℕ). v) ks ≡ map f ks → OneOf ks x → v ≡ f x
one_of f v [] x p h = absurd h
one_of f v (k ∷ []) x p h = let q : v ≡ f k = cc in q ∙ ap f (sym h)
one_of f v (k ∷ (l ∷ ks)) x p (inl e) = let q : v ≡ f k = cc in q ∙ ap f (sym e)
one_of f v (k ∷ (l ∷ ks)) x p (inr r) = let q : map (λ (k : ℕ). v) (l ∷ ks) ≡ map f (l ∷ ks) = cc in one_of f v (l ∷ ks) x q r

-- of any other opcode the test of a key fails
pub other : (ks : List ℕ) (x k : ℕ) → (OneOf ks x → ⊥) → T (has_key ks k) → eqb x k ≡ false
other ks x k missed h = ne_eqb x k (λ e. missed (rw e (hit ks k h)))

-- ---- fields as slots

pub marks_fields : (inst : Instruction) (fs : List Field) (m : Marked) → mark_fields inst fs m ≡ mark_all (map (field inst) fs) m
unfolding mark_fields mark_all
marks_fields inst [] m = refl
marks_fields inst (f ∷ fs) m = marks_fields inst fs (mark (field inst f) m)

-- one more instruction
pub seeds_more : (which : AnalysisKind) (sheet : List ℕ) (pc : ℕ) {inst : Instruction} (c : Candidates) {old mid new : SlotMarks}
    → Steps (mark_seeds which sheet pc) old mid → inst ≡ instruction sheet pc
    → slots_in c ≡ map (field inst) (seed_fields which inst.op) → Steps (mark_all (slots_in c)) mid new
    → Steps (mark_seeds which sheet (pc + 1)) old new
unfolding mark_seeds
seeds_more which sheet pc {inst} c p e h q = steps_on p (mark_seeds which sheet (pc + 1)) q same
  where
    same : (m : Marked) → mark_seeds which sheet (pc + 1) m ≡ mark_all (slots_in c) (mark_seeds which sheet pc m)
    same m = rw (add-one, h, e) (marks_fields (instruction sheet pc) (seed_fields which (instruction sheet pc).op) (mark_seeds which sheet pc m))

pub seeds_none : (which : AnalysisKind) (sheet : List ℕ) (old : SlotMarks) → Steps (mark_seeds which sheet 0) old old
unfolding mark_seeds
seeds_none which sheet old = steps_self (λ m. refl)

pub seeds_all : (which : AnalysisKind) (sheet : List ℕ) (pc n : ℕ) {old new : SlotMarks} → pc ≤ n → n ≤ pc → n ≡ code_count sheet
    → Steps (mark_seeds which sheet pc) old new → Steps (mark_seeds which sheet (code_count sheet)) old new
seeds_all which sheet pc n h k e p = let q : pc ≡ code_count sheet = omega arith in rw q at p

-- the same whatever lies there
pub stored_none : (which : AnalysisKind) (sheet : List ℕ) (old : Held) → old ≡ store_seeds which sheet 0 old
unfolding store_seeds
stored_none which sheet old = refl

pub stored_more : (which : AnalysisKind) (sheet : List ℕ) (pc : ℕ) {inst : Instruction} (c : Candidates) (old : Held) {mid new : Held}
    → mid ≡ store_seeds which sheet pc old → inst ≡ instruction sheet pc
    → slots_in c ≡ map (field inst) (seed_fields which inst.op) → new ≡ store_all (slots_in c) mid
    → new ≡ store_seeds which sheet (pc + 1) old
unfolding store_seeds
stored_more which sheet pc c old p e h q = rw (add-one, ← e, ← h, ← p) q

pub stored_all : (which : AnalysisKind) (sheet : List ℕ) (pc n : ℕ) (old : Held) {new : Held} → pc ≤ n → n ≤ pc → n ≡ code_count sheet
    → new ≡ store_seeds which sheet pc old → new ≡ store_seeds which sheet (code_count sheet) old
stored_all which sheet pc n old h k e p = let q : pc ≡ code_count sheet = omega arith in rw q at p

-- ---- as the code finds them

pub fields_held : (inst : Instruction) {slots : List ℕ} (f g : Fields) {fs : List Field} → fields_in f ≡ fs → f ≡ g → slots ≡ map (field inst) (fields_in g) → slots ≡ map (field inst) fs
fields_held inst f g e w h = rw (← e, w) h
