-- Marks and stack of the closure: what marking a slot changes.
-- Assumes nothing.
use mathlib.Core.Path.{◌≡◌, refl, sym, ap, ◌∙◌}
use mathlib.Core.Bool.{Bool, true, false, false≢true}
use mathlib.Core.Logic.{◌⊎◌, inl, inr}
use mathlib.Core.List.Memᴰ.{cases_cons}
use mathlib.Core.List.Memᴰ.{head}
use mathlib.Core.List.Memᴰ.{tail}
use mathlib.Core.List.{List, [], ◌∷◌, Memᴰ as Member}
use Prim.Native.Nat.{ℕ, zero, suc, ◌+◌, ◌≤◌, ◌<◌, suc-le-suc}
use native.Mathlib.Nat.{le_of_suc-le-suc, not-suc-le-zero}
use native.Mathlib.Decide.{ℕ_discrete}
use native.Mathlib.Omega.{arith}
use lib.Dec.{eqb}
use lib.ListN.{length, get_or, set, replicate, length-set}
use lib.Seq.{get_or-set_same, get_or-set_other}
use Rattle.model.specs.Sheet.{local_slots}
use Rattle.model.specs.Closure.{Marked, marked, mark, unmarked}
use Rattle.model.specs.CallDemand.{Passed, begun, marking, taking}

-- a slot's mark is set; from the end on there is none
abbrev pub IsSet : List ℕ → ℕ → Type 0
IsSet marks slot = eqb (get_or marks slot 0) 0 ≡ false

-- a mark that is set is one of them
pub set_below : (marks : List ℕ) (t : ℕ) → IsSet marks t → t < length marks
set_below [] t e = absurd (false≢true (sym e))
set_below (x ∷ xs) zero e = omega arith
set_below (x ∷ xs) (suc t) e = let h = set_below xs t e in omega arith

-- ---- what a store does

inside : (marks : List ℕ) (slot : ℕ) → eqb (get_or marks slot 1) 0 ≡ true → slot < length marks
inside [] slot e = absurd (false≢true e)
inside (x ∷ xs) zero e = omega arith
inside (x ∷ xs) (suc slot) e = suc-le-suc (inside xs slot e)

set_there : (marks : List ℕ) (slot : ℕ) → slot < length marks → IsSet (set marks slot 1) slot
set_there marks slot h = rw (get_or-set_same marks slot 1 0 h)

set_keeps : (marks : List ℕ) (slot t : ℕ) → slot < length marks → IsSet marks t → IsSet (set marks slot 1) t
set_keeps marks slot t h e = go (ℕ_discrete t slot)
  where
    go : Dec (t ≡ slot) → IsSet (set marks slot 1) t
    go (yes w) = rw w (set_there marks slot h)
    go (no w) = rw (get_or-set_other marks slot t 1 0 w) e

set_only : (marks : List ℕ) (slot t : ℕ) → IsSet (set marks slot 1) t → IsSet marks t ⊎ (t ≡ slot)
set_only marks slot t e = go (ℕ_discrete t slot)
  where
    go : Dec (t ≡ slot) → IsSet marks t ⊎ (t ≡ slot)
    go (yes w) = inr w
    go (no w) = inl (rw (get_or-set_other marks slot t 1 0 w) at e)

-- ---- one state grown out of another by marking slots

pub record Grows (m m' : Marked) : Type 0 where
  pub size : length m'.marks ≡ length m.marks
  pub keeps : (t : ℕ) → IsSet m.marks t → IsSet m'.marks t
  pub stacks : (t : ℕ) → Member t m.stack → Member t m'.stack
  -- a new mark is on the stack, and what is on the stack anew has a mark
  pub fresh : (t : ℕ) → IsSet m'.marks t → IsSet m.marks t ⊎ Member t m'.stack
  pub has_mark : (t : ℕ) → Member t m'.stack → Member t m.stack ⊎ IsSet m'.marks t

pub grows_self : (m : Marked) → Grows m m
grows_self m = record { size = refl; keeps = λ t e. e; stacks = λ t e. e; fresh = λ t e. inl e; has_mark = λ t e. inl e }

pub grows_on : {m m' m'' : Marked} → Grows m m' → Grows m' m'' → Grows m m''
grows_on {m} {m'} {m''} g h = record {
  size = h.size ∙ g.size;
  keeps = λ t e. h.keeps t (g.keeps t e);
  stacks = λ t e. h.stacks t (g.stacks t e);
  fresh = λ t e. old t (h.fresh t e);
  has_mark = λ t e. new t (h.has_mark t e);
}
  where
    old : (t : ℕ) → IsSet m'.marks t ⊎ Member t m''.stack → IsSet m.marks t ⊎ Member t m''.stack
    old t (inl e) = elim (g.fresh t e) [ inl k ↦ inl k | inr k ↦ inr (h.stacks t k) ]
    old t (inr k) = inr k

    new : (t : ℕ) → Member t m'.stack ⊎ IsSet m''.marks t → Member t m.stack ⊎ IsSet m''.marks t
    new t (inl e) = elim (g.has_mark t e) [ inl k ↦ inl k | inr k ↦ inr (h.keeps t k) ]
    new t (inr k) = inr k

-- ---- one slot

marked_grows : (b : Bool) (slot : ℕ) (m : Marked) → eqb (get_or m.marks slot 1) 0 ≡ b → Grows m (marked b slot m)
unfolding marked
marked_grows true slot m e =
    let h : slot < length m.marks = inside m.marks slot e in record {
      size = length-set m.marks slot 1;
      keeps = λ t k. set_keeps m.marks slot t h k;
      stacks = λ t k. tail k;
      fresh = λ t k. elim (set_only m.marks slot t k) [ inl x ↦ inl x | inr w ↦ inr (head w) ];
      has_mark = λ t k. elim (cases_cons k) [ inl w ↦ inr (rw w (set_there m.marks slot h)) | inr x ↦ inl x ];
    }
marked_grows false slot m e = grows_self m

pub mark_grows : (slot : ℕ) (m : Marked) → Grows m (mark slot m)
unfolding mark
mark_grows slot m = marked_grows (eqb (get_or m.marks slot 1) 0) slot m refl

-- below the length the default does not show
pub same_below : (marks : List ℕ) (slot : ℕ) → slot < length marks → get_or marks slot 0 ≡ get_or marks slot 1
same_below [] slot h = absurd (not-suc-le-zero h)
same_below (x ∷ xs) zero h = refl
same_below (x ∷ xs) (suc slot) h = same_below xs slot (le_of_suc-le-suc h)

marked_sets : (b : Bool) (slot : ℕ) (m : Marked) → eqb (get_or m.marks slot 1) 0 ≡ b → slot < length m.marks → IsSet (marked b slot m).marks slot
unfolding marked
marked_sets true slot m e h = set_there m.marks slot h
marked_sets false slot m e h = rw (same_below m.marks slot h) e

-- a slot below L has its mark afterwards
pub mark_sets : (slot : ℕ) (m : Marked) → slot < length m.marks → IsSet (mark slot m).marks slot
unfolding mark
mark_sets slot m h = marked_sets (eqb (get_or m.marks slot 1) 0) slot m refl h

marked_only : (b : Bool) (slot : ℕ) (m : Marked) (t : ℕ) → eqb (get_or m.marks slot 1) 0 ≡ b → IsSet (marked b slot m).marks t
    → IsSet m.marks t ⊎ ((t ≡ slot) × (slot < length m.marks))
unfolding marked
marked_only true slot m t e k = elim (set_only m.marks slot t k) [ inl x ↦ inl x | inr w ↦ inr (w, inside m.marks slot e) ]
marked_only false slot m t e k = inl k

-- and no other slot gets one
pub mark_only : (slot : ℕ) (m : Marked) (t : ℕ) → IsSet (mark slot m).marks t → IsSet m.marks t ⊎ ((t ≡ slot) × (slot < length m.marks))
unfolding mark
mark_only slot m t k = marked_only (eqb (get_or m.marks slot 1) 0) slot m t refl k

-- ---- the slots that may still be stacked

one : Bool → ℕ
one true = 1
one false = 0

-- how many slots have no mark
unfoldable pub free : List ℕ → ℕ
unfolding one
free [] = 0
free (x ∷ xs) = one (eqb x 0) + free xs

-- the slots without a mark and those on the stack
unfoldable pub weight : Marked → ℕ
weight m = free m.marks + length m.stack

free_set : (marks : List ℕ) (slot : ℕ) → eqb (get_or marks slot 1) 0 ≡ true → free marks ≡ suc (free (set marks slot 1))
unfolding free one
free_set [] slot e = absurd (false≢true e)
free_set (x ∷ xs) zero e = rw e (omega arith)
free_set (x ∷ xs) (suc slot) e = let h = free_set xs slot e in omega arith

marked_weight : (b : Bool) (slot : ℕ) (m : Marked) → eqb (get_or m.marks slot 1) 0 ≡ b → weight (marked b slot m) ≡ weight m
unfolding marked weight
marked_weight true slot m e = let h = free_set m.marks slot e in omega arith
marked_weight false slot m e = refl

-- a slot is stacked at most once: each time a slot without a mark loses its turn
pub mark_weight : (slot : ℕ) (m : Marked) → weight (mark slot m) ≡ weight m
unfolding mark
mark_weight slot m = marked_weight (eqb (get_or m.marks slot 1) 0) slot m refl

free_replicate : (n : ℕ) → free (replicate n 0) ≡ n
unfolding free one
free_replicate zero = refl
free_replicate (suc n) = let h = free_replicate n in omega arith

pub unmarked_weight : (sheet : List ℕ) → weight (unmarked sheet) ≡ local_slots sheet
unfolding weight unmarked
unmarked_weight sheet = let h = free_replicate (local_slots sheet) in omega arith

passed_weight : (sheet : List ℕ) (m : Marked) → Passed sheet m → weight m ≤ local_slots sheet
unfolding weight
passed_weight sheet m (begun e) = rw e (omega (arith, unmarked_weight sheet))
passed_weight sheet m (marking {m = before} p slot e) = rw e (omega (arith, mark_weight slot before, passed_weight sheet before p))
passed_weight sheet m (taking {m = before} {ds = ds} p s e) =
    rw e (let k : length before.stack ≡ suc (length ds) = ap length s in omega (arith, passed_weight sheet before p))

-- L entries are enough for the stack
pub stack_fits : (sheet : List ℕ) (m : Marked) → Passed sheet m → length m.stack ≤ local_slots sheet
unfolding weight
stack_fits sheet m p = omega (arith, passed_weight sheet m p)

-- and there is room for one more wherever a slot without a mark is found
pub stack_room : (sheet : List ℕ) (m : Marked) (slot : ℕ) → Passed sheet m → eqb (get_or m.marks slot 1) 0 ≡ true → length m.stack < local_slots sheet
unfolding weight
stack_room sheet m slot p e = omega (arith, passed_weight sheet m p, free_set m.marks slot e)
