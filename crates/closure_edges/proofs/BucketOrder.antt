-- Buckets of slots are in the slots' order, and those of an instruction.
-- Assumes nothing.
use mathlib.Core.Path.{◌≡◌, refl, ap, ◌∙◌}
use mathlib.Core.Bool.{Bool, true, false}
use mathlib.Core.List.{List}
use mathlib.Core.Logic.{◌⊎◌, inl, inr}
use Prim.Native.Nat.{ℕ, ◌+◌, ◌-◌, ◌≤◌, ◌<◌, min}
use native.Mathlib.Omega.{arith}
use lib.Dec.{ltb}
use borrow.Author.Tests.{ltb-true, ltb-false, lt-ltb, le-ltb}
use Rattle.model.specs.Sheet.{local_slots, instruction}
use Rattle.model.specs.declared.Instruction.{Instruction}
use Rattle.closure_edges.specs.Rows.{dependence}
use Rattle.closure_edges.proofs.EdgeRows.{below_or_not}
use Rattle.closure_edges.specs.declared.Dependence.{Dependence}
use Rattle.closure_edges.specs.Links.{bucket_if, bucket, buckets_if, end_of, buckets_of, buckets_at}
use Rattle.closure_edges.specs.declared.Buckets.{Buckets}

-- the buckets of lower slots are not higher
pub bucket_order : (x y : ℕ) → x ≤ y → bucket x ≤ bucket y
unfolding bucket bucket_if
bucket_order x y h = go (ltb x 1024) refl (ltb y 1024) refl
  where
    go : (t : Bool) → ltb x 1024 ≡ t → (u : Bool) → ltb y 1024 ≡ u → bucket_if t x ≤ bucket_if u y
    go true e true f = h
    go true e false f = omega (arith, ltb-true x 1024 e, ltb-false y 1024 f)
    go false e true f = omega (arith, ltb-false x 1024 e, ltb-true y 1024 f)
    go false e false f = omega arith

-- so slots of a lower bucket are lower
pub bucket_below : (x y : ℕ) → bucket x < bucket y → x < y
bucket_below x y h = go (below_or_not x y)
  where
    go : (x < y) ⊎ (y ≤ x) → x < y
    go (inl k) = k
    go (inr k) = omega (arith, bucket_order y x k)

pub bucket_few : (x : ℕ) → x < 65536 → bucket x < 2048
unfolding bucket bucket_if
bucket_few x h = go (ltb x 1024) refl
  where
    go : (t : Bool) → ltb x 1024 ≡ t → bucket_if t x < 2048
    go true e = omega (arith, ltb-true x 1024 e)
    go false e = omega arith

-- there are less than 2,048 buckets
pub buckets_few : (l : ℕ) (inst : Instruction) → l ≤ 65535 → (buckets_of l inst).first + (buckets_of l inst).count ≤ 2048
unfolding buckets_of buckets_if
buckets_few l inst k = go (ltb inst.a (end_of l inst)) refl
  where
    go : (t : Bool) → ltb inst.a (end_of l inst) ≡ t → (buckets_if t inst.a (end_of l inst)).first + (buckets_if t inst.a (end_of l inst)).count ≤ 2048
    go true e =
        let some : inst.a < end_of l inst = ltb-true _ _ e in
        let up = bucket_order inst.a (end_of l inst - 1) (omega arith) in
        let few = bucket_few (end_of l inst - 1) (omega arith) in
        omega arith
    go false e = omega arith

-- ---- as the code finds them

module _ (l : ℕ) (inst : Instruction) {r : Dependence} {end : ℕ} (is : r ≡ dependence inst) (at : end ≡ min (inst.a + r.span) l) where
  end_is : end ≡ end_of l inst
  end_is = at ∙ ap (λ (d : Dependence). min (inst.a + d.span) l) is

  module _ {first last : ℕ} (some : inst.a < end) (f : first ≡ bucket inst.a) (k : last ≡ bucket (end - 1)) where
    pub in_order : first ≤ last + 1
    in_order = omega (arith, bucket_order inst.a (end - 1) (omega arith))

    pub some_buckets : record { first = first; count = last + 1 - first } ≡ buckets_of l inst
    unfolding buckets_of buckets_if
    some_buckets = rw (← end_is, lt-ltb _ _ some, f, k)

  pub no_buckets : end ≤ inst.a → record { first = 0; count = 0 } ≡ buckets_of l inst
  unfolding buckets_of buckets_if
  no_buckets none = rw (← end_is, le-ltb _ _ none)

pub buckets_at_lem : (sheet : List ℕ) (pc : ℕ) {b : Buckets} {l : ℕ} {inst : Instruction} → b ≡ buckets_of l inst → inst ≡ instruction sheet pc → l ≡ local_slots sheet → b ≡ buckets_at sheet pc
buckets_at_lem sheet pc e i k = cc
