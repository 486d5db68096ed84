-- The closure ends, and its slots are exactly the tracked ones.
-- Assumes nothing.
use mathlib.Core.Path.{◌≡◌, refl, sym, ap, ◌∙◌}
use mathlib.Core.Bool.{Bool, true, false, false≢true, ◌&&◌}
use mathlib.Core.Logic.{◌⊎◌, inl, inr}
use mathlib.Core.List.Memᴰ.{append_cases}
use mathlib.Core.List.Memᴰ.{cases_cons}
use mathlib.Core.List.Memᴰ.{head}
use mathlib.Core.List.Memᴰ.{not-nil}
use mathlib.Core.List.Memᴰ.{tail}
use mathlib.Core.List.{List, [], ◌∷◌, ◌++◌, Memᴰ as Member}
use Prim.Native.Nat.{ℕ, zero, suc, ◌+◌, ◌≤◌, ◌<◌}
use native.Mathlib.Omega.{arith}
use lib.Dec.{eqb, ltb}
use lib.Bits.{bit_and}
use lib.ListN.{length, replicate, length-replicate}
use borrow.Author.Tests.{ltb-true}
use Rattle.model.specs.Count.{collect}
use Rattle.model.specs.Sheet.{code_count, local_slots, instruction}
use Rattle.model.specs.Charges.{Metered, ok, give_up}
use Rattle.model.specs.Dependencies.{dependency_bit, FactDependency, edge_if, edge, Depends, copy_edge, copy_n_edges, fold_edges, iter_edge, no_edges, depends, edges_by, instruction_edges, keep_if, edges_into, edges_to, Field, field, seed_fields}
use Rattle.model.specs.Closure.{Marked, mark, mark_fields, mark_seeds, follow_unless, follow, unmarked, seeded, take_slot, expand, tracked_slots, places, stage_number}
use Rattle.model.specs.CallDemand.{Tracked, seed, source, TrackedExactly}
use Rattle.model.specs.declared.VerifierResources.{VerifierResources}
use Rattle.model.specs.declared.Instruction.{Instruction}
use Rattle.model.specs.declared.AnalysisKind.{AnalysisKind}
use Rattle.model.proofs.Metered.{then_parts, bound_parts, given, Finishes, bound_finishes, then_finishes, give_finishes, bytes_finish, work_finishes}
use Rattle.finality.proofs.Marks.{IsSet, set_below, Grows, grows_self, grows_on, mark_grows, mark_sets, mark_only, weight, mark_weight, unmarked_weight}
use Rattle.finality.proofs.Places.{places_ascend, places_only, places_all}
use Rattle.model.proofs.Tests.{both_right}

-- ---- an edge's source is below L

Sources : ℕ → List FactDependency → Type 0
Sources l es = (e : FactDependency) → Member e es → e.source < l

edge_source : (l d s kinds : ℕ) → Sources l (edge l d s kinds)
unfolding edge edge_if Sources
edge_source l d s kinds e m = go (ltb d l && ltb s l) refl m
  where
    go : (b : Bool) → ltb d l && ltb s l ≡ b → Member e (edge_if b d s kinds) → e.source < l
    go true t k = elim (cases_cons k) [
      | inl w ↦ let h : ltb s l ≡ true = both_right (ltb d l) (ltb s l) t in rw w (omega (arith, ltb-true))
      | inr x ↦ absurd (not-nil x)
    ]
    go false t k = absurd (not-nil k)

none_sources : (l : ℕ) → Sources l []
unfolding Sources
none_sources l e m = absurd (not-nil m)

append_sources : (l : ℕ) (es fs : List FactDependency) → Sources l es → Sources l fs → Sources l (es ++ fs)
unfolding Sources
append_sources l es fs g h e m = elim (append_cases es m) [ inl k ↦ g e k | inr k ↦ h e k ]

collect_sources : (l : ℕ) (f : ℕ → List FactDependency) (count : ℕ) → ((i : ℕ) → Sources l (f i)) → Sources l (collect f count)
unfolding collect
collect_sources l f zero h = none_sources l
collect_sources l f (suc i) h = append_sources l (collect f i) (f i) (collect_sources l f i h) (h i)

by_sources : (rule : Depends) (l : ℕ) (inst : Instruction) → Sources l (edges_by rule l inst)
unfolding edges_by
by_sources copy_edge l inst = edge_source l _ _ _
by_sources copy_n_edges l inst = collect_sources l _ inst.c (λ i. edge_source l _ _ _)
by_sources fold_edges l inst = append_sources l _ _ (edge_source l _ _ _) (edge_source l _ _ _)
by_sources iter_edge l inst = edge_source l _ _ _
by_sources no_edges l inst = none_sources l

into_sources : (l d : ℕ) (es : List FactDependency) → Sources l es → Sources l (edges_into d es)
unfolding edges_into keep_if Sources
into_sources l d [] h e m = h e m
into_sources l d (x ∷ xs) h e m = go (into_sources l d xs (λ f k. h f (tail k)) e) (eqb x.destination d) m
  where
    go : (Member e (edges_into d xs) → e.source < l) → (b : Bool) → Member e (keep_if b x (edges_into d xs)) → e.source < l
    go rest true k = elim (cases_cons k) [ inl w ↦ h e (head w) | inr y ↦ rest y ]
    go rest false k = rest k

edges_sources : (sheet : List ℕ) (d : ℕ) → Sources (local_slots sheet) (edges_to sheet d)
unfolding edges_to instruction_edges
edges_sources sheet d =
    collect_sources (local_slots sheet) _ (code_count sheet)
    (λ pc. into_sources (local_slots sheet) d _ (by_sources (depends (instruction sheet pc).op) (local_slots sheet) (instruction sheet pc)))

pub source_below : (sheet : List ℕ) (d : ℕ) (e : FactDependency) → Member e (edges_to sheet d) → e.source < local_slots sheet
unfolding Sources
source_below sheet d e m = edges_sources sheet d e m

-- ---- marking seeds and following edges

pub fields_grow : (inst : Instruction) (fs : List Field) (m : Marked) → Grows m (mark_fields inst fs m)
unfolding mark_fields
fields_grow inst [] m = grows_self m
fields_grow inst (f ∷ fs) m = grows_on (mark_grows (field inst f) m) (fields_grow inst fs (mark (field inst f) m))

pub seeds_grow : (which : AnalysisKind) (sheet : List ℕ) (count : ℕ) (m : Marked) → Grows m (mark_seeds which sheet count m)
unfolding mark_seeds
seeds_grow which sheet zero m = grows_self m
seeds_grow which sheet (suc pc) m = grows_on (seeds_grow which sheet pc m) (fields_grow (instruction sheet pc) _ (mark_seeds which sheet pc m))

follow_if_grows : (b : Bool) (slot : ℕ) (m : Marked) → Grows m (follow_unless b slot m)
unfolding follow_unless
follow_if_grows true slot m = grows_self m
follow_if_grows false slot m = mark_grows slot m

pub follow_grows : (bit : ℕ) (es : List FactDependency) (m : Marked) → Grows m (follow bit es m)
unfolding follow
follow_grows bit [] m = grows_self m
follow_grows bit (e ∷ es) m = grows_on (follow_if_grows _ e.source m) (follow_grows bit es _)

-- every seed below L is marked
fields_set : (inst : Instruction) (fs : List Field) (m : Marked) (f : Field) → Member f fs → field inst f < length m.marks
    → IsSet (mark_fields inst fs m).marks (field inst f)
unfolding mark_fields
fields_set inst [] m f k h = absurd (not-nil k)
fields_set inst (g ∷ gs) m f k h = go (λ l. fields_set inst gs (mark (field inst g) m) f l (rw (mark_grows (field inst g) m).size h)) (cases_cons k)
  where
    go : (Member f gs → IsSet (mark_fields inst gs (mark (field inst g) m)).marks (field inst f)) → (f ≡ g) ⊎ Member f gs
        → IsSet (mark_fields inst gs (mark (field inst g) m)).marks (field inst f)
    go rest (inl w) =
        (fields_grow inst gs (mark (field inst g) m)).keeps (field inst f)
        (rw (ap (field inst) w) (mark_sets (field inst g) m (rw (ap (field inst) w) at h)))
    go rest (inr l) = rest l

seeds_set : (which : AnalysisKind) (sheet : List ℕ) (count : ℕ) (m : Marked) (pc : ℕ) (f : Field)
    → pc < count → Member f (seed_fields which (instruction sheet pc).op) → field (instruction sheet pc) f < length m.marks
    → IsSet (mark_seeds which sheet count m).marks (field (instruction sheet pc) f)
unfolding mark_seeds
seeds_set which sheet zero m pc f h k l = let never : ⊥ = omega arith in absurd never
seeds_set which sheet (suc i) m pc f h k l = go (λ lt. seeds_set which sheet i m pc f lt k l) (below pc i h)
  where
    below : (x y : ℕ) → x < suc y → (x < y) ⊎ (x ≡ y)
    below x zero h = inr (omega arith)
    below zero (suc y) h = inl (omega arith)
    below (suc x) (suc y) h = elim (below x y (omega arith)) [ inl lt ↦ inl (omega arith) | inr e ↦ inr (omega arith) ]

    last : Marked
    last = mark_seeds which sheet i m

    go : (pc < i → IsSet last.marks (field (instruction sheet pc) f)) → (pc < i) ⊎ (pc ≡ i)
        → IsSet (mark_fields (instruction sheet i) (seed_fields which (instruction sheet i).op) last).marks (field (instruction sheet pc) f)
    go rest (inl lt) = (fields_grow (instruction sheet i) _ last).keeps _ (rest lt)
    go rest (inr e) =
        rw e (fields_set (instruction sheet i) (seed_fields which (instruction sheet i).op) last f (rw e at k)
        (rw (seeds_grow which sheet i m).size (rw e at l)))

-- every source that this analysis follows is marked
follow_set : (bit : ℕ) (es : List FactDependency) (m : Marked) (e : FactDependency) → Member e es → eqb (bit_and e.kinds bit) 0 ≡ false
    → e.source < length m.marks → IsSet (follow bit es m).marks e.source
unfolding follow follow_unless
follow_set bit [] m e k t h = absurd (not-nil k)
follow_set bit (x ∷ xs) m e k t h =
    go (λ l. follow_set bit xs next e l t (rw (follow_if_grows _ x.source m).size h)) (cases_cons k)
  where
    next : Marked
    next = follow_unless (eqb (bit_and x.kinds bit) 0) x.source m

    set_now : e ≡ x → IsSet next.marks e.source
    set_now w = rw w (rw (ap (λ (d : FactDependency). eqb (bit_and d.kinds bit) 0) (sym w) ∙ t) (mark_sets x.source m (rw w at h)))

    go : (Member e xs → IsSet (follow bit xs next).marks e.source) → (e ≡ x) ⊎ Member e xs → IsSet (follow bit xs next).marks e.source
    go rest (inl w) = (follow_grows bit xs next).keeps e.source (set_now w)
    go rest (inr l) = rest l

-- ---- only tracked slots are marked

module _ (which : AnalysisKind) (sheet : List ℕ) where
  -- what holds of the marks: there are L, and only tracked slots have one
  pub record Sound (m : Marked) : Type 0 where
    pub size : length m.marks ≡ local_slots sheet
    pub only : (t : ℕ) → IsSet m.marks t → Tracked which sheet t

  mark_sound : (slot : ℕ) (m : Marked) → (slot < local_slots sheet → Tracked which sheet slot) → Sound m → Sound (mark slot m)
  mark_sound slot m tracked g = record {
    size = (mark_grows slot m).size ∙ g.size;
    only = λ t k. elim (mark_only slot m t k) [ inl x ↦ g.only t x | inr w ↦ rw w.0 (tracked (rw g.size at w.1)) ];
  }

  fields_sound : (pc : ℕ) → pc < code_count sheet → (fs : List Field) → ((f : Field) → Member f fs → Member f (seed_fields which (instruction sheet pc).op))
      → (m : Marked) → Sound m → Sound (mark_fields (instruction sheet pc) fs m)
  unfolding mark_fields
  fields_sound pc h [] among m g = g
  fields_sound pc h (f ∷ fs) among m g =
      fields_sound pc h fs (λ x k. among x (tail k)) (mark (field (instruction sheet pc) f) m)
      (mark_sound (field (instruction sheet pc) f) m (λ below. seed h (among f (head refl)) refl below) g)

  seeds_sound : (count : ℕ) → count ≤ code_count sheet → (m : Marked) → Sound m → Sound (mark_seeds which sheet count m)
  unfolding mark_seeds
  seeds_sound zero h m g = g
  seeds_sound (suc pc) h m g = fields_sound pc (omega arith) _ (λ f k. k) (mark_seeds which sheet pc m) (seeds_sound pc (omega arith) m g)

  follow_if_sound : (b : Bool) (slot : ℕ) (m : Marked) → (b ≡ false → Tracked which sheet slot) → Sound m → Sound (follow_unless b slot m)
  unfolding follow_unless
  follow_if_sound true slot m tracked g = g
  follow_if_sound false slot m tracked g = mark_sound slot m (λ below. tracked refl) g

  follow_sound : (d : ℕ) → Tracked which sheet d → (es : List FactDependency) → ((e : FactDependency) → Member e es → Member e (edges_to sheet d))
      → (m : Marked) → Sound m → Sound (follow (dependency_bit which) es m)
  unfolding follow
  follow_sound d tracked [] among m g = g
  follow_sound d tracked (e ∷ es) among m g =
      follow_sound d tracked es (λ x k. among x (tail k)) _
      (follow_if_sound _ e.source m (λ t. source tracked (among e (head refl)) t refl) g)

  -- ---- between two turns

  -- the sources of a slot's edges that this analysis follows are marked
  abbrev Followed : Marked → ℕ → Type 0
  Followed m d = (e : FactDependency) → Member e (edges_to sheet d) → eqb (bit_and e.kinds (dependency_bit which)) 0 ≡ false → IsSet m.marks e.source

  -- a marked slot is on the stack or its edges are followed, and what is on the stack is marked
  pub record Between (m : Marked) : Type 0 where
    pub sound : Sound m
    pub stacked : (t : ℕ) → Member t m.stack → IsSet m.marks t
    pub open_or_followed : (t : ℕ) → IsSet m.marks t → Member t m.stack ⊎ Followed m t

  no_marks : (n t : ℕ) → IsSet (replicate n 0) t → ⊥
  no_marks zero t e = false≢true (sym e)
  no_marks (suc n) zero e = false≢true (sym e)
  no_marks (suc n) (suc t) e = no_marks n t e

  seeded_between : Between (seeded which sheet)
  unfolding seeded unmarked
  seeded_between = record {
    sound = seeds_sound (code_count sheet) (omega arith) none_marked (record { size = length-replicate (local_slots sheet) 0; only = λ t k. absurd (no_marks (local_slots sheet) t k) });
    stacked = λ t k. elim (grown.has_mark t k) [ inl x ↦ absurd (not-nil x) | inr x ↦ x ];
    open_or_followed = λ t k. elim (grown.fresh t k) [ inl x ↦ absurd (no_marks (local_slots sheet) t x) | inr x ↦ inl x ];
  }
    where
      none_marked : Marked
      none_marked = record { marks = replicate (local_slots sheet) 0; stack = [] }

      grown : Grows none_marked (mark_seeds which sheet (code_count sheet) none_marked)
      grown = seeds_grow which sheet (code_count sheet) none_marked

  -- a slot is taken and its edges are followed
  module _ (m : Marked) (d : ℕ) (ds : List ℕ) (top : m.stack ≡ d ∷ ds) (b : Between m) where
    before : Marked
    before = record { marks = m.marks; stack = ds }

    taken : Marked
    unfolding before
    taken = follow (dependency_bit which) (edges_to sheet d) before

    grown : Grows before taken
    unfolding taken before
    grown = follow_grows (dependency_bit which) (edges_to sheet d) before

    d_followed : Followed taken d
    unfolding taken before
    d_followed e k t = follow_set (dependency_bit which) (edges_to sheet d) before e k t (rw b.sound.size (source_below sheet d e k))

    still : (t : ℕ) → Member t m.stack ⊎ Followed m t → Member t taken.stack ⊎ Followed taken t
    unfolding before
    still t (inl k) = elim (cases_cons (rw top at k)) [ inl w ↦ inr (rw w d_followed) | inr x ↦ inl (grown.stacks t x) ]
    still t (inr f) = inr (λ e k s. grown.keeps e.source (f e k s))

    pub taken_between : Between (follow (dependency_bit which) (edges_to sheet d) (record { marks = m.marks; stack = ds }))
    unfolding taken before
    taken_between = record {
      sound = follow_sound d (b.sound.only d (b.stacked d (rw top (head refl)))) (edges_to sheet d) (λ e k. k) before (record { size = b.sound.size; only = b.sound.only });
      stacked = λ t k. elim (grown.has_mark t k) [ inl x ↦ grown.keeps t (b.stacked t (rw top (tail x))) | inr x ↦ x ];
      open_or_followed = λ t k. elim (grown.fresh t k) [ inl x ↦ still t (b.open_or_followed t x) | inr x ↦ inl x ];
    }

  -- ---- the loop

  -- What it gives: nothing on the stack, and all that was marked still is.
  record Ended (m out : Marked) : Type 0 where
    pub between : Between out
    pub empty : out.stack ≡ []
    pub kept : (t : ℕ) → IsSet m.marks t → IsSet out.marks t

  take_ended : (ds : List ℕ) (go : Marked → Metered Marked) (m : Marked) (budget : VerifierResources) (out : Marked) (left : VerifierResources)
      → m.stack ≡ ds → Between m
      → ((m' : Marked) (rest : VerifierResources) → Between m' → go m' rest ≡ ok out left → Ended m' out)
      → take_slot which sheet ds go m budget ≡ ok out left → Ended m out
  unfolding take_slot
  take_ended [] go m budget out left top b later e = let w : m ≡ out = given m budget e in rw⁻¹ w (record { between = b; empty = top; kept = λ t k. k })
  take_ended (d ∷ ds) go m budget out left top b later e =
      let p = then_parts e in
      let h = later _ p.rest (taken_between m d ds top b) p.after in record {
        between = h.between;
        empty = h.empty;
        kept = λ t k. h.kept t ((follow_grows (dependency_bit which) (edges_to sheet d) (record { marks = m.marks; stack = ds })).keeps t k);
      }

  expand_ended : (fuel : ℕ) (m : Marked) (budget : VerifierResources) (out : Marked) (left : VerifierResources)
      → Between m → expand which sheet fuel m budget ≡ ok out left → Ended m out
  unfolding expand give_up
  expand_ended zero m budget out left b e =
      take_ended m.stack (λ m'. give_up) m budget out left refl b (λ m' rest _ k. let z : ◌≡◌ {A = ℕ} 0 1 = cc in absurd (omega arith)) e
  expand_ended (suc fuel) m budget out left b e =
      take_ended m.stack (λ m'. expand which sheet fuel m') m budget out left refl b (λ m' rest g k. expand_ended fuel m' rest out left g k) e

  -- it ends with nothing on the stack
  pub expand_empties : (fuel : ℕ) (budget : VerifierResources) (out : Marked) (left : VerifierResources)
      → expand which sheet fuel (seeded which sheet) budget ≡ ok out left → out.stack ≡ []
  expand_empties fuel budget out left e = (expand_ended fuel (seeded which sheet) budget out left seeded_between e).empty

  -- ---- its fuel is enough

  follow_if_weight : (b : Bool) (slot : ℕ) (m : Marked) → weight (follow_unless b slot m) ≡ weight m
  unfolding follow_unless
  follow_if_weight true slot m = refl
  follow_if_weight false slot m = mark_weight slot m

  pub follow_weight : (bit : ℕ) (es : List FactDependency) (m : Marked) → weight (follow bit es m) ≡ weight m
  unfolding follow
  follow_weight bit [] m = refl
  follow_weight bit (e ∷ es) m = follow_weight bit es _ ∙ follow_if_weight _ e.source m

  fields_weight : (inst : Instruction) (fs : List Field) (m : Marked) → weight (mark_fields inst fs m) ≡ weight m
  unfolding mark_fields
  fields_weight inst [] m = refl
  fields_weight inst (f ∷ fs) m = fields_weight inst fs (mark (field inst f) m) ∙ mark_weight (field inst f) m

  seeds_weight : (count : ℕ) (m : Marked) → weight (mark_seeds which sheet count m) ≡ weight m
  unfolding mark_seeds
  seeds_weight zero m = refl
  seeds_weight (suc pc) m = fields_weight (instruction sheet pc) _ (mark_seeds which sheet pc m) ∙ seeds_weight pc m

  pub seeded_weight : weight (seeded which sheet) ≡ local_slots sheet
  unfolding seeded
  seeded_weight = seeds_weight (code_count sheet) (unmarked sheet) ∙ unmarked_weight sheet

  take_finishes : (ds : List ℕ) (go : Marked → Metered Marked) (m : Marked) → m.stack ≡ ds
      → ((d : ℕ) (rest : List ℕ) → ds ≡ d ∷ rest → Finishes (go (follow (dependency_bit which) (edges_to sheet d) (record { marks = m.marks; stack = rest }))))
      → Finishes (take_slot which sheet ds go m)
  unfolding take_slot
  take_finishes [] go m top later = give_finishes m
  take_finishes (d ∷ ds) go m top later = then_finishes (work_finishes (stage_number which) _) (later d ds refl)

  expand_finishes : (fuel : ℕ) (m : Marked) → weight m ≤ fuel → Finishes (expand which sheet fuel m)
  unfolding expand weight
  expand_finishes zero m h =
      take_finishes m.stack (λ m'. give_up) m refl (λ d rest e. let k : length m.stack ≡ suc (length rest) = ap length e in absurd (omega arith))
  expand_finishes (suc fuel) m h =
      take_finishes m.stack (λ m'. expand which sheet fuel m') m refl
      (λ d rest e.
      let k : length m.stack ≡ suc (length rest) = ap length e in
      let w = follow_weight (dependency_bit which) (edges_to sheet d) (record { marks = m.marks; stack = rest }) in
      expand_finishes fuel _ (omega arith))

  -- ---- the tracked slots

  -- the closure ends, whatever the budget
  pub closure_finishes : Finishes (tracked_slots which sheet)
  unfolding tracked_slots
  closure_finishes =
      then_finishes (bytes_finish (stage_number which) _)
      (then_finishes (bytes_finish (stage_number which) _)
      (bound_finishes (expand_finishes (local_slots sheet) _ (omega (arith, seeded_weight)))
      (λ m budget left e k. give_finishes (places 0 m.marks) left k)))

  all_set : (out : Marked) → Ended (seeded which sheet) out → (t : ℕ) → Tracked which sheet t → IsSet out.marks t
  unfolding seeded unmarked
  all_set out h t (seed {pc = pc} {f = f} below k w inside) =
      rw w (h.kept _ (seeds_set which sheet (code_count sheet) (record { marks = replicate (local_slots sheet) 0; stack = [] }) pc f below k
      (rw (length-replicate {A = ℕ} (local_slots sheet) 0) (rw w at inside))))
  all_set out h t (source {d = d} {e = e} tracked k s w) = rw w (go (h.between.open_or_followed d (all_set out h d tracked)))
    where
      go : Member d out.stack ⊎ Followed out d → IsSet out.marks e.source
      go (inl x) = absurd (not-nil (rw h.empty at x))
      go (inr f) = f e k s

  exactly : (out : Marked) → Ended (seeded which sheet) out → TrackedExactly which sheet (places 0 out.marks)
  exactly out h = record {
    ascending = places_ascend 0 out.marks;
    below = λ slot m. let k = is_set slot m in rw⁻¹ h.between.sound.size (set_below out.marks slot k);
    only = λ slot m. h.between.sound.only slot (is_set slot m);
    all = λ slot t. let same : 0 + slot ≡ slot = omega arith in rw same at (places_all 0 out.marks slot (all_set out h slot t));
  }
    where
      is_set : (slot : ℕ) → Member slot (places 0 out.marks) → IsSet out.marks slot
      is_set slot m = let r = places_only 0 out.marks slot m in let e : slot ≡ r.0 = omega (arith, r.1) in rw e r.2

  -- what the closure gives is exactly the tracked slots
  pub closure_exact : (budget : VerifierResources) (slots : List ℕ) (left : VerifierResources) → tracked_slots which sheet budget ≡ ok slots left
      → TrackedExactly which sheet slots
  unfolding tracked_slots
  closure_exact budget slots left e =
      let marks = then_parts e in
      let stack = then_parts marks.after in
      let loop = bound_parts stack.after in
      rw⁻¹ (given (places 0 loop.a.marks) loop.rest loop.after)
      (exactly loop.a (expand_ended (local_slots sheet) (seeded which sheet) stack.rest loop.a loop.rest seeded_between loop.before))
