-- The loop of the closure: a slot is taken, its edges are charged and followed, until the stack is empty.
-- Assumes nothing.
use Rattle.std.proofs.Common.{◌≡◌, ℕ, zero, suc, ◌+◌, ◌-◌, ◌<◌, ◌≤◌, ◌⊎◌, List, [], ◌∷◌, ◌++◌, reverse, length, get_or, set, replicate, sym, refl, ap, ◌∙◌, inl, inr, arith, eqb, length-set}
use mathlib.Core.List.Memᴰ.{head}
use mathlib.Core.List.Memᴰ.{not-nil}
use mathlib.Core.List.Memᴰ.{tail}
use mathlib.Core.List.{reverse-cons, Memᴰ as Member}
use lib.ListN.{length-replicate}
use Rattle.std.proofs.lemmas.List.Sums.{count_by-le-length}
use Rattle.model.specs.Sheet.{local_slots}
use Rattle.model.specs.Charges.{Spent, ok, give, continue, ◌>>◌, charge_work, in_stage, spend_work}
use Rattle.model.specs.Dependencies.{dependency_bit, edges_to}
use Rattle.model.specs.Closure.{Marked, mark, follow, unmarked, seeded, take_slot, expand, stage_number}
use Rattle.model.specs.CallDemand.{Passed, begun, marking, taking}
use Rattle.model.specs.Tables.{stacked}
use Rattle.model.specs.Call.{zeros}
use Rattle.model.specs.declared.AnalysisKind.{AnalysisKind}
use Rattle.model.specs.declared.VerifierResources.{VerifierResources}
use Rattle.model.specs.Charges.{Charge}
use Rattle.std.specs.Prelude.{Ok}
use Rattle.budget.specs.Outcome.{Outcome, as_spent}
use Rattle.budget.proofs.Outcomes.{Stopped, NotCovered, stopped_then, spent_stopped}
use Rattle.budget.proofs.Spending.{covered, work_came}
use Rattle.sheet.specs.Measured.{Measured}
use Rattle.sheet.specs.declared.Sizes.{Sizes}
use Rattle.sheet.proofs.SizeNames.{counted}
use Rattle.sheet.proofs.SizeLimits.{limited}
use Rattle.finality.proofs.Marks.{IsSet, set_below, mark_grows, free, weight, stack_fits}
use Rattle.finality.proofs.Closure.{follow_weight, seeded_weight}
use Rattle.finality.proofs.Cells.{stacked_top, stacked_pop}
use Rattle.closure_marks.specs.Marks.{MarkedLies, Taken}
use Rattle.closure_marks.specs.Room.{Room}
use Rattle.closure_marks.specs.declared.mark.SlotMarks.{SlotMarks}
use Rattle.closure.specs.Sources.{Follows}
use Rattle.closure.specs.Taking.{Standing, top_edges, top_taken, Takes}
use Rattle.closure.specs.Expanded.{MarksZero, ExpandEnsures}
use Rattle.closure.proofs.FollowEdges.{empty_of}

-- ---- what is on the stack is below L

passed_size : (sheet : List ℕ) (m : Marked) → Passed sheet m → length m.marks ≡ local_slots sheet
unfolding unmarked
passed_size sheet m (begun e) = rw e (length-replicate (local_slots sheet) 0)
passed_size sheet m (marking {m = before} p slot e) = rw e ((mark_grows slot before).size ∙ passed_size sheet before p)
passed_size sheet m (taking {m = before} p s e) = rw e (passed_size sheet before p)

stacked_below : (sheet : List ℕ) (m : Marked) → Passed sheet m → (t : ℕ) → Member t m.stack → t < local_slots sheet
unfolding unmarked
stacked_below sheet m (begun e) t k = absurd (not-nil (rw e at k))
stacked_below sheet m (marking {m = before} p slot e) t k = go ((mark_grows slot before).has_mark t (rw e at k)) (stacked_below sheet before p t)
  where
    go : Member t before.stack ⊎ IsSet (mark slot before).marks t → (Member t before.stack → t < local_slots sheet) → t < local_slots sheet
    go (inl x) earlier = earlier x
    go (inr x) earlier = omega (arith, set_below (mark slot before).marks t x, (mark_grows slot before).size, passed_size sheet before p)
stacked_below sheet m (taking {m = before} p s e) t k = stacked_below sheet before p t (rw s (tail (rw e at k)))

-- so is every entry of the memory: behind the stack there are zeros
module _ (bound : ℕ) where
  abbrev Below : List ℕ → Type 0
  Below xs = (k : ℕ) → get_or xs k 0 < bound

  append_below : (xs ys : List ℕ) → Below xs → Below ys → Below (xs ++ ys)
  append_below [] ys hx hy k = hy k
  append_below (x ∷ xs) ys hx hy zero = hx zero
  append_below (x ∷ xs) ys hx hy (suc k) = append_below xs ys (λ j. hx (suc j)) hy k

  zeros_below : (n : ℕ) → 0 < bound → Below (replicate n 0)
  zeros_below zero h k = h
  zeros_below (suc n) h zero = h
  zeros_below (suc n) h (suc k) = zeros_below n h k

  reverse_below : (xs : List ℕ) → 0 < bound → ((t : ℕ) → Member t xs → t < bound) → Below (reverse xs)
  reverse_below [] h each = λ k. h
  reverse_below (x ∷ xs) h each = rw (reverse-cons x xs) (append_below (reverse xs) (x ∷ []) (reverse_below xs h (λ t m. each t (tail m))) last)
    where
      last : Below (x ∷ [])
      last zero = each x (head refl)
      last (suc k) = h

-- ---- a slot is taken

-- what is on a stack that is not empty
pub record Topped (stack : List ℕ) : Type 0 where
  pub d : ℕ
  pub ds : List ℕ
  pub is : stack ≡ d ∷ ds

topped : (stack : List ℕ) → 0 < length stack → Topped stack
topped [] h = let never : ⊥ = omega arith in absurd never
topped (d ∷ ds) h = record { d = d; ds = ds; is = refl }

top_member : (d : ℕ) (ds stack : List ℕ) → stack ≡ d ∷ ds → Member d stack
top_member d ds stack e = rw e (head refl)

-- the entry on top is read, and its place is zero again
module _ (room k d : ℕ) (ds stack whole : List ℕ) (lies : stack ≡ stacked room whole) (top : whole ≡ d ∷ ds) (at : k ≡ length ds) where
  read_top : get_or stack k 0 ≡ d
  read_top = rw (lies, top, at) (stacked_top room d ds)

  pop_top : length ds < room → set stack k 0 ≡ stacked room ds
  pop_top h = rw (lies, top, at) (stacked_pop room d ds h)

module _ {sheet : List ℕ} {room : ℕ} {m : Marked} {marks stack : List ℕ} {top : ℕ} (l : MarkedLies sheet room m marks stack top) where
  lies_below : top ≤ length stack
  lies_below = omega (arith, stack_fits sheet m l.passed, l.top_is, l.deep, l.long)

  module _ (some : 0 < top) where
    some_top : Topped m.stack
    some_top = topped m.stack (omega (arith, l.top_is))

    at_is : top - 1 ≡ length some_top.ds
    at_is = omega (arith, l.top_is, ap length some_top.is)

    rest : Marked
    rest = record { marks = m.marks; stack = some_top.ds }

    top_is_d : get_or stack (top - 1) 0 ≡ some_top.d
    top_is_d = read_top room (top - 1) some_top.d some_top.ds stack m.stack l.stack_is some_top.is at_is

    d_below : get_or stack (top - 1) 0 < local_slots sheet
    d_below = rw top_is_d (stacked_below sheet m l.passed some_top.d (top_member some_top.d some_top.ds m.stack some_top.is))

    popped : MarkedLies sheet room rest marks (set stack (top - 1) 0) (top - 1)
    unfolding rest
    popped = record {
      passed = taking l.passed some_top.is refl;
      marks_are = l.marks_are;
      stack_is =
          pop_top room (top - 1) some_top.d some_top.ds stack m.stack l.stack_is some_top.is at_is (omega (arith, at_is, lies_below, l.long));
      top_is = at_is;
      wide = l.wide;
      long = length-set stack (top - 1) 0 ∙ l.long;
      deep = l.deep;
      small = l.small;
    }

module _ {sheet marks stack : List ℕ} {top : ℕ} (s : Standing sheet marks stack top) (some : 0 < top) where
  pub slot_below : (k : ℕ) → get_or stack k 0 < local_slots sheet
  unfolding stacked
  slot_below =
      rw s.lies.stack_is
      (append_below _ (reverse s.m.stack) (replicate (s.room - length s.m.stack) 0)
      (reverse_below _ s.m.stack above (stacked_below sheet s.m s.lies.passed))
      (zeros_below _ (s.room - length s.m.stack) above))
    where
      above : 0 < local_slots sheet
      above = omega (arith, d_below s.lies some)

module _ (which : AnalysisKind) (sheet : List ℕ) {old mid new : SlotMarks} {d count : ℕ} (some : 0 < old.top) (t : Taken old mid d)
    (f : Follows (dependency_bit which) (edges_to sheet d) mid new count) where
  read : {top : ℕ} → get_or old.stack.now (old.top - 1) 0 ≡ top → d ≡ top
  read e = t.slot_is ∙ e

  -- what lies there when the slot on top is taken
  popped_there : {room : ℕ} {m : Marked} (l : MarkedLies sheet room m old.marks.now old.stack.now old.top) → MarkedLies sheet room (rest l some) mid.marks.now mid.stack.now mid.top
  popped_there l = rw (t.marks_are, t.stack_is, t.top_is) (popped l some)

  pub takes : Takes which sheet old new count
  unfolding top_edges top_taken rest
  takes = record {
    counts = λ l. many (some_top l some).is (read (top_is_d l some));
    lies = λ {room} {m} l. laid m (some_top l some).is (read (top_is_d l some)) (f.goes.goes.on (popped_there l));
    same_marks = f.goes.same_marks ∙ t.same_marks;
    same_stack = f.goes.same_stack ∙ t.same_stack;
  }
    where
      many : {top : ℕ} {ds whole : List ℕ} → whole ≡ top ∷ ds → d ≡ top → count ≡ top_edges sheet whole
      many e k = rw e (rw k at f.counts)

      laid : {room top : ℕ} {ds : List ℕ} (m : Marked) → m.stack ≡ top ∷ ds → d ≡ top
          → MarkedLies sheet room (follow (dependency_bit which) (edges_to sheet d) (record { marks = m.marks; stack = ds })) new.marks.now new.stack.now new.top
          → MarkedLies sheet room (top_taken which sheet m.stack m) new.marks.now new.stack.now new.top
      laid m e k l = rw e (rw k at l)

-- ---- each slot is taken once

module _ (which : AnalysisKind) (sheet : List ℕ) where
  module _ (m : Marked) (t : Topped m.stack) where
    next : Marked
    next = top_taken which sheet m.stack m

    taken : next ≡ follow (dependency_bit which) (edges_to sheet t.d) (record { marks = m.marks; stack = t.ds })
    unfolding next top_taken
    taken = ap (λ (st : List ℕ). top_taken which sheet st m) t.is

    weight_falls : weight m ≡ suc (weight next)
    unfolding weight
    weight_falls =
        let w = ap weight taken ∙ follow_weight which sheet (dependency_bit which) (edges_to sheet t.d) (record { marks = m.marks; stack = t.ds }) in
        omega (arith, w, ap length t.is)

    -- what the closure goes on with
    turn : (left : VerifierResources) → expand which sheet (weight m) m left
        ≡ (spend_work (stage_number which) (top_edges sheet m.stack) >> expand which sheet (weight next) next) left
    unfolding expand take_slot top_edges
    turn left = ap (λ (k : ℕ). expand which sheet k m left) weight_falls ∙ go m.stack t.is (weight next) next taken
      where
        go : (st : List ℕ) → st ≡ t.d ∷ t.ds → (fuel : ℕ) (x : Marked) → x ≡ follow (dependency_bit which) (edges_to sheet t.d) (record { marks = m.marks; stack = t.ds })
            → take_slot which sheet st (λ m'. expand which sheet fuel m') m left
            ≡ (spend_work (stage_number which) (top_edges sheet st) >> expand which sheet fuel x) left
        go st e fuel x k = rw (e, k)

  -- ---- the loop

  -- the whole closure
  abbrev whole : VerifierResources → Spent Marked
  whole budget = expand which sheet (local_slots sheet) (seeded which sheet) budget

  -- Between two turns: a state lies in marks and stack from which the closure goes on with what is left.
  pub record Expanding (budget : VerifierResources) (room : ℕ) (marks stack : List ℕ) (top : ℕ) (left : VerifierResources) : Type 0 where
    pub m : Marked
    pub lies : MarkedLies sheet room m marks stack top
    pub so_far : whole budget ≡ expand which sheet (weight m) m left

  pub expanding_begun : {budget : VerifierResources} {room : ℕ} {marks stack : List ℕ} {top : ℕ} → MarkedLies sheet room (seeded which sheet) marks stack top
      → Expanding budget room marks stack top budget
  expanding_begun {budget} l = record { m = seeded which sheet; lies = l; so_far = ap (λ (k : ℕ). expand which sheet k (seeded which sheet) budget) (sym (seeded_weight which sheet)) }

  pub expanding_standing : {budget left : VerifierResources} {room : ℕ} {marks stack : List ℕ} {top : ℕ} → Expanding budget room marks stack top left
      → Standing sheet marks stack top
  expanding_standing {room = room} x = record { room = room; m = x.m; lies = x.lies }

  lies_weight : {room : ℕ} {m : Marked} {marks stack : List ℕ} {top : ℕ} → MarkedLies sheet room m marks stack top → weight m ≡ free marks + top
  unfolding weight
  lies_weight l = omega (arith, ap free l.marks_are, l.top_is)

  module _ {budget left : VerifierResources} {room : ℕ} {old new : SlotMarks} {count : ℕ} (x : Expanding budget room old.marks.now old.stack.now old.top left)
      (some : 0 < old.top) (t : Takes which sheet old new count) where
    on : Topped x.m.stack
    on = some_top x.lies some

    -- the slots without a mark and those on the stack become fewer
    pub expanding_less : free new.marks.now + new.top < free old.marks.now + old.top
    unfolding next
    expanding_less = omega (arith, lies_weight x.lies, lies_weight (t.lies x.lies), weight_falls x.m on)

    module _ {charge : Charge} (made : charge ≡ charge_work count left) {stage : ℕ} (number : stage ≡ stage_number which) (outcome : Outcome)
        (came : as_spent outcome ≡ in_stage stage left charge) where
      -- the turn's charge, and what follows it
      charged : whole budget ≡ continue (λ _. expand which sheet (weight (next x.m on)) (next x.m on)) (as_spent outcome)
      unfolding ◌>>◌
      charged =
          let work = work_came _ outcome left made (came ∙ ap (λ (k : ℕ). in_stage k left charge) number) (t.counts x.lies) in
          x.so_far ∙ turn x.m on left ∙ ap (continue (λ _. expand which sheet (weight (next x.m on)) (next x.m on))) (sym work)

      pub expanding_on : {rest : VerifierResources} → outcome ≡ Ok rest → Expanding budget room new.marks.now new.stack.now new.top rest
      unfolding continue next
      expanding_on e = record {
        m = next x.m on;
        lies = t.lies x.lies;
        so_far = charged ∙ ap (continue (λ _. expand which sheet (weight (next x.m on)) (next x.m on))) (covered refl e);
      }

      pub expanding_refused : NotCovered outcome → Stopped (whole budget) outcome
      expanding_refused h = rw charged (stopped_then (spent_stopped outcome refl h) _)

  module _ {budget left : VerifierResources} {room : ℕ} {marks stack : List ℕ} {top : ℕ} (x : Expanding budget room marks stack top left) (none : top ≤ 0) where
    empty : x.m.stack ≡ []
    empty = empty_of x.m.stack (omega (arith, x.lies.top_is))

    pub expanding_done : whole budget ≡ ok x.m left
    unfolding expand take_slot give
    expanding_done = x.so_far ∙ go (weight x.m) x.m empty
      where
        go : (fuel : ℕ) (m : Marked) → m.stack ≡ [] → expand which sheet fuel m left ≡ ok m left
        go zero m e = rw e
        go (suc fuel) m e = rw e

    pub expanding_empty : stack ≡ replicate room 0
    unfolding stacked
    expanding_empty = x.lies.stack_is ∙ ap (stacked room) empty ∙ (let e : room - 0 ≡ room = omega arith in rw e)

-- ---- how it ends

-- what is held at the end lies in the memory that was lent
pub at_last : {which : AnalysisKind} {sheet : List ℕ} {budget : VerifierResources} {marks stack : List ℕ} {outcome : Outcome} {marks' stack' : List ℕ} (held_marks held_stack : List ℕ)
    → marks' ≡ held_marks → stack' ≡ held_stack → ExpandEnsures which sheet budget marks stack outcome held_marks held_stack
    → ExpandEnsures which sheet budget marks stack outcome marks' stack'
at_last held_marks held_stack e h w = rw (e, h) w

-- ---- how it begins

pub zero_lies : {sheet marks stack : List ℕ} {sizes : Sizes} → Measured sheet sizes → MarksZero sheet marks stack → MarkedLies sheet (length stack) (unmarked sheet) marks stack 0
unfolding unmarked stacked zeros
zero_lies {sheet} {marks} {stack} w b = record {
  passed = begun refl;
  marks_are = b.no_marks ∙ ap (λ (k : ℕ). replicate k 0) b.wide;
  stack_is = b.no_entries ∙ (let e : length stack - 0 ≡ length stack = omega arith in rw e);
  top_is = refl;
  wide = b.wide;
  long = refl;
  deep = b.deep;
  small = omega (arith, (limited w).local_slots_is, (counted w.are).local_slots_is);
}

-- the room that it begins with
pub zero_room : {sheet marks stack : List ℕ} {sizes : Sizes} → Measured sheet sizes → MarksZero sheet marks stack → Room marks stack 0
zero_room {sheet} {marks} w b =
    let l = zero_lies w b in
    record { fits = omega (arith, count_by-le-length (λ (mark : ℕ). eqb mark 0) marks, l.wide, l.deep, l.long); small = omega (arith, l.wide, l.small) }

pub lies_room : {sheet : List ℕ} {room : ℕ} {m : Marked} {marks stack : List ℕ} {top : ℕ} → MarkedLies sheet room m marks stack top → MarkedLies sheet (length stack) m marks stack top
lies_room l = rw l.long l
