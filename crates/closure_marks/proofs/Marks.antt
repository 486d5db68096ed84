-- Marks and stack, as they lie in lent memory: one slot is marked, or several.
-- Assumes nothing.
use mathlib.Core.Path.{◌≡◌, refl, sym, ap, ◌∙◌}
use mathlib.Core.Bool.{true, false, cond}
use mathlib.Core.List.{List, [], ◌∷◌}
use Prim.Native.Nat.{ℕ, suc, ◌+◌, ◌≤◌, ◌<◌}
use native.Mathlib.Omega.{arith}
use lib.Dec.{eqb}
use lib.ListN.{length, get_or, set, length-set, get_or-eq_default}
use borrow.Author.Tests.{eq-eqb, ne_eqb}
use Rattle.std.proofs.lemmas.List.Recursion.{is_count_by}
use Rattle.std.proofs.lemmas.List.Sums.{sum_by-set}
use Rattle.model.specs.Sheet.{local_slots}
use Rattle.model.specs.Closure.{Marked, marked, mark}
use Rattle.model.specs.CallDemand.{marking}
use Rattle.finality.proofs.Marks.{free, same_below, stack_room}
use Rattle.finality.proofs.Cells.{stacked_push}
use Rattle.closure_marks.specs.Room.{unmarked_count, Room}
use Rattle.closure_marks.specs.Marks.{MarkedLies, Goes, Steps, mark_all, Held, stored_if, store}
use Rattle.closure_marks.specs.declared.mark.SlotMarks.{SlotMarks}

-- The slots without a mark are as many as finality's laws have, so what those say of `free` says whether there is room.
pub free_counted : (marks : List ℕ) → free marks ≡ unmarked_count marks
unfolding free
free_counted = is_count_by free (λ (mark : ℕ). eqb mark 0) refl (λ mark marks. grind arith)

-- ---- one slot

module _ (slot : ℕ) (marks stack : List ℕ) (top : ℕ) where
  module _ (inside : slot < length marks) (free_there : get_or marks slot 0 ≡ 0) where
    module _ {sheet : List ℕ} {room : ℕ} {m : Marked} (l : MarkedLies sheet room m marks stack top) where
      no_mark : eqb (get_or m.marks slot 1) 0 ≡ true
      no_mark = let e : get_or m.marks slot 1 ≡ 0 = rw l.marks_are at (sym (same_below marks slot inside) ∙ free_there) in eq-eqb (get_or m.marks slot 1) 0 e

      has_room : length m.stack < local_slots sheet
      has_room = stack_room sheet m slot l.passed no_mark

      lies_new : MarkedLies sheet room (mark slot m) (set marks slot 1) (set stack top slot) (top + 1)
      unfolding mark marked
      lies_new = record {
        passed = marking l.passed slot refl;
        marks_are = rw (no_mark, l.marks_are);
        stack_is = rw (no_mark, l.stack_is, l.top_is) (stacked_push room m.stack slot (omega (arith, has_room, l.deep)));
        top_is = rw no_mark (omega (arith, l.top_is));
        wide = length-set marks slot 1 ∙ l.wide;
        long = length-set stack top slot ∙ l.long;
        deep = l.deep;
        small = l.small;
      }

    -- one slot less is without a mark
    less_free : unmarked_count marks ≡ suc (unmarked_count (set marks slot 1))
    less_free =
        let test = λ (mark : ℕ). cond (eqb mark 0) 1 0 in
        let fewer : unmarked_count (set marks slot 1) + test (get_or marks slot 0) ≡ unmarked_count marks + 0 = sum_by-set test marks slot 1 0 inside in
        let one : test (get_or marks slot 0) ≡ 1 = ap test free_there in
        omega (arith, fewer, one)

    -- there is room on the stack
    pub push_room : Room marks stack top → top < length stack
    push_room w = omega (arith, less_free, w.fits)

    pub marked_room : Room marks stack top → Room (set marks slot 1) stack top
    marked_room w = record { fits = omega (arith, less_free, w.fits); small = omega (arith, length-set marks slot 1, w.small) }

    pub pushed_room : Room marks stack top → Room (set marks slot 1) (set stack top slot) (top + 1)
    pushed_room w = record {
      fits = omega (arith, less_free, w.fits, length-set stack top slot);
      small = omega (arith, length-set marks slot 1, w.small);
    }

    pub mark_new : Goes (mark slot) marks stack top (set marks slot 1) (set stack top slot) (top + 1)
    mark_new = record { on = λ l. lies_new l }

  -- a mark that is set, or none from L up
  old : eqb (get_or marks slot 1) 0 ≡ false → Goes (mark slot) marks stack top marks stack top
  unfolding mark marked
  old e = record { on = λ {sheet} {room} {m} l. let p : eqb (get_or m.marks slot 1) 0 ≡ false = (rw l.marks_are at e) in rw p l }

  pub mark_old : slot < length marks → (get_or marks slot 0 ≡ 0 → ⊥) → Goes (mark slot) marks stack top marks stack top
  mark_old h k = old (ne_eqb (get_or marks slot 1) 0 (λ e. k (same_below marks slot h ∙ e)))

  pub mark_past : length marks ≤ slot → Goes (mark slot) marks stack top marks stack top
  mark_past h = old (rw (get_or-eq_default marks 1 h))

  -- ---- whatever lies there

  abbrev there : Held
  there = record { marks = marks; stack = stack; top = top }

  pub store_new : slot < length marks → get_or marks slot 0 ≡ 0 → record { marks = set marks slot 1; stack = set stack top slot; top = top + 1 } ≡ store slot there
  unfolding store stored_if
  store_new h k = rw (eq-eqb (get_or marks slot 1) 0 (sym (same_below marks slot h) ∙ k))

  pub store_old : slot < length marks → (get_or marks slot 0 ≡ 0 → ⊥) → there ≡ store slot there
  unfolding store stored_if
  store_old h k = rw (ne_eqb (get_or marks slot 1) 0 (λ e. k (same_below marks slot h ∙ e)))

  pub store_past : length marks ≤ slot → there ≡ store slot there
  unfolding store stored_if
  store_past h = rw (get_or-eq_default marks 1 h)

-- ---- several

pub goes_self : {f : Marked → Marked} {marks stack : List ℕ} {top : ℕ} → ((m : Marked) → f m ≡ m) → Goes f marks stack top marks stack top
goes_self e = record { on = λ {sheet} {room} {m} l. rw (e m) l }

module _ {f : Marked → Marked} {marks stack marks' stack' : List ℕ} {top top' : ℕ} (p : Goes f marks stack top marks' stack' top') where
  -- one step after another
  pub goes_on : {g : Marked → Marked} (h : Marked → Marked) {marks'' stack'' : List ℕ} {top'' : ℕ} → Goes g marks' stack' top' marks'' stack'' top''
      → ((m : Marked) → h m ≡ g (f m)) → Goes h marks stack top marks'' stack'' top''
  goes_on h q e = record { on = λ {sheet} {room} {m} l. rw (e m) (q.on (p.on l)) }

  -- the same step by another name
  pub goes_as : (h : Marked → Marked) → ((m : Marked) → h m ≡ f m) → Goes h marks stack top marks' stack' top'
  goes_as h e = record { on = λ {sheet} {room} {m} l. rw (e m) (p.on l) }

-- ---- the value that holds them

pub steps_self : {f : Marked → Marked} {old : SlotMarks} → ((m : Marked) → f m ≡ m) → Steps f old old
steps_self e = record { goes = goes_self e; same_marks = refl; same_stack = refl }

module _ {f : Marked → Marked} {old mid : SlotMarks} (p : Steps f old mid) where
  -- one step after another
  pub steps_on : {g : Marked → Marked} (h : Marked → Marked) {new : SlotMarks} → Steps g mid new → ((m : Marked) → h m ≡ g (f m)) → Steps h old new
  steps_on h q e = record { goes = goes_on p.goes h q.goes e; same_marks = q.same_marks ∙ p.same_marks; same_stack = q.same_stack ∙ p.same_stack }

  -- the same step by another name
  pub steps_as : (h : Marked → Marked) → ((m : Marked) → h m ≡ f m) → Steps h old mid
  steps_as h e = record { goes = goes_as p.goes h e; same_marks = p.same_marks; same_stack = p.same_stack }

pub none_marked : {old : SlotMarks} → Steps (mark_all []) old old
unfolding mark_all
none_marked = steps_self (λ m. refl)

module _ (slot : ℕ) {old mid : SlotMarks} (first : Steps (mark slot) old mid) where
  pub one_marked : Steps (mark_all (slot ∷ [])) old mid
  unfolding mark_all
  one_marked = steps_as first (mark_all (slot ∷ [])) (λ m. refl)

  pub both_marked : (other : ℕ) {new : SlotMarks} → Steps (mark other) mid new → Steps (mark_all (slot ∷ other ∷ [])) old new
  unfolding mark_all
  both_marked other second = steps_on first (mark_all (slot ∷ other ∷ [])) second (λ m. refl)
