-- `SlotMarks::mark` meets its contract. Assumes nothing.
use mathlib.Core.Path.{refl}
use Rattle.closure_marks.proofs.Marks.{push_room, marked_room, pushed_room, mark_new, mark_old, mark_past, store_new, store_old, store_past}
use Rattle.closure_marks.proofs.mark.SlotMarks.mark.Goals.{else-slot-self-via-then-slot-self+else-self-slot-eq0, else-slot-self-via-else-slot-self}
use Rattle.closure_marks.proofs.mark.SlotMarks.mark.Goals as goal

pub invariant_of-self : goal.invariant_of-self
invariant_of-self c = record { room = marked_room c.args.slot _ _ _ c.if-slot-self.true c.if-self-slot-eq0.true c.args.self.now.room }

pub bounds-self-self : goal.bounds-self-self
bounds-self-self c = push_room c.args.slot _ _ _ c.if-slot-self.true c.if-self-slot-eq0.true c.args.self.now.room

pub invariant_of-self-then-self-slot-eq0 : goal.invariant_of-self-then-self-slot-eq0
invariant_of-self-then-self-slot-eq0 c = record { room = pushed_room c.args.slot _ _ _ c.if-slot-self.true c.if-self-slot-eq0.true c.args.self.now.room }

pub returns-then-self-slot-eq0 : goal.returns-then-self-slot-eq0
returns-then-self-slot-eq0 c = record {
  steps = record {
    goes = mark_new c.args.slot _ _ _ c.if-slot-self.true c.if-self-slot-eq0.true;
    same_marks = refl;
    same_stack = refl;
  };
  stored = store_new c.args.slot _ _ _ c.if-slot-self.true c.if-self-slot-eq0.true;
}

pub returns-else-slot-self : goal.returns-else-slot-self
returns-else-slot-self c = elim c.else-slot-self.branch [
  | else-slot-self-via-then-slot-self+else-self-slot-eq0 w ↦ record {
    steps = record {
      goes = mark_old c.args.slot _ _ _ w.if-slot-self.true w.if-self-slot-eq0.false;
      same_marks = refl;
      same_stack = refl;
    };
    stored = store_old c.args.slot _ _ _ w.if-slot-self.true w.if-self-slot-eq0.false;
  }
  | else-slot-self-via-else-slot-self w ↦ record {
    steps = record {
      goes = mark_past c.args.slot _ _ _ w.if-slot-self.false;
      same_marks = refl;
      same_stack = refl;
    };
    stored = store_past c.args.slot _ _ _ w.if-slot-self.false;
  }
]
