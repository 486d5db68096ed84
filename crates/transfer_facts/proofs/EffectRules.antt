-- Which rule of an analysis an opcode takes, and what the slots that it writes become.
-- Assumes nothing.
use mathlib.Core.Path.{◌≡◌, refl, sym, ap, subst, ◌∙◌}
use mathlib.Core.Logic.{◌≢◌}
use mathlib.Core.Bool.{Bool, true, false, cond, ◌&&◌, false≢true}
use mathlib.Core.List.{List}
use Prim.Native.Nat.{ℕ, ◌+◌, ◌-◌}
use native.Mathlib.Omega.{arith}
use lib.Dec.{leb, ltb, eqb}
use borrow.Author.Tests.{ltb-true, ltb-false, lt-ltb, le-ltb, le-leb, lt-leb, eq-eqb, ne_eqb, eqb-true, eqb-false}
use Rattle.model.specs.Fact.{Fact, unknown, Row}
use Rattle.model.specs.Opcode.{select}
use Rattle.model.specs.Sheet.{instruction}
use Rattle.model.specs.Tables.{cell_of}
use Rattle.model.specs.Transfer.{fact_for, target, copied, copied_n, instruction_fact, or_unknown, ConstantRule, load_int_rule, load_const_rule, copy_constant_rule, copy_n_constant_rule, shl_rule, or_rule, other_constant_rule, constant_rule, constant_fact, IndexRule, copy_index_rule, copy_n_index_rule, other_index_rule, index_rule, index_fact, iter_next, ContainerRule, new_rule, iter_init_rule, iter_next_rule, copy_container_rule, copy_n_container_rule, other_container_rule, container_rule, container_fact}
use Rattle.model.specs.Written.{in_range}
use Rattle.model.specs.declared.FactCell.{FactCell}
use Rattle.model.specs.declared.Instruction.{Instruction}
use Rattle.model.specs.declared.AnalysisKind.{AnalysisKind}
use Rattle.model.specs.declared.AnalysisKind.TheVariants.{Constant, IndexCheck, Container}
use Rattle.fact_row.specs.Target.{target_cell}
use Rattle.fact_row.proofs.TargetCell.{targeted, untargeted}
use Rattle.transfer_facts.specs.Effect.{effect_cell, fact_written, iterates, effect_by, effect_of}
use Rattle.transfer_facts.specs.declared.Effect.{Effect}
use Rattle.transfer_facts.specs.declared.Effect.TheVariants.{Filled, Copied}
use Rattle.fact_row.proofs.NoteFacts.{no_container}

-- ---- containers

-- of an opcode with no rule of its own the note gives the fact, or none
module _ (sheet : List ℕ) (pc : ℕ) (inst : Instruction) (is : inst ≡ instruction sheet pc) (slots : List ℕ) (row : Row) (slot : ℕ) where
  abbrev container : Fact
  container = container_fact (container_rule inst.op) sheet pc slots row slot

  pub by_note : inst.op ≢ 3 → inst.op ≢ 94 → inst.op ≢ 95 → inst.op ≢ 4 → {r : FactCell} → r ≡ cell_of (or_unknown (instruction_fact sheet pc)) → target_cell (eqb inst.a slot) r ≡ cell_of container
  unfolding container_rule select container_fact or_unknown
  by_note n3 n94 n95 n4 {r} e = go (eqb inst.op 89) refl (eqb inst.op 96) refl
    where
      go : (m : Bool) → eqb inst.op 89 ≡ m → (q : Bool) → eqb inst.op 96 ≡ q → target_cell (eqb inst.a slot) r ≡ cell_of container
      go true p q u = rw (eqb-true inst.op 89 p, ← is) (targeted (eqb inst.a slot) _ e)
      go false p true u = rw (eqb-true inst.op 96 u, ← is) (targeted (eqb inst.a slot) _ e)
      go false p false u =
          rw (p, u, ne_eqb inst.op 94 n94, ne_eqb inst.op 95 n95, ne_eqb inst.op 3 n3, ne_eqb inst.op 4 n4)
          (untargeted (eqb inst.a slot) (e ∙ ap cell_of (no_container sheet pc (ap (λ (x : Instruction). x.op) is) (eqb-false inst.op 89 p) (eqb-false inst.op 96 u))))

-- ---- a fact that is found at one slot of those that get it

-- a range of one slot
pub one_slot : (slot a : ℕ) → in_range slot a 1 ≡ eqb a slot
unfolding in_range
one_slot slot a = go (ltb slot a) refl (ltb a slot) refl
  where
    go : (t : Bool) → ltb slot a ≡ t → (u : Bool) → ltb a slot ≡ u → (leb a slot && ltb slot (a + 1)) ≡ eqb a slot
    go true p u q = rw (lt-leb a slot (ltb-true slot a p), ne_eqb a slot (λ e. omega (arith, ltb-true slot a p)))
    go false p true q =
        rw (
          le-leb a slot (ltb-false slot a p),
          le-ltb slot (a + 1) (omega (arith, ltb-true a slot q)),
          ne_eqb a slot (λ e. omega (arith, ltb-true a slot q)),
        )
    go false p false q =
        rw (
          le-leb a slot (ltb-false slot a p),
          lt-ltb slot (a + 1) (omega (arith, ltb-false a slot q)),
          eq-eqb a slot (omega (arith, ltb-false slot a p, ltb-false a slot q)),
        )

-- the range of seven slots holds its first
first_of_seven : (b : ℕ) → in_range b b 7 ≡ true
unfolding in_range
first_of_seven b = rw (le-leb b b (omega arith), lt-ltb b (b + 7) (omega arith))

again : (t : Bool) {u : Bool} (f : Fact) → u ≡ true → target t f ≡ target t (target u f)
unfolding target
again t f e = rw e

nothing : (t : Bool) → unknown ≡ target t unknown
unfolding target
nothing true = refl
nothing false = refl

module _ (inst : Instruction) (slots : List ℕ) (row : Row) (slot : ℕ) where
  a_is_a : eqb inst.a inst.a ≡ true
  a_is_a = eq-eqb inst.a inst.a refl

  module _ (sheet : List ℕ) where
    abbrev OneConstant : ConstantRule → Type 0
    OneConstant rule = constant_fact rule sheet inst slots row slot ≡ target (eqb inst.a slot) (constant_fact rule sheet inst slots row inst.a)

    constants_but : (int const copy shl or : Bool)
        → OneConstant (cond int load_int_rule (cond const load_const_rule (cond copy copy_constant_rule (cond false copy_n_constant_rule (cond shl shl_rule (cond or or_rule other_constant_rule))))))
    unfolding constant_fact copied
    constants_but true const copy shl or = again _ _ a_is_a
    constants_but false true copy shl or = again _ _ a_is_a
    constants_but false false true shl or = again _ _ a_is_a
    constants_but false false false true or = again _ _ a_is_a
    constants_but false false false false true = again _ _ a_is_a
    constants_but false false false false false = nothing _

    one_constant : (op : ℕ) → op ≢ 4 → OneConstant (constant_rule op)
    unfolding constant_rule select
    one_constant op n = rw (ne_eqb op 4 n) (constants_but (eqb op 1) (eqb op 2) (eqb op 3) (eqb op 53) (eqb op 49))

  abbrev OneIndex : IndexRule → Type 0
  OneIndex rule = index_fact rule inst slots row slot ≡ target (eqb inst.a slot) (index_fact rule inst slots row inst.a)

  indices_but : (copy : Bool) → OneIndex (cond copy copy_index_rule (cond false copy_n_index_rule other_index_rule))
  unfolding index_fact copied
  indices_but true = again _ _ a_is_a
  indices_but false = nothing _

  one_index : (op : ℕ) → op ≢ 4 → OneIndex (index_rule op)
  unfolding index_rule select
  one_index op n = rw (ne_eqb op 4 n) (indices_but (eqb op 3))

module _ (sheet : List ℕ) (pc : ℕ) (slots : List ℕ) (row : Row) (slot : ℕ) where
  abbrev OneContainer : ContainerRule → Type 0
  OneContainer rule = container_fact rule sheet pc slots row slot ≡ target (eqb (instruction sheet pc).a slot) (container_fact rule sheet pc slots row (instruction sheet pc).a)

  containers_but : (map queue init copy : Bool)
      → OneContainer (cond map new_rule (cond queue new_rule (cond init iter_init_rule (cond false iter_next_rule (cond copy copy_container_rule (cond false copy_n_container_rule other_container_rule))))))
  unfolding container_fact copied
  containers_but true queue init copy = again _ _ (a_is_a (instruction sheet pc) slots row slot)
  containers_but false true init copy = again _ _ (a_is_a (instruction sheet pc) slots row slot)
  containers_but false false true copy = again _ _ (a_is_a (instruction sheet pc) slots row slot)
  containers_but false false false true = again _ _ (a_is_a (instruction sheet pc) slots row slot)
  containers_but false false false false = nothing _

  one_container : (op : ℕ) → op ≢ 4 → eqb op 95 ≡ false → OneContainer (container_rule op)
  unfolding container_rule select
  one_container op n i = rw (ne_eqb op 4 n, i) (containers_but (eqb op 89) (eqb op 96) (eqb op 94) (eqb op 3))

  seven_containers : (op : ℕ) → eqb op 95 ≡ true
      → container_fact (container_rule op) sheet pc slots row slot ≡ target (in_range slot (instruction sheet pc).b 7) (container_fact (container_rule op) sheet pc slots row (instruction sheet pc).b)
  unfolding container_rule select container_fact
  seven_containers op i = rw (eqb-true op 95 i) (again _ _ (first_of_seven (instruction sheet pc).b))

  -- ---- the effect, slot by slot

  module _ (which : AnalysisKind) where
    abbrev written : ℕ → Fact
    written = fact_written which sheet pc slots row

    copied_n_lem : (which : AnalysisKind) → (instruction sheet pc).op ≡ 4
        → target (in_range slot (instruction sheet pc).a (instruction sheet pc).c) (fact_for slots row ((instruction sheet pc).b + (slot - (instruction sheet pc).a))) ≡ fact_written which sheet pc slots row slot
    unfolding fact_written constant_rule constant_fact index_rule index_fact container_rule container_fact select copied_n
    copied_n_lem Constant h = rw h
    copied_n_lem IndexCheck h = rw h
    copied_n_lem Container h = rw h

    one_written : (which : AnalysisKind) → (instruction sheet pc).op ≢ 4 → iterates which (instruction sheet pc).op ≡ false
        → fact_written which sheet pc slots row slot ≡ target (eqb (instruction sheet pc).a slot) (fact_written which sheet pc slots row (instruction sheet pc).a)
    unfolding fact_written iterates
    one_written Constant n i = one_constant (instruction sheet pc) slots row slot sheet (instruction sheet pc).op n
    one_written IndexCheck n i = one_index (instruction sheet pc) slots row slot (instruction sheet pc).op n
    one_written Container n i = one_container (instruction sheet pc).op n i

    seven_written : (which : AnalysisKind) → iterates which (instruction sheet pc).op ≡ true
        → fact_written which sheet pc slots row slot ≡ target (in_range slot (instruction sheet pc).b 7) (fact_written which sheet pc slots row (instruction sheet pc).b)
    unfolding fact_written iterates
    seven_written Constant i = absurd (false≢true i)
    seven_written IndexCheck i = absurd (false≢true i)
    seven_written Container i = seven_containers (instruction sheet pc).op i

    by_effect : (copy seven : Bool) → eqb (instruction sheet pc).op 4 ≡ copy → iterates which (instruction sheet pc).op ≡ seven
        → effect_cell (effect_by copy seven which sheet pc slots row) slots row slot ≡ cell_of (written slot)
    unfolding effect_cell effect_by
    by_effect true seven p q =
        targeted (in_range slot (instruction sheet pc).a (instruction sheet pc).c) (fact_for slots row ((instruction sheet pc).b + (slot - (instruction sheet pc).a))) refl
        ∙ ap cell_of (copied_n_lem which (eqb-true (instruction sheet pc).op 4 p))
    by_effect false true p q =
        targeted (in_range slot (instruction sheet pc).b 7) (written (instruction sheet pc).b) refl ∙ ap cell_of (sym (seven_written which q))
    by_effect false false p q =
        ap (λ (t : Bool). target_cell t (cell_of (written (instruction sheet pc).a))) (one_slot slot (instruction sheet pc).a)
        ∙ targeted (eqb (instruction sheet pc).a slot) (written (instruction sheet pc).a) refl
        ∙ ap cell_of (sym (one_written which (eqb-false (instruction sheet pc).op 4 p) q))

    -- each slot that is written becomes what `model` says of it
    pub effect_cells : effect_cell (effect_of which sheet pc slots row) slots row slot ≡ cell_of (written slot)
    unfolding effect_of
    effect_cells = by_effect (eqb (instruction sheet pc).op 4) (iterates which (instruction sheet pc).op) refl refl

-- ---- what the code finds

at_target : (a : ℕ) {cell r : FactCell} → target_cell (eqb a a) cell ≡ r → cell ≡ r
unfolding target_cell
at_target a e = rw (eq-eqb a a refl) at e

module _ (sheet : List ℕ) (pc : ℕ) (slots : List ℕ) (row : Row) where
  -- an effect of the instruction at pc is found from the instruction read there
  read_there : (effect : Instruction → Effect) (Asked : Instruction → Type 0) (which : AnalysisKind) (inst : Instruction) → inst ≡ instruction sheet pc
      → (Asked (instruction sheet pc) → effect (instruction sheet pc) ≡ effect_of which sheet pc slots row) → Asked inst → effect inst ≡ effect_of which sheet pc slots row
  read_there effect Asked which inst is h = subst (λ (i : Instruction). Asked i → effect i ≡ effect_of which sheet pc slots row) (sym is) h

  copies : (which : AnalysisKind) → (instruction sheet pc).op ≡ 4
      → Copied (instruction sheet pc).a (instruction sheet pc).c (instruction sheet pc).b ≡ effect_of which sheet pc slots row
  unfolding effect_of effect_by
  copies which h = rw h

  fills : (which : AnalysisKind) → (instruction sheet pc).op ≢ 4 → iterates which (instruction sheet pc).op ≡ false → {cell : FactCell}
      → cell ≡ cell_of (fact_written which sheet pc slots row (instruction sheet pc).a) → Filled (instruction sheet pc).a 1 cell ≡ effect_of which sheet pc slots row
  unfolding effect_of effect_by
  fills which n i e = rw (ne_eqb (instruction sheet pc).op 4 n, i) (ap (Filled (instruction sheet pc).a 1) e)

  iterated : (op : ℕ) → op ≡ 95 → container_fact (container_rule op) sheet pc slots row (instruction sheet pc).b ≡ iter_next (fact_for slots row (instruction sheet pc).b)
  unfolding container_rule select container_fact target
  iterated op h = rw (h, first_of_seven (instruction sheet pc).b)

  fills_seven : (instruction sheet pc).op ≡ 95 → {cell : FactCell} → cell ≡ cell_of (iter_next (fact_for slots row (instruction sheet pc).b))
      → Filled (instruction sheet pc).b 7 cell ≡ effect_of Container sheet pc slots row
  unfolding effect_of effect_by iterates fact_written
  fills_seven h {cell} e =
      rw (ne_eqb (instruction sheet pc).op 4 (λ q. omega arith), eq-eqb (instruction sheet pc).op 95 h)
      (ap (Filled (instruction sheet pc).b 7) (e ∙ ap cell_of (sym (iterated (instruction sheet pc).op h))))

  module _ (inst : Instruction) (is : inst ≡ instruction sheet pc) where
    -- CopyN
    pub copies_n : (which : AnalysisKind) → inst.op ≡ 4 → Copied inst.a inst.c inst.b ≡ effect_of which sheet pc slots row
    copies_n which = read_there (λ i. Copied i.a i.c i.b) (λ i. i.op ≡ 4) which inst is (copies which)

    pub constant_effect : {which : AnalysisKind} → which ≡ Constant → inst.op ≢ 4 → {cell : FactCell}
        → ((slot : ℕ) → target_cell (eqb inst.a slot) cell ≡ cell_of (constant_fact (constant_rule inst.op) sheet inst slots row slot))
        → Filled inst.a 1 cell ≡ effect_of which sheet pc slots row
    unfolding iterates fact_written
    constant_effect w n {cell} e =
        rw w
        (read_there (λ i. Filled i.a 1 cell)
        (λ i. (i.op ≢ 4) × ((slot : ℕ) → target_cell (eqb i.a slot) cell ≡ cell_of (constant_fact (constant_rule i.op) sheet i slots row slot))) Constant inst is
        (λ h. fills Constant h.0 refl (at_target (instruction sheet pc).a (h.1 (instruction sheet pc).a))) (n, e))

    pub index_effect : {which : AnalysisKind} → which ≡ IndexCheck → inst.op ≢ 4 → {cell : FactCell}
        → ((slot : ℕ) → target_cell (eqb inst.a slot) cell ≡ cell_of (index_fact (index_rule inst.op) inst slots row slot))
        → Filled inst.a 1 cell ≡ effect_of which sheet pc slots row
    unfolding iterates fact_written
    index_effect w n {cell} e =
        rw w
        (read_there (λ i. Filled i.a 1 cell)
        (λ i. (i.op ≢ 4) × ((slot : ℕ) → target_cell (eqb i.a slot) cell ≡ cell_of (index_fact (index_rule i.op) i slots row slot))) IndexCheck inst is
        (λ h. fills IndexCheck h.0 refl (at_target (instruction sheet pc).a (h.1 (instruction sheet pc).a))) (n, e))

    pub container_effect : inst.op ≢ 95 → inst.op ≢ 4 → {cell : FactCell}
        → ((slot : ℕ) → target_cell (eqb inst.a slot) cell ≡ cell_of (container_fact (container_rule inst.op) sheet pc slots row slot))
        → Filled inst.a 1 cell ≡ effect_of Container sheet pc slots row
    unfolding iterates fact_written
    container_effect m n {cell} e =
        read_there (λ i. Filled i.a 1 cell)
        (λ i. (i.op ≢ 95) × (i.op ≢ 4) × ((slot : ℕ) → target_cell (eqb i.a slot) cell ≡ cell_of (container_fact (container_rule i.op) sheet pc slots row slot))) Container inst is
        (λ h. fills Container h.1 (ne_eqb (instruction sheet pc).op 95 h.0) (at_target (instruction sheet pc).a (h.2 (instruction sheet pc).a))) (m, n, e)

    -- MapIterNext
    pub iterates_on : inst.op ≡ 95 → {cell : FactCell} → cell ≡ cell_of (iter_next (fact_for slots row inst.b)) → Filled inst.b 7 cell ≡ effect_of Container sheet pc slots row
    iterates_on h {cell} e =
        read_there (λ i. Filled i.b 7 cell) (λ i. (i.op ≡ 95) × (cell ≡ cell_of (iter_next (fact_for slots row i.b)))) Container inst is
        (λ h. fills_seven h.0 h.1) (h, e)
