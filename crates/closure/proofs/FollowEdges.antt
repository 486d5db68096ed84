-- The edges to one slot: what an instruction has of them, and how they are followed.
-- Assumes nothing.
use Rattle.std.proofs.Common.{◌≡◌, ℕ, zero, suc, ◌+◌, ◌-◌, ◌*◌, ◌%◌, ◌^◌, ◌<◌, ◌≤◌, Bool, true, false, ◌&&◌, ltb, ◌⊎◌, List, [], ◌∷◌, ◌++◌, length, get_or, sym, refl, ap, ◌∙◌, inl, inr, append-nil, eq-or-lt_of_le, add-one, arith, length-append, lt-ltb, eq-eqb, ne_eqb}
use lib.Bits.{bit_and}
use Rattle.model.specs.Count.{collect}
use Rattle.model.specs.Sheet.{code_count, local_slots, instruction}
use Rattle.model.specs.Dependencies.{FactDependency, edge_if, edge, Depends, depends, instruction_edges, keep_if, edges_into, edges_to}
use Rattle.model.specs.Closure.{Marked, mark, follow_unless, follow}
use Rattle.model.specs.Opcode.{select}
use Rattle.model.specs.declared.Instruction.{Instruction}
use Rattle.closure_edges.specs.Rows.{row, edge_row_if, rows, dependence_by, dependence}
use Rattle.closure_marks.specs.Marks.{Steps, slots_in, mark_all}
use Rattle.closure.specs.Sources.{edges_from, edges_in, only_if, Follows}
use Rattle.closure_edges.specs.declared.Dependence.{Dependence}
use Rattle.closure_marks.specs.declared.mark.SlotMarks.{SlotMarks}
use Rattle.closure.specs.declared.follow.SlotEdges.{SlotEdges}
use Rattle.closure_edges.proofs.EdgeRows.{below_or_not, by_rule}
use Rattle.closure_edges.proofs.EdgesToSlot.{into_append, edge_other, row_misses, misses, span_misses}
use Rattle.closure_edges.specs.Links.{bucket, link_at}
use Rattle.closure_edges.specs.Chain.{edges_at, Silent, Chain, ended, linked, ChainsTold}
use Rattle.closure_edges.specs.declared.Link.{Link}
use Rattle.closure_marks.proofs.Marks.{steps_self, steps_on, steps_as}

-- ---- those of a row that lead to d

module _ (l d kinds : ℕ) where
  edge_same : (s : ℕ) → d < l → edges_into d (edge l d s kinds) ≡ edges_from d kinds (only_if (ltb s l) s)
  unfolding edge edge_if edges_into keep_if edges_from only_if
  edge_same s h = rw (lt-ltb d l h) (go (ltb s l))
    where
      go : (t : Bool) → edges_into d (edge_if t d s kinds) ≡ edges_from d kinds (only_if t s)
      go true = rw (eq-eqb d d refl)
      go false = refl

  row_hits : (a b span i : ℕ) → d ≡ a + i → i < span → d < l → edges_into d (row l a b kinds span) ≡ edges_from d kinds (only_if (ltb (b + i) l) (b + i))
  unfolding row collect
  row_hits a b zero i e h k = let never : ⊥ = omega arith in absurd never
  row_hits a b (suc j) i e h k = into_append d (row l a b kinds j) (edge l (a + j) (b + j) kinds) ∙ go (eq-or-lt_of_le h) (λ m. row_hits a b j i e m k)
    where
      go : (suc i ≡ suc j) ⊎ (suc i < suc j) → (i < j → edges_into d (row l a b kinds j) ≡ edges_from d kinds (only_if (ltb (b + i) l) (b + i)))
          → edges_into d (row l a b kinds j) ++ edges_into d (edge l (a + j) (b + j) kinds) ≡ edges_from d kinds (only_if (ltb (b + i) l) (b + i))
      go (inl w) before =
          let p : a + j ≡ d = omega arith in
          let q : b + i ≡ b + j = omega arith in
          rw (row_misses l d kinds a b j (inr (omega arith)), p, q) (edge_same (b + j) k)
      go (inr m) before = rw (before (omega arith), edge_other l d kinds (a + j) (b + j) (λ w. omega arith)) (append-nil (edges_from d kinds (only_if (ltb (b + i) l) (b + i))))

-- ---- those of an instruction

from_append : (d kinds : ℕ) (xs ys : List ℕ) → edges_from d kinds (xs ++ ys) ≡ edges_from d kinds xs ++ edges_from d kinds ys
unfolding edges_from
from_append d kinds [] ys = refl
from_append d kinds (x ∷ xs) ys = ap (λ (es : List FactDependency). record { destination = d; source = x; kinds = kinds } ∷ es) (from_append d kinds xs ys)

-- how many they are
pub length_from : (d kinds : ℕ) (ss : List ℕ) → length (edges_from d kinds ss) ≡ length ss
unfolding edges_from
length_from d kinds [] = refl
length_from d kinds (s ∷ ss) = ap suc (length_from d kinds ss)

module _ (l d : ℕ) (inst : Instruction) (r : Dependence) (are : rows r l inst ≡ instruction_edges l inst) (e : SlotEdges) (mask : e.kinds ≡ r.kinds) where
  met : (ss : List ℕ) → slots_in e.sources ≡ ss → edges_into d (rows r l inst) ≡ edges_from d r.kinds ss → edges_in d e ≡ edges_into d (instruction_edges l inst)
  unfolding edges_in
  met ss h k = rw (mask, h) (sym k ∙ ap (edges_into d) are)

  hits : (i : ℕ) → d ≡ inst.a + i → i < r.span → d < l
      → edges_into d (rows r l inst) ≡ edges_from d r.kinds (only_if (ltb (inst.b + i) l) (inst.b + i) ++ only_if (r.fold && ltb (inst.c + i) l) (inst.c + i))
  unfolding rows edge_row_if edges_from edges_into only_if
  hits i p h k =
      into_append d (row l inst.a inst.b r.kinds r.span) _
      ∙ rw (row_hits l d r.kinds inst.a inst.b r.span i p h k, from_append d r.kinds (only_if (ltb (inst.b + i) l) (inst.b + i)) (only_if (r.fold && ltb (inst.c + i) l) (inst.c + i)), go r.fold)
    where
      go : (t : Bool) → edges_into d (edge_row_if t l inst.a inst.c r.kinds r.span) ≡ edges_from d r.kinds (only_if (t && ltb (inst.c + i) l) (inst.c + i))
      go true = row_hits l d r.kinds inst.a inst.c r.span i p h k
      go false = refl

  pub met_none : (d < inst.a) ⊎ (inst.a + r.span ≤ d) → slots_in e.sources ≡ [] → edges_in d e ≡ edges_into d (instruction_edges l inst)
  unfolding edges_from
  met_none h k = met [] k (misses l d inst r h)

  pub met_some : (i : ℕ) → d ≡ inst.a + i → i < r.span → d < l
      → slots_in e.sources ≡ only_if (ltb (inst.b + i) l) (inst.b + i) ++ only_if (r.fold && ltb (inst.c + i) l) (inst.c + i)
      → edges_in d e ≡ edges_into d (instruction_edges l inst)
  met_some i p h k w = met _ w (hits i p h k)

-- ---- how far they lead

-- CopyN's edges to c slots
pub copy_n_reach : (inst : Instruction) → inst.op ≡ 4 → (dependence inst).span ≤ inst.c
unfolding depends select dependence_by
copy_n_reach inst e = rw e (omega arith)

-- and the others' to one
pub other_reach : (inst : Instruction) → (inst.op ≡ 4 → ⊥) → (dependence inst).span ≤ 1
unfolding dependence_by
other_reach inst h = by_rule (λ (r : Depends). (dependence_by r inst).span ≤ 1) inst.op h (omega arith) (omega arith) (omega arith) (omega arith)

-- the test of the code: `past` is d less a, modulo 2^64
pub outside_reach : (inst : Instruction) {count past : ℕ} → (dependence inst).span ≤ count → (l d : ℕ) → (past + inst.a) % 2 ^ 64 ≡ d → past < 2 ^ 64 → inst.a ≤ 65535 → count ≤ past
    → edges_into d (instruction_edges l inst) ≡ []
outside_reach inst {count} {past} r l d e fits small h = span_misses l d inst (go (below_or_not (past + inst.a) (2 ^ 64)))
  where
    go : (past + inst.a < 2 ^ 64) ⊎ (2 ^ 64 ≤ past + inst.a) → (d < inst.a) ⊎ (inst.a + (dependence inst).span ≤ d)
    go (inl k) = inr (omega arith)
    go (inr k) = inl (omega arith)

-- ---- following

pub empty_of : {X : Type 0} (xs : List X) → length xs ≡ 0 → xs ≡ []
empty_of [] e = refl
empty_of (x ∷ xs) e = let never : ⊥ = omega arith in absurd never

module _ (bit : ℕ) where
  follow_append : (xs ys : List FactDependency) (m : Marked) → follow bit (xs ++ ys) m ≡ follow bit ys (follow bit xs m)
  unfolding follow
  follow_append [] ys m = refl
  follow_append (x ∷ xs) ys m = follow_append xs ys _

  module _ (d kinds : ℕ) where
    -- edges of another mask
    passed_over : bit_and kinds bit ≡ 0 → (ss : List ℕ) (m : Marked) → follow bit (edges_from d kinds ss) m ≡ m
    unfolding follow follow_unless edges_from
    passed_over h [] m = refl
    passed_over h (s ∷ ss) m = ap (λ (t : Bool). follow bit (edges_from d kinds ss) (follow_unless t s m)) (eq-eqb (bit_and kinds bit) 0 h) ∙ passed_over h ss m

    -- and of this one
    marks_all : (bit_and kinds bit ≡ 0 → ⊥) → (ss : List ℕ) (m : Marked) → follow bit (edges_from d kinds ss) m ≡ mark_all ss m
    unfolding follow follow_unless edges_from mark_all
    marks_all h [] m = refl
    marks_all h (s ∷ ss) m = ap (λ (t : Bool). follow bit (edges_from d kinds ss) (follow_unless t s m)) (ne_eqb (bit_and kinds bit) 0 h) ∙ marks_all h ss (mark s m)

  -- no edge at all
  pub followed_nothing : {es : List FactDependency} {old : SlotMarks} → es ≡ [] → Follows bit es old old 0
  unfolding follow
  followed_nothing e = rw e (record { counts = refl; goes = steps_self (λ m. refl) })

  module _ (d : ℕ) (e : SlotEdges) {es : List FactDependency} (is : edges_in d e ≡ es) {count : ℕ} (many : count ≡ length (slots_in e.sources)) where
    counted_all : count ≡ length es
    unfolding edges_in
    counted_all = omega (arith, many, length_from d e.kinds (slots_in e.sources), ap length is)

    pub followed_zero : {old : SlotMarks} → count ≡ 0 → Follows bit es old old 0
    followed_zero h = followed_nothing (empty_of es (omega (arith, counted_all, h)))

    pub followed_none : {old : SlotMarks} → bit_and e.kinds bit ≡ 0 → Follows bit es old old count
    unfolding edges_in
    followed_none h = record {
      counts = counted_all;
      goes = steps_self (λ m. ap (λ (fs : List FactDependency). follow bit fs m) (sym is) ∙ passed_over d e.kinds h (slots_in e.sources) m);
    }

    pub followed_some : {old new : SlotMarks} → (bit_and e.kinds bit ≡ 0 → ⊥) → Steps (mark_all (slots_in e.sources)) old new → Follows bit es old new count
    unfolding edges_in
    followed_some h g = record {
      counts = counted_all;
      goes = steps_as g (follow bit es) (λ m. ap (λ (fs : List FactDependency). follow bit fs m) (sym is) ∙ marks_all d e.kinds h (slots_in e.sources) m);
    }

  -- one list of edges after another
  pub follows_on : (xs ys : List FactDependency) {old mid new : SlotMarks} {n k : ℕ}
      → Follows bit xs old mid n → Follows bit ys mid new k → Follows bit (xs ++ ys) old new (n + k)
  follows_on xs ys p q = record {
    counts = omega (arith, p.counts, q.counts, length-append xs ys);
    goes = steps_on p.goes (follow bit (xs ++ ys)) q.goes (λ m. follow_append xs ys m);
  }

-- ---- the instructions one after the other

pub follows_none : (bit : ℕ) (sheet : List ℕ) (d : ℕ) (old : SlotMarks) → Follows bit (collect (edges_at sheet d) 0) old old 0
unfolding collect follow
follows_none bit sheet d old = record { counts = refl; goes = steps_self (λ m. refl) }

pub follows_more : (bit : ℕ) (sheet : List ℕ) (d pc l : ℕ) (inst : Instruction) {old mid new : SlotMarks} {n k : ℕ}
    → Follows bit (collect (edges_at sheet d) pc) old mid n → inst ≡ instruction sheet pc → l ≡ local_slots sheet
    → Follows bit (edges_into d (instruction_edges l inst)) mid new k
    → Follows bit (collect (edges_at sheet d) (pc + 1)) old new (n + k)
unfolding collect edges_at
follows_more bit sheet d pc l inst p e k q = rw add-one (follows_on bit (collect (edges_at sheet d) pc) (edges_at sheet d pc) p (rw (e, k) at q))

pub follows_below : (bit : ℕ) (sheet : List ℕ) (d : ℕ) {pc end n : ℕ} {old new : SlotMarks} → pc ≤ end → end ≤ pc → n ≤ pc * 255
    → Follows bit (collect (edges_at sheet d) pc) old new n → (n ≤ end * 255) × Follows bit (collect (edges_at sheet d) end) old new n
follows_below bit sheet d {pc} {end} h k small p = let e : end ≡ pc = omega arith in (rw e small, rw e p)

pub follows_all : (which-bit bit : ℕ) (sheet : List ℕ) (d : ℕ) {n count : ℕ} {old new : SlotMarks}
    → bit ≡ which-bit → n ≡ code_count sheet → Follows bit (collect (edges_at sheet d) n) old new count
    → Follows which-bit (edges_to sheet d) old new count
unfolding edges_to edges_at
follows_all which-bit bit sheet d w e p = rw (w, e) at p

-- ---- the instructions of a chain

module _ (sheet : List ℕ) (d : ℕ) where
  -- instructions without edges add none
  skipped : (lo hi : ℕ) → lo ≤ hi → Silent sheet d lo hi → collect (edges_at sheet d) hi ≡ collect (edges_at sheet d) lo
  unfolding collect
  skipped zero zero h s = refl
  skipped (suc lo) zero h s = absurd (omega arith)
  skipped lo (suc hi) h s = go (eq-or-lt_of_le h) (skipped lo hi)
    where
      go : (lo ≡ suc hi) ⊎ (lo < suc hi) → (lo ≤ hi → Silent sheet d lo hi → collect (edges_at sheet d) hi ≡ collect (edges_at sheet d) lo)
          → collect (edges_at sheet d) hi ++ edges_at sheet d hi ≡ collect (edges_at sheet d) lo
      go (inl e) earlier = rw e
      go (inr m) earlier =
          rw (s.none hi (omega arith) (omega arith)) (append-nil (collect (edges_at sheet d) hi) ∙ earlier (omega arith) (record { none = λ pc k l. s.none pc k (omega arith) }))

  -- what a link tells
  pub record NextLink (entries : List Link) (link lo : ℕ) : Type 0 where
    pub made : link ≤ length entries
    pub back : (link_at entries (link - 1)).next < link
    pub later : lo ≤ (link_at entries (link - 1)).pc
    pub code : (link_at entries (link - 1)).pc < code_count sheet
    pub silent : Silent sheet d lo (link_at entries (link - 1)).pc
    pub rest : Chain sheet entries d (link_at entries (link - 1)).next ((link_at entries (link - 1)).pc + 1)

  next : {entries : List Link} {link lo : ℕ} → 0 < link → Chain sheet entries d link lo → NextLink entries link lo
  next some (ended e s) = absurd (omega arith)
  next {link = link} some (linked {i = i} e inside back later code s rest) =
      let k : link - 1 ≡ i = omega arith in
      record { made = omega arith; back = rw k (omega arith); later = rw k later; code = rw k code; silent = rw k s; rest = rw k rest }

  chain_end : {entries : List Link} {link lo : ℕ} → link ≤ 0 → Chain sheet entries d link lo → Silent sheet d lo (code_count sheet)
  chain_end none (ended e s) = s
  chain_end none (linked e inside back later code s rest) = absurd (omega arith)

  -- The edges of the instructions below lo are followed, and the chain tells the others.
  pub record ChainWalked (entries : List Link) (bit : ℕ) (old new : SlotMarks) (count link : ℕ) : Type 0 where
    pub lo : ℕ
    pub inside : lo ≤ code_count sheet
    pub chain : Chain sheet entries d link lo
    pub small : count ≤ lo * 255
    pub follows : Follows bit (collect (edges_at sheet d) lo) old new count

  pub chain_walked_none : {entries : List Link} {from bit : ℕ} {old new : SlotMarks} {count link : ℕ} → from ≤ code_count sheet → Chain sheet entries d link from
      → count ≤ from * 255 → Follows bit (collect (edges_at sheet d) from) old new count → ChainWalked entries bit old new count link
  chain_walked_none {from = from} h c k f = record {
    lo = from;
    inside = h;
    chain = c;
    small = k;
    follows = f;
  }

  module _ {entries : List Link} {bit : ℕ} {old mid : SlotMarks} {count link : ℕ} (w : ChainWalked entries bit old mid count link) where
    pub walked_next : 0 < link → NextLink entries link w.lo
    walked_next some = next some w.chain

    pub chain_walked_more : (some : 0 < link) {at : Link} → at ≡ link_at entries (link - 1) → {inst : Instruction} {l : ℕ} {new : SlotMarks} {k : ℕ}
        → inst ≡ instruction sheet at.pc → l ≡ local_slots sheet
        → k ≤ 255 → Follows bit (edges_into d (instruction_edges l inst)) mid new k
        → ChainWalked entries bit old new (count + k) at.next
    unfolding collect edges_at
    chain_walked_more some {at} is {k = more} e k small f =
        let n = walked_next some in
        let p = at.pc in
        let later : w.lo ≤ p = rw is n.later in
        let silent : Silent sheet d w.lo p = rw is n.silent in
        let same : collect (edges_at sheet d) p ≡ collect (edges_at sheet d) w.lo = skipped w.lo p later silent in
        record {
          lo = p + 1;
          inside = rw is (omega (arith, n.code));
          chain = rw is n.rest;
          small = omega (arith, w.small, later, small);
          follows = rw (add-one p) (follows_on bit (collect (edges_at sheet d) p) (edges_at sheet d p) (rw same w.follows) (rw (e, k) at f));
        }

    pub walked_done : link ≤ 0 → {which-bit : ℕ} → bit ≡ which-bit → Follows which-bit (edges_to sheet d) old mid count
    unfolding edges_to edges_at
    walked_done none e =
        let all = skipped w.lo (code_count sheet) w.inside (chain_end none w.chain) in
        rw (e, ← all) at w.follows

-- the chain of a slot's bucket
pub chain_of : {sheet heads : List ℕ} {entries : List Link} {from : ℕ} → ChainsTold sheet heads entries from → (d : ℕ) {l : ℕ} → l ≡ local_slots sheet → d < l
    → Chain sheet entries d (get_or heads (bucket d) 0) from
chain_of told d e h = told.chain d (rw e at h)
