-- The tables that `graph_of` fills tell the edges to each slot.
-- Assumes nothing.
use mathlib.Core.Path.{◌≡◌, refl, sym, ◌∙◌}
use mathlib.Core.Bool.{Bool, true, false, cond}
use mathlib.Core.Logic.{◌⊎◌, inl, inr}
use mathlib.Core.List.{List, []}
use Prim.Native.Nat.{ℕ, zero, suc, ◌+◌, ◌-◌, ◌≤◌, ◌<◌}
use native.Mathlib.Nat.{eq-or-lt_of_le}
use native.Mathlib.Numerals.{add-one}
use native.Mathlib.Omega.{arith}
use lib.Dec.{leb, ltb, eqb}
use lib.ListN.{length, get_or, set, length-set, length-replicate}
use lib.Seq.{get_or-set_same, get_or-set_other}
use borrow.Author.Tests.{leb-true, ltb-true, ltb-false, eqb-true, eqb-false}
use Rattle.model.specs.Sheet.{code_count, local_slots, instruction}
use Rattle.model.specs.Dependencies.{instruction_edges, edges_into}
use Rattle.model.specs.Call.{zeros}
use Rattle.model.specs.declared.Instruction.{Instruction}
use Rattle.closure_edges.specs.Rows.{dependence}
use Rattle.closure_edges.proofs.EdgeRows.{below_or_not}
use Rattle.closure_edges.proofs.EdgesToSlot.{span_misses}
use Rattle.finality.proofs.Memory.{zeros_read}
use Rattle.closure_edges.specs.Links.{bucket, buckets_if, end_of, buckets_of, link_at, Links, links, link, link_each, Graph, graph, buckets_at, link_down, graph_of}
use Rattle.closure_edges.specs.Chain.{edges_at, Silent, Chain, ended, linked, ChainsTold, Chained, Tells}
use Rattle.closure_edges.specs.declared.Buckets.{Buckets}
use Rattle.closure_edges.specs.declared.Link.{Link}
use Rattle.closure_edges.specs.declared.Chains.{Chains}
use Rattle.closure_edges.proofs.BucketOrder.{bucket_below, bucket_order, buckets_few}
use Rattle.closure_edges.proofs.ChainLoops.{each_used, each_room}

-- ---- buckets

-- whether a bucket is among some that follow each other
outside_or_inside : (b : Buckets) (k : ℕ) → ((k < b.first) ⊎ (b.first + b.count ≤ k)) ⊎ ((b.first ≤ k) × (k < b.first + b.count))
outside_or_inside b k = go (below_or_not k b.first) (below_or_not k (b.first + b.count))
  where
    go : (k < b.first) ⊎ (b.first ≤ k) → (k < b.first + b.count) ⊎ (b.first + b.count ≤ k)
        → ((k < b.first) ⊎ (b.first + b.count ≤ k)) ⊎ ((b.first ≤ k) × (k < b.first + b.count))
    go (inl h) m = inl (inl h)
    go (inr h) (inl m) = inr (h, m)
    go (inr h) (inr m) = inl (inr m)

-- an instruction has no edge to a slot whose bucket is not among its own
module _ (l d : ℕ) (inst : Instruction) (small : d < l) where
  buckets_miss : (t : Bool) → ltb inst.a (end_of l inst) ≡ t
      → (bucket d < (buckets_if t inst.a (end_of l inst)).first) ⊎ ((buckets_if t inst.a (end_of l inst)).first + (buckets_if t inst.a (end_of l inst)).count ≤ bucket d)
      → (d < inst.a) ⊎ (inst.a + (dependence inst).span ≤ d)
  unfolding buckets_if
  buckets_miss true e (inl h) = inl (bucket_below d inst.a h)
  buckets_miss true e (inr h) =
      let some : inst.a < end_of l inst = ltb-true _ _ e in
      let up = bucket_order inst.a (end_of l inst - 1) (omega arith) in
      let past = bucket_below (end_of l inst - 1) d (omega arith) in
      inr (omega arith)
  buckets_miss false e h = go (below_or_not d inst.a)
    where
      go : (d < inst.a) ⊎ (inst.a ≤ d) → (d < inst.a) ⊎ (inst.a + (dependence inst).span ≤ d)
      go (inl k) = inl k
      go (inr k) = let none : end_of l inst ≤ inst.a = ltb-false _ _ e in inr (omega arith)

  pub outside_none : (bucket d < (buckets_of l inst).first) ⊎ ((buckets_of l inst).first + (buckets_of l inst).count ≤ bucket d) → edges_into d (instruction_edges l inst) ≡ []
  unfolding buckets_of
  outside_none h = span_misses l d inst (buckets_miss _ refl h)

-- ---- chains

module _ (sheet : List ℕ) (d : ℕ) where
  -- a chain from one instruction later, where that one has no edge
  pub chain_earlier : {entries : List Link} {e pc : ℕ} → edges_at sheet d pc ≡ [] → Chain sheet entries d e (suc pc) → Chain sheet entries d e pc
  chain_earlier {entries} {e} {pc} h c = go c
    where
      at : {hi : ℕ} → Silent sheet d (suc pc) hi → (p : ℕ) → p < hi → (pc ≡ p) ⊎ (pc < p) → edges_at sheet d p ≡ []
      at s p m (inl q) = rw (sym q) h
      at s p m (inr q) = s.none p q m

      earlier : {hi : ℕ} → Silent sheet d (suc pc) hi → Silent sheet d pc hi
      earlier s = record { none = λ p k m. at s p m (eq-or-lt_of_le k) }

      go : Chain sheet entries d e (suc pc) → Chain sheet entries d e pc
      go (ended q s) = ended q (earlier s)
      go (linked q inside back later code s rest) = linked {pc = pc} q inside back (omega arith) code (earlier s) rest

  -- a link more, behind those of the chain
  pub chain_kept : {entries : List Link} (used : ℕ) (x : Link) {e pc : ℕ} → e ≤ used → Chain sheet entries d e pc → Chain sheet (set entries used x) d e pc
  chain_kept used x h (ended q s) = ended q s
  chain_kept {entries} used x {e} {pc} h (linked {i = i} q inside back later code s rest) =
      let n : link_at (set entries used x) i ≡ link_at entries i = get_or-set_other entries used i x _ (λ z. omega arith) in
      linked {pc = pc} q (rw (length-set entries used x) inside) (rw n back) (rw n later) (rw n code) (rw n s) (rw n (chain_kept used x (omega arith) rest))

-- ---- the tables while they are filled

module _ (sheet : List ℕ) where
  -- what the tables tell of d, from instruction pc on
  abbrev At : ℕ → ℕ → Links → Type 0
  At d pc t = Chain sheet t.entries d (get_or t.heads (bucket d) 0) pc

  -- a head is a link that is used, or none
  record Filled (t : Links) : Type 0 where
    wide : length t.heads ≡ 2048
    room : t.used ≤ length t.entries
    below : (k : ℕ) → get_or t.heads k 0 ≤ t.used

  module _ (pc : ℕ) (code : pc < code_count sheet) where
    -- a link to the instruction
    abbrev new : ℕ → Links → Link
    new k t = record { pc = pc; next = get_or t.heads k 0 }

    module _ (k : ℕ) (t : Links) (f : Filled t) (more : t.used < length t.entries) where
      link_filled : k < 2048 → Filled (link pc k t)
      unfolding link
      link_filled h = record {
        wide = length-set t.heads k (t.used + 1) ∙ f.wide;
        room = rw (length-set t.entries t.used (new k t)) (omega arith);
        below = λ j. go j (eqb j k) refl;
      }
        where
          go : (j : ℕ) (b : Bool) → eqb j k ≡ b → get_or (set t.heads k (t.used + 1)) j 0 ≤ t.used + 1
          go j true e = rw (eqb-true j k e, get_or-set_same t.heads k (t.used + 1) 0 (omega (arith, f.wide))) (omega arith)
          go j false e = rw (get_or-set_other t.heads k j (t.used + 1) 0 (eqb-false j k e)) (omega (arith, f.below j))

      link_kept : (d lo : ℕ) → (bucket d ≡ k → ⊥) → At d lo t → At d lo (link pc k t)
      unfolding link
      link_kept d lo apart c =
          rw (get_or-set_other t.heads k (bucket d) (t.used + 1) 0 apart)
          (chain_kept sheet d t.used (new k t) (f.below _) c)

      link_linked : (d : ℕ) → bucket d ≡ k → k < 2048 → At d (suc pc) t → At d pc (link pc k t)
      unfolding link
      link_linked d same h c =
          let n : link_at (set t.entries t.used (new k t)) t.used ≡ new k t = get_or-set_same t.entries t.used (new k t) _ more in
          let e : get_or (set t.heads k (t.used + 1)) (bucket d) 0 ≡ suc t.used =
          rw (same, get_or-set_same t.heads k (t.used + 1) 0 (omega (arith, f.wide))) (omega arith) in
          linked {pc = pc} e (rw (length-set t.entries t.used (new k t)) more) (rw n (f.below k)) (rw n (omega arith)) (rw n code)
          (rw n (record { none = λ q m l. absurd (omega arith) })) (rw (n, add-one) (chain_kept sheet d t.used (new k t) (f.below k) (rw same at c)))

    module _ (first : ℕ) (t : Links) (f : Filled t) where
      each_more : (i : ℕ) → t.used + suc i ≤ length t.entries → (link_each pc first i t).used < length (link_each pc first i t).entries
      each_more i h = omega (arith, each_used pc first t i, each_room pc first t i)

      each_filled : (i : ℕ) → first + i ≤ 2048 → t.used + i ≤ length t.entries → Filled (link_each pc first i t)
      unfolding link_each
      each_filled zero w h = f
      each_filled (suc i) w h = link_filled (first + i) (link_each pc first i t) (each_filled i (omega arith) (omega arith)) (each_more i h) (omega arith)

      each_kept : (i : ℕ) → first + i ≤ 2048 → t.used + i ≤ length t.entries → (d lo : ℕ)
          → (bucket d < first) ⊎ (first + i ≤ bucket d) → At d lo t → At d lo (link_each pc first i t)
      unfolding link_each
      each_kept zero w h d lo o c = c
      each_kept (suc i) w h d lo o c =
          link_kept (first + i) (link_each pc first i t) (each_filled i (omega arith) (omega arith)) (each_more i h) d lo (apart o)
          (each_kept i (omega arith) (omega arith) d lo (fewer o) c)
        where
          apart : (bucket d < first) ⊎ (first + suc i ≤ bucket d) → bucket d ≡ first + i → ⊥
          apart (inl m) e = omega arith
          apart (inr m) e = omega arith

          fewer : (bucket d < first) ⊎ (first + suc i ≤ bucket d) → (bucket d < first) ⊎ (first + i ≤ bucket d)
          fewer (inl m) = inl m
          fewer (inr m) = inr (omega arith)

      each_linked : (i : ℕ) → first + i ≤ 2048 → t.used + i ≤ length t.entries → (d : ℕ)
          → first ≤ bucket d → bucket d < first + i → At d (suc pc) t → At d pc (link_each pc first i t)
      unfolding link_each
      each_linked zero w h d a b c = absurd (omega arith)
      each_linked (suc i) w h d a b c = go (eq-or-lt_of_le last) (each_linked i (omega arith) (omega arith) d a)
        where
          last : bucket d ≤ first + i
          last = omega arith

          before : Filled (link_each pc first i t)
          before = each_filled i (omega arith) (omega arith)

          go : (bucket d ≡ first + i) ⊎ (bucket d < first + i)
              → (bucket d < first + i → At d (suc pc) t → At d pc (link_each pc first i t))
              → At d pc (link pc (first + i) (link_each pc first i t))
          go (inl e) earlier = link_linked (first + i) (link_each pc first i t) before (each_more i h) d e (omega arith) (each_kept i (omega arith) (omega arith) d (suc pc) (inr (omega arith)) c)
          go (inr m) earlier = link_kept (first + i) (link_each pc first i t) before (each_more i h) d pc (λ e. omega arith) (earlier m c)

  -- ---- all instructions

  -- no instruction is linked
  unlinked : (heads : List ℕ) (entries : List Link) → ((k : ℕ) → get_or heads k 0 ≡ 0) → ChainsTold sheet heads entries (code_count sheet)
  unlinked heads entries none = record {
    inside = omega arith;
    chain = λ d l. ended {pc = code_count sheet} (none (bucket d)) (record { none = λ q m k. absurd (omega arith) });
  }

  -- the tables keep their lengths
  each_wide : (pc first : ℕ) (t : Links) (i : ℕ) → length (link_each pc first i t).heads ≡ length t.heads
  unfolding link_each link
  each_wide pc first t zero = refl
  each_wide pc first t (suc i) = simp length-set (each_wide pc first t i)

  record AsLong (t : Links) (g : Graph) : Type 0 where
    wide : length g.heads ≡ length t.heads
    entries_long : length g.entries ≡ length t.entries

  down_long : (pc : ℕ) (t : Links) → AsLong t (link_down sheet pc t)
  unfolding link_down
  down_long zero t = record { wide = refl; entries_long = refl }
  down_long (suc pc) t = go (leb (t.used + (buckets_at sheet pc).count) (length t.entries)) (down_long pc after)
    where
      after : Links
      after = link_each pc (buckets_at sheet pc).first (buckets_at sheet pc).count t

      go : (b : Bool) → AsLong after (link_down sheet pc after) → AsLong t (cond b (link_down sheet pc after) (graph t.heads t.entries (suc pc)))
      go true rest = record {
        wide = rest.wide ∙ each_wide pc (buckets_at sheet pc).first t (buckets_at sheet pc).count;
        entries_long = rest.entries_long ∙ each_room pc (buckets_at sheet pc).first t (buckets_at sheet pc).count;
      }
      go false rest = record { wide = refl; entries_long = refl }

  -- what a graph tells
  abbrev Tells_graph : Graph → Type 0
  Tells_graph g = ChainsTold sheet g.heads g.entries g.from

  module _ (small : local_slots sheet ≤ 65535) where
    -- what holds from one instruction on holds from the one before it, with its links
    instruction_linked : (pc : ℕ) (t : Links) → Filled t → pc < code_count sheet → t.used + (buckets_at sheet pc).count ≤ length t.entries → (d : ℕ) → d < local_slots sheet
        → At d (suc pc) t → At d pc (link_each pc (buckets_at sheet pc).first (buckets_at sheet pc).count t)
    unfolding edges_at
    instruction_linked pc t f code h d l c = go (outside_or_inside (buckets_at sheet pc) (bucket d))
      where
        few : (buckets_at sheet pc).first + (buckets_at sheet pc).count ≤ 2048
        few = buckets_few (local_slots sheet) (instruction sheet pc) small

        go : ((bucket d < (buckets_at sheet pc).first) ⊎ ((buckets_at sheet pc).first + (buckets_at sheet pc).count ≤ bucket d))
            ⊎ (((buckets_at sheet pc).first ≤ bucket d) × (bucket d < (buckets_at sheet pc).first + (buckets_at sheet pc).count))
            → At d pc (link_each pc (buckets_at sheet pc).first (buckets_at sheet pc).count t)
        go (inl o) = each_kept pc code _ t f (buckets_at sheet pc).count few h d pc o (chain_earlier sheet d (outside_none (local_slots sheet) d (instruction sheet pc) l o) c)
        go (inr (a, b)) = each_linked pc code _ t f (buckets_at sheet pc).count few h d a b c

    down_chained : (pc : ℕ) (t : Links) → Filled t → pc ≤ code_count sheet → ((d : ℕ) → d < local_slots sheet → At d pc t)
        → Tells_graph (link_down sheet pc t)
    unfolding link_down
    down_chained zero t f h c = record { inside = h; chain = c }
    down_chained (suc pc) t f h c = go (leb (t.used + (buckets_at sheet pc).count) (length t.entries)) refl (down_chained pc)
      where
        after : Links
        after = link_each pc (buckets_at sheet pc).first (buckets_at sheet pc).count t

        go : (b : Bool) → leb (t.used + (buckets_at sheet pc).count) (length t.entries) ≡ b
            → ((u : Links) → Filled u → pc ≤ code_count sheet → ((d : ℕ) → d < local_slots sheet → At d pc u)
            → Tells_graph (link_down sheet pc u))
            → Tells_graph (cond b (link_down sheet pc after) (graph t.heads t.entries (suc pc)))
        go true e rest =
            let room = leb-true _ _ e in
            rest after (each_filled pc h _ t f (buckets_at sheet pc).count (buckets_few (local_slots sheet) (instruction sheet pc) small) room) (omega arith)
            (λ d l. instruction_linked pc t f h room d l (c d l))
        go false e rest = record { inside = h; chain = c }

    -- the whole graph
    pub graph_told : (heads : List ℕ) (entries : List Link) → length heads ≡ 2048 → {g : Graph} → g ≡ graph_of sheet heads entries → Tells_graph g
    unfolding graph_of zeros
    graph_told heads entries w e =
        let none = unlinked (zeros heads) entries (zeros_read (length heads)) in
        rw e (down_chained (code_count sheet) (links (zeros heads) entries 0)
        (record { wide = length-replicate (length heads) 0 ∙ w; room = omega arith; below = λ k. rw (zeros_read (length heads) k) (omega arith) }) (omega arith) none.chain)

    -- and its tables are as long as those it was made of
    pub graph_chained : (heads : List ℕ) (entries : List Link) → length heads ≡ 2048 → length entries ≤ 65535 → {g : Graph} → g ≡ graph_of sheet heads entries
        → Chained sheet g.heads g.entries g.from
    unfolding graph_of zeros
    graph_chained heads entries w few {g} e =
        let long = down_long (code_count sheet) (links (zeros heads) entries 0) in
        record {
          wide = λ l. rw e (long.wide ∙ length-replicate (length heads) 0 ∙ w);
          few = rw e (omega (arith, long.entries_long));
          told = graph_told heads entries w e;
        }

  -- of chains the type says the rest
  pub tells_chained : (c : Chains) → Tells sheet c → Chained sheet c.heads.now c.links.now c.first
  tells_chained c told = record { wide = λ l. c.wide; few = c.few; told = told }
