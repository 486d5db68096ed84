-- What holds of every state of a run (`Good`), and that a step keeps it.
-- Assumes nothing.
use mathlib.Core.Path.{◌≡◌, refl, sym, ap, ◌∙◌}
use mathlib.Core.Bool.{Bool, true, false, cond}
use mathlib.Core.Logic.{◌⊎◌, inl, inr}
use mathlib.Core.List.Memᴰ.{cases_cons}
use mathlib.Core.List.Memᴰ.{head}
use mathlib.Core.List.Memᴰ.{not-nil}
use mathlib.Core.List.Memᴰ.{tail}
use mathlib.Core.List.{List, [], ◌∷◌, Memᴰ as Member}
use mathlib.Core.Option.{Option, none, some}
use Prim.Native.Nat.{ℕ, zero, suc, ◌+◌, ◌≤◌, ◌<◌}
use native.Mathlib.Omega.{arith}
use native.Mathlib.Decide.{ℕ_discrete}
use native.Mathlib.Nat.{not-suc-le-zero}
use lib.Dec.{eqb, eqb-suc-zero}
use lib.ListN.{length, set, replicate, length-set}
use lib.Seq.{get_or-set_same, get_or-set_other}
use Rattle.model.specs.Fact.{Row, join_row}
use Rattle.model.specs.Run.{Analysis, State, row_at, merged, news, visit, visits, carry, popped, bound}
use Rattle.model.specs.Demand.{Lawful, Reachable, along, Present, Settled}
use Rattle.finality.proofs.Joins.{length-join_row, join_row-twice, join_row-stays, join_row-self, join_row-same}
use Rattle.finality.proofs.Potential.{potential, potential_set, merged_le, merged_lt}

-- An instruction p with the row r owes its successors nothing, but those still pending where the copy is what it carries.
abbrev pub Owes : Analysis → Row → List ℕ → List (Option Row) → ℕ → Row → Type 0
Owes a copy pending rows p r = (q : ℕ) → Member q (a.successors p) → Settled a rows p r q ⊎ ((Member q pending) × (a.transfer p r ≡ copy))

-- What holds of every state of a run, also between two successors of a step: the copy has yet to go to `pending`.
pub record Good (a : Analysis) (copy : Row) (pending : List ℕ) (st : State) : Type 0 where
  pub size : length st.rows ≡ a.n
  pub row_length : (p : ℕ) (r : Row) → row_at st.rows p ≡ some r → length r ≡ a.s
  pub fits : st.count + (length st.list + potential a.s st.rows) ≤ bound a
  pub reached : (p : ℕ) (r : Row) → row_at st.rows p ≡ some r → Reachable a p
  pub root : Present st.rows 0
  pub open_rows : (p : ℕ) → Member p st.list → Present st.rows p
  pub listed : (p : ℕ) (r : Row) → row_at st.rows p ≡ some r → (Member p st.list) ⊎ Owes a copy pending st.rows p r

pub none_some : (r : Row) → ◌≡◌ {A = Option Row} none (some r) → ⊥
none_some r e = let z : ◌≡◌ {A = ℕ} 0 1 = cc in omega arith

pub eqb_pos : (m : ℕ) → 0 < m → eqb m 0 ≡ false
eqb_pos zero h = absurd (not-suc-le-zero h)
eqb_pos (suc m) h = eqb-suc-zero m

pub zero_or_above : (m : ℕ) → (m ≡ 0) ⊎ (0 < m)
zero_or_above zero = inl refl
zero_or_above (suc m) = inr (omega arith)

-- at first there is no row
pub row_at-replicate : (n p : ℕ) → row_at (replicate n none) p ≡ none
row_at-replicate zero p = refl
row_at-replicate (suc n) zero = refl
row_at-replicate (suc n) (suc p) = row_at-replicate n p

-- what stands at p after a store at q
pub stored : (rows : List (Option Row)) (q : ℕ) (x : Row) (p : ℕ) (r : Row) → q < length rows → row_at (set rows q (some x)) p ≡ some r
    → ((p ≡ q) × (r ≡ x)) ⊎ (row_at rows p ≡ some r)
stored rows q x p r h e = go (ℕ_discrete p q)
  where
    go : Dec (p ≡ q) → ((p ≡ q) × (r ≡ x)) ⊎ (row_at rows p ≡ some r)
    go (yes w) =
        let there : row_at (set rows q (some x)) p ≡ some x = rw w (get_or-set_same rows q (some x) none h) in
        inl (w, cc)
    go (no w) = inr (sym (get_or-set_other rows q p (some x) none w) ∙ e)

module _ (a : Analysis) (law : Lawful a) where
  open a use {n, s, successors, transfer, same, entry}

  -- what a row becomes has s facts
  merged_length : (o : Option Row) (copy : Row) → length copy ≡ s → ((r : Row) → o ≡ some r → length r ≡ s) → length (merged same o copy) ≡ s
  unfolding merged
  merged_length none copy h k = h
  merged_length (some old) copy h k = length-join_row same old copy ∙ k old refl

  -- the successor has taken the copy in
  merged_copy : (o : Option Row) (copy : Row) → join_row same (merged same o copy) copy ≡ merged same o copy
  unfolding merged
  merged_copy none copy = join_row-self same law.same_self copy
  merged_copy (some old) copy = join_row-twice same old copy

  -- what it had taken in before stays taken in
  merged_stays : (o : Option Row) (copy : Row) (t c : Row) → o ≡ some t → join_row same t c ≡ t → join_row same (merged same o copy) c ≡ merged same o copy
  unfolding merged
  merged_stays none copy t c e h = cc
  merged_stays (some old) copy t c e h =
      let o : old ≡ t = cc in
      join_row-stays same old copy c (cc)

  -- without news nothing is stored
  quiet : (o : Option Row) (copy : Row) → news same o copy ≡ false → some (merged same o copy) ≡ o
  unfolding merged news
  quiet none copy e = cc
  quiet (some old) copy e = ap some (join_row-same same old copy e)

  -- ---- one successor

  module _ (copy : Row) (q : ℕ) (qs : List ℕ) (st : State) (h : length copy ≡ s) (below : q < n) (way : Reachable a q)
      (g : Good a copy (q ∷ qs) st) where
    old : Option Row
    old = row_at st.rows q

    new : Row
    unfolding old
    new = merged same old copy

    inside : q < length st.rows
    inside = rw g.size below

    new_there : row_at (set st.rows q (some new)) q ≡ some new
    new_there = get_or-set_same st.rows q (some new) none inside

    settled_kept : (p : ℕ) (r : Row) (t : ℕ) → Settled a st.rows p r t → Settled a (set st.rows q (some new)) p r t
    unfolding new old
    settled_kept p r t k = go (ℕ_discrete t q)
      where
        go : Dec (t ≡ q) → Settled a (set st.rows q (some new)) p r t
        go (yes w) = record {
          row = new;
          present = rw w new_there;
          carried = k.carried;
          unchanged = merged_stays old copy k.row (transfer p r) (rw w at k.present) k.unchanged;
        }
        go (no w) = record {
          row = k.row;
          present = get_or-set_other st.rows q t (some new) none w ∙ k.present;
          carried = k.carried;
          unchanged = k.unchanged;
        }

    owes_kept : (p : ℕ) (r : Row) → Owes a copy (q ∷ qs) st.rows p r → Owes a copy qs (set st.rows q (some new)) p r
    unfolding new old
    owes_kept p r o t m = go (o t m)
      where
        taken : transfer p r ≡ copy → t ≡ q → Settled a (set st.rows q (some new)) p r t
        taken c w = record { row = new; present = rw w new_there; carried = rw c h; unchanged = rw c (merged_copy old copy) }

        go : Settled a st.rows p r t ⊎ ((Member t (q ∷ qs)) × (transfer p r ≡ copy))
            → Settled a (set st.rows q (some new)) p r t ⊎ ((Member t qs) × (transfer p r ≡ copy))
        go (inl k) = inl (settled_kept p r t k)
        go (inr x) = elim (cases_cons x.0) [ inl w ↦ inl (taken x.1 w) | inr m' ↦ inr (m', x.1) ]

    fits_kept : (b : Bool) → news same old copy ≡ b
        → st.count + (length (cond b (q ∷ st.list) st.list) + potential s (set st.rows q (some new))) ≤ bound a
    unfolding new old
    fits_kept true e = omega (arith, potential_set s st.rows q (some new) inside, merged_lt same s old copy h e, g.fits)
    fits_kept false e = omega (arith, potential_set s st.rows q (some new) inside, merged_le same s old copy h, g.fits)

    -- a row that stood before the visit
    listed_before : (b : Bool) (p : ℕ) (r : Row) → row_at st.rows p ≡ some r
        → (Member p (cond b (q ∷ st.list) st.list)) ⊎ Owes a copy qs (set st.rows q (some new)) p r
    listed_before b p r e = go b (g.listed p r e)
      where
        go : (b : Bool) → (Member p st.list) ⊎ Owes a copy (q ∷ qs) st.rows p r
            → (Member p (cond b (q ∷ st.list) st.list)) ⊎ Owes a copy qs (set st.rows q (some new)) p r
        go true (inl m) = inl (tail m)
        go false (inl m) = inl m
        go true (inr o) = inr (owes_kept p r o)
        go false (inr o) = inr (owes_kept p r o)

    listed_kept : (b : Bool) → news same old copy ≡ b → (p : ℕ) (r : Row) → row_at (set st.rows q (some new)) p ≡ some r
        → (Member p (cond b (q ∷ st.list) st.list)) ⊎ Owes a copy qs (set st.rows q (some new)) p r
    unfolding new old
    listed_kept b e p r x = go b e (stored st.rows q new p r inside x)
      where
        go : (b : Bool) → news same old copy ≡ b → ((p ≡ q) × (r ≡ new)) ⊎ (row_at st.rows p ≡ some r)
            → (Member p (cond b (q ∷ st.list) st.list)) ⊎ Owes a copy qs (set st.rows q (some new)) p r
        go true d (inl w) = inl (head w.0)
        go false d (inl w) = listed_before false p r (rw (w.0, w.1) (sym (quiet old copy d)))
        go true d (inr k) = listed_before true p r k
        go false d (inr k) = listed_before false p r k

    row_length_kept : (p : ℕ) (r : Row) → row_at (set st.rows q (some new)) p ≡ some r → length r ≡ s
    unfolding new old
    row_length_kept p r x = go (stored st.rows q new p r inside x)
      where
        go : ((p ≡ q) × (r ≡ new)) ⊎ (row_at st.rows p ≡ some r) → length r ≡ s
        go (inl w) = rw w.1 (merged_length old copy h (g.row_length q))
        go (inr k) = g.row_length p r k

    reached_kept : (p : ℕ) (r : Row) → row_at (set st.rows q (some new)) p ≡ some r → Reachable a p
    reached_kept p r x = go (stored st.rows q new p r inside x)
      where
        go : ((p ≡ q) × (r ≡ new)) ⊎ (row_at st.rows p ≡ some r) → Reachable a p
        go (inl w) = rw w.0 way
        go (inr k) = g.reached p r k

    present_kept : (p : ℕ) → Present st.rows p → Present (set st.rows q (some new)) p
    present_kept p x = go (ℕ_discrete p q)
      where
        go : Dec (p ≡ q) → Present (set st.rows q (some new)) p
        go (yes w) = (new, rw w new_there)
        go (no w) = (x.0, get_or-set_other st.rows q p (some new) none w ∙ x.1)

    open_kept : (b : Bool) (p : ℕ) → Member p (cond b (q ∷ st.list) st.list) → Present (set st.rows q (some new)) p
    open_kept true p (head w) = (new, rw w new_there)
    open_kept true p (tail m) = present_kept p (g.open_rows p m)
    open_kept false p m = present_kept p (g.open_rows p m)

    pub visit_good : Good a copy qs (visit same copy q st)
    unfolding visit new old
    visit_good = record {
      size = length-set st.rows q (some new) ∙ g.size;
      row_length = row_length_kept;
      fits = fits_kept (news same old copy) refl;
      reached = reached_kept;
      root = present_kept 0 g.root;
      open_rows = open_kept (news same old copy);
      listed = listed_kept (news same old copy) refl;
    }

  -- ---- a step

  visits_good : (copy : Row) (qs : List ℕ) (st : State) → length copy ≡ s → ((q : ℕ) → Member q qs → (q < n) × Reachable a q)
      → Good a copy qs st → Good a copy [] (visits same copy qs st)
  unfolding visits
  visits_good copy [] st h ok g = g
  visits_good copy (q ∷ qs) st h ok g =
      visits_good copy qs (visit same copy q st) h (λ t m. ok t (tail m))
      (visit_good copy q qs st h (ok q (head refl)).0 (ok q (head refl)).1 g)

  -- between two steps nothing is pending, so the copy does not matter
  other_copy : (c d : Row) (st : State) → Good a c [] st → Good a d [] st
  other_copy c d st g = record {
    size = g.size;
    row_length = g.row_length;
    fits = g.fits;
    reached = g.reached;
    root = g.root;
    open_rows = g.open_rows;
    listed = λ p r e. go p r (g.listed p r e);
  }
    where
      go : (p : ℕ) (r : Row) → (Member p st.list) ⊎ Owes a c [] st.rows p r → (Member p st.list) ⊎ Owes a d [] st.rows p r
      go p r (inl m) = inl m
      go p r (inr o) = inr (λ q m. elim (o q m) [ inl k ↦ inl k | inr x ↦ absurd (not-nil x.0) ])

  -- once p is taken off the list, it owes what is pending
  popped_good : (copy : Row) (pending : List ℕ) (p : ℕ) (ps : List ℕ) (st : State) → st.list ≡ p ∷ ps → Good a [] [] st
      → ((r : Row) → row_at st.rows p ≡ some r → Owes a copy pending st.rows p r) → Good a copy pending (popped a ps st)
  unfolding popped
  popped_good copy pending p ps st l g owed = record {
    size = g.size;
    row_length = g.row_length;
    reached = g.reached;
    root = g.root;
    fits = let k : length st.list ≡ suc (length ps) = ap length l in omega (arith, g.fits);
    open_rows = λ t m. g.open_rows t (rw l (tail m));
    listed = λ t r e. go t r e (rw l at (g.listed t r e));
  }
    where
      go : (t : ℕ) (r : Row) → row_at st.rows t ≡ some r → (Member t (p ∷ ps)) ⊎ Owes a [] [] st.rows t r
          → (Member t ps) ⊎ Owes a copy pending st.rows t r
      go t r e (inl m) = elim (cases_cons m) [ inl w ↦ inr (rw w (owed r (rw w at e))) | inr m' ↦ inl m' ]
      go t r e (inr o) = inr (λ q m. elim (o q m) [ inl k ↦ inl k | inr x ↦ absurd (not-nil x.0) ])

  -- the state between a pop and its first successor is good, with all successors pending
  pub popped_pending : (p : ℕ) (ps : List ℕ) (st : State) (r : Row) → st.list ≡ p ∷ ps → row_at st.rows p ≡ some r → Good a [] [] st
      → Good a (transfer p r) (successors p) (popped a ps st)
  popped_pending p ps st r l e g = popped_good (transfer p r) (successors p) p ps st l g owed
    where
      owed : (r' : Row) → row_at st.rows p ≡ some r' → Owes a (transfer p r) (successors p) st.rows p r'
      owed r' x q m = let w : r' ≡ r = cc in inr (m, ap (transfer p) w)

  pub carry_good : (p : ℕ) (ps : List ℕ) (st : State) (o : Option Row) → st.list ≡ p ∷ ps → row_at st.rows p ≡ o → Good a [] [] st
      → Good a [] [] (carry a p o (popped a ps st))
  unfolding carry
  carry_good p ps st none l e g = popped_good [] [] p ps st l g (λ r x. absurd (none_some r (sym e ∙ x)))
  carry_good p ps st (some r) l e g =
      other_copy copy [] (visits same copy (successors p) (popped a ps st))
      (visits_good copy (successors p) (popped a ps st) (law.transfer_length p r (g.row_length p r e))
      (λ q m. (law.successors_below p q m, along (g.reached p r e) m))
      (popped_pending p ps st r l e g))
    where
      copy : Row
      copy = transfer p r

  pub visits_count : (copy : Row) (qs : List ℕ) (st : State) → (visits same copy qs st).count ≡ st.count
  unfolding visits visit
  visits_count copy [] st = refl
  visits_count copy (q ∷ qs) st = visits_count copy qs (visit same copy q st)

  pub carry_count : (p : ℕ) (o : Option Row) (st : State) → (carry a p o st).count ≡ st.count
  unfolding carry
  carry_count p none st = refl
  carry_count p (some r) st = visits_count (transfer p r) (successors p) st
