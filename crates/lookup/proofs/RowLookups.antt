-- Lookups in the tables of rows: no question 9 refuses, and the answer is the row's fact.
-- Assumes nothing.
use mathlib.Core.Path.{◌≡◌, refl, sym, ap, ap₂, ◌∙◌}
use mathlib.Core.Bool.{Bool, true, false, cond}
use mathlib.Core.List.{List, [], ◌∷◌, map}
use mathlib.Core.Option.{Option, none, some}
use Prim.Native.Nat.{ℕ, zero, suc, ◌+◌, ◌*◌, ◌≤◌, ◌<◌}
use native.Mathlib.Omega.{arith}
use lib.Dec.{eqb}
use lib.ListN.{length, get_or, drop, get_or-map}
use lib.Seq.{get_or-take, get_or-drop}
use borrow.Author.Tests.{le-leb, eq-eqb}
use Rattle.model.specs.Count.{every}
use Rattle.model.specs.Fact.{Fact, unknown, kind, value, Row}
use Rattle.model.specs.Transfer.{fact_for}
use Rattle.model.specs.Run.{row_at}
use Rattle.model.specs.Tables.{present_byte, present_bytes, row_cells, cells}
use Rattle.model.specs.Lookup.{last_kind, ascends, place_from, place, tables_agree, cell_at, cell_found, kind_named, row_named, cell, or_damaged, fact_for_slot, reached_by, is_reachable, fixed_at, fixed}
use Rattle.model.specs.declared.AnalysisKind.{AnalysisKind}
use Rattle.model.specs.declared.AnalysisKind.TheVariants.{Constant}
use Rattle.finality.proofs.Cells.{Sized, length_present, present_at, length_cells, cells_part}
use Rattle.lookup.specs.Run.{tracked_fact, run_fact, run_reached}
use Rattle.lookup.proofs.NamedKinds.{Named, AllNamed}
use Rattle.lookup.proofs.LookupAnswers.{place_within}
use Rattle.model.proofs.Facts.{row_below}

-- the fact at a place is the slot's
fact_at : (i : ℕ) (slots : List ℕ) (row : Row) (slot j : ℕ) → length row ≡ length slots → place_from i slots slot ≡ some (i + j)
    → fact_for slots row slot ≡ get_or row j unknown
unfolding place_from fact_for
fact_at i [] row slot j h e = let z : ◌≡◌ {A = ℕ} 0 1 = cc in absurd (omega arith)
fact_at i (t ∷ ts) [] slot j h e = absurd (omega arith)
fact_at i (t ∷ ts) (f ∷ fs) slot j h e = go (λ k p. fact_at (suc i) ts fs slot k (omega arith) p) (eqb slot t) e
  where
    go : ((k : ℕ) → place_from (suc i) ts slot ≡ some (suc i + k) → fact_for ts fs slot ≡ get_or fs k unknown)
        → (b : Bool) → cond b (some i) (place_from (suc i) ts slot) ≡ some (i + j) → cond b f (fact_for ts fs slot) ≡ get_or (f ∷ fs) j unknown
    go later true p = let z : i ≡ i + j = cc in let k : j ≡ 0 = omega arith in rw k
    go later false p = past j (place_within (suc i) ts slot (i + j) p).0 p
      where
        past : (k : ℕ) → suc i ≤ i + k → place_from (suc i) ts slot ≡ some (i + k) → fact_for ts fs slot ≡ get_or (f ∷ fs) k unknown
        past zero l q = absurd (omega arith)
        past (suc k) l q = later k (q ∙ ap some (omega arith))

named_at : (last : ℕ) (row : Row) (j : ℕ) → Named last row → kind (get_or row j unknown) ≤ last
unfolding kind
named_at last [] j k = omega arith
named_at last (f ∷ fs) zero k = k.0
named_at last (f ∷ fs) (suc j) k = named_at last fs j k.1

module _ (slots : List ℕ) (rows : List (Option Row)) (order : ascends slots ≡ true) (sized : Sized (length slots) rows) where
  agree : tables_agree slots (present_bytes rows) (cells kind (length slots) rows) (cells value (length slots) rows) ≡ true
  unfolding tables_agree
  agree = rw (order, length_cells kind (length slots) rows sized, length_cells value (length slots) rows sized, length_present rows, eq-eqb (length rows * length slots) (length rows * length slots) refl)

  -- the cell at place j of a present row
  cell_is : (f : Fact → ℕ) (p j : ℕ) (r : Row) → f unknown ≡ 0 → j < length slots → row_at rows p ≡ some r
      → cell_at (length slots) (cells f (length slots) rows) p j ≡ f (get_or r j unknown)
  unfolding cell_at row_cells
  cell_is f p j r z h e =
      sym (get_or-take (length slots) (drop (p * length slots) (cells f (length slots) rows)) j 0 h ∙ get_or-drop (p * length slots) (cells f (length slots) rows) j 0)
      ∙ ap (λ (xs : List ℕ). get_or xs j 0) (cells_part f (length slots) rows p sized (row_below rows p r e) ∙ ap (row_cells f (length slots)) e)
      ∙ ap (get_or (map f r) j) (sym z)
      ∙ get_or-map f r j unknown

  module _ (last : ℕ) (named : AllNamed last rows) (slot : ℕ) where
    -- question 9 of a row
    row_named_lem : (p : ℕ) (o : Option Row) (j : Option ℕ) → row_at rows p ≡ o → place slots slot ≡ j
        → row_named last (length slots) (present_bytes rows) (cells kind (length slots) rows) j p ≡ true
    unfolding row_named kind_named present_byte place kind
    row_named_lem p none none e q = rw (present_at rows p, e)
    row_named_lem p none (some j) e q = rw (present_at rows p, e)
    row_named_lem p (some r) none e q = rw (present_at rows p, e)
    row_named_lem p (some r) (some j) e q =
        rw (present_at rows p, e, cell_is kind p j r refl (omega (arith, (place_within 0 slots slot j q).1)) e)
        (le-leb (kind (get_or r j unknown)) last (named_at last r j (named p r e)))

    -- the answer
    row_cell : (p : ℕ) (o : Option Row) (j : Option ℕ) → row_at rows p ≡ o → place slots slot ≡ j
        → cell (eqb (get_or (present_bytes rows) p 0) 1) (length slots) (cells kind (length slots) rows) (cells value (length slots) rows) p j ≡ run_fact slots o slot
    unfolding cell run_fact tracked_fact present_byte place kind value
    row_cell p none j e q = rw (present_at rows p, e)
    row_cell p (some r) none e q = rw (present_at rows p, e, q)
    row_cell p (some r) (some j) e q =
        let below : j < length slots = omega (arith, (place_within 0 slots slot j q).1) in
        let at : fact_for slots r slot ≡ get_or r j unknown = fact_at 0 slots r slot j (sized p r e) (q ∙ ap some (omega arith)) in
        rw (present_at rows p, e, q, at) (ap₂ cell_found (cell_is kind p j r refl below e) (cell_is value p j r refl below e))

  pub looked_up_lem : (which : AnalysisKind) → AllNamed (last_kind which) rows → (pc slot : ℕ)
      → fact_for_slot which slots (present_bytes rows) (cells kind (length slots) rows) (cells value (length slots) rows) pc slot ≡ run_fact slots (row_at rows pc) slot
  unfolding fact_for_slot or_damaged
  looked_up_lem which named pc slot =
      rw (agree, row_named_lem (last_kind which) named slot pc (row_at rows pc) (place slots slot) refl refl)
      (row_cell (last_kind which) named slot pc (row_at rows pc) (place slots slot) refl refl)

  every_row : (last : ℕ) → AllNamed last rows → (slot n : ℕ)
      → every (λ pc. row_named last (length slots) (present_bytes rows) (cells kind (length slots) rows) (place slots slot) pc) n ≡ true
  unfolding every
  every_row last named slot zero = refl
  every_row last named slot (suc n) = rw (every_row last named slot n, row_named_lem last named slot n (row_at rows n) (place slots slot) refl refl)

  -- "fixed" does not refuse: what it answers is what the instructions but 0 show
  pub fixed_up : AllNamed (last_kind Constant) rows → (slot : ℕ)
      → fixed slots (present_bytes rows) (cells kind (length slots) rows) (cells value (length slots) rows) slot
      ≡ fixed_at (length slots) (present_bytes rows) (cells kind (length slots) rows) (cells value (length slots) rows) (place slots slot)
  unfolding fixed or_damaged
  fixed_up named slot = rw (agree, every_row (last_kind Constant) named slot (length (present_bytes rows)))

pub reached_up : (rows : List (Option Row)) (pc : ℕ) → is_reachable (present_bytes rows) pc ≡ run_reached (row_at rows pc)
unfolding is_reachable reached_by present_byte run_reached
reached_up rows pc = rw (present_at rows pc) (go (row_at rows pc))
  where
    go : (o : Option Row) → reached_by (present_byte o) ≡ run_reached o
    go none = refl
    go (some r) = refl
