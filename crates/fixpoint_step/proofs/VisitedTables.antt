-- What a visit does to tables in which rows lie.
-- Assumes nothing.
use mathlib.Core.Path.{◌≡◌, refl, sym, ap, ◌∙◌}
use mathlib.Core.Logic.{◌≢◌, ◌⊎◌, inl, inr}
use mathlib.Core.Bool.{Bool, true}
use mathlib.Core.List.{List, map}
use mathlib.Core.Option.{Option, none, some}
use Prim.Native.Nat.{ℕ, ◌+◌, ◌*◌, ◌-◌, ◌<◌}
use native.Mathlib.Omega.{arith}
use lib.ListN.{length, get_or, set}
use lib.Seq.{set-get_or}
use borrow.Rule.Slice.PartMut.{mid_of, put_mid, Post-is}
use Rattle.model.specs.Fact.{Fact, kind, value, Row, join_row}
use Rattle.model.specs.Run.{row_at, merged, news}
use Rattle.model.specs.Tables.{present_byte, present_bytes, row_cells, cells, TableSlices, table_slices, RowsLie, RowSlices, row_slices, RowLies, facts_in}
use Rattle.finality.proofs.Joins.{length-join_row}
use Rattle.finality.proofs.Cells.{Sized, length_present, present_at, present_set, cells_part, cells_set}
use Rattle.finality.proofs.Invariant.{stored}
use Rattle.join.specs.Rows.{JoinedRow}
use Rattle.fixpoint_step.specs.News.{rows_visited}
use Rattle.fixpoint_step.specs.Visits.{JoinRequires, JoinEnsures}
use Rattle.model.proofs.Facts.{read_back, lies_back, lies_kinds, row_below}

-- as many rows as present bytes
pub rows_are : {s : ℕ} {rows : List (Option Row)} {t : TableSlices} → RowsLie s rows t → length t.present ≡ length rows
rows_are {rows = rows} l = ap length l.present_are ∙ length_present rows

-- ---- a part of the tables

module _ (f : Fact → ℕ) (s q : ℕ) (rows : List (Option Row)) (sized : Sized s rows) (h : q < length rows) where
  put_row : (o : Option Row) → put_mid (q * s) (q * s + s - q * s) (cells f s rows) (row_cells f s o) ≡ cells f s (set rows q o)
  put_row o = rw (Post-is (q * s) (q * s + s) (cells f s rows) (omega arith)) (sym (cells_set f s rows q o sized h))

  put_part : (cs part : List ℕ) (x : Row) → cs ≡ cells f s rows → part ≡ map f x
      → put_mid (q * s) (q * s + s - q * s) cs part ≡ cells f s (set rows q (some x))
  unfolding row_cells
  put_part cs part x e k = rw (e, k) (put_row (some x))

  pub mid_row : mid_of (q * s) (q * s + s - q * s) (cells f s rows) ≡ row_cells f s (row_at rows q)
  mid_row = let e : q * s + s - q * s ≡ s = omega arith in rw e (cells_part f s rows q sized h)

sized_set : (s q : ℕ) (rows : List (Option Row)) (x : Row) → Sized s rows → q < length rows → length x ≡ s → Sized s (set rows q (some x))
sized_set s q rows x z h l p r e = go (stored rows q x p r h e)
  where
    go : ((p ≡ q) × (r ≡ x)) ⊎ (row_at rows p ≡ some r) → length r ≡ s
    go (inl w) = rw w.1 l
    go (inr k) = z p r k

not_there : (o : Option Row) → present_byte o ≡ 0 → o ≡ none
unfolding present_byte
not_there none e = refl
not_there (some r) e = absurd (omega arith)

there : (o : Option Row) → present_byte o ≢ 0 → (r : Row) × (o ≡ some r)
unfolding present_byte
there none e = absurd (e refl)
there (some r) e = (r, refl)

-- the row of q, as a part of both tables
abbrev pub row_part : ℕ → ℕ → TableSlices → RowSlices
row_part s q t = row_slices (mid_of (q * s) (q * s + s - q * s) t.kinds) (mid_of (q * s) (q * s + s - q * s) t.values)

pub part_lies : (s q : ℕ) {rows : List (Option Row)} {t : TableSlices} → RowsLie s rows t → {row : Row} → row_at rows q ≡ some row → RowLies row (row_part s q t)
unfolding row_cells
part_lies s q {rows} l {row} e =
    let h = row_below rows q row e in record {
      kinds_are = ap (mid_of (q * s) (q * s + s - q * s)) l.kinds_are ∙ mid_row kind s q rows l.sized h ∙ ap (row_cells kind s) e;
      values_are = ap (mid_of (q * s) (q * s + s - q * s)) l.values_are ∙ mid_row value s q rows l.sized h ∙ ap (row_cells value s) e;
    }

-- and the tables with another row there
abbrev with_row : ℕ → ℕ → TableSlices → List ℕ → RowSlices → TableSlices
with_row s q t present row =
    table_slices present (put_mid (q * s) (q * s + s - q * s) t.kinds row.kinds) (put_mid (q * s) (q * s + s - q * s) t.values row.values)

-- ---- the two ways of a visit

module _ (same : ℕ → ℕ → ℕ → ℕ → Bool) where
  length_merged : (s : ℕ) (o : Option Row) (copy : Row) → length copy ≡ s → ((r : Row) → o ≡ some r → length r ≡ s) → length (merged same o copy) ≡ s
  unfolding merged
  length_merged s none copy h k = h
  length_merged s (some old) copy h k = length-join_row same old copy ∙ k old refl

  module _ (q : ℕ) (t : TableSlices) (row new : RowSlices) where
    abbrev s : ℕ
    s = length row.kinds

    pub visit_absent : get_or t.present q 0 ≡ 0 → new.kinds ≡ row.kinds → new.values ≡ row.values
        → JoinEnsures same q t row (with_row (length row.kinds) q t (set t.present q 1) new) true
    unfolding JoinEnsures rows_visited merged news present_byte
    visit_absent e k v rows copy l c h = (
      record {
        sized = sized_set s q rows x l.sized h (length_merged s (row_at rows q) copy (sym (lies_kinds c)) (l.sized q));
        present_are = rw l.present_are (sym (present_set rows q (some x)));
        kinds_are = put_part kind s q rows l.sized h t.kinds new.kinds x l.kinds_are (k ∙ c.kinds_are ∙ ap (map kind) (sym is_copy));
        values_are = put_part value s q rows l.sized h t.values new.values x l.values_are (v ∙ c.values_are ∙ ap (map value) (sym is_copy));
      },
      rw m,
    )
      where
        x : Row
        x = merged same (row_at rows q) copy

        m : row_at rows q ≡ none
        m = not_there (row_at rows q) (sym (present_at rows q) ∙ (rw l.present_are at e))

        is_copy : x ≡ copy
        is_copy = rw m

    -- where the row stands
    module _ (r : Bool) (j : JoinedRow same (row_part (length row.kinds) q t) row new r) (rows : List (Option Row)) (copy : Row)
        (l : RowsLie (length row.kinds) rows t) (c : RowLies copy row) (h : q < length rows) (old : Row) (m : row_at rows q ≡ some old) where
      old_is : facts_in (row_part (length row.kinds) q t) ≡ old
      old_is = read_back (part_lies s q l m)

      visit_there : RowsLie (length row.kinds) (set rows q (some (merged same (row_at rows q) copy))) (with_row (length row.kinds) q t t.present new)
          × (r ≡ news same (row_at rows q) copy)
      unfolding merged news present_byte
      visit_there = (
        record {
          sized = sized_set s q rows (merged same (row_at rows q) copy) l.sized h (length_merged s (row_at rows q) copy (sym (lies_kinds c)) (l.sized q));
          present_are = l.present_are ∙ sym (set-get_or (present_bytes rows) q 0) ∙ rw (present_at rows q, m) (sym (present_set rows q (some (join_row same old copy))));
          kinds_are = rw m (put_part kind s q rows l.sized h t.kinds new.kinds (join_row same old copy) l.kinds_are (rw (old_is, read_back c) at j.lies.kinds_are));
          values_are = rw m (put_part value s q rows l.sized h t.values new.values (join_row same old copy) l.values_are (rw (old_is, read_back c) at j.lies.values_are));
        },
        rw m (rw (old_is, read_back c) at j.changed_is),
      )

    pub visit_present : (r : Bool) → get_or t.present q 0 ≢ 0 → JoinedRow same (row_part (length row.kinds) q t) row new r
        → JoinEnsures same q t row (with_row (length row.kinds) q t t.present new) r
    unfolding JoinEnsures rows_visited
    visit_present r e j rows copy l c h =
        let found : (o : Row) × (row_at rows q ≡ some o) = there (row_at rows q) (λ z. e (rw l.present_are (present_at rows q ∙ z))) in
        visit_there r j rows copy l c h found.0 found.1

-- ---- what a visit asks, put to use

module _ {q : ℕ} {t : TableSlices} {row : RowSlices} (v : JoinRequires q t row) where
  -- a row that stands there is a row of facts
  pub visiting_row : get_or t.present q 0 ≢ 0 → RowLies (facts_in (row_part (length row.kinds) q t)) (row_part (length row.kinds) q t)
  visiting_row e =
      let l = v.visitable.rows_lie in
      let found : (o : Row) × (row_at v.visitable.rows q ≡ some o) = there (row_at v.visitable.rows q) (λ z. e (rw l.present_are (present_at v.visitable.rows q ∙ z))) in
      lies_back (part_lies (length row.kinds) q l found.1)
