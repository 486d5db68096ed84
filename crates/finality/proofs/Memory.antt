-- Demand 3 of a run's rows is demand 3 of its tables as they lie in memory.
-- Assumes nothing.
use mathlib.Core.Path.{◌≡◌, refl, sym, ap, ◌∙◌}
use mathlib.Core.Logic.{◌⊎◌, inl, inr}
use mathlib.Core.List.{List, [], ◌∷◌, ◌++◌, map, Memᴰ as Member}
use mathlib.Core.Option.{Option, none, some}
use Prim.Native.Nat.{ℕ, zero, suc, ◌+◌, ◌*◌, ◌≤◌, ◌<◌}
use native.Mathlib.Nat.{mul-le-mul_right}
use native.Mathlib.Omega.{arith}
use lib.ListN.{length, get_or, take, drop, replicate, length-drop}
use lib.Seq.{take-append-le, drop-append-le}
use Rattle.model.specs.Fact.{Fact, kind, value, Row, join_row}
use Rattle.model.specs.Run.{Analysis, row_at}
use Rattle.model.specs.Tables.{present_byte, present_bytes, row_cells, cells, table_row}
use Rattle.model.specs.Demand.{Present, Settled, Final, Shows, SettledTable, FinalTable}
use Rattle.finality.proofs.Cells.{present_at, length_cells, cells_part}
use Rattle.model.proofs.Facts.{facts_back, row_below}

-- ---- tables with zeros behind them

-- past the end a table of bytes reads 0 all the same
pub zeros_read : (k p : ℕ) → ◌≡◌ {A = ℕ} (get_or (replicate k 0) p 0) 0
zeros_read zero p = refl
zeros_read (suc k) zero = refl
zeros_read (suc k) (suc p) = zeros_read k p

padded_read : (xs : List ℕ) (k p : ℕ) → get_or (xs ++ replicate k 0) p 0 ≡ get_or xs p 0
padded_read [] k p = zeros_read k p
padded_read (x ∷ xs) k zero = refl
padded_read (x ∷ xs) k (suc p) = padded_read xs k p

-- what lies inside a table is not touched by what lies behind it
padded_part : (xs ys : List ℕ) (at s : ℕ) → at + s ≤ length xs → take s (drop at (xs ++ ys)) ≡ take s (drop at xs)
padded_part xs ys at s h =
    let inside : at ≤ length xs = omega arith in
    let rest : s ≤ length (drop at xs) = omega (arith, length-drop at xs) in
    rw (drop-append-le, take-append-le)

row_inside : (p n s : ℕ) → p < n → p * s + s ≤ n * s
row_inside p n s h = omega (arith, mul-le-mul_right s h)

-- ---- rows and tables

-- the present byte is 1 exactly where there is a row
pub present_shown : (rows : List (Option Row)) (k p : ℕ) (r : Row) → row_at rows p ≡ some r → Shows (present_bytes rows ++ replicate k 0) p
unfolding present_byte
present_shown rows k p r e = rw (padded_read (present_bytes rows) k p, present_at rows p, e)

shown_row : (o : Option Row) → present_byte o ≡ 1 → (r : Row) × (o ≡ some r)
unfolding present_byte
shown_row none e = let z : ◌≡◌ {A = ℕ} 0 1 = cc in absurd (omega arith)
shown_row (some r) e = (r, refl)

-- every present byte is 0 or 1
byte_of : (o : Option Row) → (present_byte o ≡ 0) ⊎ (present_byte o ≡ 1)
unfolding present_byte
byte_of none = inl refl
byte_of (some r) = inr refl

zero_or_one : (rows : List (Option Row)) (k p : ℕ) → (get_or (present_bytes rows ++ replicate k 0) p 0 ≡ 0) ⊎ (get_or (present_bytes rows ++ replicate k 0) p 0 ≡ 1)
zero_or_one rows k p = rw (padded_read (present_bytes rows) k p, present_at rows p) (byte_of (row_at rows p))

pub row_shown : (rows : List (Option Row)) (k p : ℕ) → Shows (present_bytes rows ++ replicate k 0) p → Present rows p
row_shown rows k p e = shown_row (row_at rows p) (sym (padded_read (present_bytes rows) k p ∙ present_at rows p) ∙ e)

module _ (s : ℕ) (rows : List (Option Row)) (sized : (p : ℕ) (r : Row) → row_at rows p ≡ some r → length r ≡ s) (ks vs : List ℕ) where
  cells_at : (f : Fact → ℕ) (ys : List ℕ) (p : ℕ) (r : Row) → row_at rows p ≡ some r → take s (drop (p * s) (cells f s rows ++ ys)) ≡ map f r
  unfolding row_cells
  cells_at f ys p r e =
      let below : p < length rows = row_below rows p r e in
      padded_part (cells f s rows) ys (p * s) s (rw (length_cells f s rows sized) (row_inside p (length rows) s below))
      ∙ cells_part f s rows p sized below
      ∙ ap (row_cells f s) e

  -- the row of an instruction is the part of both tables from p × s
  pub row_part_lem : (p : ℕ) (r : Row) → row_at rows p ≡ some r → table_row s (cells kind s rows ++ ks) (cells value s rows ++ vs) p ≡ r
  unfolding table_row
  row_part_lem p r e = rw (cells_at kind ks p r e, cells_at value vs p r e) (facts_back r)

-- Final rows are final tables, with any number of zero present bytes and anything behind the kinds and the values.
module _ (a : Analysis) (rows : List (Option Row)) (f : Final a rows) (k : ℕ) (ks vs : List ℕ) where
  present : List ℕ
  present = present_bytes rows ++ replicate k 0

  kinds : List ℕ
  kinds = cells kind a.s rows ++ ks

  values : List ℕ
  values = cells value a.s rows ++ vs

  part : (p : ℕ) (r : Row) → row_at rows p ≡ some r → table_row a.s kinds values p ≡ r
  unfolding kinds values
  part = row_part_lem a.s rows f.row_length ks vs

  part_of : (g : Fact → ℕ) (ys : List ℕ) (q : ℕ) (r : Row) → row_at rows q ≡ some r → map g r ≡ take a.s (drop (q * a.s) (cells g a.s rows ++ ys))
  part_of g ys q r e = sym (cells_at a.s rows f.row_length ks vs g ys q r e)

  kinds_part : (q : ℕ) (r : Row) → row_at rows q ≡ some r → map kind r ≡ take a.s (drop (q * a.s) kinds)
  unfolding kinds
  kinds_part q r e = part_of kind ks q r e

  values_part : (q : ℕ) (r : Row) → row_at rows q ≡ some r → map value r ≡ take a.s (drop (q * a.s) values)
  unfolding values
  values_part q r e = part_of value vs q r e

  settled_table : (p : ℕ) → Present rows p → (q : ℕ) → Member q (a.successors p) → SettledTable a present kinds values p q
  unfolding present
  settled_table p x q m =
      let h : Settled a rows p x.0 q = f.settled p x.0 x.1 q m in
      let stays : join_row a.same (table_row a.s kinds values q) (a.transfer p (table_row a.s kinds values p)) ≡ table_row a.s kinds values q =
      rw (part p x.0 x.1, part q h.row h.present) h.unchanged in record {
        shows = present_shown rows k q h.row h.present;
        carried = rw (part p x.0 x.1) h.carried;
        unchanged = stays;
        kinds_stay = ap (map kind) (stays ∙ part q h.row h.present) ∙ kinds_part q h.row h.present;
        values_stay = ap (map value) (stays ∙ part q h.row h.present) ∙ values_part q h.row h.present;
      }

  pub final_table : FinalTable a (present_bytes rows ++ replicate k 0) (cells kind a.s rows ++ ks) (cells value a.s rows ++ vs)
  unfolding present kinds values
  final_table = record {
    zero_or_one = zero_or_one rows k;
    only_reachable = λ p e. f.only_reachable p (row_shown rows k p e);
    all_reachable = λ p w. let x : Present rows p = f.all_reachable p w in present_shown rows k p x.0 x.1;
    settled = λ p e q m. settled_table p (row_shown rows k p e) q m;
    row_length = λ p e. let x : Present rows p = row_shown rows k p e in rw (part p x.0 x.1) (f.row_length p x.0 x.1);
  }
