-- The laws of the flat tables: a row is the part of s cells from p × s; to store a row is to put another part there.
-- Assumes nothing.
use mathlib.Core.Path.{◌≡◌, refl, ap, ◌∙◌}
use mathlib.Core.List.{List, [], ◌∷◌, ◌++◌, append_assoc, reverse, reverse-cons}
use mathlib.Core.Option.{Option, none, some}
use Prim.Native.Nat.{ℕ, zero, suc, ◌+◌, ◌*◌, ◌-◌, ◌<◌}
use native.Mathlib.Nat.{le_of_suc-le-suc, not-suc-le-zero, zero-mul}
use native.Mathlib.Omega.{arith}
use lib.ListN.{length, get_or, set, take, drop, replicate, length-append, length-replicate, length-map, length-reverse}
use lib.Seq.{take_at, set_at, get_or_at, take-append-add, drop-append-add}
use Rattle.model.specs.Fact.{Fact, Row}
use Rattle.model.specs.Run.{row_at}
use Rattle.model.specs.Tables.{present_byte, present_bytes, row_cells, cells, stacked}

-- ---- present bytes

pub length_present : (rows : List (Option Row)) → length (present_bytes rows) ≡ length rows
unfolding present_bytes
length_present [] = refl
length_present (o ∷ os) = ap suc (length_present os)

pub present_at : (rows : List (Option Row)) (p : ℕ) → get_or (present_bytes rows) p 0 ≡ present_byte (row_at rows p)
unfolding present_bytes present_byte
present_at [] p = refl
present_at (o ∷ os) zero = refl
present_at (o ∷ os) (suc p) = present_at os p

pub present_set : (rows : List (Option Row)) (p : ℕ) (o : Option Row) → present_bytes (set rows p o) ≡ set (present_bytes rows) p (present_byte o)
unfolding present_bytes
present_set [] p o = refl
present_set (x ∷ xs) zero o = refl
present_set (x ∷ xs) (suc p) o = ap (λ (r : List ℕ). present_byte x ∷ r) (present_set xs p o)

-- ---- cells

-- behind a first part of s elements
take_past : (x y : List ℕ) (s k m : ℕ) → length x ≡ s → k ≡ s + m → take k (x ++ y) ≡ x ++ take m y
take_past x y s k m h e = rw (e, ← h) (take-append-add x y m)

drop_past : (x y : List ℕ) (s k m : ℕ) → length x ≡ s → k ≡ s + m → drop k (x ++ y) ≡ drop m y
drop_past x y s k m h e = rw (e, ← h) (drop-append-add x y m)

-- every row has s facts
abbrev pub Sized : ℕ → List (Option Row) → Type 0
Sized s rows = (p : ℕ) (r : Row) → row_at rows p ≡ some r → length r ≡ s

module _ (f : Fact → ℕ) (s : ℕ) where
  pub length-row_cells : (o : Option Row) → ((r : Row) → o ≡ some r → length r ≡ s) → length (row_cells f s o) ≡ s
  unfolding row_cells
  length-row_cells none h = length-replicate s 0
  length-row_cells (some r) h = length-map r f ∙ h r refl

  pub length_cells : (rows : List (Option Row)) → Sized s rows → length (cells f s rows) ≡ length rows * s
  unfolding cells
  length_cells [] h = omega arith
  length_cells (o ∷ os) h =
      omega (arith, length-append (row_cells f s o) (cells f s os), length-row_cells o (h 0), length_cells os (λ p r e. h (suc p) r e))

  -- the part that is the row of p
  pub cells_part : (rows : List (Option Row)) (p : ℕ) → Sized s rows → p < length rows
      → take s (drop (p * s) (cells f s rows)) ≡ row_cells f s (row_at rows p)
  unfolding cells
  cells_part [] p h l = absurd (not-suc-le-zero l)
  cells_part (o ∷ os) zero h l = rw zero-mul (take_at (row_cells f s o) (cells f s os) s (length-row_cells o (h 0)))
  cells_part (o ∷ os) (suc p) h l =
      rw (drop_past (row_cells f s o) (cells f s os) s (suc p * s) (p * s) (length-row_cells o (h 0)) (omega arith))
      (cells_part os p (λ q r e. h (suc q) r e) (le_of_suc-le-suc l))

  -- and what is put there
  pub cells_set : (rows : List (Option Row)) (p : ℕ) (o : Option Row) → Sized s rows → p < length rows
      → cells f s (set rows p o) ≡ take (p * s) (cells f s rows) ++ (row_cells f s o ++ drop (p * s + s) (cells f s rows))
  unfolding cells
  cells_set [] p o h l = absurd (not-suc-le-zero l)
  cells_set (x ∷ xs) zero o h l =
      rw (zero-mul s, drop_past (row_cells f s x) (cells f s xs) s (0 + s) 0 (length-row_cells x (h 0)) (omega arith))
  cells_set (x ∷ xs) (suc p) o h l =
      rw (
        take_past (row_cells f s x) (cells f s xs) s (suc p * s) (p * s) (length-row_cells x (h 0)) (omega arith),
        drop_past (row_cells f s x) (cells f s xs) s (suc p * s + s) (p * s + s) (length-row_cells x (h 0)) (omega arith),
        cells_set xs p o (λ q r e. h (suc q) r e) (le_of_suc-le-suc l),
        append_assoc (row_cells f s x) (take (p * s) (cells f s xs)) (row_cells f s o ++ drop (p * s + s) (cells f s xs)),
      )

-- ---- the work list

-- one more zero above
pub replicate_more : (k m : ℕ) → k ≡ suc m → ◌≡◌ {A = List ℕ} (replicate k 0) (0 ∷ replicate m 0)
replicate_more k m e = rw e

-- an entry is added
pub stacked_push : (room : ℕ) (list : List ℕ) (q : ℕ) → length list < room → set (stacked room list) (length list) q ≡ stacked room (q ∷ list)
unfolding stacked
stacked_push room list q h =
    rw (
      replicate_more (room - length list) (room - length (q ∷ list)) (omega arith),
      set_at (reverse list) 0 (replicate (room - length (q ∷ list)) 0) q (length list) (length-reverse list),
      reverse-cons q list,
      append_assoc,
    )

-- the entry added last is read
pub stacked_top : (room : ℕ) (p : ℕ) (ps : List ℕ) → get_or (stacked room (p ∷ ps)) (length ps) 0 ≡ p
unfolding stacked
stacked_top room p ps =
    rw (reverse-cons p ps, append_assoc)
    (get_or_at (reverse ps) p (replicate (room - length (p ∷ ps)) 0) 0 (length ps) (length-reverse ps))

-- and its place is zero again
pub stacked_pop : (room : ℕ) (p : ℕ) (ps : List ℕ) → length ps < room → set (stacked room (p ∷ ps)) (length ps) 0 ≡ stacked room ps
unfolding stacked
stacked_pop room p ps h =
    rw (
      reverse-cons p ps,
      append_assoc,
      set_at (reverse ps) p (replicate (room - length (p ∷ ps)) 0) 0 (length ps) (length-reverse ps),
      replicate_more (room - length ps) (room - length (p ∷ ps)) (omega arith),
    )
