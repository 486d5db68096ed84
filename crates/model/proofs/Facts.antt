-- Facts and rows as kinds and values, and rows in tables.
-- Assumes nothing.
use mathlib.Core.Path.{◌≡◌, refl, sym, ap, ap₂, ◌∙◌}
use mathlib.Core.List.{List, [], ◌∷◌, map}
use mathlib.Core.Option.{Option, some}
use Prim.Native.Nat.{ℕ, zero, suc, ◌<◌, suc-le-suc}
use native.Mathlib.Omega.{arith}
use lib.ListN.{length, length-map}
use Rattle.model.specs.Fact.{Fact, unknown, conflict, known, Row, kind, value}
use Rattle.model.specs.Run.{row_at}
use Rattle.model.specs.Tables.{RowSlices, RowLies, fact_of, facts_of, facts_in}

-- a fact is what its kind and value stand for
pub fact_back : (f : Fact) → fact_of (kind f) (value f) ≡ f
unfolding fact_of kind value
fact_back unknown = refl
fact_back conflict = refl
fact_back (known k v) = refl

-- a row is what its kinds and values stand for
pub facts_back : (r : Row) → facts_of (map kind r) (map value r) ≡ r
unfolding facts_of
facts_back [] = refl
facts_back (f ∷ fs) = ap₂ ◌∷◌ (fact_back f) (facts_back fs)

-- a row that lies in its slices
module _ {row : Row} {r : RowSlices} (l : RowLies row r) where
  -- is read back from them
  pub read_back : facts_in r ≡ row
  read_back = ap₂ facts_of l.kinds_are l.values_are ∙ facts_back row

  pub lies_back : RowLies (facts_in r) r
  lies_back = record { kinds_are = l.kinds_are ∙ ap (map kind) (sym read_back); values_are = l.values_are ∙ ap (map value) (sym read_back) }

  -- and is as long as each of them
  pub lies_kinds : length r.kinds ≡ length row
  lies_kinds = ap length l.kinds_are ∙ length-map row kind

  pub lies_values : length r.values ≡ length row
  lies_values = ap length l.values_are ∙ length-map row value

-- a present row is one of the rows
pub row_below : (rows : List (Option Row)) (p : ℕ) (r : Row) → row_at rows p ≡ some r → p < length rows
row_below [] p r e = let z : ◌≡◌ {A = ℕ} 0 1 = cc in absurd (omega arith)
row_below (o ∷ os) zero r e = omega arith
row_below (o ∷ os) (suc p) r e = suc-le-suc (row_below os p r e)

-- a row read from as many kinds and values is as long
pub length_facts_lem : (kinds values : List ℕ) → length values ≡ length kinds → length (facts_of kinds values) ≡ length kinds
unfolding facts_of
length_facts_lem [] values h = refl
length_facts_lem (k ∷ ks) [] h = h
length_facts_lem (k ∷ ks) (v ∷ vs) h = ap suc (length_facts_lem ks vs (omega arith))
