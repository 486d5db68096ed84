-- A slot's fact is set in a row.
-- Assumes nothing.
use mathlib.Core.Path.{◌≡◌, refl, sym, ap, ◌∙◌}
use mathlib.Core.List.{List, [], ◌∷◌, map}
use mathlib.Core.Option.{Option, none, some}
use Prim.Native.Nat.{ℕ, zero, suc}
use lib.ListN.{length, set}
use Rattle.model.specs.Fact.{Fact, kind, value, Row}
use Rattle.model.specs.Lookup.{place}
use Rattle.model.specs.Tables.{RowLies, cell_of}
use Rattle.model.specs.Transfer.{put}
use Rattle.model.specs.declared.FactCell.{FactCell}
use Rattle.model.proofs.Facts.{lies_kinds}
use Rattle.fact_row.specs.Place.{set_at}
use Rattle.fact_row.specs.Changed.{cells_in, SameRow, FactSet}
use Rattle.fact_row.specs.declared.row.FactRow.{FactRow}
use Rattle.fact_row.proofs.Facts.{kind_of, value_of}
use Rattle.fact_row.proofs.Places.{put_found, put_untracked}

map_set : {A B : Type 0} (f : A → B) (l : List A) (j : ℕ) (x : A) → map f (set l j x) ≡ set (map f l) j (f x)
map_set f [] j x = refl
map_set f (y ∷ ys) zero x = refl
map_set f (y ∷ ys) (suc j) x = ap (λ r. f y ∷ r) (map_set f ys j x)

-- what is stored at a place, if there is one
pub set_none : {o : Option ℕ} → o ≡ none → (xs : List ℕ) (x : ℕ) → xs ≡ set_at o xs x
unfolding set_at
set_none e xs x = rw e

pub set_some : {o : Option ℕ} {j : ℕ} → o ≡ some j → (xs : List ℕ) (x : ℕ) → set xs j x ≡ set_at o xs x
unfolding set_at
set_some e xs x = rw e

-- the same row, and the same again
pub same_self : {row : FactRow} → SameRow row row
same_self = record { slots = refl; kinds = refl; values = refl }

pub same_again : {a b c : FactRow} → SameRow a b → SameRow b c → SameRow a c
same_again p q = record { slots = q.slots ∙ p.slots; kinds = q.kinds ∙ p.kinds; values = q.values ∙ p.values }

-- the fact of a slot is set in memory
pub put_lies : {facts : Row} {old new : FactRow} {slot : ℕ} {cell : FactCell} → RowLies facts (cells_in old) → FactSet slot cell old new → (fact : Fact) → cell ≡ cell_of fact
    → RowLies (put old.slots.now facts slot fact) (cells_in new)
unfolding set_at
put_lies {facts} {old} {new} {slot} l set_there fact is =
    go (place old.slots.now slot) refl (rw (kind_of fact is) at set_there.kinds_are) (rw (value_of fact is) at set_there.values_are)
  where
    n : length facts ≡ length old.slots.now
    n = sym (lies_kinds l) ∙ old.writable.kinds_long

    go : (o : Option ℕ) → place old.slots.now slot ≡ o → new.kinds.now ≡ set_at o old.kinds.now (kind fact) → new.values.now ≡ set_at o old.values.now (value fact)
        → RowLies (put old.slots.now facts slot fact) (cells_in new)
    go none e p q = rw (put_untracked old.slots.now facts slot fact n e) (record { kinds_are = p ∙ l.kinds_are; values_are = q ∙ l.values_are })
    go (some j) e p q =
        rw (put_found old.slots.now facts slot fact n old.writable.ascending e) (record {
          kinds_are = p ∙ ap (λ (xs : List ℕ). set xs j (kind fact)) l.kinds_are ∙ sym (map_set kind facts j fact);
          values_are = q ∙ ap (λ (xs : List ℕ). set xs j (value fact)) l.values_are ∙ sym (map_set value facts j fact);
        })
