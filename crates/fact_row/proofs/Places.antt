-- Where a slot stands among strictly ascending ones, its fact in a row, and the row with another fact there.
-- Assumes nothing.
use mathlib.Core.Path.{◌≡◌, refl, sym, ap, ◌∙◌}
use mathlib.Core.Bool.{Bool, true, false, cond}
use mathlib.Core.List.{List, [], ◌∷◌}
use mathlib.Core.Option.{none, some}
use Prim.Native.Nat.{ℕ, zero, suc, ◌+◌, ◌<◌, ◌≤◌}
use native.Mathlib.Nat.{not-suc-le-zero, le_of_suc-le-suc}
use native.Mathlib.Omega.{arith}
use lib.Dec.{ltb, eqb}
use lib.ListN.{length, get_or, set}
use borrow.Author.Tests.{ltb-true, ltb-false, eqb-true, eqb-false, eq-eqb, ne_eqb}
use Rattle.model.specs.Fact.{Fact, unknown, Row}
use Rattle.model.specs.Lookup.{ascends, place_from, place}
use Rattle.model.specs.Transfer.{fact_for, each_cell, replaced, put}
use Rattle.fact_row.specs.Rows.{Bound}
use Rattle.fact_row.proofs.Ascending.{ascends_lt, none_past, none_between, fact_at, fact_nowhere}

-- ---- the search

found_from : (f : ℕ) (xs : List ℕ) (slot k : ℕ) → k < length xs → get_or xs k 0 ≡ slot → ((i : ℕ) → i < k → get_or xs i 0 ≡ slot → ⊥) → place_from f xs slot ≡ some (f + k)
unfolding place_from
found_from f [] slot k l e b = absurd (not-suc-le-zero l)
found_from f (x ∷ xs) slot zero l e b = rw (eq-eqb slot x (sym e)) (ap some (omega arith))
found_from f (x ∷ xs) slot (suc k) l e b =
    rw (ne_eqb slot x (λ q. b 0 (omega arith) (sym q)))
    (found_from (suc f) xs slot k (le_of_suc-le-suc l) e (λ i m q. b (suc i) (omega arith) q) ∙ ap some (omega arith))

none_from : (f : ℕ) (xs : List ℕ) (slot : ℕ) → ((i : ℕ) → i < length xs → get_or xs i 0 ≡ slot → ⊥) → place_from f xs slot ≡ none
unfolding place_from
none_from f [] slot b = refl
none_from f (x ∷ xs) slot b =
    rw (ne_eqb slot x (λ q. b 0 (omega arith) (sym q)))
    (none_from (suc f) xs slot (λ i m q. b (suc i) (omega arith) q))

module _ {xs : List ℕ} {slot at : ℕ} (b : Bound xs slot at) where
  pub place_found : at < length xs → get_or xs at 0 ≡ slot → some at ≡ place xs slot
  unfolding place
  place_found l e = sym (found_from 0 xs slot at l e (λ i m q. omega (arith, b.below i m)) ∙ ap some (omega arith))

  pub place_past : length xs ≤ at → none ≡ place xs slot
  unfolding place
  place_past h = sym (none_from 0 xs slot (none_past b h))

  pub place_between : ascends xs ≡ true → at < length xs → (get_or xs at 0 ≡ slot → ⊥) → none ≡ place xs slot
  unfolding place
  place_between h l other = sym (none_from 0 xs slot (none_between b h l other))

-- ---- what a place says

-- a place counted from f on, where one is found
pub record Stands (f : ℕ) (xs : List ℕ) (slot j : ℕ) : Type 0 where
  pub k : ℕ
  pub is : j ≡ f + k
  pub inside : k < length xs
  pub slot_is : get_or xs k 0 ≡ slot

stands_from : (f : ℕ) (xs : List ℕ) (slot j : ℕ) → place_from f xs slot ≡ some j → Stands f xs slot j
unfolding place_from
stands_from f [] slot j e = let z : ◌≡◌ {A = ℕ} 0 1 = cc in absurd (omega arith)
stands_from f (x ∷ xs) slot j e = go (eqb slot x) refl e (λ p. stands_from (suc f) xs slot j p)
  where
    go : (t : Bool) → eqb slot x ≡ t → cond t (some f) (place_from (suc f) xs slot) ≡ some j → (place_from (suc f) xs slot ≡ some j → Stands (suc f) xs slot j)
        → Stands f (x ∷ xs) slot j
    go true p q rest = let w : f ≡ j = cc in record { k = 0; is = omega arith; inside = omega arith; slot_is = sym (eqb-true slot x p) }
    go false p q rest = let s = rest q in record { k = suc s.k; is = omega (arith, s.is); inside = omega (arith, s.inside); slot_is = s.slot_is }

nowhere_from : (f : ℕ) (xs : List ℕ) (slot : ℕ) → place_from f xs slot ≡ none → (k : ℕ) → k < length xs → get_or xs k 0 ≡ slot → ⊥
unfolding place_from
nowhere_from f [] slot e k l q = not-suc-le-zero l
nowhere_from f (x ∷ xs) slot e k l q = go (eqb slot x) refl e k l q (λ p. nowhere_from (suc f) xs slot p)
  where
    go : (t : Bool) → eqb slot x ≡ t → cond t (some f) (place_from (suc f) xs slot) ≡ none → (k : ℕ) → k < length (x ∷ xs) → get_or (x ∷ xs) k 0 ≡ slot
        → (place_from (suc f) xs slot ≡ none → (i : ℕ) → i < length xs → get_or xs i 0 ≡ slot → ⊥) → ⊥
    go true p e k l q rest = let z : ◌≡◌ {A = ℕ} 0 1 = cc in omega arith
    go false p e zero l q rest = eqb-false slot x p (sym q)
    go false p e (suc i) l q rest = rest e i (le_of_suc-le-suc l) q

-- a place that is found is one of the slots', and the slot stands there
pub place_inside : (xs : List ℕ) (slot : ℕ) {j : ℕ} → place xs slot ≡ some j → j < length xs
unfolding place
place_inside xs slot {j} e = let s = stands_from 0 xs slot j e in omega (arith, s.is, s.inside)

-- ---- the fact of a slot

module _ (xs : List ℕ) (row : Row) (slot : ℕ) where
  pub fact_placed : ascends xs ≡ true → length row ≡ length xs → {j : ℕ} → place xs slot ≡ some j → fact_for xs row slot ≡ get_or row j unknown
  unfolding place
  fact_placed h n {j} e =
      let s = stands_from 0 xs slot j e in
      let k : s.k ≡ j = omega (arith, s.is) in
      fact_at xs row slot s.k n s.inside s.slot_is (λ i m q. omega (arith, ascends_lt xs h i s.k m s.inside, s.slot_is)) ∙ rw k

  pub fact_untracked : place xs slot ≡ none → fact_for xs row slot ≡ unknown
  unfolding place
  fact_untracked e = fact_nowhere xs row slot (nowhere_from 0 xs slot e)

-- ---- the row with a slot's fact set

put_nowhere : (xs : List ℕ) (row : Row) (slot : ℕ) (fact : Fact) → length row ≡ length xs → ((i : ℕ) → i < length xs → get_or xs i 0 ≡ slot → ⊥) → put xs row slot fact ≡ row
unfolding put each_cell replaced
put_nowhere [] [] slot fact n b = refl
put_nowhere [] (f ∷ fs) slot fact n b = absurd (omega arith)
put_nowhere (x ∷ xs) [] slot fact n b = absurd (omega arith)
put_nowhere (x ∷ xs) (f ∷ fs) slot fact n b =
    rw (ne_eqb x slot (b 0 (omega arith)))
    (ap (λ (r : Row). f ∷ r) (put_nowhere xs fs slot fact (omega arith) (λ i m q. b (suc i) (omega arith) q)))

put_at : (xs : List ℕ) (row : Row) (slot k : ℕ) (fact : Fact) → length row ≡ length xs → k < length xs → get_or xs k 0 ≡ slot
    → ((i : ℕ) → i < length xs → get_or xs i 0 ≡ slot → i ≡ k) → put xs row slot fact ≡ set row k fact
unfolding put each_cell replaced
put_at [] row slot k fact n l e b = absurd (not-suc-le-zero l)
put_at (x ∷ xs) [] slot k fact n l e b = absurd (omega arith)
put_at (x ∷ xs) (f ∷ fs) slot zero fact n l e b =
    rw (eq-eqb x slot e)
    (ap (λ (r : Row). fact ∷ r) (put_nowhere xs fs slot fact (omega arith) (λ i m q. omega (arith, b (suc i) (omega arith) q))))
put_at (x ∷ xs) (f ∷ fs) slot (suc k) fact n l e b =
    rw (ne_eqb x slot (λ q. omega (arith, b 0 (omega arith) q)))
    (ap (λ (r : Row). f ∷ r) (put_at xs fs slot k fact (omega arith) (le_of_suc-le-suc l) e (λ i m q. omega (arith, b (suc i) (omega arith) q))))

-- strictly ascending slots are different
ascends_only : (xs : List ℕ) → ascends xs ≡ true → (i k : ℕ) → i < length xs → k < length xs → get_or xs i 0 ≡ get_or xs k 0 → i ≡ k
ascends_only xs h i k l m e = go (ltb i k) refl (ltb k i) refl
  where
    go : (t : Bool) → ltb i k ≡ t → (u : Bool) → ltb k i ≡ u → i ≡ k
    go true p u q = absurd (omega (arith, ascends_lt xs h i k (ltb-true i k p) m))
    go false p true q = absurd (omega (arith, ascends_lt xs h k i (ltb-true k i q) l))
    go false p false q = omega (arith, ltb-false i k p, ltb-false k i q)

module _ (xs : List ℕ) (row : Row) (slot : ℕ) (fact : Fact) (n : length row ≡ length xs) where
  pub put_found : ascends xs ≡ true → {j : ℕ} → place xs slot ≡ some j → put xs row slot fact ≡ set row j fact
  unfolding place
  put_found h {j} e =
      let s = stands_from 0 xs slot j e in
      let k : s.k ≡ j = omega (arith, s.is) in
      put_at xs row slot s.k fact n s.inside s.slot_is (λ i m q. ascends_only xs h i s.k m s.inside (q ∙ sym s.slot_is)) ∙ rw k

  pub put_untracked : place xs slot ≡ none → put xs row slot fact ≡ row
  unfolding place
  put_untracked e = put_nowhere xs row slot fact n (nowhere_from 0 xs slot e)
