-- What enter, take and clear make of the list as a list of numbers.
-- Assumes nothing.
use mathlib.Core.Path.{◌≡◌, refl, sym, ap, ◌∙◌}
use mathlib.Core.Bool.{Bool, true, false, cond}
use mathlib.Core.List.{List, [], ◌∷◌, ◌++◌}
use Prim.Native.Nat.{ℕ, ◌+◌, ◌-◌, ◌≤◌, ◌<◌}
use native.Mathlib.Omega.{arith}
use lib.ListN.{length, get_or, set, take, drop, length-set}
use lib.Seq.{paste}
use Rattle.std.proofs.lemmas.List.{take_more}
use Rattle.std.proofs.lemmas.List.Edits.{paste_more, paste_all}
use Rattle.model.specs.Call.{zeros}
use Rattle.model.specs.Tables.{stacked}
use Rattle.finality.proofs.Cells.{stacked_push, stacked_top, stacked_pop}
use Rattle.fixpoint_list.specs.Listed.{Listed, entered, EachEntered}

-- zeros hold no entry
pub empty_listed : (work_list : List ℕ) → work_list ≡ zeros work_list → Listed [] work_list 0
unfolding stacked zeros
empty_listed work_list e = record {
  list_is = let z : length work_list - 0 ≡ length work_list = omega arith in rw z e;
  top_is = refl;
}

-- and no entry leaves zeros
pub listed_empty : (entries work_list : List ℕ) (top : ℕ) → Listed entries work_list top → top ≤ 0 → (entries ≡ []) × (work_list ≡ zeros work_list)
unfolding stacked zeros
listed_empty [] work_list top l h = let z : length work_list - 0 ≡ length work_list = omega arith in (refl, rw z at l.list_is)
listed_empty (q ∷ qs) work_list top l h = absurd (omega (arith, l.top_is))

-- an entry is added
pub listed_added : (entry : ℕ) (entries work_list : List ℕ) (top : ℕ) → Listed entries work_list top → top < length work_list
    → Listed (entry ∷ entries) (set work_list top entry) (top + 1)
listed_added entry entries work_list top l h = record {
  list_is = ap (λ (x : List ℕ). set x top entry) l.list_is ∙ rw (length-set work_list top entry, l.top_is) (stacked_push (length work_list) entries entry (omega (arith, l.top_is)));
  top_is = omega (arith, l.top_is);
}

-- an entry is added where there is news
pub listed_enter : (news : Bool) (entry : ℕ) (entries work_list : List ℕ) (top : ℕ) → Listed entries work_list top → length (cond news (entry ∷ entries) entries) ≤ length work_list
    → Listed (cond news (entry ∷ entries) entries) (cond news (set work_list top entry) work_list) (cond news (top + 1) top)
listed_enter true entry entries work_list top l h = listed_added entry entries work_list top l (omega (arith, l.top_is))
listed_enter false entry entries work_list top l h = l

-- none is added, and one more
pub none_entered : (work_list : List ℕ) (top : ℕ) → EachEntered [] work_list top work_list top
unfolding EachEntered entered
none_entered work_list top entries l = l

entered_more : (added : List ℕ) (entry : ℕ) (entries : List ℕ) → entered (added ++ (entry ∷ [])) entries ≡ entry ∷ entered added entries
unfolding entered
entered_more [] entry entries = refl
entered_more (q ∷ qs) entry entries = entered_more qs entry (q ∷ entries)

pub one_more_entered : (added : List ℕ) (i : ℕ) (old : List ℕ) (top : ℕ) (list list' : List ℕ) (now top' : ℕ)
    → EachEntered (take i added) old top list now → i < length added → now < length list
    → list' ≡ set list now (get_or added i 0) → top' ≡ now + 1 → EachEntered (take (i + 1) added) old top list' top'
unfolding EachEntered
one_more_entered added i old top list list' now top' e h room l t entries lies =
    rw (take_more added i 0 h, entered_more (take i added) (get_or added i 0) entries, l, t)
    (listed_added (get_or added i 0) (entered (take i added) entries) list now (e entries lies) room)

-- the same in the buffer itself: one more stands in its place
pub one_more_stored : (added old : List ℕ) (top i : ℕ) {list list' : List ℕ} {now : ℕ} → list ≡ paste old top added i → now ≡ top + i → i < length added → length added + top ≤ length old
    → list' ≡ set list now (get_or added i 0) → list' ≡ paste old top added (i + 1)
one_more_stored added old top i e t h room l = l ∙ rw (e, t) (paste_more old top added i 0 (omega arith) h)

-- and at the end all of them
pub all_stored : (added old : List ℕ) (top : ℕ) {i : ℕ} {list : List ℕ} {now : ℕ} → list ≡ paste old top added i → now ≡ top + i → i ≡ length added
    → (now ≡ top + length added) × (list ≡ take top old ++ (added ++ drop now old))
all_stored added old top {i} e t k = (omega arith, e ∙ paste_all old top added i k ∙ ap (λ (at : ℕ). take top old ++ (added ++ drop at old)) (sym t))

-- the entry added last is taken
pub listed_take : (entries work_list : List ℕ) (top : ℕ) → Listed entries work_list top → length entries ≤ length work_list → 0 < top
    → (rest : List ℕ) × (entries ≡ get_or work_list (top - 1) 0 ∷ rest) × Listed rest (set work_list (top - 1) 0) (top - 1)
listed_take [] work_list top l h some_top = absurd (omega (arith, l.top_is))
listed_take (p ∷ ps) work_list top l h some_top =
    let t : top - 1 ≡ length ps = omega (arith, l.top_is) in (
      ps,
      ap (λ (x : ℕ). x ∷ ps) (sym (ap (λ (x : List ℕ). get_or x (top - 1) 0) l.list_is ∙ rw t (stacked_top (length work_list) p ps))),
      record {
        list_is = ap (λ (x : List ℕ). set x (top - 1) 0) l.list_is ∙ rw (length-set work_list (top - 1) 0, t) (stacked_pop (length work_list) p ps (omega arith));
        top_is = t;
      },
    )
