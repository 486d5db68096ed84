-- The places of the marks that are set, as a loop counts and writes them.
-- Assumes nothing.
use mathlib.Core.Path.{◌≡◌, refl, sym, ap, ◌∙◌}
use mathlib.Core.Bool.{Bool, true, false}
use mathlib.Core.List.{List, [], ◌∷◌, ◌++◌, append-nil, append_assoc}
use Prim.Native.Nat.{ℕ, suc, ◌+◌, ◌≤◌, ◌<◌}
use native.Mathlib.Nat.{add-zero}
use native.Mathlib.Numerals.{add-one}
use native.Mathlib.Omega.{arith}
use lib.Dec.{ltb, eqb}
use lib.ListN.{length, get_or, set, take, drop, length-append, length-set, take-append-drop}
use lib.Seq.{take-suc, take_all, drop-cons, set_at, length-take-le}
use borrow.Author.Tests.{le-leb, lt-leb, ltb-true, ltb-false}
use Rattle.model.specs.Closure.{list_unless, places}
use Rattle.closure_marks.specs.Slots.{stored_unless, fitted_if, fitted}

places_append : (k : ℕ) (xs ys : List ℕ) → places k (xs ++ ys) ≡ places k xs ++ places (k + length xs) ys
unfolding places list_unless
places_append k [] ys = rw (add-zero k)
places_append k (x ∷ xs) ys =
    let e : k + suc (length xs) ≡ suc k + length xs = omega arith in
    rw e (go _ (eqb x 0) (places_append (suc k) xs ys))
  where
    go : (zs : List ℕ) (t : Bool) → places (suc k) (xs ++ ys) ≡ places (suc k) xs ++ zs → list_unless t k (places (suc k) (xs ++ ys)) ≡ list_unless t k (places (suc k) xs) ++ zs
    go zs true h = h
    go zs false h = ap (λ (l : List ℕ). k ∷ l) h

module _ (marks : List ℕ) where
  -- those below i
  unfoldable pub places_upto : ℕ → List ℕ
  places_upto i = places 0 (take i marks)

  one_more : (i : ℕ) → i < length marks → places_upto (i + 1) ≡ places_upto i ++ list_unless (eqb (get_or marks i 0) 0) i []
  unfolding places_upto places
  one_more i h =
      let e : 0 + length (take i marks) ≡ i = omega (arith, length-take-le i marks (omega arith)) in
      rw (add-one, take-suc marks i 0 h, places_append 0 (take i marks) (get_or marks i 0 ∷ []), e)

  pub placed_all : (i : ℕ) → length marks ≤ i → places_upto i ≡ places 0 marks
  unfolding places_upto
  placed_all i h = rw (take_all i marks h)

  placed_part : (i : ℕ) → length (places_upto i) ≤ length (places 0 marks)
  unfolding places_upto
  placed_part i =
      let e : places 0 (take i marks ++ drop i marks) ≡ places 0 marks = ap (places 0) (take-append-drop i marks) in
      omega (arith, ap length e, ap length (places_append 0 (take i marks) (drop i marks)), length-append (places 0 (take i marks)) (places (0 + length (take i marks)) (drop i marks)))

  -- where as many lie below i as there are, these are all
  placed_whole : (i : ℕ) → length (places 0 marks) ≤ length (places_upto i) → places_upto i ≡ places 0 marks
  unfolding places_upto
  placed_whole i h =
      let e : places 0 (take i marks ++ drop i marks) ≡ places 0 marks = ap (places 0) (take-append-drop i marks) in
      go (places (0 + length (take i marks)) (drop i marks)) (sym (places_append 0 (take i marks) (drop i marks)) ∙ e)
    where
      go : (rest : List ℕ) → places 0 (take i marks) ++ rest ≡ places 0 marks → places 0 (take i marks) ≡ places 0 marks
      go [] e = sym (append-nil (places 0 (take i marks))) ∙ e
      go (x ∷ xs) e = absurd (omega (arith, ap length e, length-append (places 0 (take i marks)) (x ∷ xs)))

length_listed : (t : Bool) (i j : ℕ) → length (list_unless t i []) ≡ length (list_unless t j [])
unfolding list_unless
length_listed true i j = refl
length_listed false i j = refl

-- ---- counted

-- after i marks
pub record Counting (marks : List ℕ) (count i : ℕ) : Type 0 where
  pub within : i ≤ length marks
  pub most : count ≤ i
  pub is : count ≡ length (places_upto marks i)

pub counting_none : (marks : List ℕ) → Counting marks 0 0
unfolding places_upto places
counting_none marks = record { within = omega arith; most = omega arith; is = refl }

pub counting_more : {marks : List ℕ} {count i one : ℕ} → Counting marks count i → i < length marks → one ≡ length (list_unless (eqb (get_or marks i 0) 0) 0 []) → one ≤ 1
    → Counting marks (count + one) (i + 1)
counting_more {marks} {count} {i} {one} c h e k = record {
  within = omega arith;
  most = omega (arith, c.most);
  is = omega (arith, c.is, ap length (one_more marks i h), length-append (places_upto marks i) (list_unless (eqb (get_or marks i 0) 0) i []), length_listed (eqb (get_or marks i 0) 0) 0 i);
}

pub counting_all : {marks : List ℕ} {count i : ℕ} → Counting marks count i → length marks ≤ i → count ≡ length (places 0 marks)
counting_all {marks} {count} {i} c h = c.is ∙ ap length (placed_all marks i h)

-- ---- written

-- after i marks
pub record MarksListed (marks old out : List ℕ) (at i : ℕ) : Type 0 where
  pub within : i ≤ length marks
  pub is : out ≡ places_upto marks i ++ drop (length (places_upto marks i)) old
  pub at_is : at ≡ length (places_upto marks i)
  pub long : length out ≡ length old

pub marks_listed_none : (marks old : List ℕ) → MarksListed marks old old 0 0
unfolding places_upto places
marks_listed_none marks old = record { within = omega arith; is = refl; at_is = refl; long = refl }

put_next : (old ps : List ℕ) (x : ℕ) → length ps < length old → set (ps ++ drop (length ps) old) (length ps) x ≡ (ps ++ (x ∷ [])) ++ drop (length (ps ++ (x ∷ []))) old
put_next old ps x h =
    let e : length (ps ++ (x ∷ [])) ≡ suc (length ps) = omega (arith, length-append ps (x ∷ [])) in
    rw (e, drop-cons old (length ps) 0 h, set_at ps (get_or old (length ps) 0) (drop (suc (length ps)) old) x (length ps) refl, append_assoc)

module _ {marks old out : List ℕ} {at i : ℕ} (w : MarksListed marks old out at i) (h : i < length marks) (fits : length (places 0 marks) ≤ length old) where
  -- the number of places with the next mark
  next : length (places_upto marks (i + 1)) ≡ length (places_upto marks i) + length (list_unless (eqb (get_or marks i 0) 0) i [])
  next = ap length (one_more marks i h) ∙ length-append (places_upto marks i) (list_unless (eqb (get_or marks i 0) 0) i [])

  pub writing_within : at ≤ length out
  writing_within = omega (arith, w.at_is, w.long, placed_part marks i)

  pub writing_room : eqb (get_or marks i 0) 0 ≡ false → at < length out
  unfolding list_unless
  writing_room e = omega (arith, w.at_is, w.long, placed_part marks (i + 1), rw e at next)

  pub marks_listed_more : {at' : ℕ} {out' : List ℕ} → at' ≡ at + length (list_unless (eqb (get_or marks i 0) 0) i []) → out' ≡ stored_unless (eqb (get_or marks i 0) 0) out at i
      → MarksListed marks old out' at' (i + 1)
  unfolding stored_unless list_unless
  marks_listed_more {at'} {out'} p q = go (eqb (get_or marks i 0) 0) refl
    where
      go : (t : Bool) → eqb (get_or marks i 0) 0 ≡ t → MarksListed marks old out' at' (i + 1)
      go true e =
          let same : places_upto marks (i + 1) ≡ places_upto marks i = one_more marks i h ∙ rw e (append-nil (places_upto marks i)) in
          let o : out' ≡ out = rw e at q in
          record {
            within = omega arith;
            is = rw (same, o) w.is;
            at_is = rw same (omega (arith, rw e at p, w.at_is));
            long = rw o w.long;
          }
      go false e =
          let more : places_upto marks (i + 1) ≡ places_upto marks i ++ (i ∷ []) = one_more marks i h ∙ rw e in
          let o : out' ≡ set out at i = rw e at q in
          record {
            within = omega arith;
            is = rw (more, o, w.is, w.at_is) (put_next old (places_upto marks i) i (omega (arith, writing_room e, w.at_is, w.long)));
            at_is = omega (arith, rw e at p, w.at_is, ap length more, length-append (places_upto marks i) (i ∷ []));
            long = rw o (length-set out at i ∙ w.long);
          }

-- while there are more, there is a next mark
pub writing_inside : {marks old out : List ℕ} {at i : ℕ} → MarksListed marks old out at i → at < length (places 0 marks) → i < length marks
writing_inside {marks} {i = i} w h = go (ltb i (length marks)) refl
  where
    go : (t : Bool) → ltb i (length marks) ≡ t → i < length marks
    go true e = ltb-true i (length marks) e
    go false e = absurd (omega (arith, w.at_is, ap length (placed_all marks i (ltb-false i (length marks) e))))

pub writing_all : {marks old out : List ℕ} {at i : ℕ} → MarksListed marks old out at i → length (places 0 marks) ≤ at → out ≡ places 0 marks ++ drop (length (places 0 marks)) old
writing_all {marks} {old} {out} {at} {i} w h = rw (placed_whole marks i (omega (arith, w.at_is))) at w.is

-- ---- where they fit

module _ (slots old : List ℕ) where
  pub marks_fit : length slots ≤ length old → slots ++ drop (length slots) old ≡ fitted slots old
  unfolding fitted fitted_if
  marks_fit h = rw (le-leb (length slots) (length old) h)

  pub fits_not : length old < length slots → old ≡ fitted slots old
  unfolding fitted fitted_if
  fits_not h = rw (lt-leb (length slots) (length old) h)
