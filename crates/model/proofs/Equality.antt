-- What tests of equality say, of numbers and of lists.
-- Assumes nothing.
use mathlib.Core.Path.{◌≡◌, refl, ap₂}
use mathlib.Core.Bool.{Bool, true, false, ◌&&◌, false≢true}
use mathlib.Core.List.{List, [], ◌∷◌}
use Prim.Native.Nat.{ℕ}
use lib.Dec.{T, eqb, eqb→eq, eqb_refl}
use Rattle.model.specs.Fact.{equal_content}

pub T_true : (b : Bool) → T b → b ≡ true
T_true true t = refl
T_true false t = absurd t

pub eqb_self : (n : ℕ) → eqb n n ≡ true
eqb_self n = T_true (eqb n n) (eqb_refl n)

pub eqb_path : (m n : ℕ) → eqb m n ≡ true → m ≡ n
eqb_path m n e = eqb→eq m n (rw e tt)

pub content_self : (xs : List ℕ) → equal_content xs xs ≡ true
unfolding equal_content
content_self [] = refl
content_self (x ∷ xs) = rw (eqb_self x, content_self xs)

pub content_path : (xs ys : List ℕ) → equal_content xs ys ≡ true → xs ≡ ys
unfolding equal_content
content_path [] [] e = refl
content_path [] (y ∷ ys) e = absurd (false≢true e)
content_path (x ∷ xs) [] e = absurd (false≢true e)
content_path (x ∷ xs) (y ∷ ys) e = go (content_path xs ys) (eqb x y) refl e
  where
    go : (equal_content xs ys ≡ true → xs ≡ ys) → (b : Bool) → eqb x y ≡ b → b && equal_content xs ys ≡ true → x ∷ xs ≡ y ∷ ys
    go rest true h k = ap₂ ◌∷◌ (eqb_path x y h) (rest k)
    go rest false h k = absurd (false≢true k)
