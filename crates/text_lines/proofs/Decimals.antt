-- The decimal text of the kit is that of the listing.
-- Assumes nothing.
use Rattle.std.proofs.Common.{◌≡◌, refl, sym, ◌∙◌, List, [], ◌∷◌, ◌++◌, append_assoc, append-nil, ℕ, zero, suc, ◌+◌, ◌/◌, ◌%◌, ◌^◌, ◌<◌, inl, inr, arith, eq-zero-or-pos}
use native.Mathlib.Nat.{pow-suc, div-lt_iff_lt-mul, not-suc-le-zero}
use Rattle.std.proofs.lemmas.Fmt.{decimal_digit, decimal_step}
use Rattle.std.specs.Fmt.{decimal as text}
use Rattle.model.specs.Listing.{ascii, digits, decimal}

no_digit : (k : ℕ) (rest : List ℕ) → digits k 0 rest ≡ rest
unfolding digits
no_digit zero rest = refl
no_digit (suc k) rest = refl

one_digit : (k x : ℕ) (rest : List ℕ) → 0 < x → digits (suc k) x rest ≡ digits k (x / 10) ((48 + x % 10) ∷ rest)
unfolding digits
one_digit k zero rest h = absurd (not-suc-le-zero h)
one_digit k (suc x) rest h = refl

less : (k x : ℕ) → x < 10 ^ suc k → x / 10 < 10 ^ k
less k x h = (div-lt_iff_lt-mul {k = 10} {x = x} {y = 10 ^ k} (omega arith)).1 (rw pow-suc at h)

all_digits : (k x : ℕ) (rest : List ℕ) → 0 < x → x < 10 ^ k → x < 2 ^ 64 → digits k x rest ≡ text x ++ rest
all_digits zero x rest h small fits = absurd (omega arith)
all_digits (suc k) x rest h small fits =
    one_digit k x rest h
    ∙ elim (eq-zero-or-pos (x / 10)) [
      | inl z ↦ let d : x % 10 ≡ x = omega arith in rw (z, no_digit k ((48 + x % 10) ∷ rest), d, decimal_digit x (omega arith))
      | inr g ↦ all_digits k (x / 10) ((48 + x % 10) ∷ rest) g (less k x small) (omega arith)
          ∙ rw (decimal_step x (omega arith) fits, append_assoc)
    ]

pub same_decimal : (x : ℕ) → x < 2 ^ 64 → text x ≡ decimal x
unfolding decimal ascii
same_decimal zero h = decimal_digit 0 (omega arith)
same_decimal (suc x) h = sym (all_digits 20 (suc x) [] (omega arith) (omega arith) h ∙ append-nil (text (suc x)))
