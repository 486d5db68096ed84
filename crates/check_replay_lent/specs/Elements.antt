-- What a buffer's elements owe, whatever their width. (Laws, and in specs/ all the same: a `ghost use` takes nothing from its own crate's proofs/.)
-- Assumes nothing.
use mathlib.Core.Path.{◌≡◌, sym, ◌∙◌}
use mathlib.Core.List.{List, ◌∷◌}
use Prim.Native.Nat.{ℕ, ◌+◌, ◌*◌, ◌%◌, ◌≤◌, ◌<◌}
use native.Mathlib.Numerals.{add-one}
use native.Mathlib.Omega.{arith}
use lib.ListN.{length, get_or, take, drop, replicate, length-replicate}
use lib.Seq.{length-take-le, get_or-take, ext_get_or, drop-cons}
use Rattle.memory.specs.Front.{front}
use Rattle.memory.proofs.Front.{length_front, get_d_front}
use Rattle.check_replay_lent.specs.Lent.{pattern_at, pattern}

-- the rest of a list from a place on
pub rest_numbered : (xs : List ℕ) (i d : ℕ) → i < length xs → drop i xs ≡ get_or xs i d ∷ drop (i + 1) xs
rest_numbered xs i d h = rw add-one (drop-cons xs i d h)

module _ (factor : ℕ) where
  -- a front that is written place by place is the pattern
  pub pattern_filled : (old : List ℕ) (count : ℕ) → count ≤ length old → take count (front (λ i. (i % 128 + 1) * factor) count old) ≡ pattern factor count
  unfolding pattern
  pattern_filled old count h =
      ext_get_or 0 (take count (front (pattern_at factor) count old)) (front (pattern_at factor) count (replicate count 0))
      (long ∙ sym short) (λ i l. at i (omega (arith, long)))
    where
      long : length (take count (front (pattern_at factor) count old)) ≡ count
      long = length-take-le count (front (pattern_at factor) count old) (omega (arith, length_front (pattern_at factor) count old))

      short : length (front (pattern_at factor) count (replicate count 0)) ≡ count
      short = length_front (pattern_at factor) count (replicate count 0) ∙ length-replicate count 0

      at : (i : ℕ) → i < count → get_or (take count (front (pattern_at factor) count old)) i 0 ≡ get_or (front (pattern_at factor) count (replicate count 0)) i 0
      at i l =
          get_or-take count (front (pattern_at factor) count old) i 0 l
          ∙ get_d_front (pattern_at factor) count old i 0 l h
          ∙ sym (get_d_front (pattern_at factor) count (replicate count 0) i 0 l (omega (arith, length-replicate {A = ℕ} count 0)))
