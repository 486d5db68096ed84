-- A checksum over a list, as a loop makes it that puts one element in each turn.
-- Assumes nothing.
use mathlib.Core.Path.{◌≡◌, ap, ◌∙◌}
use mathlib.Core.List.{List, ◌∷◌}
use Prim.Native.Nat.{ℕ, ◌+◌, ◌≤◌, ◌<◌}
use native.Mathlib.Omega.{arith}
use lib.ListN.{length, drop}
use lib.Seq.{drop-length}
use Rattle.check_replay_lent.specs.Checksum.{with_number, with_numbers, with_buffer}
use Rattle.check_replay_lent.specs.declared.Checksum.{Checksum}

-- after i turns: with the rest put in it is the goal
pub record ChecksumSoFar (goal : Checksum) (xs : List ℕ) (sum : Checksum) (i : ℕ) : Type 0 where
  pub within : i ≤ length xs
  pub rest : with_numbers sum (drop i xs) ≡ goal

pub checksum_turn : {goal sum next : Checksum} {xs : List ℕ} {i x : ℕ} → ChecksumSoFar goal xs sum i → i < length xs → drop i xs ≡ x ∷ drop (i + 1) xs
    → next ≡ with_number sum x → ChecksumSoFar goal xs next (i + 1)
unfolding with_numbers
checksum_turn {xs} {i} s h p q = record {
  within = omega arith;
  rest = rw q (rw p at s.rest);
}

-- all of a buffer, behind its length
pub whole : (begun : Checksum) {first sum : Checksum} {xs : List ℕ} {i : ℕ} → ChecksumSoFar (with_numbers first xs) xs sum i → length xs ≤ i
    → first ≡ with_number begun (length xs) → sum ≡ with_buffer begun xs
unfolding with_numbers with_buffer
whole begun {xs} {i} s h p =
    let e : i ≡ length xs = omega (arith, s.within) in
    (rw (e, drop-length xs) at s.rest) ∙ ap (λ (c : Checksum). with_numbers c xs) p

-- a buffer behind what was put in before
pub behind : {before others sum : Checksum} (xs : List ℕ) → before ≡ others → sum ≡ with_buffer before xs → sum ≡ with_buffer others xs
behind xs e k = k ∙ ap (λ (c : Checksum). with_buffer c xs) e
