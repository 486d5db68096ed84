-- A buffer that is filled piece by piece.
-- Assumes nothing.
use mathlib.Core.Path.{◌≡◌, sym, ap, ◌∙◌}
use mathlib.Core.List.{List, ◌++◌}
use Prim.Native.Nat.{ℕ, ◌+◌, ◌≤◌, ◌<◌}
use native.Mathlib.Omega.{arith}
use lib.ListN.{length, take, drop, length-append, take-append-drop}
use lib.Seq.{length-take-le, drop-drop, drop-append-le}
use Rattle.std.proofs.Common.{Result, Ok, Err, IfOk, MatchResult}
use Rattle.io.specs.Counts.{IsPrefixLen}
use Rattle.check_input.specs.declared.FailedRead.{FailedRead}

-- what lies behind stays behind
pub still_behind : (old mid new : List ℕ) (done count : ℕ) → drop done mid ≡ drop done old → drop (done + count) new ≡ drop (done + count) mid → drop (done + count) new ≡ drop (done + count) old
still_behind old mid new done count e k = k ∙ sym (drop-drop count done mid) ∙ ap (drop count) e ∙ drop-drop count done old

pub counts_first : (count : ℕ) (bytes : List ℕ) → count ≤ length bytes → IsPrefixLen count bytes
counts_first count bytes h = (h, sym (length-take-le count bytes h))

-- ---- the front of a buffer

-- r bytes of the first count ones came, and not all
pub front_read : (front buffer : List ℕ) (count r : ℕ) → count ≤ length buffer → length front ≡ length (take count buffer) → r ≤ length front → drop r front ≡ drop r (take count buffer) → r < count
    → IsPrefixLen r (front ++ drop count buffer) × (r < count) × (drop r (front ++ drop count buffer) ≡ drop r buffer) × (length buffer < count → r ≡ 0)
front_read front buffer count r h e k same less =
    let t = length-take-le count buffer h in (
      counts_first r (front ++ drop count buffer) (omega (arith, length-append front (drop count buffer))),
      less,
      drop-append-le r front (drop count buffer) k
          ∙ ap (λ (x : List ℕ). x ++ drop count buffer) same
          ∙ sym (drop-append-le r (take count buffer) (drop count buffer) (omega arith))
          ∙ ap (drop r) (take-append-drop count buffer),
      λ l. absurd (omega arith),
    )

-- a piece that came, with what is said of it, where count bytes have come in all
pub piece_came : {P : ℕ → Type 0} (piece : Result ℕ FailedRead) (done count : ℕ) → IfOk piece P
    → MatchResult piece (λ n. ◌≡◌ {A = Result ℕ FailedRead} (Ok count) (Ok (done + n))) (λ failed. ◌≡◌ {A = Result ℕ FailedRead} (Ok count) (Err (record { count = done + failed.count })))
    → (n : ℕ) × (count ≡ done + n) × P n
piece_came (Ok n) done count p e = (n, cc, p)
piece_came (Err failed) done count p e = absurd (let z : ◌≡◌ {A = ℕ} 0 1 = cc in omega arith)
