-- One call after the other.
-- Assumes nothing.
use mathlib.Core.Path.{◌≡◌, sym, ap, ap₂, ◌∙◌}
use mathlib.Core.List.{List, [], ◌∷◌, ◌++◌, append-nil, append_assoc}
use mathlib.Core.Option.{some}
use Prim.Native.Nat.{ℕ, suc, ◌+◌}
use native.Mathlib.Numerals.{add-one}
use Rattle.model.specs.Call.{answer_numbered}
use Rattle.model.specs.Interface.{twelve}
use Rattle.model.specs.Listing.{ascii, newline}
use Rattle.model.specs.declared.Answer.{Answer}
use Rattle.check_replay_lent.specs.Checksum.{checksum_start, checksum_number}
use Rattle.check_replay.specs.Calls.{called, called_in, with_first, called_again, replayed}
use Rattle.check_replay.specs.Line.{called_line, line_of, replay_line}
use Rattle.check_replay_lent.specs.declared.Checksum.{Checksum}
use Rattle.check_replay.specs.declared.call.Called.{Called}
use Rattle.text_lines.specs.Text.{ShowsText, numbered}

module _ (head sheet : List ℕ) where
  pub first : (call : Called) → some call ≡ called_in head sheet 0 checksum_start → some (called call.answer call.checksum) ≡ replayed head sheet 0
  unfolding replayed
  first call e = e

  pub again : (i : ℕ) (answer : Answer) {done : Checksum} (next : Called) → some (called answer done) ≡ replayed head sheet i
      → some next ≡ called_in head sheet (i + 1) done → some (called answer next.checksum) ≡ replayed head sheet (i + 1)
  unfolding replayed called_again with_first
  again i answer {done} next e k = rw (add-one i) (ap (with_first (called answer done)) (rw (add-one i) at k) ∙ ap (called_again head sheet (suc i)) e)

  -- the text that is written is the sheet's line
  pub line_shown : (all : Called) {numbers old new : List ℕ} {sum next : ℕ} → some all ≡ replayed head sheet 18
      → numbers ≡ twelve (answer_numbered all.answer) ++ [] → sum ≡ checksum_number all.checksum
      → ShowsText (some (numbered (ascii "answer") numbers ++ (numbered (ascii " checksum") (sum ∷ []) ++ newline))) old next new
      → ShowsText (replay_line head sheet) old next new
  unfolding replay_line line_of called_line
  line_shown all {numbers = numbers} {sum = sum} e n c w =
      let line : List ℕ → ℕ → List ℕ = λ xs x. numbered (ascii "answer") xs ++ numbered (ascii " checksum") (x ∷ []) ++ newline in
      let text = sym (append_assoc (numbered (ascii "answer") numbers) (numbered (ascii " checksum") (sum ∷ [])) newline) ∙ ap₂ line (n ∙ append-nil _) c in
      record { within = w.within; front = ap line_of (sym e) ∙ ap some (sym text) ∙ w.front; rest = w.rest }
