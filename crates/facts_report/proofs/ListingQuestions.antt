-- The listing, question by question.
-- Assumes nothing.
use mathlib.Core.Path.{◌≡◌, ap, ap₂, ◌∙◌}
use mathlib.Core.Bool.{Bool, true, false, ◌&&◌}
use mathlib.Core.List.{List}
use mathlib.Core.Option.{Option, none, some}
use Prim.Native.Nat.{ℕ}
use lib.Dec.{leb}
use lib.ListN.{length}
use Rattle.model.specs.Sheet.{code_count, local_slots, question_number, sheet_refusal}
use Rattle.model.specs.declared.Question.{Question}
use Rattle.model.specs.Charges.{fresh}
use Rattle.model.specs.Call.{call}
use Rattle.model.specs.Listing.{too_large, refused_line, call_lines, listing_lent, sized, asked, fits, listing}
use Rattle.text_lines.specs.Text.{ShowsText}

-- the same text under another name
pub shown_as : {text other : Option (List ℕ)} {old new : List ℕ} {count : ℕ} → other ≡ text → ShowsText text old count new → ShowsText other old count new
shown_as e w = record { within = w.within; front = e ∙ w.front; rest = w.rest }

module _ (sheet : List ℕ) where
  pub listing_long : leb (length sheet) 65536 ≡ false → listing sheet ≡ some too_large
  unfolding listing fits
  listing_long e = ap (λ (b : Bool). fits b sheet) e

  pub listing_asked : leb (length sheet) 65536 ≡ true → listing sheet ≡ asked (sheet_refusal sheet) sheet
  unfolding listing fits
  listing_asked e = ap (λ (b : Bool). fits b sheet) e

  pub asked_refused : (question : Question) → sheet_refusal sheet ≡ some question → asked (sheet_refusal sheet) sheet ≡ some (refused_line (question_number question))
  unfolding asked
  asked_refused question e = ap (λ (o : Option Question). asked o sheet) e

  pub many_instructions : leb (code_count sheet) 256 ≡ false → asked none sheet ≡ some too_large
  unfolding asked sized
  many_instructions e = ap (λ (b : Bool). sized (b && leb (local_slots sheet) 4096) sheet) e

  pub many_locals : leb (code_count sheet) 256 ≡ true → leb (local_slots sheet) 4096 ≡ false → asked none sheet ≡ some too_large
  unfolding asked sized
  many_locals e k = ap₂ (λ (b c : Bool). sized (b && c) sheet) e k

  pub asked_call : leb (code_count sheet) 256 ≡ true → leb (local_slots sheet) 4096 ≡ true → asked none sheet ≡ call_lines sheet (call sheet fresh listing_lent)
  unfolding asked sized
  asked_call e k = ap₂ (λ (b c : Bool). sized (b && c) sheet) e k
