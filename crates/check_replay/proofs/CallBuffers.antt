-- What a call is lent and leaves, from its seventeen buffers.
-- Assumes nothing.
use mathlib.Core.Path.{◌≡◌, ap, ap₂, ◌∙◌}
use mathlib.Core.List.{List}
use mathlib.Core.Option.{some}
use Prim.Native.Nat.{ℕ, ◌+◌}
use Rattle.model.specs.Call.{Table, Scratch, Lent, table, scratch, lent, answer_numbered, call_result, analyzed}
use Rattle.model.specs.Interface.{twelve}
use Rattle.model.specs.declared.VerifierResources.{VerifierResources}
use Rattle.model.specs.declared.Answer.{Answer}
use Rattle.check_replay_lent.specs.Checksum.{with_buffer, with_table, with_scratch, with_lent}
use Rattle.check_replay_lent.specs.Lent.{budget_given, bytes_in, pairs_in, words_in, table_in, scratch_in, lent_in}
use Rattle.check_replay.specs.Calls.{called, after_call, called_in}
use Rattle.check_replay_lent.specs.declared.Checksum.{Checksum}

module _ (head : List ℕ) (call : ℕ) where
  -- the buffers of an analysis, each in a room of the length that the definition gives
  pub table_is : (first : ℕ) {slots present kinds values : List ℕ}
      → slots ≡ pairs_in head call first 128 → present ≡ bytes_in head call (first + 1) 512
      → kinds ≡ bytes_in head call (first + 2) 8192 → values ≡ words_in head call (first + 3) 8192
      → table slots present kinds values ≡ table_in head call first
  unfolding table_in
  table_is first p q r s = cc

  -- the buffers of the scratch
  pub scratch_is : {marks stack row_kinds row_values work_list : List ℕ}
      → marks ≡ bytes_in head call 12 65600 → stack ≡ pairs_in head call 13 65600 → row_kinds ≡ bytes_in head call 14 128
      → row_values ≡ words_in head call 15 128 → work_list ≡ pairs_in head call 16 16384
      → scratch marks stack row_kinds row_values work_list ≡ scratch_in head call
  unfolding scratch_in
  scratch_is p q r s t = cc

  -- a call on this memory, and the checksum behind it
  pub called_is : (sheet : List ℕ) (begun : Checksum) (answer : Answer) (after : Lent) (budget : VerifierResources) (x y z : Table) (w : Scratch) {x' y' z' : Table} {w' : Scratch} {a b c d e : Checksum}
      → x ≡ table_in head call 0 → y ≡ table_in head call 4 → z ≡ table_in head call 8 → w ≡ scratch_in head call → budget ≡ budget_given head
      → some (call_result answer after) ≡ analyzed sheet budget (lent x y z w)
      → a ≡ with_buffer begun (twelve (answer_numbered answer))
      → b ≡ with_table a x' → c ≡ with_table b y' → d ≡ with_table c z' → e ≡ with_scratch d w'
      → x' ≡ after.constants → y' ≡ after.index → z' ≡ after.containers
      → w' ≡ scratch after.marks after.stack after.row_kinds after.row_values after.work_list
      → some (called answer e) ≡ called_in head sheet call begun
  unfolding lent_in with_lent call_result after_call called_in
  called_is sheet begun answer after budget x y z w {e = e} p q r s t u f g h i j k l m n =
      ap (λ (sum : Checksum). some (called answer sum)) summed ∙ ap (after_call begun) (u ∙ ap₂ (analyzed sheet) t memory)
    where
      summed : e ≡ with_lent (with_buffer begun (twelve (answer_numbered answer))) after
      summed = cc

      memory : lent x y z w ≡ lent_in head call
      memory = cc
