-- The successors of an instruction, at most two, visited one after the other.
-- Assumes nothing.
use mathlib.Core.Path.{◌≡◌, refl, sym, ap, ap₂, ◌∙◌, subst}
use mathlib.Core.Bool.{Bool, true, false, cond}
use mathlib.Core.List.Memᴰ.{head}
use mathlib.Core.List.Memᴰ.{tail}
use mathlib.Core.List.{List, [], ◌∷◌, ◌++◌, append-nil, Memᴰ as Member}
use mathlib.Core.Option.{Option}
use Prim.Native.Nat.{ℕ, zero, suc, ◌+◌, ◌-◌, ◌≤◌, ◌<◌}
use native.Mathlib.Omega.{arith}
use lib.Dec.{ltb}
use lib.IntN.{ℤ, pos, negsuc}
use lib.ListN.{length, get_or, take, replicate, length-append, get_or-append}
use borrow.Author.Tests.{lt-ltb, le-ltb}
use lib.Seq.{take-append_seam}
use Rattle.model.specs.Sheet.{instruction, code_count}
use Rattle.model.specs.Successors.{Branch, fall_through, jump, conditional, for_loop, leave, branch, contains, push, push_valid, push_fallthrough, jump_target, for_loop_target, branch_successors, successors, sheet_successors, as_record}
use Rattle.model.specs.Fact.{Row}
use Rattle.model.specs.Run.{State, row_at, news, visit, visits}
use Rattle.model.specs.Tables.{TableSlices, RowSlices}
use Rattle.model.specs.declared.Instruction.{Instruction}
use Rattle.model.specs.declared.InstructionSuccessors.{InstructionSuccessors}
use Rattle.finality.proofs.Lawful.{successors_below}
use Rattle.sheet.specs.Measured.{Measured}
use Rattle.sheet.specs.declared.Sizes.{Sizes}
use Rattle.sheet.proofs.SizeNames.{counted}
use Rattle.fixpoint_list.specs.Listed.{entered}
use Rattle.fixpoint_step.specs.News.{rows_visited, rows_after, news_of}
use Rattle.fixpoint_step.specs.Visits.{JoinEnsures, successor_at, NextRequires, NextEnsures, SuccessorsRequires, SuccessorsEnsures}
use Rattle.fixpoint_step.proofs.VisitedTables.{rows_are}

-- ---- at most two

push_length : (targets : List ℕ) (pc : ℕ) → length (push targets pc) ≤ length targets + 1
unfolding push
push_length targets pc = go (contains targets pc)
  where
    go : (b : Bool) → length (cond b targets (targets ++ (pc ∷ []))) ≤ length targets + 1
    go true = omega arith
    go false = omega (arith, length-append targets (pc ∷ []))

valid_length : (n : ℕ) (targets : List ℕ) (target : ℤ) → length (push_valid n targets target) ≤ length targets + 1
unfolding push_valid
valid_length n targets (pos target) = go (ltb target n)
  where
    go : (b : Bool) → length (cond b (push targets target) targets) ≤ length targets + 1
    go true = push_length targets target
    go false = omega arith
valid_length n targets (negsuc k) = omega arith

branch_length : (b : Branch) (n pc : ℕ) (inst : Instruction) → length (branch_successors b n pc inst) ≤ 2
unfolding branch_successors push_fallthrough
branch_length fall_through n pc inst = omega (arith, valid_length n [] (pos (pc + 1)))
branch_length jump n pc inst = omega (arith, valid_length n [] (jump_target pc inst))
branch_length conditional n pc inst = omega (arith, valid_length n [] (pos (pc + 1)), valid_length n (push_valid n [] (pos (pc + 1))) (jump_target pc inst))
branch_length for_loop n pc inst = omega (arith, valid_length n [] (pos (pc + 1)), valid_length n (push_valid n [] (pos (pc + 1))) (for_loop_target pc inst))
branch_length leave n pc inst = omega arith

successors_length : (n pc : ℕ) (inst : Instruction) → length (successors n pc inst) ≤ 2
unfolding successors
successors_length n pc inst = branch_length (branch inst.op) n pc inst

pub list_length : (sheet : List ℕ) (p : ℕ) → length (sheet_successors sheet p) ≤ 2
unfolding sheet_successors
list_length sheet p = successors_length (code_count sheet) p (instruction sheet p)

-- the entries of a list's record
pub entries_are : (l : List ℕ) → take (as_record l).len (as_record l).pcs ≡ l
unfolding as_record
entries_are l = take-append_seam l (replicate (2 - length l) 0)

pub member_at : (l : List ℕ) (k : ℕ) → k < length l → Member (get_or l k 0) l
member_at [] k h = absurd (omega arith)
member_at (q ∷ qs) zero h = head refl
member_at (q ∷ qs) (suc k) h = tail (member_at qs k (omega arith))

one_at : (next : InstructionSuccessors) (k : ℕ) → length (successor_at next k) ≤ 1
unfolding successor_at
one_at next k = go (ltb k next.len)
  where
    go : (b : Bool) → length (cond b (get_or next.pcs k 0 ∷ []) []) ≤ 1
    go true = omega arith
    go false = omega arith

-- the first and the second are all
both_are : (l : List ℕ) → length l ≤ 2 → successor_at (as_record l) 0 ++ successor_at (as_record l) 1 ≡ l
unfolding successor_at as_record
both_are [] h = refl
both_are (q ∷ []) h = refl
both_are (q ∷ (r ∷ [])) h = refl
both_are (q ∷ (r ∷ (x ∷ xs))) h = absurd (omega arith)

-- ---- visits without the list

module _ (same : ℕ → ℕ → ℕ → ℕ → Bool) (copy : Row) where
  -- a visit never reads the list: rows and news are told without it, and the list is entered behind them, in the visits' order
  pub visits_parts : (qs : List ℕ) (st : State)
      → visits same copy qs st ≡ record { rows = rows_after same copy qs st.rows; list = entered (news_of same copy qs st.rows) st.list; count = st.count; left = st.left }
  unfolding visits visit rows_visited rows_after news_of entered
  visits_parts [] st = refl
  visits_parts (q ∷ qs) st = visits_parts qs (visit same copy q st) ∙ go (news same (row_at st.rows q) copy) refl
    where
      go : (b : Bool) → news same (row_at st.rows q) copy ≡ b
          → ◌≡◌ {A = State} (record {
            rows = rows_after same copy qs (visit same copy q st).rows;
            list = entered (news_of same copy qs (visit same copy q st).rows) (visit same copy q st).list;
            count = (visit same copy q st).count;
            left = (visit same copy q st).left;
          }) (record {
            rows = rows_after same copy qs (rows_visited same copy q st.rows);
            list = entered (cond (news same (row_at st.rows q) copy) (q ∷ news_of same copy qs (rows_visited same copy q st.rows)) (news_of same copy qs (rows_visited same copy q st.rows))) st.list;
            count = st.count;
            left = st.left;
          })
      go true e = rw e
      go false e = rw e

  -- and of one more
  rows_more : (qs : List ℕ) (q : ℕ) (rows : List (Option Row))
      → rows_after same copy (qs ++ (q ∷ [])) rows ≡ rows_visited same copy q (rows_after same copy qs rows)
  unfolding rows_after
  rows_more [] q rows = refl
  rows_more (x ∷ qs) q rows = rows_more qs q (rows_visited same copy x rows)

  news_more : (qs : List ℕ) (q : ℕ) (rows : List (Option Row))
      → news_of same copy (qs ++ (q ∷ [])) rows
      ≡ news_of same copy qs rows ++ cond (news same (row_at (rows_after same copy qs rows) q) copy) (q ∷ []) []
  unfolding news_of rows_after
  news_more [] q rows = refl
  news_more (x ∷ qs) q rows = go (news same (row_at rows x) copy) _ _ _ (news_more qs q (rows_visited same copy x rows))
    where
      go : (b : Bool) (l l' last : List ℕ) → l ≡ l' ++ last → cond b (x ∷ l) l ≡ cond b (x ∷ l') l' ++ last
      go true l l' last e = ap (λ (r : List ℕ). x ∷ r) e
      go false l l' last e = e

  -- only those that are visited have news
  pub news_among : (qs : List ℕ) (rows : List (Option Row)) (x : ℕ) → Member x (news_of same copy qs rows) → Member x qs
  unfolding news_of
  news_among [] rows x m = m
  news_among (q ∷ qs) rows x m = go (news same (row_at rows q) copy) (λ k. tail (news_among qs (rows_visited same copy q rows) x k)) m
    where
      go : (b : Bool) → (Member x (news_of same copy qs (rows_visited same copy q rows)) → Member x (q ∷ qs))
          → Member x (cond b (q ∷ news_of same copy qs (rows_visited same copy q rows)) (news_of same copy qs (rows_visited same copy q rows))) → Member x (q ∷ qs)
      go true on (head e) = head e
      go true on (tail k) = on k
      go false on k = on k

  pub news_length : (qs : List ℕ) (rows : List (Option Row)) → length (news_of same copy qs rows) ≤ length qs
  unfolding news_of
  news_length [] rows = omega arith
  news_length (q ∷ qs) rows = go (news same (row_at rows q) copy) (news_length qs (rows_visited same copy q rows))
    where
      go : (b : Bool) → length (news_of same copy qs (rows_visited same copy q rows)) ≤ length qs
          → length (cond b (q ∷ news_of same copy qs (rows_visited same copy q rows)) (news_of same copy qs (rows_visited same copy q rows))) ≤ length (q ∷ qs)
      go true on = omega arith
      go false on = omega arith

-- ---- the loop over them

-- what the record becomes: with q where its visit had news
abbrev Told : Bool → ℕ → InstructionSuccessors → InstructionSuccessors → Type 0
Told fresh q told told' = (targets : List ℕ) → told ≡ as_record targets → told' ≡ as_record (targets ++ cond fresh (q ∷ []) [])

module _ (same : ℕ → ℕ → ℕ → ℕ → Bool) (t : TableSlices) (row : RowSlices) where
  pub none_visited : SuccessorsEnsures same [] t row t record { pcs = 0 ∷ 0 ∷ []; len = 0 }
  unfolding SuccessorsEnsures rows_after news_of as_record
  none_visited rows copy l c = (l, refl)

  one_more : (qs : List ℕ) (q : ℕ) (t' t'' : TableSlices) (told told' : InstructionSuccessors) (fresh : Bool)
      → SuccessorsEnsures same qs t row t' told → JoinEnsures same q t' row t'' fresh → q < length t'.present → Told fresh q told told'
      → SuccessorsEnsures same (qs ++ (q ∷ [])) t row t'' told'
  unfolding SuccessorsEnsures JoinEnsures
  one_more qs q t' t'' told told' fresh s j h w rows copy l c =
      let one = s rows copy l c in
      let two = j (rows_after same copy qs rows) copy one.0 c (omega (arith, h, rows_are one.0)) in (
        rw (rows_more same copy qs q rows) two.0,
        w (news_of same copy qs rows) one.1
            ∙ ap (λ (b : Bool). as_record (news_of same copy qs rows ++ cond b (q ∷ []) [])) two.1
            ∙ ap as_record (sym (news_more same copy qs q rows)),
      )

-- ---- one of at most two

module _ (same : ℕ → ℕ → ℕ → ℕ → Bool) (t : TableSlices) (row : RowSlices) (next : InstructionSuccessors) (k : ℕ) (had : InstructionSuccessors) (n : NextRequires next k had t row) where
  next_told : (fresh : Bool) (t' : TableSlices) (r : InstructionSuccessors) → k < next.len → JoinEnsures same (get_or next.pcs k 0) t row t' fresh
      → Told fresh (get_or next.pcs k 0) had r → NextEnsures same next k had t row t' r
  unfolding NextEnsures successor_at
  next_told fresh t' r h j w targets t₀ s =
      rw (lt-ltb k next.len h) (one_more same t₀ row targets (get_or next.pcs k 0) t t' had r fresh s j (n.below h) w)

  pub next_news : (fresh : Bool) (t' : TableSlices) (r : InstructionSuccessors) → k < next.len → JoinEnsures same (get_or next.pcs k 0) t row t' fresh → fresh ≡ true
      → ((targets : List ℕ) → had ≡ as_record targets → r ≡ as_record (targets ++ (get_or next.pcs k 0 ∷ []))) → NextEnsures same next k had t row t' r
  next_news fresh t' r h j e w = next_told fresh t' r h j (rw e w)

  pub next_known : (fresh : Bool) (t' : TableSlices) → k < next.len → JoinEnsures same (get_or next.pcs k 0) t row t' fresh → fresh ≡ false
      → NextEnsures same next k had t row t' had
  next_known fresh t' h j e = next_told fresh t' had h j (rw e (λ targets i. rw (append-nil targets) i))

  pub next_none : next.len ≤ k → NextEnsures same next k had t row t had
  unfolding NextEnsures successor_at
  next_none h targets t₀ s = rw (le-ltb k next.len h, append-nil targets) s

-- ---- all successors

-- the successors as the code holds them
next_is : {sheet : List ℕ} {sizes : Sizes} (p : ℕ) (inst : Instruction) (next : InstructionSuccessors) → Measured sheet sizes
    → inst ≡ instruction sheet p → next ≡ as_record (successors sizes.code_count p inst) → next ≡ as_record (sheet_successors sheet p)
unfolding sheet_successors
next_is p inst next m e k = k ∙ ap₂ (λ (n : ℕ) (i : Instruction). as_record (successors n p i)) (counted m.are).code_count_is e

module _ {sheet : List ℕ} {sizes : Sizes} (m : Measured sheet sizes) {p : ℕ} {t : TableSlices} {row : RowSlices} (f : SuccessorsRequires sheet p t row) where
  -- what reading the instruction and its successors asks
  pub following_code : (sizes.code_count ≤ 4096) × (p < sizes.code_count)
  following_code = (rw (counted m.are).code_count_is f.little, rw (counted m.are).code_count_is f.below)

  -- the instruction and its successors, as the code reads and finds them
  module _ {inst : Instruction} {next : InstructionSuccessors} (reads : inst ≡ instruction sheet p) (finds : next ≡ as_record (successors sizes.code_count p inst)) where
    e : next ≡ as_record (sheet_successors sheet p)
    e = next_is p inst next m reads finds

    target_below : (k : ℕ) → k < next.len → get_or next.pcs k 0 < code_count sheet
    unfolding as_record
    target_below =
        subst (λ (x : InstructionSuccessors). (k : ℕ) → k < x.len → get_or x.pcs k 0 < code_count sheet) (sym e)
        (λ k h. rw (get_or-append (sheet_successors sheet p) (replicate (2 - length (sheet_successors sheet p)) 0) 0 k h) (successors_below sheet p _ (member_at (sheet_successors sheet p) k h)))

    pub first_asks : NextRequires next 0 record { pcs = 0 ∷ 0 ∷ []; len = 0 } t row
    first_asks = record { among = omega arith; below = λ h. rw f.present_length (target_below 0 h); room = λ h. omega arith; visitable = f.visitable }

    module _ (same : ℕ → ℕ → ℕ → ℕ → Bool) (t' : TableSlices) (had : InstructionSuccessors) (j : NextEnsures same next 0 record { pcs = 0 ∷ 0 ∷ []; len = 0 } t row t' had) where
      first_told : SuccessorsEnsures same (successor_at next 0) t row t' had
      unfolding NextEnsures
      first_told = j [] t (none_visited same t row)

      first_length : had.len < 2
      unfolding SuccessorsEnsures as_record
      first_length =
          let v = f.visitable in
          omega (arith, ap (λ (x : InstructionSuccessors). x.len) (first_told v.rows v.copy v.rows_lie v.copy_lies).1, news_length same v.copy (successor_at next 0) v.rows, one_at next 0)

      pub second_asks : length t'.present ≡ length t.present → length t'.kinds ≡ length t.kinds → length t'.values ≡ length t.values → NextRequires next 1 had t' row
      unfolding SuccessorsEnsures
      second_asks hp hk hv =
          let v = f.visitable in record {
            among = omega arith;
            below = λ h. rw (hp, f.present_length) (target_below 1 h);
            room = λ h. first_length;
            visitable = record {
              row_values_length = v.row_values_length;
              kinds_length = rw (hk, hp) v.kinds_length;
              values_length = rw (hv, hp) v.values_length;
              rows = rows_after same v.copy (successor_at next 0) v.rows;
              copy = v.copy;
              rows_lie = (first_told v.rows v.copy v.rows_lie v.copy_lies).0;
              copy_lies = v.copy_lies;
            };
          }

      pub both_visited : (t'' : TableSlices) (r : InstructionSuccessors) → NextEnsures same next 1 had t' row t'' r → SuccessorsEnsures same (sheet_successors sheet p) t row t'' r
      unfolding NextEnsures
      both_visited t'' r k =
          rw (ap (λ (x : InstructionSuccessors). successor_at x 0 ++ successor_at x 1) e, both_are (sheet_successors sheet p) (list_length sheet p)) at (k (successor_at next 0) t first_told)
