-- The room on the stack of a closure.
-- Assumes nothing.
use Rattle.std.specs.Prelude.{List, ℕ, ◌+◌, ◌≤◌, eqb, count_by, length}

-- how many slots have no mark
abbrev pub unmarked_count : List ℕ → ℕ
unmarked_count marks = count_by (λ mark. eqb mark 0) marks

-- The slots without a mark fit on the stack behind the first `top` entries, and an entry holds the number of any of them.
pub record Room (marks stack : List ℕ) (top : ℕ) : Type 0 where
  pub fits : unmarked_count marks + top ≤ length stack
  pub small : length marks ≤ 65535
