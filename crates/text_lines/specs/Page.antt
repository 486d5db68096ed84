-- A page: a lent buffer, of which the first `at` bytes are written.
-- Assumes nothing.
use Rattle.std.specs.Prelude.{◌≡◌, List, ℕ, ◌+◌, ◌≤◌, length}
use Rattle.std.specs.Borrow.{MutBor}
use Rattle.text_lines.specs.Text.{Added}
use Rattle.text_lines.specs.declared.page.Page.{Page}

-- so many bytes are free behind what is written
abbrev pub HasRoom : ℕ → Page → Type 0
HasRoom most page = page.at + most ≤ length page.out.now

-- the page of a lent buffer, as it was lent
pub record Begun (at : ℕ) (out : MutBor (List ℕ)) (page : Page) : Type 0 where
  pub place : page.at ≡ at
  pub bytes : page.out.now ≡ out.now
  pub same_buffer : page.out.ghost_name ≡ out.ghost_name

-- the text stands behind what was written before, in the same buffer
pub record Written (most : ℕ) (text : List ℕ) (old new : Page) : Type 0 where
  pub added : Added most text old.at old.out.now new.at new.out.now
  pub same_buffer : new.out.ghost_name ≡ old.out.ghost_name
