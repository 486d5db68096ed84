-- How long each buffer is that is lent to a call.
-- Assumes nothing.
use Rattle.std.specs.Prelude.{Bool, true, false, List, ℕ, ◌+◌, ◌-◌, ◌*◌, min, eqb}
use Rattle.model.specs.Bytes.{u32}

-- what the call needs of a buffer, by its place among the parameters: document 01's questions 6 and 8 ask for no less
abbrev pub needed : List ℕ → ℕ → ℕ
needed head which = u32 head (20 + 4 * which)

-- one short, or one longer where nothing is needed
abbrev pub one_off : ℕ → ℕ
one_off count = (count - 1) + (1 - count)

-- Is it the call with longer buffers, each by another number, so that an exchange of two shows? Is it the one with this buffer one off?
unfoldable pub changed : Bool → Bool → ℕ → ℕ → ℕ
changed true off which count = count + which + 1
changed false true which count = one_off count
changed false false which count = count

-- Call 0 lends what is needed, call 1 longer buffers, call 2 + which has that one off; at most as much as there is room for.
unfoldable pub lent_length : List ℕ → ℕ → ℕ → ℕ → ℕ
lent_length head call which room = min room (changed (eqb call 1) (eqb call (which + 2)) which (needed head which))
