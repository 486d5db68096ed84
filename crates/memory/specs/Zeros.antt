-- "all zero", as std's `fill` leaves a slice.
-- Assumes nothing.
use Rattle.std.specs.Prelude.{◌≡◌, refl, List, ℕ, length, replicate}
use Rattle.model.specs.Call.{zeros}

pub zeros_replicate : (old : List ℕ) → replicate (length old) 0 ≡ zeros old
unfolding zeros
zeros_replicate old = refl
