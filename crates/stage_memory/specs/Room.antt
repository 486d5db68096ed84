-- Question 8, by the lengths of what is lent.
-- Assumes nothing.
use Rattle.std.specs.Prelude.{Bool, ◌&&◌, ℕ, ◌*◌, leb}
use Rattle.model.specs.Call.{work_list_room}

-- "Are slots and the row scratch at least s long, present n, kinds and values n × s, and .. the work list n × (1 + 2 × s)?"
unfoldable pub room_by : ℕ → ℕ → ℕ → ℕ → ℕ → ℕ → ℕ → ℕ → ℕ → Bool
room_by n s slots present kinds values row_kinds row_values work_list =
    leb s slots && leb s row_kinds && leb s row_values && leb n present && leb (n * s) kinds && leb (n * s) values && work_list_room n s work_list
