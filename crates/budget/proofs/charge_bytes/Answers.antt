-- `budget::charge_bytes` meets its contract: what `cover` answers tells the case of the definition.
-- Assumes nothing.
use Rattle.std.proofs.lemmas.Result.{err_from_is_err_and}
use Rattle.model.specs.Charges.{charge_bytes, bytes_charged}
use Rattle.budget.proofs.Covers.{is_covered, is_short}
use Rattle.budget.proofs.charge_bytes.Goals as goal

pub returns-in_err-bytes : goal.returns-in_err-bytes
unfolding charge_bytes bytes_charged
returns-in_err-bytes c =
    let p = err_from_is_err_and c.from_residual.result c.from_residual.ensures.1 in
    let s = is_short _ _ _ c.in_err-bytes.ensures in
    rw (p.1, p.2, s.0, s.1)

pub returns : goal.returns
unfolding charge_bytes bytes_charged
returns c = let s = is_covered _ _ _ c.in_ok-bytes.ensures in rw (s.0, s.1)
