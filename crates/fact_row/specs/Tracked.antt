-- The facts of a row that is read.
-- Assumes nothing.
use Rattle.model.specs.Fact.{Row}
use Rattle.model.specs.Tables.{facts_of}
use Rattle.fact_row.specs.declared.row.TrackedRow.{TrackedRow}

-- the facts that its kinds and values stand for
abbrev pub facts_read : TrackedRow → Row
facts_read row = facts_of row.kinds.now row.values.now
