-- What the enum of this crate stands for.
-- Assumes nothing.
use Rattle.model.specs.Lookup.{Shown, none_shown, one_shown, mixed_shown}
use Rattle.lookup.specs.declared.tables.shown.Seen.{Seen}
use Rattle.lookup.specs.declared.tables.shown.Seen.TheVariants.{Nothing, One, Mixed}

-- what was shown
abbrev pub shown_by : Seen → Shown
shown_by Nothing = none_shown
shown_by (One kind value) = one_shown kind value
shown_by Mixed = mixed_shown
