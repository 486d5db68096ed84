-- `put_counts` meets its contract: each closure leaves marks and stack as they were.
-- Assumes nothing.
use mathlib.Core.Path.{◌∙◌}
use Rattle.sheet.proofs.SizeNames.{counted}
use Rattle.export_loader.proofs.RoomAnswers.{still_ready, four_told}
use Rattle.export_loader.proofs.room.put_counts.Goals as goal

pub count_tracked-index-requires : goal.count_tracked-index-requires
count_tracked-index-requires c = let e = c.count_tracked-constant.ensures in still_ready e.marks e.stack c.requires.ready

pub count_tracked-container-requires : goal.count_tracked-container-requires
count_tracked-container-requires c =
    let e = c.count_tracked-constant.ensures in let f = c.count_tracked-index.ensures in still_ready (f.marks ∙ e.marks) (f.stack ∙ e.stack) c.requires.ready

pub returns-clause-numbers : goal.returns-clause-numbers
returns-clause-numbers c =
    c.put_four.ensures
    ∙ four_told _ (counted c.args.sheet.now.measured.are).code_count_is c.count_tracked-constant.ensures.counts c.count_tracked-index.ensures.counts c.count_tracked-container.ensures.counts c.args.out.now
