-- `text_listing::call_lines` meets its contract. Assumes nothing.
use Rattle.text_listing.proofs.AnswerText.{text_written}
use Rattle.text_listing.proofs.call.call_lines.Goals as goal

pub returns : goal.returns
returns c =
    text_written _ _ _ _ _ _ c.answer_lines.ensures c.answer_lines-2.ensures c.answer_lines-3.ensures c.last_line.ensures
