-- `Page::put_numbers` meets its contract: one number behind the other. Assumes nothing.
use Rattle.std.proofs.Common.{◌*◌, take}
use Rattle.text_lines.specs.Text.{spaced_all}
use Rattle.text_lines.specs.Page.{Written}
use Rattle.text_lines.proofs.page.Page.put_numbers.Given as goal

abbrev pub invariant-loop-x : goal.invariant-loop-x
invariant-loop-x l = Written (21 * l.x-index) (spaced_all (take l.x-index l.numbers)) l.initial.self l.self
