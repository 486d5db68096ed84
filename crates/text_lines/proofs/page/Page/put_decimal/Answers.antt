-- `Page::put_decimal` meets its contract: the kit's digits are the listing's. Assumes nothing.
use mathlib.Core.Path.{◌∙◌}
use native.Mathlib.Omega.{arith}
use Rattle.text_lines.proofs.Decimals.{same_decimal}
use Rattle.text_lines.proofs.TextWritten.{reword}
use Rattle.text_lines.proofs.page.Page.put_decimal.Goals as goal

pub returns : goal.returns
returns c =
    reword (omega arith) (c.as_bytes-digits.ensures.value ∙ c.format.ensures.text ∙ same_decimal c.args.x c.ranges.x.fits) c.put.ensures
