-- `text_facts::pair_word` meets its contract. Assumes nothing.
use native.Mathlib.Omega.{arith}
use Rattle.std.proofs.lemmas.Grind.{common_steps}
use Rattle.model.specs.Listing.{ascii}
use Rattle.text_facts.specs.Text.{pair_word}
use Rattle.text_facts.proofs.pair_word.Goals as goal

pub returns-then-kind-eq2 : goal.returns-then-kind-eq2
unfolding ascii pair_word
returns-then-kind-eq2 c = grind (arith, common_steps)

pub returns-else-kind-eq2 : goal.returns-else-kind-eq2
unfolding ascii pair_word
returns-else-kind-eq2 c = grind (arith, common_steps)
