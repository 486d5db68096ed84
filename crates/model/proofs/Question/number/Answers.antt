use Rattle.std.proofs.Common.{◌≡◌, ◌+◌, refl}
use Rattle.model.specs.Sheet.{question_number}
use Rattle.model.specs.declared.Question.{Question}
use Rattle.model.specs.declared.Question.TheVariants.{Head, Limits, Length, Sums, Kinds, ClosureRoom}
use Rattle.model.proofs.Question.number.Goals as goal

numbered : (q : Question) → denote.Enum.Declared.tag_of Rattle.model.specs.contracts.Question.the_type q + 1 ≡ question_number q
unfolding question_number
numbered Head = refl
numbered Limits = refl
numbered Length = refl
numbered Sums = refl
numbered Kinds = refl
numbered ClosureRoom = refl

-- src/lib.rt:129:5
pub returns : goal.returns
returns c = numbered c.args.self
