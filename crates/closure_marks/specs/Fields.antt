-- The fields that are seeds, as the definitions have them.
-- Assumes nothing.
use Rattle.std.specs.Prelude.{List, [], ◌∷◌}
use Rattle.model.specs.Dependencies.{Field, field_a, field_b, next_b, field_c}
use Rattle.closure_marks.specs.declared.Fields.{Fields}
use Rattle.closure_marks.specs.declared.Fields.TheVariants.{None, A, B, C, BAndNext, AAndB}

unfoldable pub fields_in : Fields → List Field
fields_in None = []
fields_in A = field_a ∷ []
fields_in B = field_b ∷ []
fields_in C = field_c ∷ []
fields_in BAndNext = field_b ∷ next_b ∷ []
fields_in AAndB = field_a ∷ field_b ∷ []
