-- The text of a fact, with layouts by their classes: for whatever sheet these are the classes of, it is the text of `model` (`text-by`).
-- Assumes nothing.
use Rattle.std.specs.Prelude.{List, [], ◌++◌, ◌==◌, if◌then◌else◌, ℕ, zero, suc, ◌/◌, ◌%◌}
use Rattle.model.specs.Fact.{Fact, unknown, conflict, known}
use Rattle.model.specs.Listing.{ascii, decimal, space, constant_text, index_text}
use Rattle.model.specs.declared.AnalysisKind.{AnalysisKind}
use Rattle.model.specs.declared.AnalysisKind.TheVariants.{Constant, IndexCheck, Container}
use Rattle.sheet_layouts.specs.Classes.{class_of}

-- the word of a container with two layouts
unfoldable pub pair_word : ℕ → List ℕ
pair_word kind = if kind == 2 then ascii "map " else ascii "iter "

-- "`map 0 1`, `iter 0 1`, `queue 2`"
unfoldable pub container_text_by : List ℕ → Fact → List ℕ
container_text_by classes unknown = ascii "unknown"
container_text_by classes conflict = ascii "conflict"
container_text_by classes (known zero v) = ascii "map " ++ decimal (class_of classes (v / 65536)) ++ space ++ decimal (class_of classes (v % 65536))
container_text_by classes (known (suc zero) v) = ascii "iter " ++ decimal (class_of classes (v / 65536)) ++ space ++ decimal (class_of classes (v % 65536))
container_text_by classes (known (suc (suc k)) v) = ascii "queue " ++ decimal (class_of classes (v / 65536))

-- the text of a fact of an analysis: that of a number is the same by any sheet
unfoldable pub fact_text_by : AnalysisKind → List ℕ → Fact → List ℕ
fact_text_by Constant classes = constant_text []
fact_text_by IndexCheck classes = index_text []
fact_text_by Container classes = container_text_by classes
