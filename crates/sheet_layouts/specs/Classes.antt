-- Classes of layouts: those of equal content have one number, the lowest of them.
-- Assumes nothing.
use Rattle.std.specs.Prelude.{Bool, ◌&&◌, List, ℕ, ◌-◌, ◌/◌, ◌%◌, ◌<◌, min, eqb, length, get_or}
use Rattle.model.specs.Fact.{equal_numbers}
use Rattle.model.specs.Listing.{lowest}
use Rattle.model.specs.Sheet.{layout_count}
use Rattle.model.specs.declared.AnalysisKind.{AnalysisKind}
use Rattle.model.specs.declared.AnalysisKind.TheVariants.{Constant, IndexCheck, Container}
use Rattle.memory.specs.Front.{front, Holds}

-- the class of each layout, in every place
unfoldable pub layout_classes : List ℕ → List ℕ → List ℕ
layout_classes sheet old = front (lowest sheet) (length old) old

-- the class of layout i: a number from the table's end up names no layout, and has the last one's class; 0 where there is none
unfoldable pub class_of : List ℕ → ℕ → ℕ
class_of classes i = get_or classes (min i (length classes - 1)) 0

-- a table of classes, with a place for the numbers that name no layout
pub record Classes (sheet classes : List ℕ) : Type 0 where
  pub spare : layout_count sheet < length classes
  pub holds : Holds (lowest sheet) (length classes) classes

-- containers: by kind, and A and B by class ("value A × 65,536 + B")
unfoldable pub equal_containers_by : List ℕ → ℕ → ℕ → ℕ → ℕ → Bool
equal_containers_by classes k v l w =
    eqb k l && eqb (class_of classes (v / 65536)) (class_of classes (w / 65536)) && eqb (class_of classes (v % 65536)) (class_of classes (w % 65536))

-- when two known facts of an analysis are equal, by kind and value of each
unfoldable pub equal_by : AnalysisKind → List ℕ → ℕ → ℕ → ℕ → ℕ → Bool
equal_by Constant classes = equal_numbers
equal_by IndexCheck classes = equal_numbers
equal_by Container classes = equal_containers_by classes
