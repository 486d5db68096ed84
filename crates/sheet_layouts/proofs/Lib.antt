-- The search for equal layouts
pub mod LowestSearch
-- For other crates to cite: equal layouts have one lowest number, and one class
pub mod EqualLayouts
pub mod Classes
