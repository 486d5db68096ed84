-- The texts of facts
pub mod FactTexts
