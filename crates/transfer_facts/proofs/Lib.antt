-- Unknown in the target
pub mod Targets
-- The facts of constants
pub mod ConstantFacts
-- What the slots that an instruction writes become
pub mod EffectRules
