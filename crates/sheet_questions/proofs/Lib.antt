-- The laws of this crate. FirstRefusal and AdmissionTests are for other crates to cite: what `check_sheet` and `admit` have answered.
pub mod AllLoop
pub mod LimitLoop
pub mod ArrayPlaces
pub mod FirstRefusal
pub mod AdmissionTests
