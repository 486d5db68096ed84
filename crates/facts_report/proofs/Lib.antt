-- The listing, question by question
pub mod ListingQuestions
