-- What is lent, and what the call's text comes to
pub mod ListedCall
