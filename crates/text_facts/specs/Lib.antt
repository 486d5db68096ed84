-- The text of a fact by the classes of the layouts
pub mod Text
