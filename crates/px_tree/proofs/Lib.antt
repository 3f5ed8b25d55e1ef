pub mod TreeViews
pub mod Building
