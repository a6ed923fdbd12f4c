pub mod Forms
pub mod Grammar
pub mod Judging
