pub mod Said
pub mod HeardGroups
pub mod Happenings
pub mod Output
pub mod Meaning
pub mod inside
