pub mod Shapes
pub mod Frames
pub mod Texts
pub mod Refusals
pub mod Laws
pub mod inside
