pub mod CallGrammar
pub mod CallParts
pub mod Texts
pub mod inside
