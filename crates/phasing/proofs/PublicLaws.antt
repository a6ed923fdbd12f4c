-- Laws that proofs of other crates may cite. The other files here are this crate's own.

-- the element at a place inside a reception, and that outside all are lost
pub use Rattle.phasing.proofs.Words.{element_at-inside, element_at-before, element_at-past}
