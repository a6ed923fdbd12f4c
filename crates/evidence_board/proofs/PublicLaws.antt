-- Laws that proofs of other crates may cite. The other files here are this crate's own.

-- each fact with a place below 64 and a symbol below 128 may be posted where every fact may be
pub use Rattle.evidence_board.proofs.Listed.{every_fact}
